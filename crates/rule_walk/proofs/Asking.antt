-- A section of which each record is asked. Assumes nothing.
use Prim.Native.Nat.{ℕ, ◌≤◌}
use mathlib.Core.Path.{◌≡◌, refl}
use mathlib.Core.List.{List}
use lib.Dec.{eqb}
use lib.ListN.{length, get_or}
use borrow.Author.Rules.{rules}
use Rattle.std.specs.Prelude.{Some, None, Ok, Err}
use Rattle.std.specs.Result.{result_ok}
use Rattle.refusal.specs.declared.Refusal.{Refusal}
use Rattle.word_reader.specs.Parse.{Place}
use Rattle.rule_words.proofs.Laws.{passing_past, numbered-passes}
use Rattle.rule_walk.specs.declared.Question.{Question}
use Rattle.rule_walk.specs.Questions.{asked_at, passes, passing_of, all_pass}

-- a section past the end lists nothing; of another each record passes where as many do as it lists
module _ (q : Question) (w : List ℕ) (at : ℕ) where
  pub past : length w ≤ at → 0 ≡ passing_of q w at
  past h = passing_past (asked_at q) w at (passes q w) h

  pub as_many : {n m : ℕ} → n ≡ passing_of q w at → m ≡ get_or w at 0 → eqb n m ≡ all_pass q w at
  as_many e f = rw f (numbered-passes (asked_at q) w at (passes q w) e)

pub ruleset listing = (rules, past, as_many)

-- what a reader answered, where the place alone was kept: it is there, or was refused
pub there : (f : Place) {p : ℕ} → Some p ≡ result_ok f → Ok p ≡ f
there (Ok q) h = cc
there (Err r) h = cc

pub gone : (f : Place) → None ≡ result_ok f → (r : Refusal) × (Err r ≡ f)
gone (Ok q) h = cc
gone (Err r) h = (r, refl)
