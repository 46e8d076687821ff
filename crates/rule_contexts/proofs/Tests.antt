-- The tests of a context, of a config and of a continuation, by the words that were read. Assumes nothing.
use Prim.Native.Nat.{ℕ, ◌+◌, ◌*◌, ◌^◌, ◌<◌, ◌≤◌}
use native.Mathlib.Omega.{arith}
use mathlib.Core.Path.{◌≡◌, sym, ◌∙◌}
use mathlib.Core.List.{List}
use mathlib.Core.Bool.{Bool, true, false, ◌&&◌, ◌||◌}
use lib.ListN.{length, get_or}
use lib.Dec.{ltb, leb, eqb}
use borrow.Author.Rules.{rules}
use Rattle.std.specs.Prelude.{Ok}
use Rattle.word_reader.specs.Records.{config_at}
use Rattle.word_reader.proofs.Bounds.{config_in}
use Rattle.rule_words.specs.Rules.{every_in, walk, refers_below, below, config_good, continuation_with, continuation_good}
use Rattle.rule_words.specs.Flags.{plain, config_plain, continuation_plain}
use Rattle.rule_words.proofs.Laws.{past_end, section_past}

module _ (w : List ℕ) (at : ℕ) where
  pub below_tested : (i : ℕ) {x y z u v : ℕ} → x ≡ get_or w at 0 → y ≡ get_or w (at + 1) 0 → u ≡ y → z ≡ get_or w (at + 2) 0 → v ≡ z
      → ltb u i && (eqb x 0 || ltb v i) ≡ refers_below w i at
  unfolding refers_below
  below_tested i d e f g h = rw (f, h, d, e, g)

  pub context_tested : (n : ℕ) {x : ℕ} {r : Bool} → x ≡ get_or w (at + 4) 0 → r ≡ leb x n → r ≡ config_good n w at
  unfolding config_good
  context_tested n d e = e ∙ (rw d)

  pub flags_tested : {x y : ℕ} {p q r : Bool} → x ≡ get_or w (at + 2) 0 → p ≡ plain x → y ≡ get_or w (at + 3) 0 → q ≡ plain y → r ≡ (p && q) → r ≡ config_plain w at
  unfolding config_plain
  flags_tested d e f g h = h ∙ (rw (e, d, g, f))

pub ruleset testing = (rules, below_tested, context_tested, flags_tested)

-- a config that is there begins within the words
pub inside : (w : List ℕ) (at : ℕ) {p : ℕ} → Ok p ≡ config_at w at → length w * 4 < 2 ^ 63 → at < 2 ^ 64
inside w at {p} e l = let r = config_in w at p (sym e) in omega (arith, r.0, r.1)

-- A continuation past the end lists nothing; else it has so many contexts, and its configs behind these.
module _ (w : List ℕ) (at : ℕ) where
  pub continuation_past : length w ≤ at → true ≡ continuation_good w at
  unfolding continuation_with walk
  continuation_past h = rw (← past_end w at h) (section_past config_at w (at + 1) (config_good 0 w) (omega arith))

  pub continuation_tested : {p q : Bool} → p ≡ below w 1 (get_or w at 0) (at + 1) → p ≡ true
      → q ≡ every_in config_at (config_good (get_or w at 0) w) w (at + (get_or w at 0 * 3 + 1)) → q ≡ continuation_good w at
  unfolding continuation_with
  continuation_tested d y e = e ∙ (rw (← d, y))

  pub contexts_failed : {p : Bool} → p ≡ below w 1 (get_or w at 0) (at + 1) → p ≡ false → false ≡ continuation_good w at
  unfolding continuation_with
  contexts_failed d y = rw (← d, y)

  pub flags_past : length w ≤ at → true ≡ continuation_plain w at
  unfolding continuation_plain
  flags_past h = section_past config_at w (at + (get_or w at 0 * 3 + 1)) (config_plain w) (omega arith)

  pub flags-asked : {p : Bool} → p ≡ every_in config_at (config_plain w) w (at + (get_or w at 0 * 3 + 1)) → p ≡ continuation_plain w at
  unfolding continuation_plain
  flags-asked e = e

pub ruleset ending = (rules, continuation_past, continuation_tested, contexts_failed, flags_past, flags-asked)
