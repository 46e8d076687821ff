-- The laws of the readers' parts, by the tests that the code makes. `r` is the code's answer, `got` that of a reader it called.
-- Assumes nothing.
use Prim.Native.Nat.{ℕ, zero, suc, ◌+◌, ◌-◌, ◌<◌, ◌≤◌}
use native.Mathlib.Nat.{not-suc-le-zero}
use native.Mathlib.Numerals.{sub-one}
use native.Mathlib.Omega.{arith}
use mathlib.Core.Path.{◌≡◌, refl, sym, ap, ◌∙◌}
use mathlib.Core.List.{List}
use mathlib.Core.Bool.{true}
use lib.Dec.{ltb, leb}
use lib.ListN.{length, get_or}
use borrow.Author.Rules.{rules}
use borrow.Author.Tests.{le-leb, lt-leb, lt-ltb, le-ltb, eq-eqb, ne_eqb, ltb-true}
use Rattle.refusal.specs.declared.Refusal.{Refusal}
use Rattle.refusal.specs.Said.{Said, ok, no_by}
use Rattle.refusal.specs.Lists.{pick}
use Rattle.std.specs.Prelude.{Ok, Err}
use Rattle.word_reader.specs.Parse.{Place, said, short, and_then, word, many, section, both}

-- n words are there, and on behind them
unfoldable pub ahead : List ℕ → ℕ → ℕ → (ℕ → Place) → Place
ahead w n at k = pick (leb (at + n) (length w)) (k (at + n)) (short w)

-- a word is there, or the input ends
pub one : (w : List ℕ) (at : ℕ) (k : ℕ → Place) → at < length w → word w at k ≡ k (get_or w at 0)
unfolding word
one w at k h = simp (lt-ltb _ _ h)

pub none : (w : List ℕ) (at : ℕ) (k : ℕ → Place) → length w ≤ at → word w at k ≡ short w
unfolding word
none w at k h = simp (le-ltb _ _ h)

-- n words are there, or the input ends
pub some : (w : List ℕ) (n at : ℕ) (k : ℕ → Place) → n ≤ length w - at → ltb 0 n ≡ true → ahead w n at k ≡ k (at + n)
unfolding ahead
some w n at k h p = let m : at + n ≤ length w = omega (arith, ltb-true 0 n p) in simp (le-leb _ _ m)

pub few : (w : List ℕ) (n at : ℕ) (k : ℕ → Place) → length w - at < n → ahead w n at k ≡ short w
unfolding ahead
few w n at k h = let m : length w < at + n = omega arith in simp (lt-leb _ _ m)

-- `left` words stand from the place on
pub enough : (w : List ℕ) (n at : ℕ) {left : ℕ} → left ≡ length w - at → n ≤ left → n ≤ length w - at
enough w n at e h = omega arith

pub lacking : (w : List ℕ) (n at : ℕ) {left : ℕ} → left ≡ length w - at → left < n → length w - at < n
lacking w n at e h = omega arith

-- what a record's reader is left with
pub ruleset cases = (rules, one, none, some, few, enough, lacking, le-leb, lt-leb, eq-eqb, ne_eqb, lt-ltb, le-ltb)

-- a section: its count is there, or the input ends
pub counted : (f : List ℕ → ℕ → Place) (w : List ℕ) (at : ℕ) {r : Place} → r ≡ many (f w) (get_or w at 0) (at + 1) → at < length w → r ≡ section f w at
unfolding section
counted f w at e h = e ∙ sym (one w at (λ n. many (f w) n (at + 1)) h)

pub uncounted : (f : List ℕ → ℕ → Place) (w : List ℕ) (at : ℕ) {r : Place} → r ≡ short w → length w ≤ at → r ≡ section f w at
unfolding section
uncounted f w at e h = e ∙ sym (none w at (λ n. many (f w) n (at + 1)) h)

-- what the reader of a section is left with
pub ruleset counting = (rules, counted, uncounted)

-- The law of the loop over n records, of which i are behind: those that are left, read from here, give what all of them give.
module _ (f : ℕ → Place) where
  -- a record was read: go on behind it
  pub turn : (n i : ℕ) {here next : ℕ} {got all : Place} → i < n → got ≡ f here → got ≡ Ok next → many f (n - i) here ≡ all → many f (n - (i + 1)) next ≡ all
  unfolding many and_then
  turn n i {here} {next} {got} {all} h g e k = go (n - i) refl
    where
      go : (l : ℕ) → n - i ≡ l → many f (n - (i + 1)) next ≡ all
      go zero p = absurd (omega arith)
      go (suc l) p = let q : n - (i + 1) ≡ l = omega arith in rw q (rw (← g, e) at (rw p at k))

  -- a record was refused: so are all
  pub stop : (n i : ℕ) {here : ℕ} {r : Refusal} {got all : Place} → i < n → got ≡ f here → got ≡ Err r → many f (n - i) here ≡ all → Err r ≡ all
  unfolding many and_then
  stop n i {here} {r} {got} {all} h g e k = go (n - i) refl
    where
      go : (l : ℕ) → n - i ≡ l → Err r ≡ all
      go zero p = absurd (omega arith)
      go (suc l) p = rw (← g, e) at (rw p at k)

  -- none is left
  pub done : (n i : ℕ) {here : ℕ} {all : Place} → n ≤ i → many f (n - i) here ≡ all → Ok here ≡ all
  unfolding many
  done n i h k = let q : n - i ≡ 0 = omega arith in rw q at k

-- what a loop over records is left with
pub ruleset loop = (rules, turn, stop, done)

-- a record behind another: the first was read, or refused
pub joins : (f g : List ℕ → ℕ → Place) (w : List ℕ) (at : ℕ) {p : ℕ} {got r : Place} → got ≡ f w at → got ≡ Ok p → r ≡ g w p → r ≡ both f g w at
unfolding both and_then
joins f g w at e n h = h ∙ (rw (← e, n))

pub breaks : (f g : List ℕ → ℕ → Place) (w : List ℕ) (at : ℕ) {x : Refusal} {got : Place} → got ≡ f w at → got ≡ Err x → Err x ≡ both f g w at
unfolding both and_then
breaks f g w at e n = rw (← e, n)

-- what the reader of two records is left with
pub ruleset joining = (rules, joins, breaks)

-- `said` takes no two answers to one: what it says gives the answer back
abbrev back : Said → Place
back (ok l) = Ok (get_or l 0 0)
back (no_by r) = Err r

back-said : (x : Place) → back (said x) ≡ x
back-said (Ok p) = refl
back-said (Err r) = refl

pub said_one : (x y : Place) → said x ≡ said y → x ≡ y
said_one x y e = sym (back-said x) ∙ ap back e ∙ back-said y
