-- One turn tests the first of the ranges that are left.
use Rattle.std.proofs.Common.{rules, ◌≡◌, ℕ, ◌+◌, add-one, ◌<◌, ◌≤◌, Bool, true, false, List, length, get_or, drop}
use Rattle.std.proofs.Math.Seq.{drop-cons}
use lib.ListN.{drop_of_length-le}
use Rattle.run_ranges.specs.declared.AsciiRange.{AsciiRange}
use Rattle.run_ranges.specs.Ranges.{range, ordered, follows}
use Rattle.run_ranges.proofs.ordered.Goals as goal

module _ (rs : List AsciiRange) (least i : ℕ) {x : Bool} where
  stops : {t : Bool} → t ≡ false → i < length rs → t ≡ follows least (get_or rs i (range 0 0)) → ordered least (drop i rs) ≡ x → false ≡ x
  unfolding ordered
  stops f h e o = rw (drop-cons rs i (range 0 0) h, ← e, f) at o

  goes : {t : Bool} {high : ℕ} → t ≡ true → i < length rs → t ≡ follows least (get_or rs i (range 0 0)) → high ≡ (get_or rs i (range 0 0)).high → ordered least (drop i rs) ≡ x
      → ordered (high + 2) (drop (i + 1) rs) ≡ x
  unfolding ordered
  goes f h e w o = rw (w, add-one) (rw (drop-cons rs i (range 0 0) h, ← e, f) at o)

  ends : length rs ≤ i → ordered least (drop i rs) ≡ x → true ≡ x
  unfolding ordered
  ends h o = rw (drop_of_length-le rs h) at o

pub returns-then-not-follows : goal.returns-then-not-follows
returns-then-not-follows c = search (rules, stops)

pub loop-range-preserved : goal.loop-range-preserved
loop-range-preserved c = search (rules, goes)

pub returns : goal.returns
returns c = search (rules, ends)
