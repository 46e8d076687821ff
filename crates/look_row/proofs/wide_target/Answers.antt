-- The first range whose high reaches the symbol is chosen, or its low passes the symbol; else the search goes on behind it.
use Rattle.std.proofs.Common.{ap, ◌∙◌, sym, List}
use native.Mathlib.Numerals.{add-one}
use borrow.Author.Tests.{le-leb, lt-leb}
use lib.ListN.{drop_of_length-le}
use Rattle.look_row.specs.declared.WideRange.{WideRange}
use Rattle.look_row.specs.Ranges.{target_in}
use Rattle.look_row.proofs.Laws.{at_place, no-range}
use Rattle.look_row.proofs.wide_target.Goals as goal

-- what stands past the end of a row
abbrev none : WideRange
none = record { low = 0; high = 0; target = 0 }

pub returns-then-range-symbol : goal.returns-then-range-symbol
returns-then-range-symbol c =
    simp (le-leb _ _ c.if-symbol-range.true, le-leb _ _ c.if-range-symbol.true)
    at (sym (at_place c.args.row.now c.args.symbol c.loop-i.i none c.loop-i-test.true) ∙ c.loop-i.invariant)

pub returns-then-symbol-range : goal.returns-then-symbol-range
returns-then-symbol-range c =
    simp (le-leb _ _ c.if-symbol-range.true, lt-leb _ _ c.if-range-symbol.false)
    at (sym (at_place c.args.row.now c.args.symbol c.loop-i.i none c.loop-i-test.true) ∙ c.loop-i.invariant)

pub loop-i-preserved : goal.loop-i-preserved
loop-i-preserved c =
    rw add-one
    (simp (lt-leb _ _ c.if-symbol-range.false)
    at (sym (at_place c.args.row.now c.args.symbol c.loop-i.i none c.loop-i-test.true) ∙ c.loop-i.invariant))

pub returns : goal.returns
returns c =
    sym (no-range c.args.symbol)
    ∙ sym (ap (λ (rs : List WideRange). target_in rs c.args.symbol) (drop_of_length-le c.args.row.now c.loop-i-test.false)) ∙ c.loop-i.invariant
