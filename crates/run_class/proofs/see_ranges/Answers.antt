use Rattle.std.proofs.Common.{rules, ◌≡◌, ◌∙◌, ℕ, min, List, length, take, ap}
use Rattle.std.proofs.lemmas.List.{take_min}
use Rattle.run_ranges.specs.declared.AsciiRange.{AsciiRange}
use Rattle.run_ranges.proofs.Fields.{four_ranges}
use Rattle.run_class.specs.Class.{bytes_of}
use Rattle.run_class.specs.declared.Seen.{Seen}
use Rattle.run_class.specs.Seen.{seen_in}
use Rattle.run_class.proofs.Classes.{seeing}
use Rattle.run_class.proofs.see_ranges.Goals as goal

-- the array has four places, so that no range that counts is cut off
all_that_count : (rs : List AsciiRange) (m n k : ℕ) {s : Seen} → length rs ≡ 4 → m ≡ min n 4 → n ≡ k → s ≡ seen_in (bytes_of (take m rs)) → s ≡ seen_in (bytes_of (take k rs))
all_that_count rs m n k l e f h = h ∙ ap (λ xs. seen_in (bytes_of xs)) (rw (e, ← l, take_min n rs, f))

pub loop-range-init : goal.loop-range-init
loop-range-init c = search seeing

pub loop-range-preserved : goal.loop-range-preserved
loop-range-preserved c = search seeing

pub returns : goal.returns
returns c =
    let rs = c.args.ranges.ranges in
    let seen : c.loop-range.seen ≡ seen_in (bytes_of (take c.min-count.result rs)) = search seeing in
    let four : length rs ≡ 4 = search (rules, four_ranges) in
    all_that_count rs c.min-count.result c.from.result c.args.ranges.count four c.min-count.ensures c.from.ensures seen
