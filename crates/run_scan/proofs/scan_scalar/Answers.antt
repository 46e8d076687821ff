-- The places that do not count are ranges that hold nothing.
use Rattle.run_scan.proofs.RangeScans.{scan_used}
use Rattle.run_scan.proofs.scan_scalar.Goals as goal

pub returns : goal.returns
returns c =
    let rs = c.args.ranges.ranges in
    scan_used rs c.args.ranges.count c.args.input.now c.scan_four.ensures
    c.used-a.ensures c.used-b.ensures c.used-c.ensures c.used-d.ensures
    c.well_formed.0.1.1.0.1.0.1
