-- The test that each closure makes is that of the run's exits.
use Rattle.std.proofs.Common.{rules, [], ◌∷◌}
use borrow.Author.Tests.{tests}
use Rattle.run_shape.specs.Shape.{until}
use Rattle.run_shape.specs.Scan.{stops}
use Rattle.run_scan.proofs.Scans.{stops_one, stops_two, stops_three}
use Rattle.run_scan.proofs.skip.Goals as goal

pub returns-in-Until1 : goal.returns-in-Until1
returns-in-Until1 c =
    let a = c.in-Until1.a in
    rw c.in-Until1.is (c.before_first.ensures (stops (until (a ∷ []))) (λ x t k. stops_one a x (search (rules, tests))))

pub returns-in-Until2 : goal.returns-in-Until2
returns-in-Until2 c =
    let m = c.in-Until2 in
    rw m.is (c.before_first-in-Until2.ensures (stops (until (m.a ∷ m.b ∷ []))) (λ x t k. stops_two m.a m.b x (search (rules, tests))))

pub returns-in-Until3 : goal.returns-in-Until3
returns-in-Until3 c =
    let m = c.in-Until3 in
    rw m.is (c.before_first-in-Until3.ensures (stops (until (m.a ∷ m.b ∷ m.c ∷ []))) (λ x t k. stops_three m.a m.b m.c x (search (rules, tests))))
