-- The tag and the length are judged first, then the order.
use mathlib.Core.Path.{refl}
use Rattle.list_transitions.proofs.Records.{body_field, body_order, body_good}
use Rattle.list_transitions.proofs.read_body.Goals as goal

pub returns-in_default : goal.returns-in_default
returns-in_default c = body_field _ c.args.at c.args.size _ c.requires refl c.in_default.ensures c.refuse.ensures

pub returns-then-not-in_order : goal.returns-then-not-in_order
returns-then-not-in_order c =
    body_order _ c.args.at c.args.size _ c.requires refl c.in-Some.ensures c.in_order.ensures c.if-not-in_order.true
    c.refuse-then-not-in_order.ensures

pub returns : goal.returns
returns c =
    body_good _ c.args.at c.args.size _ c.requires refl c.in-Some.ensures c.in_order.ensures c.if-not-in_order.false c.count.ensures
