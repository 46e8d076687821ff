-- The mask is empty, or stands there, or is put behind the others.
use Rattle.list_distinct.proofs.Distincts.{adding, add_new_lem, put_slice}
use Rattle.list_distinct.proofs.add_mask.Goals as goal

pub returns-then-is_zero : goal.returns-then-is_zero
returns-then-is_zero c = search adding

pub returns-then-i-d : goal.returns-then-i-d
returns-then-i-d c = search adding

pub returns : goal.returns
returns c =
    add_new_lem c.args.d _ _ _ c.requires.room c.is_zero.ensures c.if-is_zero.false c.find_mask-i.ensures c.if-i-d.false
    (put_slice _ _ _ c.requires.room c.copy.ensures)
