use Rattle.room_judge.proofs.Filled.{counts-stand}
use Rattle.room_judge.proofs.laid.Laid.counts_stand.Goals as goal

pub returns : goal.returns
returns c =
    counts-stand _ _ c.in_room.ensures c.in_room-2.ensures c.in_room-3.ensures c.in_room-4.ensures c.in_room-5.ensures c.in_room-6.ensures
    c.in_room-7.ensures c.in_room-8.ensures c.args.self.now.fits c.eq.ensures
