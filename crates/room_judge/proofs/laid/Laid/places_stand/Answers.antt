-- The places of five kinds of record stand one behind the other.
use mathlib.Core.Path.{◌∙◌}
use Rattle.word_layout.proofs.Found.{there}
use Rattle.room_judge.proofs.Comparing.{onwards, stops_c, stops_d, all_stand}
use Rattle.room_judge.proofs.laid.Laid.places_stand.Goals as goal

pub record_places_stand-requires-clause-within : goal.record_places_stand-requires-clause-within
record_places_stand-requires-clause-within c = search there

pub record_places_stand-requires-2-clause-within : goal.record_places_stand-requires-2-clause-within
record_places_stand-requires-2-clause-within c = search there

pub record_places_stand-requires-3-clause-within : goal.record_places_stand-requires-3-clause-within
record_places_stand-requires-3-clause-within c = search there

pub record_places_stand-requires-4-clause-within : goal.record_places_stand-requires-4-clause-within
record_places_stand-requires-4-clause-within c = search there

pub record_places_stand-requires-5-clause-within : goal.record_places_stand-requires-5-clause-within
record_places_stand-requires-5-clause-within c = search there

pub returns-in_err-a : goal.returns-in_err-a
returns-in_err-a c = search onwards

pub returns-in_err-b : goal.returns-in_err-b
returns-in_err-b c = search onwards

pub returns-in_err-c : goal.returns-in_err-c
returns-in_err-c c =
    c.from_residual-in_err-c.ensures ∙ stops_c c.args.self.now.words.now c.args.self.now.sections _ c.args.self.now.room.now c.record_places_stand.ensures c.in_ok-a.was c.record_places_stand-2.ensures c.in_ok-b.was
    c.record_places_stand-3.ensures c.in_err-c.was

pub returns-in_err-d : goal.returns-in_err-d
returns-in_err-d c =
    c.from_residual-in_err-d.ensures ∙ stops_d c.args.self.now.words.now c.args.self.now.sections _ c.args.self.now.room.now c.record_places_stand.ensures c.in_ok-a.was c.record_places_stand-2.ensures c.in_ok-b.was
    c.record_places_stand-3.ensures c.in_ok-c.was c.record_places_stand-4.ensures c.in_err-d.was

pub returns : goal.returns
returns c =
    all_stand c.args.self.now.words.now c.args.self.now.sections _ c.args.self.now.room.now c.record_places_stand.ensures c.in_ok-a.was c.record_places_stand-2.ensures c.in_ok-b.was c.record_places_stand-3.ensures c.in_ok-c.was c.record_places_stand-4.ensures
    c.in_ok-d.was c.record_places_stand-5.ensures
