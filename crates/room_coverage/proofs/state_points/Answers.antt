-- The points below 128 and those of the wide row are all points, since the room is a table.
use native.Mathlib.Omega.{arith}
use borrow.Author.Rules.{rules}
use Rattle.room_find.proofs.Records.{state_number}
use Rattle.room_coverage.proofs.Laws.{state_gone, points_most, points_told}
use Rattle.room_coverage.proofs.state_points.Goals as goal

pub returns-in_err-p : goal.returns-in_err-p
returns-in_err-p c = search (rules, state_gone)

pub overflow_add-p : goal.overflow_add-p
overflow_add-p c = let i = state_number _ _ c.find_state.ensures c.in_ok-p.was 1 (omega arith) in omega arith

pub offset_bounds-room-p : goal.offset_bounds-room-p
offset_bounds-room-p c = let i = state_number _ _ c.find_state.ensures c.in_ok-p.was 1 (omega arith) in omega arith

pub bounds-room-p : goal.bounds-room-p
bounds-room-p c = let i = state_number _ _ c.find_state.ensures c.in_ok-p.was 1 (omega arith) in omega arith

pub overflow_cast-result : goal.overflow_cast-result
overflow_cast-result c = let m = points_most _ _ c.type_inv.room c.requires c.find_state.ensures c.in_ok-p.was c.ascii_points-ascii.ensures c.wide_points-wide.ensures in omega arith

pub overflow_add-result : goal.overflow_add-result
overflow_add-result c = let m = points_most _ _ c.type_inv.room c.requires c.find_state.ensures c.in_ok-p.was c.ascii_points-ascii.ensures c.wide_points-wide.ensures in omega arith

pub returns : goal.returns
returns c = points_told _ _ c.type_inv.room c.requires c.find_state.ensures c.in_ok-p.was c.ascii_points-ascii.ensures c.wide_points-wide.ensures
