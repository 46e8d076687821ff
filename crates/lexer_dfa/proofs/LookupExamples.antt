-- A small table of three modes and two states, looked up. (Its second run is not the classification of its row: lookups do not judge it.)
-- Assumes nothing.
use Prim.Native.Nat.{ℕ}
use mathlib.Core.Path.{◌≡◌, refl}
use mathlib.Core.List.{List, [], ◌∷◌, ◌++◌}
use lib.ListN.{replicate, take, drop}
use Rattle.refusal.specs.Said.{ok, no, ROOM, STATE, NOT-TABLE, ORDER}
use Rattle.refusal.specs.Fixed.{NONE, tag, ESCAPE-STATE, DEAD-STATE}
use Rattle.refusal.specs.Lists.{some, every, before}
use Rattle.run_shape.specs.Shape.{held}
use Rattle.run_shape.specs.Words.{or_field, short_run, read_at}
use Rattle.run_shape.specs.Scan.{stops, scan_of, scanned_by}
use Rattle.room_find.specs.Room.{record_in, listed_in, past_lists, listed_at, state_at, follow}
use Rattle.look_row.specs.Search.{found, searched, given}
use Rattle.look_modes.specs.Start.{mode_at, mode_start}
use Rattle.look_modes.specs.Modes.{state_count, numbers, modes_up_to, of_modes, has_compiled_modes}
use Rattle.look_mode_lists.specs.Written.{wrote, refused}
use Rattle.look_mode_lists.specs.Flags.{mode_flags}
use Rattle.look_mode_lists.specs.Counts.{compiled_of, differences, descent, counts_for, counts_with, asked, mode_state_counts}
use Rattle.look_targets.specs.Targets.{ascii_row_at, row_target, ascii_target, char_target, eof_target}
use Rattle.look_accepts.specs.Accept.{accept_of}
use Rattle.look_accepts.specs.Record as accepts
use Rattle.look_continuations.specs.Continuation.{search_row, char_continuation, eof_continuation}
use Rattle.look_continuation_records.specs.Configs as configs
use Rattle.look_runs.specs.StateRun.{run_in, run_of, ascii_run}

-- header; tag and modes; states; runs; one ascii row; one wide row; one accept; escape rows; one continuation; places; zeros
abbrev room : List ℕ
room =
    (120 ∷ 10 ∷ 14 ∷ 23 ∷ 26 ∷ 91 ∷ 99 ∷ 106 ∷ 114 ∷ [])
    ++ (tag ∷ 3 ∷ 0 ∷ NONE ∷ 1 ∷ 2 ∷ 0 ∷ 0 ∷ DEAD-STATE ∷ NONE ∷ 0 ∷ 0 ∷ 1 ∷ 0 ∷ 2 ∷ 1 ∷ 8706 ∷ 1 ∷ [])
    ++ replicate 64 0
    ++ (1 ∷ 2 ∷ 200 ∷ 300 ∷ 1 ∷ 400 ∷ 500 ∷ ESCAPE-STATE ∷ 1 ∷ 7 ∷ 1 ∷ 1 ∷ 11 ∷ 12 ∷ 13 ∷ [])
    ++ (2 ∷ NONE ∷ 0 ∷ 0 ∷ 1 ∷ 400 ∷ 500 ∷ 0 ∷ 1 ∷ 1 ∷ 0 ∷ 0 ∷ 5 ∷ 1 ∷ 1 ∷ NONE ∷ 0 ∷ 1 ∷ 1 ∷ 1 ∷ 21 ∷ 22 ∷ 23 ∷ [])
    ++ (24 ∷ 25 ∷ 92 ∷ 100 ∷ 107 ∷ 109 ∷ 115 ∷ 0 ∷ 0 ∷ [])

-- modes

starts : (mode_start room 0 ≡ ok (0 ∷ [])) × (mode_start room 1 ≡ ok []) × (mode_start room 2 ≡ ok (1 ∷ [])) × (mode_start room NONE ≡ ok [])
unfolding follow mode_at record_in
starts = (refl, refl, refl, refl)

counted : (state_count room ≡ ok (2 ∷ [])) × (has_compiled_modes room ≡ ok (1 ∷ [])) × (state_count [] ≡ no NOT-TABLE 0)
unfolding state_count of_modes modes_up_to numbers every some
counted = (refl, refl, refl)

listed : (mode_flags room 3 ≡ wrote (1 ∷ 0 ∷ 1 ∷ [])) × (mode_flags room 2 ≡ refused ROOM 0) × (mode_state_counts room 2 ≡ wrote (1 ∷ 1 ∷ []))
    × (mode_state_counts room 1 ≡ refused ROOM 0)
unfolding state_count asked counts_with counts_for of_modes modes_up_to numbers every compiled_of differences descent
listed = (refl, refl, refl, refl)

-- "ORDER names the first compiled mode whose start is below the compiled mode's before it": the third, where the starts are 2, none, 1
descends : counts_for 9 2 (2 ∷ NONE ∷ 1 ∷ []) ≡ refused ORDER 2
unfolding counts_for compiled_of differences descent
descends = refl

-- targets

reached : (ascii_target room 0 65 ≡ ok (0 ∷ [])) × (ascii_target room 0 128 ≡ no STATE 0) × (ascii_target room 2 65 ≡ no STATE 0)
    × (ascii_target [] 2 128 ≡ no NOT-TABLE 0)
unfolding follow state_at record_in row_target ascii_row_at
reached = (refl, refl, refl, refl)

searched_for_lem : (char_target room 0 65 ≡ ok (0 ∷ [])) × (char_target room 0 199 ≡ ok (DEAD-STATE ∷ [])) × (char_target room 0 200 ≡ ok (1 ∷ []))
    × (char_target room 0 500 ≡ ok (ESCAPE-STATE ∷ [])) × (char_target room 0 NONE ≡ ok (DEAD-STATE ∷ []))
unfolding follow state_at record_in row_target ascii_row_at listed_at past_lists listed_in given searched found
searched_for_lem = (refl, refl, refl, refl, refl)

ended : (eof_target room 0 ≡ ok (DEAD-STATE ∷ [])) × (eof_target room 1 ≡ ok (1 ∷ []))
unfolding follow state_at record_in
ended = (refl, refl)

-- accepts

accepted : (accept_of room 0 ≡ ok (NONE ∷ [])) × (accept_of room 1 ≡ ok (0 ∷ [])) × (accepts.record_of room 0 ≡ ok (7 ∷ 1 ∷ 1 ∷ []))
    × (accepts.record_of room NONE ≡ ok [])
unfolding follow state_at record_in accepts.record_at accepts.whole_to listed_at past_lists listed_in
accepted = (refl, refl, refl, refl)

actions : take (accepts.actions_length room 0) (drop (accepts.actions_from room 0) room) ≡ 11 ∷ 12 ∷ 13 ∷ []
unfolding follow accepts.record_at accepts.whole_to listed_at past_lists listed_in
actions = refl

-- continuations

continued : (char_continuation room 1 450 ≡ ok (0 ∷ [])) × (char_continuation room 1 501 ≡ ok (NONE ∷ [])) × (eof_continuation room 0 ≡ ok (NONE ∷ []))
    × (eof_continuation room 1 ≡ ok (0 ∷ []))
unfolding follow state_at record_in search_row listed_at past_lists listed_in given searched found
continued = (refl, refl, refl, refl)

recorded : (configs.record_of room 0 ≡ ok (1 ∷ 1 ∷ [])) × (configs.record_of room 1 ≡ ok [])
unfolding follow configs.whole_at configs.whole_from configs.whole_behind configs.past_contexts configs.past_config configs.past_configs configs.of_whole
    listed_at past_lists listed_in
recorded = (refl, refl)

kept : (take (configs.contexts_length room 0) (drop (configs.contexts_from room 0) room) ≡ 0 ∷ 0 ∷ 5 ∷ [])
    × (take (configs.configs_length room 0) (drop (configs.configs_from room 0) room) ≡ 1 ∷ NONE ∷ 0 ∷ 1 ∷ 1 ∷ 1 ∷ 21 ∷ 22 ∷ 23 ∷ [])
unfolding follow configs.whole_at configs.whole_from configs.whole_behind configs.past_contexts configs.past_config configs.past_configs configs.of_whole
    listed_at past_lists listed_in
kept = (refl, refl)

-- runs: until 34, which passes a byte of 200

scanned : (scanned_by (ascii_run room 1) (200 ∷ 65 ∷ 34 ∷ []) ≡ ok (2 ∷ 1 ∷ []))
    × (scanned_by (ascii_run room 0) (200 ∷ 65 ∷ 34 ∷ []) ≡ ok (3 ∷ 0 ∷ []))
    × (scanned_by (ascii_run room 2) [] ≡ no STATE 0)
unfolding follow state_at record_in ascii_run run_of listed_at past_lists listed_in run_in read_at short_run or_field held every some before stops scan_of
scanned = (refl, refl, refl)
