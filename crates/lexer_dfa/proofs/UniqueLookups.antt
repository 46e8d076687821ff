-- Each lookup's contract determines its answer, and what it leaves in a lent buffer. Assumes nothing.
use Prim.Native.Nat.{ℕ}
use mathlib.Core.Path.{◌≡◌, sym, ◌∙◌}
use mathlib.Core.List.{List}
use Rattle.std.specs.Borrow.{Bor}
use Rattle.buffer.proofs.Answers as written
use Rattle.room_find.specs.Part.{PartOf}
use Rattle.room_find.proofs.record_in.Reads as record_in_lem
use Rattle.room_find.proofs.find_state.Reads as find-state
use Rattle.room_find.proofs.Answers as answers
use Rattle.room_find.proofs.find_listed.Reads as find-listed
use Rattle.look_row.proofs.search_row.Reads as search-row
use Rattle.look_modes.proofs.mode_start.Reads as mode_start_lem
use Rattle.look_modes.proofs.state_count.Reads as state_count_lem
use Rattle.look_modes.proofs.find_modes.Reads as find-modes
use Rattle.look_modes.proofs.has_compiled_modes.Reads as has_compiled_modes_lem
use Rattle.look_modes.proofs.StartLaws as modes
use Rattle.look_mode_lists.proofs.compiled_mode_flags.Reads as compiled-mode-flags
use Rattle.look_mode_lists.proofs.mode_state_counts.Reads as mode-state-counts
use Rattle.look_targets.proofs.ascii_target.Reads as ascii_target_lem
use Rattle.look_targets.proofs.char_target.Reads as char_target_lem
use Rattle.look_targets.proofs.eof_target.Reads as eof_target_lem
use Rattle.look_targets.proofs.find_wide_row.Reads as find-wide-row
use Rattle.look_accepts.proofs.accept.Reads as accept
use Rattle.look_accepts.proofs.accept_record.Reads as accept_record
use Rattle.look_parts.proofs.accept_actions.Reads as accept_actions
use Rattle.look_accepts.proofs.accept_actions_span.Reads as accept-actions-span
use Rattle.look_accepts.proofs.AcceptLaws as accepts
use Rattle.look_continuations.proofs.char_continuation.Reads as char_continuation_lem
use Rattle.look_continuations.proofs.eof_continuation.Reads as eof_continuation_lem
use Rattle.look_continuation_records.proofs.continuation_record.Reads as continuation_record
use Rattle.look_parts.proofs.continuation_contexts.Reads as continuation_contexts
use Rattle.look_parts.proofs.continuation_configs.Reads as continuation_configs
use Rattle.look_continuation_records.proofs.continuation_contexts_span.Reads as continuation-contexts-span
use Rattle.look_continuation_records.proofs.continuation_configs_span.Reads as continuation-configs-span
use Rattle.look_continuation_records.proofs.find_whole.Reads as find-whole
use Rattle.look_continuation_records.proofs.WholeLaws as configs
use Rattle.room_coverage.proofs.coverage.Reads as coverage
use Rattle.look_runs.proofs.find_run.Reads as find-run
use Rattle.look_runs.proofs.ascii_run.Reads as ascii_run_lem
use Rattle.look_scan.proofs.scan_ascii_run.Reads as scan-ascii-run
use Rattle.look_scan.proofs.scan_ascii_run_length.Reads as scan-ascii-run-length
use Rattle.law_unique.specs.Unique.{Determines, DeterminesPart, DeterminesBoth}

-- room_read

pub record_in_unique : Determines record_in_lem.Learnt
record_in_unique κs a x y e f p q = p ∙ sym q

pub find_state_unique : Determines find-state.Learnt
find_state_unique κs a x y e f p q = p ∙ sym q

-- room_lists

pub find_listed_unique : Determines find-listed.Learnt
find_listed_unique κs a x y e f p q = p ∙ sym q

-- row_search

pub search_row_unique : Determines search-row.Learnt
search_row_unique κs a x y e f p q = p ∙ sym q

-- a part of the room is one part
part_one : (room : Bor (List ℕ)) (from n : ℕ) (x y : Bor (List ℕ)) → PartOf room from n x → PartOf room from n y → (x.ref_ptr ≡ y.ref_ptr) × (x.now ≡ y.now)
part_one room from n x y p q = (p.itself ∙ sym q.itself, p.numbers ∙ sym q.numbers)

-- modes, all_modes, compiled_modes

pub mode_start_unique : Determines mode_start_lem.Learnt
mode_start_unique κs a x y e f p q = modes.said_one x y (p ∙ sym q)

pub state_count_unique : Determines state_count_lem.Learnt
state_count_unique κs a x y e f p q = answers.said_one x y (p ∙ sym q)

pub find_modes_unique : Determines find-modes.Learnt
find_modes_unique κs a x y e f p q = p ∙ sym q

pub has_compiled_modes_unique : Determines has_compiled_modes_lem.Learnt
has_compiled_modes_unique κs a x y e f p q = modes.compiled-said_one x y (p ∙ sym q)

-- targets, wide_rows, char_targets

pub ascii_target_unique : Determines ascii_target_lem.Learnt
ascii_target_unique κs a x y e f p q = answers.said_one x y (p ∙ sym q)

pub char_target_unique : Determines char_target_lem.Learnt
char_target_unique κs a x y e f p q = answers.said_one x y (p ∙ sym q)

pub eof_target_unique : Determines eof_target_lem.Learnt
eof_target_unique κs a x y e f p q = answers.said_one x y (p ∙ sym q)

pub find_wide_row_unique : Determines find-wide-row.Learnt
find_wide_row_unique κs a x y e f p q = p ∙ sym q

-- accepts, accept_records, record_parts

pub accept_unique : Determines accept.Learnt
accept_unique κs a x y e f p q = answers.said_one x y (p ∙ sym q)

pub accept_record_unique : Determines accept_record.Learnt
accept_record_unique κs a x y e f p q = accepts.record_said_one x y (p ∙ sym q)

pub accept_actions_unique : DeterminesPart accept_actions.Learnt
accept_actions_unique κs a x y e f p q = part_one _ _ _ x y p q

pub accept_actions_span_unique : Determines accept-actions-span.Learnt
accept_actions_span_unique κs a x y e f p q = p ∙ sym q

-- continuations

pub char_continuation_unique : Determines char_continuation_lem.Learnt
char_continuation_unique κs a x y e f p q = answers.said_one x y (p ∙ sym q)

pub eof_continuation_unique : Determines eof_continuation_lem.Learnt
eof_continuation_unique κs a x y e f p q = answers.said_one x y (p ∙ sym q)

-- configs, continuation_records, record_parts

pub find_whole_unique : Determines find-whole.Learnt
find_whole_unique κs a x y e f p q = p ∙ sym q

pub continuation_record_unique : Determines continuation_record.Learnt
continuation_record_unique κs a x y e f p q = configs.said_one x y (p ∙ sym q)

pub continuation_contexts_unique : DeterminesPart continuation_contexts.Learnt
continuation_contexts_unique κs a x y e f p q = part_one _ _ _ x y p q

pub continuation_configs_unique : DeterminesPart continuation_configs.Learnt
continuation_configs_unique κs a x y e f p q = part_one _ _ _ x y p q

pub continuation_contexts_span_unique : Determines continuation-contexts-span.Learnt
continuation_contexts_span_unique κs a x y e f p q = p ∙ sym q

pub continuation_configs_span_unique : Determines continuation-configs-span.Learnt
continuation_configs_span_unique κs a x y e f p q = p ∙ sym q

-- coverage

pub coverage_unique : Determines coverage.Learnt
coverage_unique κs a x y e f p q = answers.said_one x y (p ∙ sym q)

-- run_places, state_run, state_scan, state_scan_length

pub find_run_unique : Determines find-run.Learnt
find_run_unique κs a x y e f p q = p ∙ sym q

pub ascii_run_unique : Determines ascii_run_lem.Learnt
ascii_run_unique κs a x y e f p q = p ∙ sym q

pub scan_ascii_run_unique : DeterminesPart scan-ascii-run.Learnt
scan_ascii_run_unique κs a x y e f p q = (p.1 ∙ sym q.1, p.0 ∙ sym q.0)

pub scan_ascii_run_length_unique : Determines scan-ascii-run-length.Learnt
scan_ascii_run_length_unique κs a x y e f p q = p ∙ sym q

-- mode_flags and mode_counts

pub compiled_mode_flags_unique : DeterminesBoth (λ κs e. e.1.0) compiled-mode-flags.Learnt
compiled_mode_flags_unique κs a x y e f p q = (written.said_one x y (p.says ∙ sym q.says), p.leaves ∙ sym q.leaves)

pub mode_state_counts_unique : DeterminesBoth (λ κs e. e.1.0) mode-state-counts.Learnt
mode_state_counts_unique κs a x y e f p q = (written.said_one x y (p.says ∙ sym q.says), p.leaves ∙ sym q.leaves)
