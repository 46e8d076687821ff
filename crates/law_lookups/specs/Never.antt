-- "NOT-TABLE .. never met on a room decoding filled", lookup by lookup. w is the room. Assumes nothing.
use Rattle.std.specs.Prelude.{ℕ, ◌≡◌, List}
use Rattle.refusal.specs.Said.{Said, no, NOT-TABLE}
use Rattle.run_shape.specs.Shape as run
use Rattle.run_shape.specs.Scan.{scanned_by}
use Rattle.look_modes.specs.Start.{mode_start}
use Rattle.look_modes.specs.Modes.{state_count, has_compiled_modes}
use Rattle.look_mode_lists.specs.Written as list
use Rattle.look_mode_lists.specs.Flags.{mode_flags}
use Rattle.look_mode_lists.specs.Counts.{mode_state_counts}
use Rattle.look_targets.specs.Targets.{ascii_target, char_target, eof_target}
use Rattle.look_accepts.specs.Accept.{accept_of}
use Rattle.look_accepts.specs.Record as accepts
use Rattle.look_continuations.specs.Continuation.{char_continuation, eof_continuation}
use Rattle.look_continuation_records.specs.Configs as configs
use Rattle.look_runs.specs.StateRun.{ascii_run}

-- an answer that is not NOT-TABLE
abbrev pub Known : Said → Type 0
Known s = (p : ℕ) → s ≡ no NOT-TABLE p → ⊥

pub record Never (w : List ℕ) : Type 0 where
  pub has_compiled_modes_lem : Known (has_compiled_modes w)
  pub mode_flags_lem : (n p : ℕ) → mode_flags w n ≡ list.refused NOT-TABLE p → ⊥
  pub mode_counts : (n p : ℕ) → mode_state_counts w n ≡ list.refused NOT-TABLE p → ⊥
  pub state_count_lem : Known (state_count w)
  pub mode_start_lem : (m : ℕ) → Known (mode_start w m)
  pub accepted : (s : ℕ) → Known (accept_of w s)
  pub ascii_target_lem : (s x : ℕ) → Known (ascii_target w s x)
  pub char_target_lem : (s x : ℕ) → Known (char_target w s x)
  pub eof_target_lem : (s : ℕ) → Known (eof_target w s)
  pub char_continuation_lem : (s x : ℕ) → Known (char_continuation w s x)
  pub eof_continuation_lem : (s : ℕ) → Known (eof_continuation w s)
  pub ascii_run_lem : (s p : ℕ) → ascii_run w s ≡ run.refused NOT-TABLE p → ⊥
  pub scan : (s : ℕ) (bs : List ℕ) → Known (scanned_by (ascii_run w s) bs)
  pub accept_record : (i : ℕ) → Known (accepts.record_of w i)
  pub continuation_record : (i : ℕ) → Known (configs.record_of w i)
