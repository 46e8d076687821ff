-- What a lookup gives on a table (document 01, "Lookups"), as a reader of the Rust would expect it, and that a room gives just that. t is the table, w the
-- room, s a state, x a symbol. Assumes nothing.
use Rattle.std.specs.Prelude.{ℕ, ◌≡◌, List, [], ◌∷◌, map, ltb, leb, eqb, length, get_or, take, drop, Ok}
use Rattle.refusal.specs.Said.{Said, ok, no, STATE}
use Rattle.refusal.specs.Fixed.{NONE, DEAD-STATE}
use Rattle.refusal.specs.Lists.{pick, some, each}
use Rattle.run_shape.specs.Shape.{Got, refused, held}
use Rattle.run_shape.specs.Classify.{classification}
use Rattle.run_shape.specs.Scan.{skipped, scan_said, scanned_by}
use Rattle.room_fill.specs.Room.{flag}
use Rattle.law_tables.specs.Table.{Table, State, Range, Accept, Escape, Continuation, action_words, context_words, config_words}
use Rattle.law_tables.specs.Normal.{normal_config}
use Rattle.law_tables.specs.Rules.{absent, row_of}
use Rattle.look_modes.specs.Start.{compiled, mode_start}
use Rattle.look_modes.specs.Modes.{state_count, has_compiled_modes}
use Rattle.look_mode_lists.specs.Flags.{flags_for, mode_flags}
use Rattle.look_mode_lists.specs.Counts.{counts_for, mode_state_counts}
use Rattle.look_targets.specs.Targets.{ascii_target, char_target, eof_target}
use Rattle.look_accepts.specs.Accept.{accept_of}
use Rattle.look_accepts.specs.Record as accepts
use Rattle.look_continuations.specs.Continuation.{char_continuation, eof_continuation}
use Rattle.look_continuation_records.specs.Configs as configs
use Rattle.look_runs.specs.StateRun.{ascii_run, skipped_by}

-- "A wide or escape row is read to the first range whose high is at least the symbol;
-- its target if low is at most the symbol, else dead (escape: no continuation)":
-- `other` is what is given otherwise
unfoldable pub goal_at : ℕ → List Range → ℕ → ℕ
goal_at other [] x = other
goal_at other (r ∷ rs) x = pick (leb x r.high) (pick (leb r.low x) r.goal other) (goal_at other rs x)

-- a number of a state, or "no such state"
abbrev pub of_state : Table → ℕ → ℕ → Said
of_state t s n = pick (ltb s (length t.states)) (ok (n ∷ [])) (no STATE 0)

abbrev pub state_of : Table → ℕ → State
state_of t s = get_or t.states s absent

-- "a negative or absent mode, or NONE, answers "no start""
abbrev pub start_of : ℕ → Said
start_of x = pick (eqb x NONE) (ok []) (ok (x ∷ []))

abbrev pub mode_start_of : Table → ℕ → Said
mode_start_of t m = start_of (get_or t.modes m NONE)

-- the state's row at the symbol; a "symbol past 127 for `ascii_target`" is STATE
abbrev pub ascii_target_of : Table → ℕ → ℕ → Said
ascii_target_of t s x = pick (ltb x 128) (of_state t s (get_or (row_of t s) x 0)) (no STATE 0)

-- "0 to 127 use the ascii row; otherwise" the wide row, or dead
abbrev pub char_target_of : Table → ℕ → ℕ → Said
char_target_of t s x = of_state t s (pick (ltb x 128) (get_or (row_of t s) x 0) (goal_at DEAD-STATE (get_or t.wide (state_of t s).wide []) x))

-- a state's escape row has its number
abbrev pub escape_of : Table → ℕ → Escape
escape_of t s = get_or t.escapes s (record { eof = NONE; ranges = [] })

abbrev pub char_continuation_of : Table → ℕ → ℕ → Said
char_continuation_of t s x = of_state t s (goal_at NONE (escape_of t s).ranges x)

-- "each run is the classification of its state's row"
abbrev pub ascii_run_of : Table → ℕ → Got
ascii_run_of t s = pick (ltb s (length t.states)) (Ok (held (classification s (row_of t s)))) (refused STATE 0)

-- the scan by it: "none answers "no run""; how many bytes it skips, and whether an exit was found
abbrev pub scan_of : Table → ℕ → List ℕ → Said
scan_of t s bs = pick (ltb s (length t.states)) (scan_said (classification s (row_of t s)) bs) (no STATE 0)

abbrev pub skipped_of : Table → ℕ → List ℕ → ℕ
skipped_of t s bs = pick (ltb s (length t.states)) (skipped (classification s (row_of t s)) bs) 0

-- an accept record: its rule, its flag, and how many actions it has; of none, nothing
abbrev pub accept : Table → ℕ → Accept
accept t i = get_or t.accepts i (record { rule = 0; consumed = 0; actions = [] })

abbrev pub accept_record_of : Table → ℕ → Said
accept_record_of t i = pick (ltb i (length t.accepts)) (ok ((accept t i).rule ∷ flag (accept t i).consumed ∷ length (accept t i).actions ∷ [])) (ok [])

-- a continuation's record: how many contexts and configs it has; of none, nothing
abbrev pub continuation : Table → ℕ → Continuation
continuation t i = get_or t.continuations i (record { contexts = []; configs = [] })

abbrev pub continuation_record_of : Table → ℕ → Said
continuation_record_of t i =
    pick (ltb i (length t.continuations)) (ok (length (continuation t i).contexts ∷ length (continuation t i).configs ∷ [])) (ok [])

-- n numbers of a room, from a place on
abbrev pub part : List ℕ → ℕ → ℕ → List ℕ
part w from n = take n (drop from w)

-- a room gives what the table says, for every state, symbol and mode: "NOT-TABLE .. never met on a room decoding filled"
pub record Looks (t : Table) (w : List ℕ) : Type 0 where
  pub has_compiled_modes_lem : has_compiled_modes w ≡ ok (pick (some compiled t.modes) 1 0 ∷ [])
  pub mode_flags_lem : (n : ℕ) → mode_flags w n ≡ flags_for n t.modes
  pub mode_counts : (n : ℕ) → mode_state_counts w n ≡ counts_for n (length t.states) t.modes
  pub state_count_lem : state_count w ≡ ok (length t.states ∷ [])
  pub mode_start_lem : (m : ℕ) → mode_start w m ≡ mode_start_of t m
  pub accepted : (s : ℕ) → accept_of w s ≡ of_state t s (state_of t s).accept
  pub ascii_target_lem : (s x : ℕ) → ascii_target w s x ≡ ascii_target_of t s x
  pub char_target_lem : (s x : ℕ) → char_target w s x ≡ char_target_of t s x
  pub eof_target_lem : (s : ℕ) → eof_target w s ≡ of_state t s (state_of t s).eof
  pub char_continuation_lem : (s x : ℕ) → char_continuation w s x ≡ char_continuation_of t s x
  pub eof_continuation_lem : (s : ℕ) → eof_continuation w s ≡ of_state t s (escape_of t s).eof
  pub ascii_run_lem : (s : ℕ) → ascii_run w s ≡ ascii_run_of t s
  pub scan : (s : ℕ) (bs : List ℕ) → scanned_by (ascii_run w s) bs ≡ scan_of t s bs
  pub scan_part : (s : ℕ) (bs : List ℕ) → skipped_by (ascii_run w s) bs ≡ skipped_of t s bs
  pub accept_record : (i : ℕ) → accepts.record_of w i ≡ accept_record_of t i
  pub accept_actions : (i : ℕ) → part w (accepts.actions_from w i) (accepts.actions_length w i) ≡ each action_words (accept t i).actions
  pub continuation_record : (i : ℕ) → configs.record_of w i ≡ continuation_record_of t i
  pub continuation_contexts : (i : ℕ) → part w (configs.contexts_from w i) (configs.contexts_length w i) ≡ each context_words (continuation t i).contexts
  pub continuation_configs : (i : ℕ)
      → part w (configs.configs_from w i) (configs.configs_length w i) ≡ each config_words (map normal_config (continuation t i).configs)
