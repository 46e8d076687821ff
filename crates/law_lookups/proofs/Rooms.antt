-- Lookups on a room that decoding filled equal plain definitions on the table, and so never give NOT-TABLE. Assumes nothing.
use Prim.Native.Nat.{ℕ, ◌≤◌}
use mathlib.Core.List.{List}
use lib.ListN.{length}
use Rattle.std.specs.Prelude.{Ok}
use Rattle.room_fill.specs.Room.{room_for}
use Rattle.law_tables.specs.Table.{Table, words_of, Fields}
use Rattle.law_tables.specs.Rules.{Rules}
use Rattle.law_tables.specs.Places.{sections_of}
use Rattle.law_lookups.specs.Looks.{Looks}
use Rattle.law_lookups.specs.Never.{Never}
use Rattle.law_lookups.proofs.Held.{Held, held}
use Rattle.law_lookups.proofs.Looked.{count_is, start_is, accept_is, ascii_is, char_is, eof_is, char_continues, eof_continues}
use Rattle.law_lookups.proofs.ModesLooked.{compiled_is, flags_are, counts_are}
use Rattle.law_lookups.proofs.RunLooked.{run_is, scan_is, skipped_is}
use Rattle.law_lookups.proofs.RecordsLooked.{accept_record, accept_actions, continuation_record, continuation_contexts, continuation_configs}
use Rattle.law_lookups.proofs.Never.{looks_never}

-- a room that holds a table gives what the table says
pub holds_looks : (t : Table) → Fields t → Rules t → (w : List ℕ) → Held t w → Looks t w
holds_looks t h r w k = record {
  has_compiled_modes_lem = compiled_is t h r w k;
  mode_flags_lem = flags_are t h r w k;
  mode_counts = counts_are t h r w k;
  state_count_lem = count_is t h r w k;
  mode_start_lem = start_is t h r w k;
  accepted = accept_is t h r w k;
  ascii_target_lem = ascii_is t h r w k;
  char_target_lem = char_is t h r w k;
  eof_target_lem = eof_is t h r w k;
  char_continuation_lem = char_continues t h r w k;
  eof_continuation_lem = eof_continues t h r w k;
  ascii_run_lem = run_is t h r w k;
  scan = scan_is t h r w k;
  scan_part = skipped_is t h r w k;
  accept_record = accept_record t w k;
  accept_actions = accept_actions t w k;
  continuation_record = continuation_record t w k;
  continuation_contexts = continuation_contexts t w k;
  continuation_configs = continuation_configs t w k;
}

-- the room that decoding leaves for a table that it accepts
pub room_looks : (t : Table) → Fields t → Rules t → length (words_of t) ≤ 8192 → (n : ℕ) → Looks t (room_for (words_of t) n (Ok (sections_of t)))
room_looks t h r l n = holds_looks t h r (room_for (words_of t) n (Ok (sections_of t))) (held t h l n)

pub room_never : (t : Table) → Fields t → Rules t → length (words_of t) ≤ 8192 → (n : ℕ) → Never (room_for (words_of t) n (Ok (sections_of t)))
room_never t h r l n = looks_never t (room_for (words_of t) n (Ok (sections_of t))) (room_looks t h r l n)
