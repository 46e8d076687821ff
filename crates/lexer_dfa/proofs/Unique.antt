-- Each public call's contract determines its answer, and what it leaves in a slice that it is lent. For it is an equation for the answer, or for what
-- the answer says, and no two answers say one thing; and one for the list in the slice. Assumes nothing.
use mathlib.Core.Path.{◌≡◌, refl, sym, ap, ◌∙◌}
use Rattle.run_ranges.proofs.none.Reads as none
use Rattle.run_ranges.proofs.from_run.Reads as from-run
use Rattle.run_ranges.proofs.packed_words.Reads as packed-words
use Rattle.run_scan.proofs.scan_scalar.Reads as scan-scalar
use Rattle.run_classify.proofs.next_exit.Reads as next-exit
use Rattle.run_classify.proofs.from_self_loops.Reads as from-self-loops
use Rattle.run_class.proofs.class.Reads as class
use Rattle.run_class.proofs.class_of_byte.Reads as class-of-byte
use Rattle.run_shape.proofs.refuse.Reads as refuse
use Rattle.run_shape.proofs.serialized_words.Reads as serialized-words
use Rattle.run_words.proofs.read_serialized.Reads as read-serialized
use Rattle.run_words.proofs.read_alone.Reads as read-alone
use Rattle.run_words.proofs.short_answer.Reads as short-answer
use Rattle.run_words.proofs.write_serialized.Reads as write-serialized
use Rattle.run_classify.proofs.classify.Reads as classify
use Rattle.run_scan.proofs.scan.Reads as scan
use Rattle.run_scan.proofs.scan_length.Reads as scan-length
use Rattle.word_reader.proofs.short.Reads as short
use Rattle.word_reader.proofs.field.Reads as field
use Rattle.word_reader.proofs.left_from.Reads as left-from
use Rattle.word_records.proofs.read_mode.Reads as read-mode
use Rattle.word_records.proofs.read_state.Reads as read-state
use Rattle.word_records.proofs.read_run.Reads as read-run
use Rattle.word_records.proofs.read_ascii_row.Reads as read-ascii-row
use Rattle.word_records.proofs.read_accept.Reads as read-accept
use Rattle.word_records.proofs.read_escape_row.Reads as read-escape-row
use Rattle.word_records.proofs.read_config.Reads as read-config
use Rattle.word_records.proofs.read_wide_row.Reads as read-wide-row
use Rattle.word_records.proofs.read_continuation.Reads as read-continuation
use Rattle.word_sections.proofs.read_record.Reads as read-record
use Rattle.word_sections.proofs.read_section.Reads as read-section
use Rattle.word_layout.proofs.find_sections.Reads as find-sections
use Rattle.word_layout.proofs.find_within_limits.Reads as find-within-limits
use Rattle.rule_words.proofs.word_at.Reads as word_at
use Rattle.rule_words.proofs.word_past.Reads as word-past
use Rattle.rule_words.proofs.good.Reads as good
use Rattle.rule_words.proofs.none_or.Reads as none_or
use Rattle.rule_words.proofs.present.Reads as present
use Rattle.rule_words.proofs.plain.Reads as plain
use Rattle.rule_states.proofs.start_is_state.Reads as start-is-state
use Rattle.rule_states.proofs.state_is_valid.Reads as state-is-valid
use Rattle.rule_states.proofs.accept_is_plain.Reads as accept-is-plain
use Rattle.rule_runs.proofs.run_is_classified.Reads as run-is-classified
use Rattle.rule_rows.proofs.ascii_row_is_good.Reads as ascii-row-is-good
use Rattle.rule_rows.proofs.wide_row_is_searchable.Reads as wide-row-is-searchable
use Rattle.rule_rows.proofs.escape_row_is_valid.Reads as escape-row-is-valid
use Rattle.rule_contexts.proofs.continuation_is_valid.Reads as continuation-is-valid
use Rattle.rule_contexts.proofs.continuation_is_plain.Reads as continuation-is-plain
use Rattle.rule_walk.proofs.all_pass.Reads as all_pass
use Rattle.rule_walk.proofs.starts_that_are_states.Reads as starts-that-are-states
use Rattle.rule_walk.proofs.states_that_are_valid.Reads as states-that-are-valid
use Rattle.rule_walk.proofs.runs_that_are_classified.Reads as runs-that-are-classified
use Rattle.rule_walk.proofs.ascii_rows_that_are_good.Reads as ascii-rows-that-are-good
use Rattle.rule_walk.proofs.wide_rows_that_are_searchable.Reads as wide-rows-that-are-searchable
use Rattle.rule_walk.proofs.escape_rows_that_are_valid.Reads as escape-rows-that-are-valid
use Rattle.rule_walk.proofs.continuations_that_are_valid.Reads as continuations-that-are-valid
use Rattle.rule_first.proofs.first_broken.Reads as first_broken_lem
use Rattle.room_fill.specs.Room.{room_for}
use Rattle.word_reader.proofs.read_many.Reads as read-many
use Rattle.word_reader.proofs.read_section.Reads as read-any-section
use Rattle.buffer.proofs.clear.Reads as clear
use Rattle.buffer.proofs.copy.Reads as copy
use Rattle.room_fill.proofs.fill.Reads as fill
use Rattle.room_decode.proofs.decode.Reads as decode
use Rattle.room_judge.proofs.table_in.Reads as table-in
use Rattle.room_encode.proofs.encode.Reads as encode
use Rattle.law_unique.specs.Unique.{Determines, DeterminesPart, DeterminesBoth}

-- ascii_range

pub none_unique : Determines none.Learnt
none_unique κs a x y e f p q = p ∙ sym q

-- range_words

pub from_run_unique : Determines from-run.Learnt
from_run_unique κs a x y e f p q = p ∙ sym q

-- range_pack

pub packed_words_unique : Determines packed-words.Learnt
packed_words_unique κs a x y e f p q = p ∙ sym q

-- range_scan

pub scan_scalar_unique : Determines scan-scalar.Learnt
scan_scalar_unique κs a x y e f p q = p ∙ sym q

-- self_loops

pub next_exit_unique : Determines next-exit.Learnt
next_exit_unique κs a x y e f p q = p ∙ sym q

pub from_self_loops_unique : Determines from-self-loops.Learnt
from_self_loops_unique κs a x y e f p q = p ∙ sym q

-- range_class

pub class_unique : Determines class.Learnt
class_unique κs a x y e f p q = p ∙ sym q

-- byte_class

pub class_of_byte_unique : Determines class-of-byte.Learnt
class_of_byte_unique κs a x y e f p q = p ∙ sym q

-- ascii_run

pub refuse_unique : Determines refuse.Learnt
refuse_unique κs a x y e f p q = p ∙ sym q

pub serialized_words_unique : Determines serialized-words.Learnt
serialized_words_unique κs a x y e f p q = p ∙ sym q

-- run_read

pub read_serialized_unique : Determines read-serialized.Learnt
read_serialized_unique κs a x y e f p q = p ∙ sym q

pub read_alone_unique : Determines read-alone.Learnt
read_alone_unique κs a x y e f p q = p ∙ sym q

pub short-answer_unique : Determines short-answer.Learnt
short-answer_unique κs a x y e f p q = p ∙ sym q

-- run_write

pub write_serialized_unique : Determines write-serialized.Learnt
write_serialized_unique κs a x y e f p q = p ∙ sym q

-- run_classify

pub classify_unique : Determines classify.Learnt
classify_unique κs a x y e f p q = p ∙ sym q

-- run_scan

pub scan_unique : DeterminesPart scan.Learnt
scan_unique κs a x y e f p q = (p.1 ∙ sym q.1, p.0 ∙ sym q.0)

pub scan_length_unique : Determines scan-length.Learnt
scan_length_unique κs a x y e f p q = p ∙ sym q

-- words

pub short_unique : Determines short.Learnt
short_unique κs a x y e f p q = p ∙ sym q

pub field_unique : Determines field.Learnt
field_unique κs a x y e f p q = p ∙ sym q

pub left_from_unique : Determines left-from.Learnt
left_from_unique κs a x y e f p q = p ∙ sym q

-- simple_words

pub read_mode_unique : Determines read-mode.Learnt
read_mode_unique κs a x y e f p q = p ∙ sym q

pub read_state_unique : Determines read-state.Learnt
read_state_unique κs a x y e f p q = p ∙ sym q

-- run_words

pub read_run_unique : Determines read-run.Learnt
read_run_unique κs a x y e f p q = p ∙ sym q

pub read_ascii_row_unique : Determines read-ascii-row.Learnt
read_ascii_row_unique κs a x y e f p q = p ∙ sym q

-- listed_words

pub read_accept_unique : Determines read-accept.Learnt
read_accept_unique κs a x y e f p q = p ∙ sym q

pub read_escape_row_unique : Determines read-escape-row.Learnt
read_escape_row_unique κs a x y e f p q = p ∙ sym q

pub read_config_unique : Determines read-config.Learnt
read_config_unique κs a x y e f p q = p ∙ sym q

-- wide_words

pub read_wide_row_unique : Determines read-wide-row.Learnt
read_wide_row_unique κs a x y e f p q = p ∙ sym q

-- continuation_words

pub read_continuation_unique : Determines read-continuation.Learnt
read_continuation_unique κs a x y e f p q = p ∙ sym q

-- layout

pub read_record_unique : Determines read-record.Learnt
read_record_unique κs a x y e f p q = p ∙ sym q

pub read_section_unique : Determines read-section.Learnt
read_section_unique κs a x y e f p q = p ∙ sym q

pub find_sections_unique : Determines find-sections.Learnt
find_sections_unique κs a x y e f p q = p ∙ sym q

-- limits

pub find_within_limits_unique : Determines find-within-limits.Learnt
find_within_limits_unique κs a x y e f p q = p ∙ sym q

-- rules

pub word_at_unique : Determines word_at.Learnt
word_at_unique κs a x y e f p q = p ∙ sym q

pub word_past_unique : Determines word-past.Learnt
word_past_unique κs a x y e f p q = p ∙ sym q

pub good_unique : Determines good.Learnt
good_unique κs a x y e f p q = p ∙ sym q

pub none_or_unique : Determines none_or.Learnt
none_or_unique κs a x y e f p q = p ∙ sym q

pub present_unique : Determines present.Learnt
present_unique κs a x y e f p q = p ∙ sym q

pub plain_unique : Determines plain.Learnt
plain_unique κs a x y e f p q = p ∙ sym q

-- rule_states

pub start_is_state_unique : Determines start-is-state.Learnt
start_is_state_unique κs a x y e f p q = p ∙ sym q

pub state_is_valid_unique : Determines state-is-valid.Learnt
state_is_valid_unique κs a x y e f p q = p ∙ sym q

pub accept_is_plain_unique : Determines accept-is-plain.Learnt
accept_is_plain_unique κs a x y e f p q = p ∙ sym q

-- rule_runs

pub run_is_classified_unique : Determines run-is-classified.Learnt
run_is_classified_unique κs a x y e f p q = p ∙ sym q

-- rule_rows

pub ascii_row_is_good_unique : Determines ascii-row-is-good.Learnt
ascii_row_is_good_unique κs a x y e f p q = p ∙ sym q

pub wide_row_is_searchable_unique : Determines wide-row-is-searchable.Learnt
wide_row_is_searchable_unique κs a x y e f p q = p ∙ sym q

pub escape_row_is_valid_unique : Determines escape-row-is-valid.Learnt
escape_row_is_valid_unique κs a x y e f p q = p ∙ sym q

-- rule_contexts

pub continuation_is_valid_unique : Determines continuation-is-valid.Learnt
continuation_is_valid_unique κs a x y e f p q = p ∙ sym q

pub continuation_is_plain_unique : Determines continuation-is-plain.Learnt
continuation_is_plain_unique κs a x y e f p q = p ∙ sym q

-- rule_walk

pub all_pass_unique : Determines all_pass.Learnt
all_pass_unique κs a x y e f p q = p ∙ sym q

pub starts_that_are_states_unique : Determines starts-that-are-states.Learnt
starts_that_are_states_unique κs a x y e f p q = p ∙ sym q

pub states_that_are_valid_unique : Determines states-that-are-valid.Learnt
states_that_are_valid_unique κs a x y e f p q = p ∙ sym q

pub runs_that_are_classified_unique : Determines runs-that-are-classified.Learnt
runs_that_are_classified_unique κs a x y e f p q = p ∙ sym q

pub ascii_rows_that_are_good_unique : Determines ascii-rows-that-are-good.Learnt
ascii_rows_that_are_good_unique κs a x y e f p q = p ∙ sym q

pub wide_rows_that_are_searchable_unique : Determines wide-rows-that-are-searchable.Learnt
wide_rows_that_are_searchable_unique κs a x y e f p q = p ∙ sym q

pub escape_rows_that_are_valid_unique : Determines escape-rows-that-are-valid.Learnt
escape_rows_that_are_valid_unique κs a x y e f p q = p ∙ sym q

pub continuations_that_are_valid_unique : Determines continuations-that-are-valid.Learnt
continuations_that_are_valid_unique κs a x y e f p q = p ∙ sym q

-- index_rules

pub first_broken_unique : Determines first_broken_lem.Learnt
first_broken_unique κs a x y e f p q = p ∙ sym q

-- written

-- of each kind of record
pub read_many_unique : (R laws kept kinds : _) → Determines (read-many.Learnt R laws kept kinds)
read_many_unique R laws kept kinds κs a x y e f p q = p ∙ sym q

pub read_any_section_unique : (R laws kept kinds : _) → Determines (read-any-section.Learnt R laws kept kinds)
read_any_section_unique R laws kept kinds κs a x y e f p q = p ∙ sym q

-- as `DeterminesBoth` has it, of numbers of any width
pub clear_unique : (T laws copies number numbered clone cloned : _) (κs : _) (a : _) (x y : _) (e f : _) → clear.Learnt T laws copies number numbered clone cloned κs a x e →
    clear.Learnt T laws copies number numbered clone cloned κs a y f → (x ≡ y) × (e.0.now ≡ f.0.now)
clear_unique T laws copies number numbered clone cloned κs a x y e f p q = (refl, p ∙ sym q)

pub copy_unique : (T laws copies number numbered clone cloned : _) (κs : _) (a : _) (x y : _) (e f : _) → copy.Learnt T laws copies number numbered clone cloned κs a x e →
    copy.Learnt T laws copies number numbered clone cloned κs a y f → (x ≡ y) × (e.1.0.now ≡ f.1.0.now)
copy_unique T laws copies number numbered clone cloned κs a x y e f p q = (refl, p ∙ sym q)

-- room

pub fill_unique : DeterminesBoth (λ κs e. e.1.0) fill.Learnt
fill_unique κs a x y e f p q = (p.0 ∙ sym q.0, p.1 ∙ ap (room_for _ _) (p.0 ∙ sym q.0) ∙ sym q.1)

-- codec

pub decode_unique : DeterminesBoth (λ κs e. e.1.0) decode.Learnt
decode_unique κs a x y e f p q = (p.0 ∙ sym q.0, p.1 ∙ sym q.1)

-- judge

pub table_in_unique : Determines table-in.Learnt
table_in_unique κs a x y e f p q = p ∙ sym q

-- encode

pub encode_unique : DeterminesBoth (λ κs e. e.1.0) encode.Learnt
encode_unique κs a x y e f p q = (p.0 ∙ sym q.0, p.1 ∙ sym q.1)
