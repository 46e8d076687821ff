-- The parts of a record that are handed back (document 01, "Words of a table", 7 and 9), told by the call that answers the record itself: an empty part alone
-- does not say whether the room is refused, has no such record, or has one with nothing in it. Assumes nothing.
use Rattle.std.specs.Prelude.{ℕ, ◌*◌, ◌≡◌, Bool, not, List, [], ◌∷◌, ◌++◌, eqb, length}
use contract.Lifetimes.{Lfts}
use Rattle.std.specs.Borrow.{Bor}
use Rattle.refusal.specs.Lists.{each}
use Rattle.room_find.specs.declared.Span.{Span}
use Rattle.law_tables.specs.Table.{Config, config_words}
use Rattle.law_lookups.specs.Looks.{part}
use Rattle.look_accepts.specs.declared.AcceptRecord.{AcceptRecord}
use Rattle.look_continuation_records.specs.declared.ContinuationRecord.{ContinuationRecord}
use Rattle.look_accepts.proofs.accept_record.Reads as accept_record
use Rattle.look_parts.proofs.accept_actions.Reads as accept_actions
use Rattle.look_continuation_records.proofs.continuation_record.Reads as continuation_record
use Rattle.look_parts.proofs.continuation_contexts.Reads as continuation_contexts
use Rattle.look_parts.proofs.continuation_configs.Reads as continuation_configs
use Rattle.look_accepts.proofs.accept_actions_span.Reads as accept_actions_span
use Rattle.look_continuation_records.proofs.continuation_contexts_span.Reads as continuation_contexts_span
use Rattle.look_continuation_records.proofs.continuation_configs_span.Reads as continuation_configs_span
use Rattle.std.specs.Prelude.{Result}
use Rattle.room_find.specs.declared.Missing.{Missing}
use Rattle.room_find.specs.declared.Missing.TheVariants.{Absent, Outside}
use Rattle.std.specs.Prelude.{Ok, Err}

-- x is what the call may answer by its own contract
abbrev pub AcceptRecordAnswers : (room : Bor (List ℕ)) (number : ℕ) → Result AcceptRecord Missing → Type 0
AcceptRecordAnswers room number x = (κs : Lfts 1) × (e : _) × accept_record.Learnt κs (room, (number, tt)) x e

abbrev pub AcceptActionsAnswers : (room : Bor (List ℕ)) (number : ℕ) → Bor (List ℕ) → Type 0
AcceptActionsAnswers room number x = (κs : Lfts 1) × (e : _) × accept_actions.Learnt κs (room, (number, tt)) x e

abbrev pub ContinuationRecordAnswers : (room : Bor (List ℕ)) (number : ℕ) → Result ContinuationRecord Missing → Type 0
ContinuationRecordAnswers room number x = (κs : Lfts 1) × (e : _) × continuation_record.Learnt κs (room, (number, tt)) x e

abbrev pub ContextsAnswers : (room : Bor (List ℕ)) (number : ℕ) → Bor (List ℕ) → Type 0
ContextsAnswers room number x = (κs : Lfts 1) × (e : _) × continuation_contexts.Learnt κs (room, (number, tt)) x e

abbrev pub ConfigsAnswers : (room : Bor (List ℕ)) (number : ℕ) → Bor (List ℕ) → Type 0
ConfigsAnswers room number x = (κs : Lfts 1) × (e : _) × continuation_configs.Learnt κs (room, (number, tt)) x e

abbrev pub AcceptActionsSpanAnswers : (room : Bor (List ℕ)) (number : ℕ) → Span → Type 0
AcceptActionsSpanAnswers room number x = (κs : Lfts 1) × (e : _) × accept_actions_span.Learnt κs (room, (number, tt)) x e

abbrev pub ContextsSpanAnswers : (room : Bor (List ℕ)) (number : ℕ) → Span → Type 0
ContextsSpanAnswers room number x = (κs : Lfts 1) × (e : _) × continuation_contexts_span.Learnt κs (room, (number, tt)) x e

abbrev pub ConfigsSpanAnswers : (room : Bor (List ℕ)) (number : ℕ) → Span → Type 0
ConfigsSpanAnswers room number x = (κs : Lfts 1) × (e : _) × continuation_configs_span.Learnt κs (room, (number, tt)) x e

-- "rule, consumed-EOF flag, action count, actions of three words": of the record that x tells, `actions` is the part that is handed back of the room w
pub record ActionsOf (x : Result AcceptRecord Missing) (w actions : List ℕ) : Type 0 where
  pub not_table_lem : x ≡ Err Outside → actions ≡ []
  pub no_record : x ≡ Err Absent → actions ≡ []
  -- there are k of them, and they stand in the room behind the record's rule, its flag and k
  pub of_record : (rule k : ℕ) (flag : Bool) → x ≡ Ok (record { rule = rule; consumed_eof = flag; actions = k }) → (length actions ≡ k * 3)
      × (before : List ℕ) × (word : ℕ) × (after : List ℕ) × (w ≡ before ++ (rule ∷ word ∷ k ∷ (actions ++ after))) × (flag ≡ not (eqb word 0))

-- "context count, contexts (kind 0 or 1, two words), config count, configs (state, alternative rule or NONE, two flags, context, action count, actions)": of
-- the record that x tells, these are the parts that are handed back of the room w
pub record PartsOf (x : Result ContinuationRecord Missing) (w contexts configs : List ℕ) : Type 0 where
  pub not_table_lem : x ≡ Err Outside → (contexts ≡ []) × (configs ≡ [])
  pub no_record : x ≡ Err Absent → (contexts ≡ []) × (configs ≡ [])
  -- there are n contexts and m configs, and they stand in the room behind n and m
  pub of_record : (n m : ℕ) → x ≡ Ok (record { contexts = n; configs = m }) → (length contexts ≡ n * 3)
      × ((xs : List Config) × (length xs ≡ m) × (configs ≡ each config_words xs))
      × (before : List ℕ) × (after : List ℕ) × (w ≡ before ++ (n ∷ (contexts ++ (m ∷ (configs ++ after)))))

-- a span of the room w names these numbers, and each place in it is one of the room
pub record Names (s : Span) (w numbers : List ℕ) : Type 0 where
  pub are : numbers ≡ part w s.from s.length
  pub as_many : length numbers ≡ s.length
