-- The record of a continuation (document 01, "Words of a table", 9): its contexts and its configs. w is the room, i the record's number,
-- e where the section of the continuations ends. Assumes nothing.
use Rattle.std.specs.Prelude.{ℕ, zero, suc, ◌+◌, ◌*◌, ◌-◌, List, [], ◌∷◌, ltb, leb, get_or, Result, Ok, Err}
use Rattle.refusal.specs.Said.{Said, ok, no, NOT-TABLE}
use Rattle.refusal.specs.Lists.{pick}
use Rattle.room_find.specs.declared.Missing.{Missing}
use Rattle.room_find.specs.declared.Missing.TheVariants.{Absent, Outside}
use Rattle.room_find.specs.declared.Span.{Span}
use Rattle.refusal.specs.Header.{CONTINUATIONS-START}
use Rattle.room_find.specs.Room.{end_of, listed_at, follow}
use Rattle.look_continuation_records.specs.declared.Whole.{Whole}
use Rattle.look_continuation_records.specs.declared.ContinuationRecord.{ContinuationRecord}

-- how many contexts and configs a record has; that there is no such record; or a refusal
abbrev pub said : Result ContinuationRecord Missing → Said
said (Ok c) = ok (c.contexts ∷ c.configs ∷ [])
said (Err Absent) = ok []
said (Err Outside) = no NOT-TABLE 0

-- where the context count and the config count of a record stand, and where it ends; that there is no such record; or a refusal
abbrev pub whole_said : Result Whole Missing → Said
whole_said (Ok z) = ok (z.contexts ∷ z.configs ∷ z.end ∷ [])
whole_said (Err Absent) = ok []
whole_said (Err Outside) = no NOT-TABLE 0

-- "context count, contexts (kind 0 or 1, two words), config count": where the config count stands behind n contexts
unfoldable pub past_contexts : ℕ → ℕ → ℕ → Result ℕ Missing
past_contexts e p n = pick (ltb (n * 3 + (p + 1)) e) (Ok (n * 3 + (p + 1))) (Err Outside)

-- "configs (state, alternative rule or NONE, two flags, context, action count, actions)": where a config of n actions ends
abbrev pub past_actions : ℕ → ℕ → ℕ → Result ℕ Missing
past_actions e p n = pick (leb (n * 3 + (p + 6)) e) (Ok (n * 3 + (p + 6))) (Err Outside)

unfoldable pub past_config : List ℕ → ℕ → ℕ → Result ℕ Missing
past_config w e p = pick (ltb (p + 5) e) (past_actions e p (get_or w (p + 5) 0)) (Err Outside)

-- where n configs end, one behind the other
unfoldable pub past_configs : List ℕ → ℕ → ℕ → ℕ → Result ℕ Missing
past_configs w e zero p = Ok p
past_configs w e (suc n) p = follow (past_config w e p) (past_configs w e n) (Err Outside) (Err Outside)

-- the record lies in its section, whole: where its context count and its config count stand, and where it ends
unfoldable pub whole_behind : List ℕ → ℕ → ℕ → ℕ → Result Whole Missing
whole_behind w e p q = follow (past_configs w e (get_or w q 0) (q + 1)) (λ z. Ok (record { contexts = p; configs = q; end = z })) (Err Outside) (Err Outside)

unfoldable pub whole_from : List ℕ → ℕ → ℕ → Result Whole Missing
whole_from w e p = follow (past_contexts e p (get_or w p 0)) (whole_behind w e p) (Err Outside) (Err Outside)

unfoldable pub whole_at : List ℕ → ℕ → Result Whole Missing
whole_at w i = follow (listed_at w CONTINUATIONS-START i) (whole_from w (end_of w CONTINUATIONS-START)) (Err Absent) (Err Outside)

-- go on with the record
unfoldable pub of_whole : {A : Type 0} → Result Whole Missing → (ℕ → ℕ → ℕ → A) → A → A → A
of_whole (Ok z) f absent outside = f z.contexts z.configs z.end
of_whole (Err Absent) f absent outside = absent
of_whole (Err Outside) f absent outside = outside

abbrev pub record_of : List ℕ → ℕ → Said
record_of w i = of_whole (whole_at w i) (λ p q z. ok (get_or w p 0 ∷ get_or w q 0 ∷ [])) (ok []) (no NOT-TABLE 0)

-- where its contexts and its configs stand, and how many numbers they are; of no record, and on a refusal, an empty part
abbrev pub contexts_from : List ℕ → ℕ → ℕ
contexts_from w i = of_whole (whole_at w i) (λ p q z. p + 1) 0 0

abbrev pub contexts_length : List ℕ → ℕ → ℕ
contexts_length w i = of_whole (whole_at w i) (λ p q z. q - (p + 1)) 0 0

abbrev pub configs_from : List ℕ → ℕ → ℕ
configs_from w i = of_whole (whole_at w i) (λ p q z. q + 1) 0 0

abbrev pub configs_length : List ℕ → ℕ → ℕ
configs_length w i = of_whole (whole_at w i) (λ p q z. z - (q + 1)) 0 0

abbrev pub contexts_span : List ℕ → ℕ → Span
contexts_span w i = record { from = contexts_from w i; length = contexts_length w i }

abbrev pub configs_span : List ℕ → ℕ → Span
configs_span w i = record { from = configs_from w i; length = configs_length w i }
