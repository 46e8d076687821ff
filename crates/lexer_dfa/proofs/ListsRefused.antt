-- Demand 1 for the calls on lists of transitions, by their own contracts: each is refused with its number exactly when the paper says so. Said once for a call
-- that asks for room before the records and for targets and room behind them. w is the list's bytes. Assumes nothing.
use Prim.Native.Nat.{ℕ, ◌≤◌, ◌<◌}
use native.Mathlib.Omega.{arith}
use mathlib.Core.Path.{◌≡◌, refl, sym, ap, subst, ◌∙◌}
use mathlib.Core.Bool.{Bool, true, false, false≢true, ◌&&◌, ◌||◌}
use mathlib.Core.List.{List, [], ◌∷◌}
use mathlib.Core.Logic.{◌⊎◌, inl, inr}
use lib.Dec.{eqb, ltb}
use lib.ListN.{length}
use Rattle.std.specs.Borrow.{Bor, MutBor}
use borrow.Author.Tests.{lt-ltb, le-ltb, ltb-true, eqb-true, eqb-false}
use Rattle.refusal.specs.declared.Refusal.{Refusal}
use Rattle.refusal.specs.Lists.{pick}
use Rattle.refusal.specs.Said.{Said, ok, no, no_by, refusal_at, SHORT, FIELD, LIMIT, ROOM, ORDER, TARGETS}
use Rattle.law_tables.specs.Fronts.{Exactly}
use Rattle.list_transitions.specs.Transition.{Transition}
use Rattle.list_transitions.specs.Read.{Parsed, parsed, refused, parse}
use Rattle.list_transitions.specs.Read as transitions
use Rattle.list_transitions.specs.Ends.{parse_into, ends_in}
use Rattle.list_transitions.specs.declared.Transitions.{Transitions}
use Rattle.list_transitions.proofs.Order.{le_cases}
use Rattle.list_segments.specs.Answer.{parse_for, segments_in}
use Rattle.list_segments.specs.Answer as segs
use Rattle.list_masks.specs.declared.Masks.{Masks}
use Rattle.list_masks.specs.Masks.{matrix, distinct_of}
use Rattle.list_masks.specs.Answer.{parse_masks, parse_distinct, masks_in}
use Rattle.list_masks.specs.Answer as mask
use Rattle.row_goals.specs.Goals.{refusal_of}
use Rattle.row_build.specs.declared.Rows.{Rows}
use Rattle.row_build.specs.Answer.{too_short, refused_by, with_rows, parse_rows, ascii_in, wide_in, escape_in}
use Rattle.row_build.specs.Answer as row
use Rattle.row_build.proofs.Asking.{long}
use Rattle.lexer_dfa.specs.Demand3.{ListAccepted, list_of, MatrixAnswers, DistinctAnswers, RowArgs, RowsLeft}
use Rattle.lexer_dfa.specs.Demand3.{BuildAnswers}
use Rattle.lexer_dfa.specs.ListsRefused.{Bytes, IsList, ShortAt, FieldAt, OrderAt, LimitAt, Asks, zeroed, ListRefused, list_asks}
use Rattle.lexer_dfa.specs.ListsRefused.{transitions_ask, intervals_ask, segments_ask, matrix_asks, distinct_asks, rows_ask}
use Rattle.lexer_dfa.specs.ListsRefused.{lent_by, TransitionsAnswers, IntervalsAnswers, SegmentsAnswers}
use Rattle.lexer_dfa.proofs.Saying.{is_ok, values_of, no_answer, by_refusal, by_number, choose}
use Rattle.lexer_dfa.proofs.UniqueRows.{and}
use Rattle.lexer_dfa.proofs.ListRead.{Reason, short, field, order, limit, ListRead, list_read}
use Rattle.lexer_dfa.proofs.ListRead.{list_parsed, short_parsed, field_parsed, order_parsed, limit_parsed}
use Rattle.std.specs.Prelude.{Result}

-- What a call says of a list that is read

-- a list is told of, or refused with TARGETS or with ROOM for rows
pub data Tells (c : Asks) (ts : List Transition) (says : Said) : Type 0 where
  differing : c.differ ts → says ≡ no TARGETS 0 → Tells c ts says
  narrow_rows : (c.differ ts → ⊥) → c.lacks_rows → says ≡ no ROOM 0 → Tells c ts says
  told : (c.differ ts → ⊥) → (c.lacks_rows → ⊥) → says ≡ ok (c.values ts) → Tells c ts says

module _ {c : Asks} {ts : List Transition} {says : Said} where
  tells_targets : Tells c ts says → c.differ ts → says ≡ no TARGETS 0
  tells_targets (differing d e) h = e
  tells_targets (narrow_rows d r e) h = absurd (d h)
  tells_targets (told d r e) h = absurd (d h)

  tells_room : Tells c ts says → (c.differ ts → ⊥) → c.lacks_rows → says ≡ no ROOM 0
  tells_room (differing d e) h k = absurd (h d)
  tells_room (narrow_rows d r e) h k = e
  tells_room (told d r e) h k = absurd (r k)

  tells_values : Tells c ts says → (c.differ ts → ⊥) → (c.lacks_rows → ⊥) → says ≡ ok (c.values ts)
  tells_values (differing d e) h k = absurd (h d)
  tells_values (narrow_rows d r e) h k = absurd (k r)
  tells_values (told d r e) h k = e

-- "ROOM comes before the first": x is ROOM where a buffer is too short, and else the list as it is read
pub data Lends (lacks : Type 0) (w : List ℕ) (x : Parsed) : Type 0 where
  lacking : lacks → x ≡ refused ROOM 0 → Lends lacks w x
  enough : (lacks → ⊥) → x ≡ parse w → Lends lacks w x

-- a call says of it what `tell` does
pub record Call (c : Asks) (w : List ℕ) (says : Said) (lent left : List (List ℕ)) : Type 0 where
  pub list : Parsed
  pub lends : Lends c.lacks w list
  pub tell : Parsed → Said
  pub so : says ≡ tell list
  pub refuses : (n p : ℕ) → tell (refused n p) ≡ no n p
  pub tells : (ts : List Transition) → Tells c ts (tell (parsed ts))
  pub zero : (r : Refusal) → says ≡ no_by r → left ≡ zeroed lent

module _ {c : Asks} {w : List ℕ} {says : Said} {lent left : List (List ℕ)} (bytes : Bytes w) (call : Call c w says lent left) where
  -- why it says what it says
  data Why (s : Said) : Type 0 where
    narrow : c.lacks → s ≡ no ROOM 0 → Why s
    by_record : (c.lacks → ⊥) → (n p : ℕ) → Reason w n p → s ≡ no n p → Why s
    by_list : (c.lacks → ⊥) → (ts : List Transition) → IsList w ts → Tells c ts s → Why s

  room-said : call.list ≡ refused ROOM 0 → says ≡ no ROOM 0
  room-said e = call.so ∙ ap call.tell e ∙ call.refuses ROOM 0

  why : Why says
  why = go call.lends
    where
      at : (c.lacks → ⊥) → (x : Parsed) → ListRead w x → says ≡ call.tell x → Why says
      at h (parsed ts) r e = by_list h ts r (subst (Tells c ts) (sym e) (call.tells ts))
      at h (refused n p) r e = by_record h n p r (e ∙ call.refuses n p)

      go : Lends c.lacks w call.list → Why says
      go (lacking h e) = narrow h (room-said e)
      go (enough h e) = at h (parse w) (list_read w bytes) (call.so ∙ ap call.tell e)

  -- where room is not lacking, the list is told of as it is read
  told_as : (c.lacks → ⊥) → {x : Parsed} → parse w ≡ x → says ≡ call.tell x
  told_as h {x} e = go call.lends
    where
      go : Lends c.lacks w call.list → says ≡ call.tell x
      go (lacking l f) = absurd (h l)
      go (enough l f) = call.so ∙ ap call.tell (f ∙ e)

  refused_as : (c.lacks → ⊥) → {n p : ℕ} → parse w ≡ refused n p → says ≡ no n p
  refused_as h {n} {p} e = told_as h e ∙ call.refuses n p

  tells_of : (c.lacks → ⊥) → {ts : List Transition} → IsList w ts → Tells c ts says
  tells_of h {ts} i = subst (Tells c ts) (sym (told_as h (list_parsed w ts i))) (call.tells ts)

  room_says : c.lacks → says ≡ no ROOM 0
  room_says h = go call.lends
    where
      go : Lends c.lacks w call.list → says ≡ no ROOM 0
      go (lacking l e) = room-said e
      go (enough l e) = absurd (l h)

  -- on what condition each number is given, at that place
  abbrev Enough : Type 0
  Enough = c.lacks → ⊥

  abbrev Condition : ℕ → ℕ → Type 0
  Condition n p =
      choose (eqb n SHORT) (Enough × ShortAt w p)
      (choose (eqb n FIELD) (Enough × FieldAt w p)
      (choose (eqb n ORDER) (Enough × OrderAt w p)
      (choose (eqb n LIMIT) (Enough × LimitAt w p)
      (choose (eqb n TARGETS) ((p ≡ 0) × Enough × (ts : List Transition) × IsList w ts × c.differ ts)
      (choose (eqb n ROOM) ((p ≡ 0) × (c.lacks ⊎ (Enough × (ts : List Transition) × IsList w ts × (c.differ ts → ⊥) × c.lacks_rows))) ⊥)))))

  by_reason : {n p : ℕ} → Enough → Reason w n p → Condition n p
  by_reason {p = p} h (short e x) = subst (λ (n : ℕ). Condition n p) (sym e) (h, x)
  by_reason {p = p} h (field e x) = subst (λ (n : ℕ). Condition n p) (sym e) (h, x)
  by_reason {p = p} h (order e x) = subst (λ (n : ℕ). Condition n p) (sym e) (h, x)
  by_reason {p = p} h (limit e x) = subst (λ (n : ℕ). Condition n p) (sym e) (h, x)

  given : {n p : ℕ} → says ≡ no n p → Condition n p
  given {n} {p} h = go why
    where
      go : Why says → Condition n p
      go (narrow l e) = by_number Condition e h (refl, inl l)
      go (by_record l m q r e) = by_number Condition e h (by_reason l r)
      go (by_list l ts i (differing d e)) = by_number Condition e h (refl, l, ts, i, d)
      go (by_list l ts i (narrow_rows d r e)) = by_number Condition e h (refl, inr (l, ts, i, d, r))
      go (by_list l ts i (told d r e)) = absurd (no_answer e h)

  answered : {l : List ℕ} → says ≡ ok l →
      Enough × (ts : List Transition) × IsList w ts × (c.differ ts → ⊥) × (c.lacks_rows → ⊥) × (l ≡ c.values ts)
  answered {l} h = go why
    where
      go : Why says → Enough × (ts : List Transition) × IsList w ts × (c.differ ts → ⊥) × (c.lacks_rows → ⊥) × (l ≡ c.values ts)
      go (narrow k e) = absurd (no_answer h e)
      go (by_record k n p r e) = absurd (no_answer h e)
      go (by_list k ts i (differing d e)) = absurd (no_answer h e)
      go (by_list k ts i (narrow_rows d r e)) = absurd (no_answer h e)
      go (by_list k ts i (told d r e)) = (k, ts, i, d, r, ap values_of (sym h ∙ e))

  abbrev Known : Refusal → Type 0
  Known r =
      ((r.number ≡ SHORT) ⊎ (r.number ≡ FIELD) ⊎ (r.number ≡ ORDER) ⊎ (r.number ≡ LIMIT) ⊎ (r.number ≡ TARGETS) ⊎ (r.number ≡ ROOM)) × (r.item ≡ 0)

  known_reason : {n p : ℕ} → Reason w n p → Known (refusal_at n p)
  known_reason (short e x) = (inl e, refl)
  known_reason (field e x) = (inr (inl e), refl)
  known_reason (order e x) = (inr (inr (inl e)), refl)
  known_reason (limit e x) = (inr (inr (inr (inl e))), refl)

  known : (r : Refusal) → says ≡ no_by r → Known r
  known r h = go why
    where
      go : Why says → Known r
      go (narrow k e) = by_refusal Known e h (inr (inr (inr (inr (inr refl)))), refl)
      go (by_record k n p x e) = by_refusal Known e h (known_reason x)
      go (by_list k ts i (differing d e)) = by_refusal Known e h (inr (inr (inr (inr (inl refl)))), refl)
      go (by_list k ts i (narrow_rows d x e)) = by_refusal Known e h (inr (inr (inr (inr (inr refl)))), refl)
      go (by_list k ts i (told d x e)) = absurd (no_answer e h)

  room-given : {p : ℕ} → (p ≡ 0) × (c.lacks ⊎ (Enough × (ts : List Transition) × IsList w ts × (c.differ ts → ⊥) × c.lacks_rows)) → says ≡ no ROOM p
  room-given (z, inl l) = room_says l ∙ ap (no ROOM) (sym z)
  room-given (z, inr (h, ts, i, d, r)) = tells_room (tells_of h i) d r ∙ ap (no ROOM) (sym z)

  -- THEOREM: "one numbered refusal, given on the stated condition and never otherwise"
  pub list_refused : ListRefused c w says lent left
  list_refused = record {
    short = λ p. (λ e. given e, λ x. refused_as x.0 (short_parsed w x.1));
    field = λ p. (λ e. given e, λ x. refused_as x.0 (field_parsed w x.1));
    order = λ p. (λ e. given e, λ x. refused_as x.0 (order_parsed w x.1));
    limit = λ p. (λ e. given e, λ x. refused_as x.0 (limit_parsed w x.1));
    targets = λ p. (λ e. given e, λ x. tells_targets (tells_of x.1 x.3) x.4 ∙ ap (no TARGETS) (sym x.0));
    room = λ p. (λ e. given e, room-given);
    answers = λ l. (answered, λ x. tells_values (tells_of x.0 x.2) x.3 x.4 ∙ ap ok (sym x.5));
    no_other = known;
    zero = call.zero;
  }

-- demand 3's "accepted": the lists that are the bytes of transitions
pub list_accepted : (w : List ℕ) → Bytes w → (ts : List Transition) → Exactly (ListAccepted w × (list_of w ≡ ts)) (IsList w ts)
unfolding transitions.is_parsed transitions.accepted
list_accepted w b ts = (λ h. at (parse w) (list_read w b) h, λ i. let e = list_parsed w ts i in (ap transitions.is_parsed e, ap transitions.accepted e))
  where
    at : (x : Parsed) → ListRead w x → (transitions.is_parsed x ≡ true) × (transitions.accepted x ≡ ts) → IsList w ts
    at (parsed us) r h = subst (IsList w) h.1 r
    at (refused n p) r h = absurd (false≢true h.0)

-- The calls, by their own contracts. The arguments of a contract carry no bound on a slice's numbers, so that a list is bytes, as the type u8 says, is a
-- premise, `Bytes`.

-- a call that asks for no targets tells of each list that is read
no_targets : {lacks : Type 0} {values : List Transition → List ℕ} {ts : List Transition} {says : Said} → says ≡ ok (values ts)
    → Tells (list_asks lacks values) ts says
no_targets e = told (λ d. d) (λ r. r) e

-- "ROOM comes before the first", where a buffer is too short

module _ {w : List ℕ} where
  -- a buffer of n numbers, where k are stated
  lends_one : (n k : ℕ) → Lends (n < k) w (pick (ltb n k) (refused ROOM 0) (parse w))
  lends_one n k =
      le_cases k n
      (λ h. enough (λ l. omega arith) (ap (λ (b : Bool). pick b (refused ROOM 0) (parse w)) (le-ltb n k h)))
      (λ h. lacking h (ap (λ (b : Bool). pick b (refused ROOM 0) (parse w)) (lt-ltb n k h)))

  -- .. beside others
  lends_more : {lacks : Type 0} {x : Parsed} (n k : ℕ) → Lends lacks w x → Lends (lacks ⊎ (n < k)) w (pick (ltb n k) (refused ROOM 0) x)
  lends_more {lacks} {x} n k l =
      le_cases k n
      (λ h. at (ap (λ (b : Bool). pick b (refused ROOM 0) x) (le-ltb n k h)) h l)
      (λ h. lacking (inr h) (ap (λ (b : Bool). pick b (refused ROOM 0) x) (lt-ltb n k h)))
    where
      neither : k ≤ n → (lacks → ⊥) → lacks ⊎ (n < k) → ⊥
      neither h f (inl z) = f z
      neither h f (inr z) = omega arith

      at : {y : Parsed} → y ≡ x → k ≤ n → Lends lacks w x → Lends (lacks ⊎ (n < k)) w y
      at e h (lacking z f) = lacking (inl z) (e ∙ f)
      at e h (enough z f) = enough (neither h z) (e ∙ f)

-- what a call says that tells of such a list
module _ {c : Asks} {w : List ℕ} {says : Said} {lent left : List (List ℕ)} where
  called : (tell : Parsed → Said) {x : Parsed} → Lends c.lacks w x → says ≡ tell x → ((n p : ℕ) → tell (refused n p) ≡ no n p) →
      ((ts : List Transition) → Tells c ts (tell (parsed ts))) → ((r : Refusal) → says ≡ no_by r → left ≡ zeroed lent) → Call c w says lent left
  called tell {x} l e f t z = record { list = x; lends = l; tell = tell; so = e; refuses = f; tells = t; zero = z }

-- what is refused was not read
not-read : (tell : Parsed → Said) → ((ts : List Transition) → is_ok (tell (parsed ts)) ≡ true) → (x : Parsed) {says : Said} {r : Refusal} →
    says ≡ tell x → says ≡ no_by r → (n : ℕ) × (p : ℕ) × (x ≡ refused n p)
not-read tell good (parsed ts) e h = absurd (false≢true (ap is_ok (sym h ∙ e) ∙ good ts))
not-read tell good (refused n p) e h = (n, p, refl)

pub read_transitions_refuses : (list : Bor (List ℕ)) → Bytes list.now → (x : Result Transitions Refusal) → TransitionsAnswers list x →
    ListRefused transitions_ask list.now (transitions.said x) [] []
unfolding transitions.counted
read_transitions_refuses list b x a =
    list_refused b (called transitions.counted (enough (λ z. z) refl) a.2 (λ n p. refl) (λ ts. no_targets refl) (λ r h. refl))

pub read_intervals_refuses : (list : Bor (List ℕ)) (out : MutBor (List ℕ)) → Bytes list.now → (x : Result Transitions Refusal) (left : List ℕ) →
    IntervalsAnswers list out x left →
    ListRefused (intervals_ask (length out.now)) list.now (transitions.said x) (out.now ∷ []) (left ∷ [])
unfolding transitions.counted parse_into ends_in
read_intervals_refuses list out b x left a =
    list_refused b
    (called transitions.counted (lends_one (length out.now) 2048) a.2.says (λ n p. refl) (λ ts. no_targets refl)
    (λ r h.
    let q = not-read transitions.counted (λ ts. refl) (parse_into (length out.now) list.now) a.2.says h in
    and (sym a.3 ∙ a.2.leaves ∙ ap (ends_in (length out.now)) q.2) refl))

pub char_segments_refuses : (list : Bor (List ℕ)) (out : MutBor (List ℕ)) → Bytes list.now → (x : Result ℕ Refusal) (left : List ℕ) → SegmentsAnswers list out x left →
    ListRefused (segments_ask (length out.now)) list.now (segs.said x) (out.now ∷ []) (left ∷ [])
unfolding segs.counted parse_for segments_in
char_segments_refuses list out b x left a =
    list_refused b
    (called segs.counted (lends_one (length out.now) 4096) a.2.says (λ n p. refl) (λ ts. no_targets refl)
    (λ r h.
    let q = not-read segs.counted (λ ts. refl) (parse_for (length out.now) list.now) a.2.says h in
    and (sym a.3 ∙ a.2.leaves ∙ ap (segments_in (length out.now)) q.2) refl))

pub segment_mask_matrix_refuses : (list : Bor (List ℕ)) (segments masks : MutBor (List ℕ)) → Bytes list.now → (x : Result Masks Refusal) (s m : List ℕ) →
    MatrixAnswers list segments masks x s m →
    ListRefused (matrix_asks (length segments.now) (length masks.now)) list.now (mask.said x) (segments.now ∷ masks.now ∷ []) (s ∷ m ∷ [])
unfolding mask.counted parse_for parse_masks segments_in masks_in
segment_mask_matrix_refuses list segments masks b x s m a =
    let long = length segments.now in
    let wide = length masks.now in
    list_refused b
    (called (mask.counted matrix) (lends_more wide 8192 (lends_one long 4096)) a.2.says (λ n p. refl) (λ ts. no_targets refl)
    (λ r h.
    let q = not-read (mask.counted matrix) (λ ts. refl) (parse_masks long wide list.now) a.2.says h in
    and (sym a.3 ∙ a.2.low_high ∙ ap (segments_in long) q.2) (and (sym a.4 ∙ a.2.leaves ∙ ap (masks_in matrix wide) q.2) refl)))

-- `a.1` is the arguments at exit, of which `DistinctAnswers` names the last
pub distinct_masks_refuses : (list : Bor (List ℕ)) (segments masks out : MutBor (List ℕ)) → Bytes list.now → (x : Result Masks Refusal) (d : List ℕ) →
    (a : DistinctAnswers list segments masks out x d) →
    ListRefused (distinct_asks (length segments.now) (length masks.now) (length out.now)) list.now (mask.said x)
    (segments.now ∷ masks.now ∷ out.now ∷ []) (a.1.1.0.now ∷ a.1.1.1.0.now ∷ d ∷ [])
unfolding mask.counted parse_for parse_masks parse_distinct segments_in masks_in
distinct_masks_refuses list segments masks out b x d a =
    let long = length segments.now in
    let wide = length masks.now in
    let few = length out.now in
    list_refused b
    (called (mask.counted distinct_of) (lends_more few 8192 (lends_more wide 8192 (lends_one long 4096))) a.2.says (λ n p. refl) (λ ts. no_targets refl)
    (λ r h.
    let q = not-read (mask.counted distinct_of) (λ ts. refl) (parse_distinct long wide few list.now) a.2.says h in
    and (a.2.low_high ∙ ap (segments_in long) q.2)
    (and (a.2.each ∙ ap (masks_in matrix wide) q.2) (and (sym a.3 ∙ a.2.leaves ∙ ap (masks_in distinct_of few) q.2) refl))))

-- "TARGETS, ROOM for these"

rows_short : (a w e : ℕ) → too_short a w e ≡ true → (a < 128) ⊎ (w < 6144) ⊎ (e < 6144)
rows_short a w e h = go (ltb a 128) refl (ltb w 6144) refl (ltb e 6144) refl h
  where
    go : (x : Bool) → ltb a 128 ≡ x → (y : Bool) → ltb w 6144 ≡ y → (z : Bool) → ltb e 6144 ≡ z → (x || y || z) ≡ true → (a < 128) ⊎ (w < 6144) ⊎ (e < 6144)
    go true i y j z k q = inl (ltb-true a 128 i)
    go false i true j z k q = inr (inl (ltb-true w 6144 j))
    go false i false j true k q = inr (inr (ltb-true e 6144 k))
    go false i false j false k q = absurd (false≢true q)

rows_long : (a w e : ℕ) → too_short a w e ≡ false → (a < 128) ⊎ (w < 6144) ⊎ (e < 6144) → ⊥
rows_long a w e h (inl l) = omega (arith, (long a w e h).0)
rows_long a w e h (inr (inl l)) = omega (arith, (long a w e h).1)
rows_long a w e h (inr (inr l)) = omega (arith, (long a w e h).2)

module _ (a : RowArgs) where
  abbrev short_rows : Bool
  short_rows = too_short (length a.ascii.now) (length a.wide.now) (length a.escape.now)

  abbrev rows_said : Parsed → Said
  rows_said x = row.counted a.targets.now a.conts.now (with_rows (length a.targets.now) (length a.conts.now) short_rows x)

  rows_told : (ts : List Transition) → Tells (rows_ask a) ts (rows_said (parsed ts))
  unfolding row.counted with_rows
  rows_told ts = go (eqb t d) refl (eqb c d) refl short_rows refl
    where
      d : ℕ
      d = length (distinct_of ts)

      t : ℕ
      t = length a.targets.now

      c : ℕ
      c = length a.conts.now

      go : (f : Bool) → eqb t d ≡ f → (g : Bool) → eqb c d ≡ g → (h : Bool) → short_rows ≡ h →
          Tells (rows_ask a) ts
          (row.counted a.targets.now a.conts.now (refused_by (refusal_of (pick (f && g) false true) h) (parsed ts)))
      go true i true j false k = told (λ n. n (eqb-true t d i, eqb-true c d j)) (rows_long _ _ _ k) refl
      go true i true j true k = narrow_rows (λ n. n (eqb-true t d i, eqb-true c d j)) (rows_short _ _ _ k) refl
      go true i false j h k = differing (λ e. eqb-false c d j e.1) refl
      go false i g j h k = differing (λ e. eqb-false t d i e.0) refl

-- `r.1` is the arguments at exit, of which `BuildAnswers` names the last four
pub build_rows_refuses : (a : RowArgs) → Bytes a.list.now → (x : Result Rows Refusal) (l : RowsLeft) → (r : BuildAnswers a x l) →
    ListRefused (rows_ask a) a.list.now (row.said x)
    (a.segments.now ∷ a.masks.now ∷ a.distinct.now ∷ a.ascii.now ∷ a.wide.now ∷ a.escape.now ∷ [])
    (r.1.1.1.1.0.now ∷ r.1.1.1.1.1.0.now ∷ l.distinct ∷ l.ascii ∷ l.wide ∷ l.escape ∷ [])
unfolding row.counted with_rows parse_for parse_masks parse_distinct segments_in masks_in ascii_in wide_in escape_in
build_rows_refuses a b x l r =
    let long = length a.segments.now in
    let wide = length a.masks.now in
    let few = length a.distinct.now in
    let targets = a.targets.now in
    let conts = a.conts.now in
    list_refused b
    (called (rows_said a) (lends_more few 8192 (lends_more wide 8192 (lends_one long 4096))) r.2.says (λ n p. refl) (rows_told a)
    (λ q h.
    let z = not-read (row.counted targets conts) (λ ts. refl) (parse_rows (lent_by a) a.list.now targets conts) r.2.says h in
    and (r.2.low_high ∙ ap (segments_in long) z.2)
    (and (r.2.each ∙ ap (masks_in matrix wide) z.2)
    (and (sym r.3 ∙ r.2.once ∙ ap (masks_in distinct_of few) z.2)
    (and (sym r.4 ∙ r.2.narrow ∙ ap (ascii_in (length a.ascii.now) targets) z.2)
    (and (sym r.5 ∙ r.2.broad ∙ ap (wide_in (length a.wide.now) targets) z.2)
    (and (sym r.6 ∙ r.2.escapes ∙ ap (escape_in (length a.escape.now) targets conts) z.2) refl)))))))
