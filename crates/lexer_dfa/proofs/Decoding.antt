-- Demand 2, its first sentence, and the refusals of decode, by decode's own contract: what decode answers is judged by the room's length, the number of
-- words, their layout, and the rules of the table that they are. Assumes nothing.
use Prim.Native.Nat.{ℕ, zero, suc, ◌+◌, ◌≤◌, ◌<◌}
use native.Mathlib.Omega.{arith}
use mathlib.Core.Path.{◌≡◌, refl, sym, ap, subst, ◌∙◌}
use mathlib.Core.Bool.{Bool, true, false}
use mathlib.Core.List.{List, [], ◌∷◌}
use mathlib.Core.Logic.{◌⊎◌, inl, inr}
use lib.Dec.{ltb, eqb}
use lib.ListN.{length, get_or}
use borrow.Author.Tests.{ltb-true, ltb-false, lt-ltb, le-ltb, ne_eqb}
use Rattle.std.specs.Borrow.{Bor, MutBor}
use Rattle.refusal.specs.declared.Refusal.{Refusal}
use Rattle.refusal.specs.Said.{Said, broken_by, refusal_at, ok, no_by, no, SHORT, TAG, FIELD, LIMIT, LEFT, INDEX, ROOM}
use Rattle.refusal.specs.Lists.{pick}
use Rattle.word_layout.specs.Layout.{unfound, layout_of}
use Rattle.rule_words.specs.Rules.{broken, broken_item}
use Rattle.buffer.specs.Over.{zeros}
use Rattle.word_layout.specs.Limits.{laid_out}
use Rattle.room_fill.specs.Room.{room_for}
use Rattle.room_decode.specs.Decode.{said, judged, decoded_from, decode_of, kept_from, room_of}
use Rattle.law_tables.specs.Table.{Table, words_of, Fields}
use Rattle.law_tables.specs.Whole.{Fit}
use Rattle.law_tables.specs.Rules.{Rules, Rule, FirstOf, FirstBroken}
use Rattle.law_tables.specs.Places.{sections_of, broken_of, broken_item_of}
use Rattle.law_tables.specs.Fronts.{Exactly}
use Rattle.law_tables.proofs.Codec.{at_head}
use Rattle.law_tables.proofs.Placed.{modes_stand, states_stand, layout_is, found_table}
use Rattle.law_tables.proofs.Obeyed.{unbroken_is, broken_first, first_broken_lem, obeys_accepted}
use Rattle.law_tables.proofs.Refusals.{refusals}
use Rattle.lexer_dfa.specs.Demands.{DecodeAnswers, Accepted, From}
use Rattle.lexer_dfa.specs.RefusedBy.{WithinLimits, Breaks, RefusedBy}
use Rattle.std.specs.Prelude.{Result, Ok, Err}
use Rattle.room_decode.specs.Decode.{Decoding}
use Rattle.word_reader.specs.declared.Sections.{Sections}

-- What decode says, on each condition

module _ (w : List ℕ) (n : ℕ) where
  -- "ROOM (table room under 16,384 numbers)"
  no_room : n < 16384 → said (decode_of w n) ≡ no ROOM 0
  unfolding laid_out decoded_from
  no_room h = rw (lt-ltb n 16384 h)

  -- "LIMIT | over 8,192 words"
  over_limit : 16384 ≤ n → 8192 < length w → said (decode_of w n) ≡ no LIMIT 8192
  unfolding laid_out decoded_from
  over_limit h l = rw (le-ltb n 16384 h, lt-ltb 8192 (length w) l)

  -- else the words are read
  is_read : WithinLimits w n → laid_out w n ≡ layout_of w
  unfolding laid_out
  is_read (h, l) = rw (le-ltb n 16384 h, le-ltb 8192 (length w) l)

  -- and what their layout refuses is refused
  not_laid : {q : Refusal} → WithinLimits w n → layout_of w ≡ Err q → said (decode_of w n) ≡ no_by q
  unfolding decoded_from
  not_laid r e = ap (λ s. said (decoded_from w s)) (is_read r ∙ e)

-- the words of a table, whose fields are allowed: its rules judge it
module _ (t : Table) (h : Fields t) (n : ℕ) (r : WithinLimits (words_of t) n) where
  -- its sections are found
  laid : laid_out (words_of t) n ≡ Ok (sections_of t)
  laid = is_read (words_of t) n r ∙ layout_is t h

  rules_judge : decode_of (words_of t) n ≡ judged (words_of t) (sections_of t) (broken_of t) (broken_item_of t)
  unfolding decoded_from
  rules_judge = ap (decoded_from (words_of t)) laid

  -- it obeys the rules: its modes, states and words are counted
  obeys : Rules t → said (decode_of (words_of t) n) ≡ ok (length t.modes ∷ length t.states ∷ length (words_of t) ∷ [])
  unfolding judged
  obeys o = ap said rules_judge ∙ (rw ((obeys_accepted t h r.1 o).1, at_head (modes_stand t), at_head (states_stand t)))

  -- it breaks one: INDEX gives the first, and the first item that breaks it
  breaks : (k i : ℕ) → 0 < k → FirstBroken t k i → said (decode_of (words_of t) n) ≡ no_by (broken_by k i)
  unfolding judged
  breaks k i p b = let e = first_broken_lem t h r.1 k i b in ap said rules_judge ∙ (rw (e.0, e.1, ne_eqb k 0 (λ z. omega arith)))

  -- the room of a table that obeys the rules
  obeys_room : Rules t → room_of (words_of t) n ≡ room_for (words_of t) n (Ok (sections_of t))
  unfolding kept_from
  obeys_room o = ap (kept_from (words_of t) n) laid ∙ (rw (obeys_accepted t h r.1 o).1)

-- of rules that are numbered from n on, the first that is broken has no lower number
first_from_lem : (n i : ℕ) {k : ℕ} (Rs : List Rule) → FirstOf n Rs k i → n ≤ k
unfolding FirstOf
first_from_lem n i [] f = absurd f
first_from_lem n i (R ∷ Rs) (inl f) = omega arith
first_from_lem n i (R ∷ Rs) (inr f) = omega (arith, first_from_lem (n + 1) i Rs f.1)

-- Why decode says what it says

-- this refusal is given
data Reason (w : List ℕ) (n : ℕ) (r : Refusal) : Type 0 where
  narrow : r ≡ refusal_at ROOM 0 → n < 16384 → Reason w n r
  long : r ≡ refusal_at LIMIT 8192 → 16384 ≤ n → 8192 < length w → Reason w n r
  unlaid : WithinLimits w n → layout_of w ≡ Err r → Reason w n r
  broken_rule : r ≡ broken_by r.place r.item → WithinLimits w n → Breaks w r.place r.item → Reason w n r

-- of words w and a room of n numbers this is said
abbrev Why : List ℕ → ℕ → Said → Type 0
Why w n (ok l) = Accepted w (get_or l 0 0) (get_or l 1 0) (get_or l 2 0)
Why w n (no_by r) = Reason w n r

-- the words are a table's
table_why : (t : Table) → Fields t → (n : ℕ) → WithinLimits (words_of t) n → Why (words_of t) n (said (decode_of (words_of t) n))
table_why t h n r = go (broken_of t) refl
  where
    go : (k : ℕ) → broken_of t ≡ k → Why (words_of t) n (said (decode_of (words_of t) n))
    go zero e =
        let o = (unbroken_is t h r.1).0 e in
        subst (Why (words_of t) n) (sym (obeys t h n r o))
        (record { table = t; limit = r.1; layout = refl; fields = h; rules = o; of_modes = refl; of_states = refl; of_words = refl })
    go (suc k) e =
        let b = broken_first t h r.1 (suc k) (omega arith) e in
        subst (Why (words_of t) n) (sym (breaks t h n r (suc k) (broken_item_of t) (omega arith) b)) (broken_rule refl r (t, h, b, refl))

module _ (w : List ℕ) (n : ℕ) (f : Fit w) where
  -- the words are read
  read_why : WithinLimits w n → (s : Result Sections Refusal) → layout_of w ≡ s → Why w n (said (decode_of w n))
  read_why r (Err q) e = subst (Why w n) (sym (not_laid w n r e)) (unlaid r e)
  read_why r (Ok s) e =
      let t = found_table w f e in
      subst (λ v. Why v n (said (decode_of v n))) (sym t.2) (table_why t.0 t.1 n (subst (λ v. WithinLimits v n) t.2 r))

  why : Why w n (said (decode_of w n))
  why = go (ltb n 16384) (ltb 8192 (length w)) refl refl
    where
      go : (a b : Bool) → ltb n 16384 ≡ a → ltb 8192 (length w) ≡ b → Why w n (said (decode_of w n))
      go true b i j = let h = ltb-true n 16384 i in subst (Why w n) (sym (no_room w n h)) (narrow refl h)
      go false true i j =
          let h = ltb-false n 16384 i in
          let l = ltb-true 8192 (length w) j in
          subst (Why w n) (sym (over_limit w n h l)) (long refl h l)
      go false false i j = read_why (ltb-false n 16384 i, ltb-false 8192 (length w) j) (layout_of w) refl

  -- a refusal has one reason
  reason : {r : Refusal} → said (decode_of w n) ≡ no_by r → Reason w n r
  reason e = subst (Why w n) e why

  -- the layout gives 1, 2, 3 and 5, and no item
  layout_number : {r : Refusal} → layout_of w ≡ Err r → From 1 5 r.number × (r.number ≡ LIMIT → ⊥) × (r.item ≡ 0)
  layout_number {r} e = let q = (refusals w f).no_other r e in go q.0 q.1
    where
      go : (r.number ≡ SHORT) ⊎ (r.number ≡ TAG) ⊎ (r.number ≡ FIELD) ⊎ (r.number ≡ LEFT) → r.item ≡ 0
          → From 1 5 r.number × (r.number ≡ LIMIT → ⊥) × (r.item ≡ 0)
      go (inl i) o = ((omega arith, omega arith), λ j. omega arith, o)
      go (inr (inl i)) o = ((omega arith, omega arith), λ j. omega arith, o)
      go (inr (inr (inl i))) o = ((omega arith, omega arith), λ j. omega arith, o)
      go (inr (inr (inr i))) o = ((omega arith, omega arith), λ j. omega arith, o)

  -- each number has its own reason
  by_layout : {k p : ℕ} → k < 6 → (k ≡ LIMIT → ⊥) → Reason w n (refusal_at k p) → WithinLimits w n × (layout_of w ≡ unfound k p)
  by_layout {k} l z (narrow i _) = let j : k ≡ ROOM = ap (λ r. r.number) i in absurd (omega arith)
  by_layout l z (long i _ _) = absurd (z (ap (λ r. r.number) i))
  by_layout l z (unlaid r e) = (r, e)
  by_layout {k} l z (broken_rule i _ _) = let j : k ≡ INDEX = ap (λ r. r.number) i in absurd (omega arith)

  by_room : {p : ℕ} → Reason w n (refusal_at ROOM p) → (p ≡ 0) × (n < 16384)
  by_room (narrow i h) = (ap (λ r. r.place) i, h)
  by_room (long i _ _) = let j : ROOM ≡ LIMIT = ap (λ r. r.number) i in absurd (omega arith)
  by_room (unlaid r e) = absurd (omega (arith, (layout_number e).0.1))
  by_room (broken_rule i _ _) = let j : ROOM ≡ INDEX = ap (λ r. r.number) i in absurd (omega arith)

  by_limit : {p : ℕ} → Reason w n (refusal_at LIMIT p) → (p ≡ 8192) × (16384 ≤ n) × (8192 < length w)
  by_limit (narrow i _) = let j : LIMIT ≡ ROOM = ap (λ r. r.number) i in absurd (omega arith)
  by_limit (long i h l) = (ap (λ r. r.place) i, h, l)
  by_limit (unlaid r e) = absurd ((layout_number e).1 refl)
  by_limit (broken_rule i _ _) = let j : LIMIT ≡ INDEX = ap (λ r. r.number) i in absurd (omega arith)

  by_index : {p i : ℕ} → Reason w n (broken_by p i) → WithinLimits w n × Breaks w p i
  by_index (narrow i _) = let j : INDEX ≡ ROOM = ap (λ r. r.number) i in absurd (omega arith)
  by_index (long i _ _) = let j : INDEX ≡ LIMIT = ap (λ r. r.number) i in absurd (omega arith)
  by_index (unlaid r e) = absurd (omega (arith, (layout_number e).0.1))
  by_index (broken_rule _ r b) = (r, b)

  numbered : {r : Refusal} → Reason w n r → From 1 7 r.number × ((r.item ≡ 0) ⊎ (r.number ≡ INDEX))
  numbered {r} (narrow i _) = let j : r.number ≡ ROOM = ap (λ r. r.number) i in ((omega arith, omega arith), inl (ap (λ r. r.item) i))
  numbered {r} (long i _ _) = let j : r.number ≡ LIMIT = ap (λ r. r.number) i in ((omega arith, omega arith), inl (ap (λ r. r.item) i))
  numbered (unlaid r e) = let l = layout_number e in ((l.0.0, omega (arith, l.0.1)), inl l.2)
  numbered {r} (broken_rule i _ _) = let j : r.number ≡ INDEX = ap (λ r. r.number) i in ((omega arith, omega arith), inr j)

  -- what the layout refuses, decode refuses
  lifted : (k p : ℕ) {B : Type 0} → k < 6 → (k ≡ LIMIT → ⊥) → Exactly (layout_of w ≡ unfound k p) B
      → Exactly (said (decode_of w n) ≡ no k p) (WithinLimits w n × B)
  lifted k p l z x = (λ e. let q = by_layout l z (reason e) in (q.0, x.0 q.1), λ h. not_laid w n h.0 (x.1 h.1))

  -- words of a table that breaks a rule are refused
  broke : {p i : ℕ} → WithinLimits w n → Breaks w p i → said (decode_of w n) ≡ no_by (broken_by p i)
  broke {p} {i} r (t, h, b, o) =
      subst (λ v. said (decode_of v n) ≡ no_by (broken_by p i)) (sym o) (breaks t h n (subst (λ v. WithinLimits v n) o r) p i (first_from_lem 1 i _ b) b)

  -- the refusals by number
  pub says_refused : RefusedBy w n (said (decode_of w n))
  says_refused = record {
    short = λ p. lifted SHORT p (omega arith) (λ e. omega arith) ((refusals w f).short p);
    tag = λ p. lifted TAG p (omega arith) (λ e. omega arith) ((refusals w f).differs p);
    field = λ p. lifted FIELD p (omega arith) (λ e. omega arith) ((refusals w f).field p);
    limit = λ p. (λ e. by_limit (reason e), λ h. over_limit w n h.1 h.2 ∙ ap (no LIMIT) (sym h.0));
    left = λ p. lifted LEFT p (omega arith) (λ e. omega arith) ((refusals w f).left p);
    index = λ p i. (λ e. by_index (reason e), λ h. broke h.0 h.1);
    room = λ p. (λ e. by_room (reason e), λ h. no_room w n h.1 ∙ ap (no ROOM) (sym h.0));
    no_other = λ r e. numbered (reason e);
  }

-- What is accepted, and the room

module _ (w : List ℕ) (n : ℕ) (enough : 16384 ≤ n) {modes states count : ℕ} (a : Accepted w modes states count) where
  reads : WithinLimits (words_of a.table) n
  reads = (enough, subst (λ v. length v ≤ 8192) a.layout a.limit)

  -- the numbers that `Accepted` names are said
  says_accepted : said (decode_of w n) ≡ ok (modes ∷ states ∷ count ∷ [])
  says_accepted =
      let t = a.table in
      let e = subst (λ v. said (decode_of v n) ≡ ok (length t.modes ∷ length t.states ∷ length v ∷ [])) (sym a.layout)
      (obeys t a.fields n reads a.rules) in
      e ∙ (rw (a.of_modes, a.of_states, a.of_words))

  -- and the room is the table's
  keeps_accepted : room_of w n ≡ room_for w n (Ok (sections_of a.table))
  keeps_accepted =
      let t = a.table in
      subst (λ v. room_of v n ≡ room_for v n (Ok (sections_of t))) (sym a.layout) (obeys_room t a.fields n reads a.rules)

-- and no others are
pub says_accepted_exactly : (w : List ℕ) (n : ℕ) → Fit w → 16384 ≤ n → (modes states count : ℕ) →
    Exactly (said (decode_of w n) ≡ ok (modes ∷ states ∷ count ∷ [])) (Accepted w modes states count)
says_accepted_exactly w n f enough modes states count = (λ h. subst (Why w n) h (why w n f), λ h. says_accepted w n enough h)

-- where decode refuses, the room holds zeros
keeps_zeros : (w : List ℕ) (n : ℕ) {q : Refusal} (s : Result Sections Refusal) → said (decoded_from w s) ≡ no_by q → kept_from w n s ≡ zeros n
unfolding decoded_from judged kept_from
keeps_zeros w n (Err r) e = refl
keeps_zeros w n {q} (Ok s) e = go (broken w s) e
  where
    go : (k : ℕ) → said (judged w s k (broken_item w s)) ≡ no_by q → pick (eqb k 0) (room_for w n (Ok s)) (zeros n) ≡ zeros n
    go zero h = let z : ◌≡◌ {A = ℕ} 0 1 = cc in absurd (omega arith)
    go (suc k) h = rw (ne_eqb (suc k) 0 (λ z. omega arith))

-- The call, by its own contract. The arguments of a contract carry no bound on a slice's numbers, so that the words have 32 bits, as the type u32
-- says, is a premise, `Fit`.

-- Demand 2: "Given its room, decoding accepts the lists of up to 8,192 words that meet the layout and the nine index rules, and no others."
pub decode_accepts : (words : Bor (List ℕ)) (room : MutBor (List ℕ)) → Fit words.now → 16384 ≤ length room.now →
    (x : Decoding) (left : List ℕ) → DecodeAnswers words room x left →
    (modes states count : ℕ) → Exactly (said x ≡ ok (modes ∷ states ∷ count ∷ [])) (Accepted words.now modes states count)
decode_accepts words room f enough x left a modes states count =
    let w = words.now in
    let n = length room.now in
    let e : said x ≡ said (decode_of w n) = ap said a.2.0 in
    (λ h. subst (Why w n) (sym e ∙ h) (why w n f), λ h. e ∙ says_accepted w n enough h)

-- Demand 1: "one numbered refusal, given on the stated condition and never otherwise."
pub decode_refuses : (words : Bor (List ℕ)) (room : MutBor (List ℕ)) → Fit words.now → (x : Decoding) (left : List ℕ) → DecodeAnswers words room x left →
    RefusedBy words.now (length room.now) (said x)
decode_refuses words room f x left a =
    let w = words.now in
    let n = length room.now in
    subst (λ y. RefusedBy w n (said y)) (sym a.2.0) (says_refused w n f)

-- "Refused: all outputs zero."
pub refused-zero : (words : Bor (List ℕ)) (room : MutBor (List ℕ)) (x : Decoding) (left : List ℕ) → DecodeAnswers words room x left →
    (r : Refusal) → said x ≡ no_by r → left ≡ zeros (length room.now)
refused-zero words room x left a r e =
    let w = words.now in
    let n = length room.now in
    sym a.3 ∙ a.2.1 ∙ keeps_zeros w n (laid_out w n) (ap said (sym a.2.0) ∙ e)

-- accepted: the room holds the numbers of the table, by the places of its sections, and zeros behind them
pub accepted-room : (words : Bor (List ℕ)) (room : MutBor (List ℕ)) → 16384 ≤ length room.now → (x : Decoding) (left : List ℕ) → DecodeAnswers words room x left →
    (modes states count : ℕ) (t : Accepted words.now modes states count) → left ≡ room_for words.now (length room.now) (Ok (sections_of t.table))
accepted-room words room enough x left a modes states count t = sym a.3 ∙ a.2.1 ∙ keeps_accepted words.now (length room.now) enough t

-- the same over the table's own words
pub table_room : (words : Bor (List ℕ)) (room : MutBor (List ℕ)) → 16384 ≤ length room.now → (x : Decoding) (left : List ℕ) → DecodeAnswers words room x left →
    (modes states count : ℕ) (t : Accepted words.now modes states count) →
    room_for (words_of t.table) (length room.now) (Ok (sections_of t.table)) ≡ left
table_room words room enough x left a modes states count t =
    sym (accepted-room words room enough x left a modes states count t ∙ ap (λ v. room_for v (length room.now) (Ok (sections_of t.table))) t.layout)
