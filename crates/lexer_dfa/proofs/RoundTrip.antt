-- Demand 2, its second sentence, and the refusals of encode, by the own contracts of decode and encode. Assumes nothing.
use Prim.Native.Nat.{ℕ, ◌+◌, ◌≤◌, ◌<◌}
use native.Mathlib.Omega.{arith}
use mathlib.Core.Path.{◌≡◌, refl, sym, ap, subst, ◌∙◌}
use mathlib.Core.Bool.{Bool, true, false, false≢true}
use mathlib.Core.List.{List, [], ◌∷◌}
use mathlib.Core.Logic.{◌⊎◌, inl, inr}
use lib.Dec.{ltb}
use lib.ListN.{length, get_or, take, drop, length-take, length-drop}
use lib.Seq.{get_or-take, get_or-drop}
use borrow.Author.Tests.{ltb-true, ltb-false, lt-ltb, le-ltb}
use contract.Lifetimes.{Lfts}
use Rattle.std.specs.Borrow.{Bor, MutBor}
use Rattle.refusal.specs.declared.Refusal.{Refusal}
use Rattle.refusal.specs.Said.{Said, refusal_at, ok, no_by, no, NOT-TABLE, ROOM}
use Rattle.buffer.specs.Written.{said}
use Rattle.buffer.specs.Over.{zeros}
use Rattle.room_decode.specs.Decode.{decode_of, room_of}
use Rattle.room_decode.specs.Decode as decoding
use Rattle.room_judge.specs.Judge.{words_part, accepted, is_table}
use Rattle.room_judge.proofs.Tables.{own_words}
use Rattle.room_encode.specs.Encode.{encode_of, out_of}
use Rattle.law_tables.specs.Table.{words_of}
use Rattle.law_tables.specs.Whole.{Fit}
use Rattle.law_tables.specs.Normal.{normal}
use Rattle.law_round_trip.specs.Trip.{Trip, Left}
use Rattle.law_tables.proofs.Normal.{normal_size}
use Rattle.law_round_trip.proofs.RoundTrip.{round_trip, left-held}
use Rattle.lexer_dfa.specs.Demands.{DecodeAnswers, EncodeAnswers, RoundTrip, Leaves, EncodedBy}
use Rattle.std.specs.Prelude.{Result, Err}
use Rattle.std.specs.Prelude.{Ok}
use Rattle.room_decode.specs.Decode.{Decoding}

-- There and back

-- an answer that says a table's counts is a table
pub said-accepted : (x : Decoding) {l : List ℕ} → decoding.said x ≡ ok l → accepted x ≡ true
said-accepted (Ok t) e = refl
said-accepted (Err r) e = let z : ◌≡◌ {A = ℕ} 0 1 = cc in absurd (omega arith)

accepted-said : (x : Decoding) → accepted x ≡ true → (m : ℕ) × (s : ℕ) × (w : ℕ) × (decoding.said x ≡ ok (m ∷ s ∷ w ∷ []))
accepted-said (Ok t) e = (t.modes, t.states, t.words, refl)
accepted-said (Err r) e = absurd (false≢true e)

-- the words that are left in a room are as many as were decoded into it
trip_size : {w : List ℕ} {n : ℕ} (t : Trip w n) → length (words_of (normal t.table)) ≡ length w
trip_size t = normal_size t.table ∙ ap length (sym t.words)

-- "Encoding the result gives the same words with nonzero flags made 1; decoding that gives the same table."
pub there_and_back : (words : Bor (List ℕ)) (room : MutBor (List ℕ)) → Fit words.now → (x : Decoding) (d : List ℕ) → DecodeAnswers words room x d →
    (modes states count : ℕ) → decoding.said x ≡ ok (modes ∷ states ∷ count ∷ []) → RoundTrip words.now (length room.now) x d
there_and_back words room f x d a modes states count h =
    let w = words.now in
    let n = length room.now in
    let x_is : x ≡ decode_of w n = a.2.0 in
    let d-is : d ≡ room_of w n = sym a.3 ∙ a.2.1 in
    let t : Trip w n = round_trip w n f (ap accepted (sym x_is) ∙ said-accepted x h) in
    record {
      made = words_of (normal t.table);
      flags = record { table = t.table; fields = t.fields; before = t.words; after = refl };
      as_many = trip_size t;
      encoded = λ lent out e l y left b.
          let k = length out.now in
          let o : lent.now ≡ room_of w n = e ∙ d-is in
          (ap said (b.2.0 ∙ ap (λ r. encode_of r k) o ∙ t.encoded k l), sym b.3 ∙ b.2.1 ∙ ap (λ r. out_of r k) o ∙ t.out k l);
      again = λ words₂ room₂ e l y left b.
          let m = words_of (normal t.table) in
          let y-is : y ≡ decode_of m n = b.2.0 ∙ ap (λ v. decode_of v (length room₂.now)) e ∙ ap (decode_of m) l in
          let left_is : left ≡ room_of m n = sym b.3 ∙ b.2.1 ∙ ap (λ v. room_of v (length room₂.now)) e ∙ ap (room_of m) l in
          (y-is ∙ t.again ∙ sym x_is, left_is ∙ t.room ∙ sym d-is);
    }

-- Which rooms are encoded

-- what decode leaves by its contract is what its definition has it leave
leaves_left : {w d : List ℕ} → Leaves w d → Left w d
leaves_left {w} {d} l =
    let n = length l.room.now in
    let x_is : l.answer ≡ decode_of w (length d) = l.leaves.2.0 ∙ ap (λ v. decode_of v n) l.are_words ∙ ap (decode_of w) l.as_long in
    let d-is : d ≡ room_of w (length d) = sym l.leaves.3 ∙ l.leaves.2.1 ∙ ap (λ v. room_of v n) l.are_words ∙ ap (room_of w) l.as_long in
    (ap accepted (sym x_is) ∙ said-accepted l.answer l.accepted, d-is)

-- such a room is a table, and has as many words
pub leaves_table : {w d : List ℕ} → Leaves w d → (is_table d ≡ true) × (length (words_part d) ≡ length w)
leaves_table {w} {d} l =
    let o = leaves_left l in
    let t = round_trip w (length d) l.fit o.0 in
    (left-held w d l.fit o, ap (λ r. length (words_part r)) o.1 ∙ ap length t.part ∙ trip_size t)

-- the words of a room have 32 bits, as its numbers have
part_fits : (d : List ℕ) → Fit d → Fit (words_part d)
unfolding words_part
part_fits d f i h =
    let l = length-take (get_or d 0 0) (drop 9 d) in
    let k = length-drop 9 d in
    let e : get_or (take (get_or d 0 0) (drop 9 d)) i 0 ≡ get_or d (9 + i) 0 = get_or-take (get_or d 0 0) (drop 9 d) i 0 (omega arith) ∙ get_or-drop 9 d i 0 in
    subst (λ x. x < 4294967296) (sym e) (f (9 + i) (omega arith))

-- a room that is a table is left for its own words
pub table_leaves : Lfts 2 → (room : Bor (List ℕ)) → Fit room.now → is_table room.now ≡ true → Leaves (words_part room.now) room.now
unfolding words_part
table_leaves κs room f h =
    let d = room.now in
    let o = own_words d h in
    let c = accepted-said (decode_of (words_part d) (length d)) o.0 in
    let lent : Bor (List ℕ) = record { ref_ptr = room.ref_ptr; now = words_part d } in
    record {
      fit = part_fits d f;
      words = lent;
      are_words = refl;
      room = record { ref_ptr = room.ref_ptr; ghost_name = 0; now = d };
      as_long = refl;
      answer = decode_of (words_part d) (length d);
      leaves = (κs, (lent, (record { ref_ptr = room.ref_ptr; ghost_name = 0; now = d }, tt)), (refl, o.1), refl);
      modes = c.0;
      states = c.1;
      count = c.2;
      accepted = c.3;
    }

-- Why encode says what it says

-- this refusal is given
data Reason (d : List ℕ) (n : ℕ) (r : Refusal) : Type 0 where
  no_table : r ≡ refusal_at NOT-TABLE 0 → is_table d ≡ false → Reason d n r
  narrow : r ≡ refusal_at ROOM 0 → is_table d ≡ true → n < length (words_part d) → Reason d n r

-- of a room d and an output of n numbers this is said
abbrev Why : List ℕ → ℕ → Said → Type 0
Why d n (ok l) = (is_table d ≡ true) × (length (words_part d) ≤ n) × (l ≡ length (words_part d) ∷ [])
Why d n (no_by r) = Reason d n r

module _ (d : List ℕ) (n : ℕ) where
  says_no_table : is_table d ≡ false → said (encode_of d n) ≡ no NOT-TABLE 0
  unfolding encode_of
  says_no_table h = rw h

  says_narrow : is_table d ≡ true → n < length (words_part d) → said (encode_of d n) ≡ no ROOM 0
  unfolding encode_of
  says_narrow h l = rw (h, lt-ltb n (length (words_part d)) l)

  says_words : is_table d ≡ true → length (words_part d) ≤ n → said (encode_of d n) ≡ ok (length (words_part d) ∷ [])
  unfolding encode_of
  says_words h l = rw (h, le-ltb n (length (words_part d)) l)

  why : Why d n (said (encode_of d n))
  why = go (is_table d) (ltb n (length (words_part d))) refl refl
    where
      go : (a b : Bool) → is_table d ≡ a → ltb n (length (words_part d)) ≡ b → Why d n (said (encode_of d n))
      go false b i j = subst (Why d n) (sym (says_no_table i)) (no_table refl i)
      go true true i j = let l = ltb-true n (length (words_part d)) j in subst (Why d n) (sym (says_narrow i l)) (narrow refl i l)
      go true false i j = let l = ltb-false n (length (words_part d)) j in subst (Why d n) (sym (says_words i l)) (i, l, refl)

  -- a refusal has one reason
  by_no_table : {p : ℕ} → Reason d n (refusal_at NOT-TABLE p) → (p ≡ 0) × (is_table d ≡ false)
  by_no_table (no_table i h) = (ap (λ r. r.place) i, h)
  by_no_table (narrow i _ _) = let j : NOT-TABLE ≡ ROOM = ap (λ r. r.number) i in absurd (omega arith)

  by_narrow : {p : ℕ} → Reason d n (refusal_at ROOM p) → (p ≡ 0) × (is_table d ≡ true) × (n < length (words_part d))
  by_narrow (no_table i _) = let j : ROOM ≡ NOT-TABLE = ap (λ r. r.number) i in absurd (omega arith)
  by_narrow (narrow i h l) = (ap (λ r. r.place) i, h, l)

  numbered : {r : Refusal} → Reason d n r → ((r.number ≡ NOT-TABLE) ⊎ (r.number ≡ ROOM)) × (r.item ≡ 0)
  numbered (no_table i _) = (inl (ap (λ r. r.number) i), ap (λ r. r.item) i)
  numbered (narrow i _ _) = (inr (ap (λ r. r.number) i), ap (λ r. r.item) i)

  -- a room that is not left for any words is no table
  pub none_left : (is_table d ≡ true → ⊥) → is_table d ≡ false
  none_left h = go (is_table d) refl
    where
      go : (b : Bool) → is_table d ≡ b → is_table d ≡ false
      go true e = absurd (h e)
      go false e = e

  -- refused, the output is all zeros
  zero_out : {r : Refusal} → Reason d n r → out_of d n ≡ zeros n
  unfolding out_of
  zero_out (no_table _ h) = rw h
  zero_out (narrow _ h l) = rw (h, lt-ltb n (length (words_part d)) l)

-- The call, by its own contract. As of the words of decode, that the room's numbers have 32 bits is a premise

-- "Encoding and coverage give NOT-TABLE exactly when the room isn't what decoding leaves for some accepted words; encoding gives ROOM next, when the output is
-- shorter than needed": and else it accepts, so that every room that it accepts comes from decoding
pub encode_answers : (room : Bor (List ℕ)) (out : MutBor (List ℕ)) → Fit room.now → (x : Result ℕ Refusal) (left : List ℕ) → EncodeAnswers room out x left →
    EncodedBy room.now (length out.now) (said x)
encode_answers room out f x left a =
    let d = room.now in
    let n = length out.now in
    let own = table_leaves a.0 room f in
    subst (λ y. EncodedBy d n (said y)) (sym a.2.0)
    (record {
      not_table_lem = λ p. (
        λ e. let r = by_no_table d n (subst (Why d n) e (why d n)) in (r.0, λ w l. false≢true (sym r.1 ∙ (leaves_table l).0)),
        λ h. says_no_table d n (none_left d n (λ t. h.1 (words_part d) (own t))) ∙ ap (no NOT-TABLE) (sym h.0),
      );
      room = λ p. (
        λ e. let r = by_narrow d n (subst (Why d n) e (why d n)) in (r.0, words_part d, own r.1, r.2),
        λ h. let t = leaves_table h.2 in says_narrow d n t.0 (subst (λ k. n < k) (sym t.1) h.3) ∙ ap (no ROOM) (sym h.0),
      );
      accepts = λ k. (
        λ e. let r = subst (Why d n) e (why d n) in (words_part d, own r.0, r.1, ap (λ l. get_or l 0 0) r.2),
        λ h. let t = leaves_table h.1 in says_words d n t.0 (subst (λ m. m ≤ n) (sym t.1) h.2) ∙ ap (λ m. ok (m ∷ [])) (t.1 ∙ sym h.3),
      );
      no_other = λ r e. numbered d n (subst (Why d n) e (why d n));
    })

-- "Refused: all outputs zero."
pub encode_refused_zero : (room : Bor (List ℕ)) (out : MutBor (List ℕ)) (x : Result ℕ Refusal) (left : List ℕ) → EncodeAnswers room out x left →
    (r : Refusal) → said x ≡ no_by r → left ≡ zeros (length out.now)
encode_refused_zero room out x left a r e =
    let d = room.now in
    let n = length out.now in
    sym a.3 ∙ a.2.1 ∙ zero_out d n (subst (Why d n) (ap said (sym a.2.0) ∙ e) (why d n))
