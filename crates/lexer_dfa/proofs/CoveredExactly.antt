-- What coverage says of a room, by its own contract: when NOT-TABLE, when STATE, when so many points, and no other number. Assumes nothing.
use Prim.Native.Nat.{ℕ, ◌≤◌, ◌<◌}
use mathlib.Core.Path.{◌≡◌, refl, sym, ap, subst, ◌∙◌}
use native.Mathlib.Omega.{arith}
use mathlib.Core.Bool.{Bool, true, false, false≢true}
use mathlib.Core.List.{List, [], ◌∷◌}
use mathlib.Core.Logic.{◌⊎◌, inl, inr}
use lib.Dec.{ltb}
use lib.ListN.{length, get_or}
use borrow.Author.Tests.{ltb-true, ltb-false, lt-ltb, le-ltb}
use contract.Lifetimes.{Lfts}
use Rattle.std.specs.Borrow.{Bor}
use Rattle.refusal.specs.declared.Refusal.{Refusal}
use Rattle.refusal.specs.Said.{Said, ok, no_by, no, refusal_at, STATE, NOT-TABLE}
use Rattle.refusal.specs.Lists.{pick}
use Rattle.room_judge.specs.Judge.{words_part, is_table}
use Rattle.law_tables.specs.Table.{Table}
use Rattle.law_tables.specs.Whole.{Fit}
use Rattle.room_find.specs.Answer.{said as told}
use Rattle.room_coverage.specs.Coverage.{coverage_of}
use Rattle.room_coverage.specs.OnTable.{coverage_on}
use Rattle.lexer_dfa.specs.Demands.{Accepted, Leaves, CoverageAnswers}
use Rattle.lexer_dfa.specs.CoveredExactly.{covered_on, RoomOf, CoveredExactly}
use Rattle.lexer_dfa.proofs.Decoding.{decode_accepts, decode_refuses}
use Rattle.lexer_dfa.proofs.RoundTrip.{leaves_table, table_leaves, none_left}
use Rattle.lexer_dfa.proofs.TableDecoded.{table_covered}
use Rattle.std.specs.Prelude.{Result}
use Rattle.room_find.specs.declared.Missing.{Missing}

-- The table of a room

-- the lifetimes of a call do not matter here
nowhere : Lfts 2
nowhere = ([], ([], tt))

-- the words for which a room is left have 32 bits
left_fit : {w d : List ℕ} (l : Leaves w d) → Fit l.words.now
left_fit l = subst Fit (sym l.are_words) l.fit

-- an answer is no refusal
ok_no : {l : List ℕ} {k p : ℕ} → ok l ≡ no k p → ⊥
ok_no e = let z : ◌≡◌ {A = ℕ} 0 1 = cc in absurd (omega arith)

-- a room in which decode leaves a table has room for one
left_enough : {w d : List ℕ} (l : Leaves w d) → 16384 ≤ length l.room.now
left_enough {w} {d} l = go (ltb (length l.room.now) 16384) refl
  where
    go : (b : Bool) → ltb (length l.room.now) 16384 ≡ b → 16384 ≤ length l.room.now
    go true i =
        let short = ltb-true (length l.room.now) 16384 i in
        absurd (ok_no (sym l.accepted ∙ ((decode_refuses l.words l.room (left_fit l) l.answer d l.leaves).room 0).1 (refl, short)))
    go false i = ltb-false (length l.room.now) 16384 i

-- and is the room of a table
left_table : {w d : List ℕ} → Leaves w d → (t : Table) × RoomOf t d
left_table {w} {d} l =
    let a : Accepted l.words.now l.modes l.states l.count =
    (decode_accepts l.words l.room (left_fit l) (left_enough l) l.answer d l.leaves l.modes l.states l.count).0 l.accepted in
    (a.table, record { fields = a.fields; rules = a.rules; leaves = subst (λ v. Leaves v d) (sym l.are_words ∙ a.layout) l })

-- of which coverage counts
table_coverage : {t : Table} {d : List ℕ} → RoomOf t d → (s : ℕ) → coverage_of d s ≡ coverage_on t s
table_coverage {t} {d} r s =
    let l = r.leaves in
    table_covered l.words l.room (left_fit l) (left_enough l) l.answer d l.leaves l.modes l.states l.count l.accepted t l.are_words r.fields s

-- a room is left for no words, or is that of a table
room_table : (room : Bor (List ℕ)) → Fit room.now → ((w : List ℕ) → Leaves w room.now → ⊥) ⊎ ((t : Table) × RoomOf t room.now)
room_table room f = go (is_table room.now) refl
  where
    go : (b : Bool) → is_table room.now ≡ b → ((w : List ℕ) → Leaves w room.now → ⊥) ⊎ ((t : Table) × RoomOf t room.now)
    go true i = inr (left_table (table_leaves nowhere room f i))
    go false i = inl (λ w l. false≢true (sym i ∙ (leaves_table l).0))

-- Why coverage says what it says

-- this refusal is given
data Reason (d : List ℕ) (s : ℕ) (r : Refusal) : Type 0 where
  no_table : r ≡ refusal_at NOT-TABLE 0 → ((w : List ℕ) → Leaves w d → ⊥) → Reason d s r
  no_such : r ≡ refusal_at STATE 0 → (t : Table) → RoomOf t d → length t.states ≤ s → Reason d s r

-- of a room d and a state s this is said
abbrev Why : List ℕ → ℕ → Said → Type 0
Why d s (ok l) = (t : Table) × RoomOf t d × (s < length t.states) × (l ≡ covered_on t s ∷ [])
Why d s (no_by r) = Reason d s r

module _ (s : ℕ) where
  says_no_such : {t : Table} {d : List ℕ} → RoomOf t d → length t.states ≤ s → coverage_of d s ≡ no STATE 0
  says_no_such {t} r l = table_coverage r s ∙ ap (λ b. pick b (ok (covered_on t s ∷ [])) (no STATE 0)) (le-ltb s (length t.states) l)

  says_count : {t : Table} {d : List ℕ} → RoomOf t d → s < length t.states → coverage_of d s ≡ ok (covered_on t s ∷ [])
  says_count {t} r l = table_coverage r s ∙ ap (λ b. pick b (ok (covered_on t s ∷ [])) (no STATE 0)) (lt-ltb s (length t.states) l)

  module _ (room : Bor (List ℕ)) (f : Fit room.now) where
    abbrev d : List ℕ
    d = room.now

    says_no_table : ((w : List ℕ) → Leaves w d → ⊥) → coverage_of d s ≡ no NOT-TABLE 0
    unfolding coverage_of
    says_no_table h = rw (none_left d 0 (λ t. h (words_part d) (table_leaves nowhere room f t)))

    why : Why d s (coverage_of d s)
    why = go (room_table room f)
      where
        state : (t : Table) → RoomOf t d → (b : Bool) → ltb s (length t.states) ≡ b → Why d s (coverage_of d s)
        state t r true i = let l = ltb-true s (length t.states) i in subst (Why d s) (sym (says_count r l)) (t, r, l, refl)
        state t r false i = let l = ltb-false s (length t.states) i in subst (Why d s) (sym (says_no_such r l)) (no_such refl t r l)

        go : ((w : List ℕ) → Leaves w d → ⊥) ⊎ ((t : Table) × RoomOf t d) → Why d s (coverage_of d s)
        go (inl h) = subst (Why d s) (sym (says_no_table h)) (no_table refl h)
        go (inr (t, r)) = state t r (ltb s (length t.states)) refl

-- a refusal has one reason
module _ {d : List ℕ} {s : ℕ} where
  by_no_table : {p : ℕ} → Reason d s (refusal_at NOT-TABLE p) → (p ≡ 0) × ((w : List ℕ) → Leaves w d → ⊥)
  by_no_table (no_table i h) = (ap (λ r. r.place) i, h)
  by_no_table (no_such i _ _ _) = let j : NOT-TABLE ≡ STATE = ap (λ r. r.number) i in absurd (omega arith)

  by_no_such : {p : ℕ} → Reason d s (refusal_at STATE p) → (p ≡ 0) × (t : Table) × RoomOf t d × (length t.states ≤ s)
  by_no_such (no_table i _) = let j : STATE ≡ NOT-TABLE = ap (λ r. r.number) i in absurd (omega arith)
  by_no_such (no_such i t r l) = (ap (λ r. r.place) i, t, r, l)

  numbered : {r : Refusal} → Reason d s r → ((r.number ≡ NOT-TABLE) ⊎ (r.number ≡ STATE)) × (r.item ≡ 0)
  numbered (no_table i _) = (inl (ap (λ r. r.number) i), ap (λ r. r.item) i)
  numbered (no_such i _ _ _) = (inr (ap (λ r. r.number) i), ap (λ r. r.item) i)

-- The call, by its own contract. As of the words of decode, that the room's numbers have 32 bits is a premise

-- "Encoding and coverage give NOT-TABLE exactly when the room isn't what decoding leaves for some accepted words"; "how many code points from 0 to 1,114,111
-- are not dead in a given state"
pub coverage_exactly : (room : Bor (List ℕ)) → Fit room.now → (s : ℕ) (x : Result ℕ Missing) → CoverageAnswers room s x → CoveredExactly room.now s (told x)
coverage_exactly room f s x a =
    let d = room.now in
    let y = why s room f in
    subst (CoveredExactly d s) (sym a.2)
    (record {
      not_table = λ p. (λ e. by_no_table (subst (Why d s) e y), λ h. says_no_table s room f h.1 ∙ ap (no NOT-TABLE) (sym h.0));
      no_state = λ p. (λ e. by_no_such (subst (Why d s) e y), λ h. says_no_such s h.2 h.3 ∙ ap (no STATE) (sym h.0));
      counts = λ k. (
        λ e. let r = subst (Why d s) e y in (r.0, r.1, r.2, ap (λ l. get_or l 0 0) r.3),
        λ h. says_count s h.1 h.2 ∙ ap (λ n. ok (n ∷ [])) (sym h.3),
      );
      no_other = λ r e. numbered (subst (Why d s) e y);
    })

-- one table tells it of every state: the room is left for no words, or there is a table whose room it is, and coverage of each state is that of this table
pub coverage_one_table : (room : Bor (List ℕ)) → Fit room.now → ((w : List ℕ) → Leaves w room.now → ⊥)
    ⊎ ((t : Table) × RoomOf t room.now × ((s : ℕ) (x : Result ℕ Missing) → CoverageAnswers room s x → told x ≡ coverage_on t s))
coverage_one_table room f = go (room_table room f)
  where
    go : ((w : List ℕ) → Leaves w room.now → ⊥) ⊎ ((t : Table) × RoomOf t room.now) → ((w : List ℕ) → Leaves w room.now → ⊥)
        ⊎ ((t : Table) × RoomOf t room.now × ((s : ℕ) (x : Result ℕ Missing) → CoverageAnswers room s x → told x ≡ coverage_on t s))
    go (inl h) = inl h
    go (inr (t, r)) = inr (t, r, λ s x a. a.2 ∙ table_coverage r s)
