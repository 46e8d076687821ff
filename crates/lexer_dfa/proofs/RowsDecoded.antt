-- DEMAND 3 in a table: rows that were built stand in a table whose words were decoded, and the calls that look up a target and a continuation in its room
-- answer what was given for the transitions that hold the point. Assumes nothing.
use Prim.Native.Nat.{ℕ, ◌≤◌, ◌<◌}
use mathlib.Core.Path.{◌≡◌, sym, ap, subst, ◌∙◌}
use mathlib.Core.Bool.{Bool}
use mathlib.Core.List.{List, [], ◌∷◌}
use lib.ListN.{length}
use Rattle.std.specs.Borrow.{Bor, MutBor}
use borrow.Author.Tests.{lt-ltb}
use Rattle.refusal.specs.Said.{Said, ok, no, STATE}
use Rattle.refusal.specs.Lists.{pick}
use Rattle.room_find.proofs.Answers.{said_one}
use Rattle.room_decode.specs.Decode.{said}
use Rattle.law_tables.specs.Table.{Table, words_of, Fields}
use Rattle.law_tables.specs.Whole.{Fit}
use Rattle.law_lookups.specs.Looks.{of_state, Looks}
use Rattle.lexer_dfa.specs.Demands.{DecodeAnswers}
use Rattle.lexer_dfa.specs.Demand3.{RowArgs, RowsLeft, BuildAnswers, target_at, cont_at, Placed, Dead, RowsIn}
use Rattle.lexer_dfa.specs.RowsDecoded.{PlacedAs, DeadAs, TargetAnswers, ContinuationAnswers, BothAnswer, LookedUp}
use Rattle.lexer_dfa.proofs.TableDecoded.{state_there, table_looked}
use Rattle.lexer_dfa.proofs.Demand3.{rows_in_table}
use Rattle.lexer_dfa.proofs.RowsOf.{built_kept}
use Rattle.std.specs.Prelude.{Result, Ok}
use Rattle.room_decode.specs.Decode.{Decoding}
use Rattle.room_find.specs.declared.Missing.{Missing}

-- what is placed in the buffers is so of what is looked up there
placed_as : {w targets conts : List ℕ} {n m : ℕ} {l : RowsLeft} {p : ℕ} → Placed w targets conts n m l p →
    PlacedAs w targets conts l.distinct p (target_at l n p) (cont_at l m p)
placed_as h = record {
  place = h.place;
  within = h.within;
  exactly = h.exactly;
  alone = h.alone;
  target = h.target;
  cont_dead = h.cont_dead;
  cont_live = h.cont_live;
}

dead_as : {n m : ℕ} {l : RowsLeft} {p : ℕ} → Dead n m l p → DeadAs (target_at l n p) (cont_at l m p)
dead_as h = record { target = h.target; cont = h.cont }

-- the rows stand in a table as those of a state that it has, and a room gives what the table says
module _ (a : RowArgs) (n m : ℕ) (l : RowsLeft) (b : BuildAnswers a (Ok (record { wide = n; escape = m })) l) (t : Table) (s : ℕ) (there : s < length t.states)
    (rows : RowsIn t s n m l) (room : Bor (List ℕ)) (looks : Looks t room.now) where
  of_state_lem : (k : ℕ) → of_state t s k ≡ ok (k ∷ [])
  of_state_lem k = ap {B = Said} (λ (c : Bool). pick c (ok (k ∷ [])) (no STATE 0)) (lt-ltb s (length t.states) there)

  target_told : (p : ℕ) (x : Result ℕ Missing) → TargetAnswers room s p x → x ≡ Ok (target_at l n p)
  target_told p x q =
      said_one x (Ok (target_at l n p)) (q.2 ∙ looks.char_target_lem s p ∙ (rows_in_table a n m l b t s rows).target p ∙ of_state_lem (target_at l n p))

  cont_told : (p : ℕ) (x : Result ℕ Missing) → ContinuationAnswers room s p x → x ≡ Ok (cont_at l m p)
  cont_told p x q =
      said_one x (Ok (cont_at l m p)) (q.2 ∙ looks.char_continuation_lem s p ∙ (rows_in_table a n m l b t s rows).cont p ∙ of_state_lem (cont_at l m p))

  both : (p : ℕ) (P : ℕ → ℕ → Type 0) {n' m' : ℕ} → n' ≡ n → m' ≡ m → P (target_at l n' p) (cont_at l m' p) → BothAnswer room s p P
  both p P {n'} {m'} i j h x y c d = (
    target_at l n p,
    cont_at l m p,
    target_told p x c,
    cont_told p y d,
    subst (λ (k : ℕ). P (target_at l n p) (cont_at l k p)) j (subst (λ (k : ℕ). P (target_at l k p) (cont_at l m' p)) i h),
  )

  looked_up : LookedUp a.list.now a.targets.now a.conts.now l.distinct room s
  looked_up =
      let k = built_kept a n m l b in
      let e = k.answer in
      let i : k.wide ≡ n = cc in
      let j : k.escape ≡ m = cc in
      record {
        held = λ p h q r u. both p (PlacedAs a.list.now a.targets.now a.conts.now l.distinct p) i j (placed_as (k.held p h q r u));
        unheld = λ p h none. both p DeadAs i j (dead_as (k.unheld p h none));
      }

-- THEOREM: rows were built; the words of a table t, whose fields are allowed, were decoded; and the rows are those of its state s. Then in any room that has
-- the numbers that decode left, `char_target` and `char_continuation` answer at each point the target and the continuation given for exactly the transitions
-- that hold it, and dead and NONE where none does. Words tell their table, so that t is the one that was decoded
pub rows_decoded : (a : RowArgs) (n m : ℕ) (l : RowsLeft) → BuildAnswers a (Ok (record { wide = n; escape = m })) l →
    (words : Bor (List ℕ)) (room : MutBor (List ℕ)) → Fit words.now → 16384 ≤ length room.now → (x : Decoding) (left : List ℕ) →
    DecodeAnswers words room x left →
    (modes states count : ℕ) → said x ≡ ok (modes ∷ states ∷ count ∷ []) →
    (t : Table) → words.now ≡ words_of t → Fields t → (s : ℕ) → s < states → RowsIn t s n m l →
    (lent : Bor (List ℕ)) → lent.now ≡ left → LookedUp a.list.now a.targets.now a.conts.now l.distinct lent s
rows_decoded a n m l b words room f enough x left d modes states count e t is h s there rows lent now =
    let within : s < length t.states = state_there words room f enough x left d modes states count e t is h s there in
    looked_up a n m l b t s within rows lent (subst (Looks t) (sym now) (table_looked words room f enough x left d modes states count e t is h).0)
