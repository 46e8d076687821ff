-- What the call answers and leaves in the buffer, part by part: d is the buffer of zeros, new what it holds at the end. Assumes nothing.
use Prim.Native.Nat.{ℕ, suc, ◌+◌, ◌-◌, ◌<◌, ◌≤◌}
use native.Mathlib.Omega.{arith}
use mathlib.Core.Path.{◌≡◌, refl, sym, ap, ◌∙◌}
use mathlib.Core.Bool.{true, false}
use mathlib.Core.List.{List, [], ◌∷◌, ◌++◌}
use lib.Dec.{ltb}
use lib.ListN.{length, take, drop, length-append}
use borrow.Author.Rules.{rules}
use borrow.Author.Tests.{lt-ltb, le-ltb}
use Rattle.std.specs.Prelude.{Option, Some, None}
use Rattle.refusal.specs.Said.{ok, ROOM, NOT-TABLE, ORDER}
use Rattle.buffer.specs.Over.{Put, zeros}
use Rattle.std.specs.Prelude.{Result, Ok, Err}
use Rattle.room_find.specs.declared.Missing.{Missing}
use Rattle.room_find.specs.declared.Span.{Span}
use Rattle.room_find.specs.Answer as answer
use Rattle.look_modes.specs.Modes.{state_count, modes_up_to, of_modes}
use Rattle.look_modes.proofs.Numbers.{part_is}
use Rattle.look_modes.proofs.AllModesLaws.{modes_lie}
use Rattle.look_mode_lists.specs.Written.{refused, Writes}
use Rattle.std.specs.List.{count_by}
use Rattle.look_modes.specs.Start.{compiled}
use Rattle.look_mode_lists.proofs.Walks.{compiled_counted, descent_at, no_descent}
use Rattle.look_mode_lists.proofs.Lists.{written, unwritten, cleared_length, cleared}
use Rattle.look_mode_lists.specs.Counts.{compiled_of, differences, counts_of, descent, first_descent, counts_for, limit_of, counts_with, asked, mode_state_counts}
use Rattle.refusal.specs.declared.Refusal.{Refusal}

differences-length : (x : ℕ) (l : List ℕ) → length (differences (x ∷ l)) ≡ length l
unfolding differences
differences-length x [] = refl
differences-length x (y ∷ l) = ap suc (differences-length y l)

counts_length : (c : ℕ) (l : List ℕ) → length (differences (l ++ (c ∷ []))) ≡ length l
unfolding differences
counts_length c [] = refl
counts_length c (x ∷ l) = differences-length x (l ++ (c ∷ [])) ∙ length-append l (c ∷ []) ∙ (omega arith)

module _ (l : List ℕ) (c : ℕ) {k : ℕ} (e : k ≡ count_by compiled l) where
  pub counts_fit : {n : ℕ} → k ≤ n → 0 + length (counts_of c l) ≤ n
  counts_fit h = omega (arith, counts_length c (compiled_of l), compiled_counted l)

  pub counts_room : (n : ℕ) {r : Result ℕ Refusal} {new : List ℕ} → n < k → Writes r n new (refused ROOM 0) → Writes r n new (counts_for n c l)
  unfolding counts_for
  counts_room n h g = let q : ltb n (length (compiled_of l)) ≡ true = lt-ltb n (length (compiled_of l)) (omega (arith, compiled_counted l)) in rw q g

  pub counts_order : (n : ℕ) {p : ℕ} {got : Option ℕ} {r : Result ℕ Refusal} {new : List ℕ} → k ≤ n → got ≡ first_descent l → got ≡ Some p → Writes r n new (refused ORDER p)
      → Writes r n new (counts_for n c l)
  unfolding counts_for
  counts_order n {p} h u f g =
      let d = descent_at l p (sym u ∙ f) in
      let q : ltb n (length (compiled_of l)) ≡ false = le-ltb n (length (compiled_of l)) (omega (arith, compiled_counted l)) in
      let s : ltb (descent 0 l) (length l) ≡ true = lt-ltb (descent 0 l) (length l) (omega (arith, d.0, d.1)) in
      rw (q, s, ← d.1) g

  pub counts_written : (d : List ℕ) {got : Option ℕ} {r : ℕ} {new : List ℕ} → k ≤ length d → got ≡ first_descent l → got ≡ None → d ≡ zeros (length d) → Put (counts_of c l) 0 d r new
      → Writes (Ok r) (length d) new (counts_for (length d) c l)
  unfolding counts_for
  counts_written d h u i z g =
      let q : ltb (length d) (length (compiled_of l)) ≡ false = le-ltb (length d) (length (compiled_of l)) (omega (arith, compiled_counted l)) in
      let s : ltb (descent 0 l) (length l) ≡ false = le-ltb (descent 0 l) (length l) (no_descent l (sym u ∙ i)) in
      let b : length (counts_of c l) ≤ length d = omega (arith, counts_length c (compiled_of l), compiled_counted l) in
      rw (q, s) (written (counts_of c l) d b z g)

pub ruleset listing = (rules, unwritten, counts_fit, counts_room, counts_order, counts_written)

-- The modes are found, or outside

module _ (w : List ℕ) (n c : ℕ) {k : ℕ} {got : Result Span Missing} {r : Result ℕ Refusal} {new : List ℕ} (g : got ≡ modes_up_to w k) (e : k ≡ limit_of c) where
  pub counts_there : {t : Span} → got ≡ Ok t → Writes r n new (counts_for n c (take (t.from + t.length - t.from) (drop t.from w))) → Writes r n new (counts_with w n c)
  unfolding counts_with of_modes
  counts_there {t} h l =
      let q : modes_up_to w (limit_of c) ≡ Ok t = ap (modes_up_to w) (sym e) ∙ sym g ∙ h in
      rw q (rw (part_is w t.length t.from (modes_lie w k g h)) at l)

  pub counts_outside : {m : Missing} → got ≡ Err m → Writes r n new (refused NOT-TABLE 0) → Writes r n new (counts_with w n c)
  unfolding counts_with of_modes
  counts_outside h l = let q : modes_up_to w (limit_of c) ≡ _ = ap (modes_up_to w) (sym e) ∙ sym g ∙ h in rw q l

-- The count of states is asked for, once the buffer is cleared

module _ (old : List ℕ) {d : List ℕ} (z : d ≡ zeros (length old)) (w : List ℕ) {r : Result ℕ Refusal} {new : List ℕ} {x : Result ℕ Missing}
    (g : answer.said x ≡ state_count w) where
  pub counts_asked : {c : ℕ} → x ≡ Ok c → Writes r (length d) new (counts_with w (length d) c) → Writes r (length old) new (mode_state_counts w (length old))
  unfolding asked
  counts_asked e l = let q : state_count w ≡ ok (_ ∷ []) = sym g ∙ ap answer.said e in rw (q, ← cleared_length old z) l

pub ruleset answers = (rules, modes_lie, unwritten, counts_there, counts_outside, cleared, counts_asked)
