-- The loop that writes the state counts: a start waits for the one behind it, and the last for the state count. Assumes nothing.
use Prim.Native.Nat.{ℕ, ◌+◌, ◌-◌, ◌<◌, ◌≤◌}
use native.Mathlib.Omega.{arith}
use mathlib.Core.Path.{◌≡◌, refl}
use mathlib.Core.Bool.{Bool, true, false}
use mathlib.Core.List.{List, [], ◌∷◌, ◌++◌, append-nil}
use lib.Dec.{leb}
use lib.ListN.{length, get_or, set, drop}
use borrow.Author.Rules.{rules}
use borrow.Author.Tests.{le-leb, lt-leb}
use Rattle.refusal.specs.Fixed.{NONE}
use Rattle.buffer.specs.Over.{Put}
use Rattle.buffer.proofs.Going.{Going, going_start, going_done, going_room, going_turn, going_put, put_none}
use Rattle.look_mode_lists.proofs.Lists.{opens, closes}
use Rattle.look_mode_lists.specs.Counts.{compiled_of, differences, counts_of, later, gap, step}

-- One mode

module _ (last next m : ℕ) (d : List ℕ) where
  pub gap_place : last ≤ 65535 → m + length (gap last next) ≤ length d → m < length d
  gap_place h k = let q : leb last 65535 ≡ true = le-leb _ _ h in let j = rw q at k in omega (arith, j)

  pub gap-written : {v : ℕ} → last ≤ 65535 → v ≡ next - last → m + length (gap last next) ≤ length d → Put (gap last next) m d (m + 1) (set d m v)
  gap-written {v} h e k =
      let q : leb last 65535 ≡ true = le-leb _ _ h in
      let j : m + length ((next - last) ∷ []) ≤ length d = rw q at k in
      let p = going_done ((next - last) ∷ []) m d (going_put ((next - last) ∷ []) m d [] m d (next - last) (going_start ((next - last) ∷ []) m d j)) in
      rw (q, e) p

  pub gap-none : 65535 < last → Put (gap last next) m d m d
  gap-none h = let q : leb last 65535 ≡ false = lt-leb _ _ h in rw q (put_none m d)

module _ (last x m : ℕ) (d : List ℕ) where
  pub step_room : x ≤ 65535 → m + length (step last x) ≤ length d → m + length (gap last x) ≤ length d
  step_room h k = let q : leb x 65535 ≡ true = le-leb _ _ h in rw q at k

  pub step-written : {r : ℕ} {new : List ℕ} → x ≤ 65535 → Put (gap last x) m d r new → Put (step last x) m d r new
  step-written h p = let q : leb x 65535 ≡ true = le-leb _ _ h in rw q p

  pub step-none : 65535 < x → Put (step last x) m d m d
  step-none h = let q : leb x 65535 ≡ false = lt-leb _ _ h in rw q (put_none m d)

pub ruleset stepping = (rules, gap_place, gap-written, gap-none, step_room, step-written, step-none)

-- All modes

-- what is still to be written, where `last` waits
unfoldable pub gaps_from : ℕ → ℕ → List ℕ → List ℕ
gaps_from c last [] = gap last c
gaps_from c last (x ∷ l) = step last x ++ gaps_from c (later last x) l

-- which is the differences, of the start that waits and those behind it
waiting : (c last : ℕ) (l : List ℕ) → leb last 65535 ≡ true → gaps_from c last l ≡ differences (last ∷ (compiled_of l ++ (c ∷ [])))
unfolding gaps_from differences compiled_of
waiting c last [] h = rw h
waiting c last (x ∷ l) h = cases (leb x 65535) refl (waiting c last l h) (waiting c x l)
  where
    cases : (b : Bool) → leb x 65535 ≡ b → gaps_from c last l ≡ differences (last ∷ (compiled_of l ++ (c ∷ []))) →
        (leb x 65535 ≡ true → gaps_from c x l ≡ differences (x ∷ (compiled_of l ++ (c ∷ [])))) →
        gaps_from c last (x ∷ l) ≡ differences (last ∷ (compiled_of (x ∷ l) ++ (c ∷ [])))
    cases true e r s = rw (e, h, s e)
    cases false e r s = rw (e, r)

gaps_are : (c : ℕ) (l : List ℕ) → gaps_from c NONE l ≡ counts_of c l
unfolding gaps_from differences compiled_of
gaps_are c [] = refl
gaps_are c (x ∷ l) = cases (leb x 65535) refl (gaps_are c l)
  where
    cases : (b : Bool) → leb x 65535 ≡ b → gaps_from c NONE l ≡ counts_of c l → gaps_from c NONE (x ∷ l) ≡ counts_of c (x ∷ l)
    cases true e r = rw (e, waiting c x l e)
    cases false e r = rw (e, r)

gaps_open : (ys : List ℕ) (c last j : ℕ) → j < length ys
    → gaps_from c last (drop j ys) ≡ step last (get_or ys j 0) ++ gaps_from c (later last (get_or ys j 0)) (drop (j + 1) ys)
unfolding gaps_from
gaps_open ys c last j h = rw (opens ys j h)

gaps_done : (ys : List ℕ) (c last j : ℕ) → length ys ≤ j → gaps_from c last (drop j ys) ≡ gap last c
unfolding gaps_from
gaps_done ys c last j h = rw (closes ys j h)

pub gaps-start : (c : ℕ) (l : List ℕ) (d : List ℕ) → 0 + length (counts_of c l) ≤ length d → Going (counts_of c l) 0 d (gaps_from c NONE l) 0 d
gaps-start c l d h = rw (gaps_are c l) (going_start (counts_of c l) 0 d h)

module _ (ys : List ℕ) (c last j : ℕ) {xs : List ℕ} {n : ℕ} {old : List ℕ} {m : ℕ} {out : List ℕ}
    (g : Going xs n old (gaps_from c last (drop j ys)) m out) where
  pub gaps-room : j < length ys → m + length (step last (get_or ys j 0)) ≤ length out
  gaps-room h = going_room xs n old (gaps_from c (later last (get_or ys j 0)) (drop (j + 1) ys)) m out (step last (get_or ys j 0))
      (rw (gaps_open ys c last j h) at g)

  pub gaps_turn : {next r : ℕ} {new : List ℕ} → j < length ys → Put (step last (get_or ys j 0)) m out r new → next ≡ later last (get_or ys j 0)
      → Going xs n old (gaps_from c next (drop (j + 1) ys)) r new
  gaps_turn h p e = rw e (going_turn xs n old (gaps_from c (later last (get_or ys j 0)) (drop (j + 1) ys)) m out (step last (get_or ys j 0)) p
      (rw (gaps_open ys c last j h) at g))

  pub last-room : length ys ≤ j → m + length (gap last c) ≤ length out
  last-room h = let f = rw (gaps_done ys c last j h) at g in omega (arith, f.next, f.size, f.room)

  pub last_written : {r : ℕ} {new : List ℕ} → length ys ≤ j → Put (gap last c) m out r new → Put xs n old r new
  last_written h p = going_done xs n old (going_turn xs n old [] m out (gap last c) p (rw (gaps_done ys c last j h, ← append-nil (gap last c)) at g))

pub ruleset gapping = (rules, gaps-start, gaps-room, gaps_turn, last-room, last_written)
