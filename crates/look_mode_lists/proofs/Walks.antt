-- The laws of the loops over the modes that count the compiled ones, and look for a descent. Assumes nothing.
use Prim.Native.Nat.{ℕ, suc, ◌+◌, ◌<◌, ◌≤◌}
use native.Mathlib.Omega.{arith}
use mathlib.Core.Path.{◌≡◌, refl}
use mathlib.Core.Bool.{Bool, true, false, cond}
use mathlib.Core.List.{List, ◌∷◌}
use lib.Dec.{ltb, leb}
use lib.ListN.{length, get_or, drop}
use Rattle.std.specs.Prelude.{Some, None}
use Rattle.std.specs.List.{count_by}
use Rattle.std.proofs.lemmas.List.Recursion.{is_count_by}
use borrow.Author.Rules.{rules}
use borrow.Author.Tests.{lt-ltb, le-ltb, ltb-true, ltb-false}
use Rattle.refusal.specs.Lists.{pick}
use Rattle.look_mode_lists.proofs.Lists.{opens, closes}
use Rattle.look_modes.specs.Start.{compiled}
use Rattle.look_mode_lists.specs.Counts.{compiled_of, later, descent, first_descent}

-- Compiled modes that are counted
pub compiled_counted : (l : List ℕ) → length (compiled_of l) ≡ count_by compiled l
unfolding compiled_of
compiled_counted = is_count_by (λ (l : List ℕ). length (compiled_of l)) compiled refl (λ x l. one (leb x 65535) x l)
  where
    one : (b : Bool) (x : ℕ) (l : List ℕ) → length (pick b (x ∷ compiled_of l) (compiled_of l)) ≡ cond b (1 + length (compiled_of l)) (length (compiled_of l))
    one true x l = omega arith
    one false x l = refl

-- A descent that is looked for

pub descent_found : (l : List ℕ) (p : ℕ) → p < length l → p ≡ descent 0 l → Some p ≡ first_descent l
unfolding first_descent
descent_found l p h e = rw (← e, lt-ltb p (length l) h)

pub descent_missing : (l : List ℕ) → length l ≤ descent 0 l → None ≡ first_descent l
unfolding first_descent
descent_missing l h = rw (le-ltb (descent 0 l) (length l) h)

pub descent_at : (l : List ℕ) (p : ℕ) → first_descent l ≡ Some p → (p < length l) × (p ≡ descent 0 l)
unfolding first_descent
descent_at l p e = go (ltb (descent 0 l) (length l)) refl e
  where
    go : (b : Bool) → ltb (descent 0 l) (length l) ≡ b → pick b (Some (descent 0 l)) None ≡ Some p → (p < length l) × (p ≡ descent 0 l)
    go true t k = let q : descent 0 l ≡ p = cc in (omega (arith, ltb-true _ _ t), omega arith)
    go false t k = cc

pub no_descent : (l : List ℕ) → first_descent l ≡ None → length l ≤ descent 0 l
unfolding first_descent
no_descent l e = go (ltb (descent 0 l) (length l)) refl e
  where
    go : (b : Bool) → ltb (descent 0 l) (length l) ≡ b → pick b (Some (descent 0 l)) None ≡ None → length l ≤ descent 0 l
    go true t k = cc
    go false t k = ltb-false _ _ t

module _ (ys : List ℕ) (j k last : ℕ) {all : ℕ} (i : k + descent last (drop j ys) ≡ all) where
  pub descent_turn : {next : ℕ} → j < length ys → last ≤ get_or ys j 0 → next ≡ later last (get_or ys j 0)
      → k + 1 + descent next (drop (j + 1) ys) ≡ all
  unfolding descent
  descent_turn {next} h t e =
      let q : ltb (get_or ys j 0) last ≡ false = le-ltb _ _ t in
      let o : descent last (drop j ys) ≡ suc (descent (later last (get_or ys j 0)) (drop (j + 1) ys)) =
      rw (opens ys j h, q) in
      let s : descent next (drop (j + 1) ys) ≡ descent (later last (get_or ys j 0)) (drop (j + 1) ys) = rw e in
      omega arith

  pub descent_here : j < length ys → get_or ys j 0 < last → k ≡ all
  unfolding descent
  descent_here h t =
      let q : ltb (get_or ys j 0) last ≡ true = lt-ltb _ _ t in
      let o : descent last (drop j ys) ≡ 0 = rw (opens ys j h, q) in
      omega arith

  pub descent-none : length ys ≤ j → k ≡ all
  unfolding descent
  descent-none h = let o : descent last (drop j ys) ≡ 0 = rw (closes ys j h) in omega arith

pub ruleset descending = (rules, descent_turn, descent_here, descent-none)
