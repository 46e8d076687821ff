-- The library's search says where a mask of one word stands. ws are the known ones, x is the word. Assumes nothing.
use mathlib.Core.Path.{◌≡◌, refl, sym, ap, ◌∙◌}
use mathlib.Core.List.{List, [], ◌∷◌}
use mathlib.Core.Bool.{Bool, true, false, not, ◌&&◌, cond}
use Prim.Native.Nat.{ℕ, zero, suc, ◌+◌, ◌≤◌}
use native.Mathlib.Omega.{arith}
use borrow.Author.Tests.{lt-ltb, le-ltb}
use lib.Dec.{eqb}
use lib.ListN.{length, get_or, take}
use Rattle.std.specs.Option.{unwrap_or}
use Rattle.std.specs.List.{prefix_len, position}
use Rattle.std.proofs.lemmas.List.{length-take-le}
use Rattle.std.proofs.lemmas.List.Sums.{prefix_len-le-length}
use Rattle.refusal.specs.Lists.{pick, same_list, first_equal}
use Rattle.list_transitions.proofs.Order.{le_cases}
use Rattle.list_masks.specs.Masks.{index}
use Rattle.list_distinct.specs.Walk.{chunks}

module _ (x : ℕ) where
  abbrev other : ℕ → Bool
  other w = not (eqb w x)

  found : (ws : List ℕ) → unwrap_or (position (λ w. eqb w x) ws) (length ws) ≡ prefix_len other ws
  found ws =
      le_cases (length ws) (prefix_len other ws)
      (λ h. rw (le-ltb (prefix_len other ws) (length ws) h) (omega (arith, prefix_len-le-length other ws)))
      (λ h. rw (lt-ltb (prefix_len other ws) (length ws) h) refl)

  same_index : (d : ℕ) (ws : List ℕ) → d ≤ length ws → prefix_len other (take d ws) ≡ index (chunks d 1 ws) (x ∷ [])
  unfolding chunks first_equal same_list
  same_index zero ws h = refl
  same_index (suc d) [] h = absurd (omega arith)
  same_index (suc d) (w ∷ ws) h = go (eqb w x) (same_index d ws (omega arith))
    where
      go : (t : Bool) → prefix_len other (take d ws) ≡ index (chunks d 1 ws) (x ∷ []) →
          cond (not t) (1 + prefix_len other (take d ws)) 0 ≡ pick (t && true) 0 (suc (index (chunks d 1 ws) (x ∷ [])))
      go true e = refl
      go false e = omega arith

  pub word_index : (d : ℕ) (ws : List ℕ) → d ≤ length ws → unwrap_or (position (λ w. eqb w x) (take d ws)) d ≡ index (chunks d 1 ws) (x ∷ [])
  word_index d ws h =
      let l : length (take d ws) ≡ d = length-take-le d ws h in
      ap (λ (n : ℕ). unwrap_or (position (λ w. eqb w x) (take d ws)) n) (sym l) ∙ found (take d ws) ∙ same_index d ws h

-- a list of one number
pub one_number : (m : List ℕ) → length m ≡ 1 → m ≡ get_or m 0 0 ∷ []
one_number [] e = absurd (omega arith)
one_number (x ∷ []) e = refl
one_number (x ∷ y ∷ m) e = absurd (omega arith)
