-- The laws of texts on a page: one behind the other, and by a test. Assumes nothing.
use Prim.Native.Nat.{ℕ, ◌<◌, ◌≤◌}
use mathlib.Core.Path.{◌≡◌, sym, ◌∙◌}
use mathlib.Core.List.{List, [], ◌∷◌, append-nil}
use borrow.Author.Rules.{rules}
use borrow.Author.Tests.{lt-ltb, le-ltb, eq-eqb, ne_eqb}
use Rattle.program_io.specs.Shown.{Shown}
use Rattle.program_io.proofs.Shows.{shown_behind, shown_none}
use Rattle.tableshow.specs.Joined.{joined, if_less, if_same}

-- One behind the other

module _ {a : List ℕ} {n : ℕ} {d : List ℕ} {r : ℕ} {d₁ : List ℕ} where
  joined_1 : Shown a n d r d₁ → Shown (joined (a ∷ [])) n d r d₁
  unfolding joined
  joined_1 p = rw append-nil p

  joined-more : (ts : List (List ℕ)) {q : ℕ} {d₂ : List ℕ} → Shown a n d r d₁ → Shown (joined ts) r d₁ q d₂ →
      Shown (joined (a ∷ ts)) n d q d₂
  unfolding joined
  joined-more ts p q = shown_behind p q

module _ {a b : List ℕ} {n : ℕ} {d : List ℕ} {r : ℕ} {d₁ : List ℕ} {q : ℕ} {d₂ : List ℕ} where
  pub joined_2 : Shown a n d r d₁ → Shown b r d₁ q d₂ → Shown (joined (a ∷ b ∷ [])) n d q d₂
  joined_2 p q = joined-more (b ∷ []) p (joined_1 q)

  module _ {c : List ℕ} {s : ℕ} {d₃ : List ℕ} where
    pub joined_3 : Shown a n d r d₁ → Shown b r d₁ q d₂ → Shown c q d₂ s d₃ → Shown (joined (a ∷ b ∷ c ∷ [])) n d s d₃
    joined_3 p q t = joined-more (b ∷ c ∷ []) p (joined-more (c ∷ []) q (joined_1 t))

    module _ {e : List ℕ} {u : ℕ} {d₄ : List ℕ} where
      pub joined_4 : Shown a n d r d₁ → Shown b r d₁ q d₂ → Shown c q d₂ s d₃ → Shown e s d₃ u d₄ →
          Shown (joined (a ∷ b ∷ c ∷ e ∷ [])) n d u d₄
      joined_4 p q t v = joined-more (b ∷ c ∷ e ∷ []) p (joined-more (c ∷ e ∷ []) q (joined-more (e ∷ []) t (joined_1 v)))

-- By a test

module _ (a b : ℕ) (xs ys : List ℕ) {n : ℕ} {d : List ℕ} {r : ℕ} {new : List ℕ} where
  pub if_less_lem : a < b → Shown xs n d r new → Shown (if_less a b xs ys) n d r new
  unfolding if_less
  if_less_lem h p = rw (lt-ltb a b h) p

  pub if_not_less : b ≤ a → Shown ys n d r new → Shown (if_less a b xs ys) n d r new
  unfolding if_less
  if_not_less h p = rw (le-ltb a b h) p

  pub if_same_lem : a ≡ b → Shown xs n d r new → Shown (if_same a b xs ys) n d r new
  unfolding if_same
  if_same_lem h p = rw (eq-eqb a b h) p

  pub if_not_same : (a ≡ b → ⊥) → Shown ys n d r new → Shown (if_same a b xs ys) n d r new
  unfolding if_same
  if_not_same h p = rw (ne_eqb a b h) p

  -- where the test is on a number k that is a
  pub if_same_as : (k : ℕ) → k ≡ a → k ≡ b → Shown xs n d r new → Shown (if_same a b xs ys) n d r new
  if_same_as k e h p = if_same_lem (sym e ∙ h) p

  pub if_not_same_as : (k : ℕ) → k ≡ a → (k ≡ b → ⊥) → Shown ys n d r new → Shown (if_same a b xs ys) n d r new
  if_not_same_as k e h p = if_not_same (λ i. h (e ∙ i)) p

pub ruleset shows = (rules, joined_2, joined_3, joined_4, if_less_lem, if_not_less, if_same_lem, if_not_same, if_same_as, if_not_same_as, shown_none)
