-- How large the numbers are that decoding says of words: none that the program could not print. Assumes nothing.
use Prim.Native.Nat.{ℕ, zero, suc, ◌+◌, ◌≤◌, ◌<◌}
use native.Mathlib.Omega.{arith}
use mathlib.Core.Path.{◌≡◌, refl, ap, subst, ◌∙◌}
use mathlib.Core.Bool.{Bool, true, false}
use mathlib.Core.List.{List, [], ◌∷◌}
use mathlib.Core.Logic.{◌⊎◌, inl, inr}
use lib.Dec.{ltb}
use lib.ListN.{length, get_or, get_or-eq_default}
use borrow.Author.Tests.{ltb-true, ltb-false}
use Rattle.refusal.specs.Said.{broken_by, no_by, no, INDEX}
use Rattle.std.specs.Prelude.{Ok, Err}
use Rattle.room_decode.specs.Decode.{Decoding, said, decode_of}
use Rattle.law_tables.specs.Table.{words_of}
use Rattle.law_tables.specs.Whole.{Fit}
use Rattle.law_tables.specs.Rules.{Rule, FirstNot, FirstOf, in_order}
use Rattle.law_tables.specs.Fronts.{Forbids}
use Rattle.law_tables.proofs.Codec.{At, at_head}
use Rattle.law_tables.proofs.Placed.{modes_stand, states_stand, runs_stand, ascii_stand, wide_stand, escapes_stand, continuations_stand}
use Rattle.lexer_dfa.specs.RefusedBy.{Breaks}
use Rattle.lexer_dfa.proofs.Decoding.{says_accepted_exactly, says_refused}
use Rattle.tableread.specs.Told.{values, Printable}

-- past the end every word is 0
fit_at : (w : List ℕ) → Fit w → (i : ℕ) → get_or w i 0 < 4294967296
fit_at w f i = go (ltb i (length w)) refl
  where
    go : (b : Bool) → ltb i (length w) ≡ b → get_or w i 0 < 4294967296
    go true e = f i (ltb-true i (length w) e)
    go false e = omega (arith, get_or-eq_default w 0 (ltb-false i (length w) e))

-- so how many records a section has, which its first word counts, is below 2 ^ 32
few : (w : List ℕ) → Fit w → {at n : ℕ} {rest : List ℕ} → At w at (n ∷ rest) → n < 4294967296
few w f {at} a = omega (arith, fit_at w f at, at_head a)

-- the first of a list that does not fit is one of the list
first_not_in : {A : Type 0} (P : ℕ → A → Type 0) (n i : ℕ) (xs : List A) → FirstNot P n xs i → i < n + length xs
unfolding FirstNot
first_not_in P n i [] f = absurd f
first_not_in P n i (x ∷ xs) (inl f) = omega (arith, f.0)
first_not_in P n i (x ∷ xs) (inr f) = omega (arith, first_not_in P (n + 1) i xs f.1)

infixr 2 ◌&◌
abbrev ◌&◌ : {A B : Type 0} → A → B → A × B
a & b = (a, b)

-- where an item breaks any of these rules, it is below a bound
abbrev Under : ℕ → ℕ → List Rule → Type 0
Under i most [] = Unit {0}
Under i most (R ∷ Rs) = (R.fails i → i < most) × Under i most Rs

first_of_in : (n i most : ℕ) {k : ℕ} (Rs : List Rule) → Under i most Rs → FirstOf n Rs k i → (k < n + length Rs) × (i < most)
unfolding FirstOf
first_of_in n i most [] u f = absurd f
first_of_in n i most (R ∷ Rs) u (inl f) = (omega (arith, f.0), u.0 f.1)
first_of_in n i most (R ∷ Rs) u (inr f) = let r = first_of_in (n + 1) i most Rs u.1 f.1 in (omega (arith, r.0), r.1)

-- the rule that a table breaks, and the item that breaks it
broken_small : (w : List ℕ) → Fit w → (k i : ℕ) → Breaks w k i → (k < 10) × (i < 4294967296)
broken_small w f k i (t, h, b, o) = first_of_in 1 i 4294967296 (in_order t) under b
  where
    -- a list is as long as the first word of its section says
    within : {A : Type 0} (P : ℕ → A → Type 0) (xs : List A) {at : ℕ} {rest : List ℕ} → At (words_of t) at (length xs ∷ rest) → FirstNot P 0 xs i
        → i < 4294967296
    within P xs a g = omega (arith, first_not_in P 0 i xs g, few (words_of t) (subst Fit o f) a)

    under : Under i 4294967296 (in_order t)
    under =
        within _ t.modes (modes_stand t) & within _ t.states (states_stand t) & (λ g. omega (arith, g.0)) & within _ t.runs (runs_stand t)
        & within _ t.ascii (ascii_stand t) & within _ t.wide (wide_stand t) & (λ g. omega (arith, g.0)) & within _ t.escapes (escapes_stand t)
        & within _ t.continuations (continuations_stand t) & tt

-- a word that is forbidden is there
forbidden_in : (w : List ℕ) (p : ℕ) → Forbids w p → p < length w
forbidden_in w p (_, _, inl q) = q.0
forbidden_in w p (_, _, inr q) = omega (arith, q.0)

module _ (w : List ℕ) (f : Fit w) (n : ℕ) (enough : 16384 ≤ n) where
  -- the place of a refusal that has no item
  place_small : (k p : ℕ) → 1 ≤ k → k ≤ 7 → said (decode_of w n) ≡ no k p → p ≤ 8192
  place_small zero p a b e = absurd (omega arith)
  place_small (suc zero) p a b e = let q = ((says_refused w n f).short p).0 e in omega (arith, q.0.1, q.1.0)
  place_small (suc (suc zero)) p a b e = omega (arith, (((says_refused w n f).tag p).0 e).1.0)
  place_small (suc (suc (suc zero))) p a b e = let q = ((says_refused w n f).field p).0 e in omega (arith, q.0.1, forbidden_in w p q.1)
  place_small (suc (suc (suc (suc zero)))) p a b e = omega (arith, (((says_refused w n f).limit p).0 e).0)
  place_small (suc (suc (suc (suc (suc zero))))) p a b e = let q = ((says_refused w n f).left p).0 e in omega (arith, q.0.1, q.1.0)
  place_small (suc (suc (suc (suc (suc (suc zero)))))) p a b e = omega (arith, (broken_small w f p 0 (((says_refused w n f).index p 0).0 e).1).0)
  place_small (suc (suc (suc (suc (suc (suc (suc zero))))))) p a b e = omega (arith, (((says_refused w n f).room p).0 e).0)
  place_small (suc (suc (suc (suc (suc (suc (suc (suc k)))))))) p a b e = absurd (omega arith)

  answer_small : (d : Decoding) → decode_of w n ≡ d → Printable (values (said d))
  answer_small (Ok t) e =
      let a = (says_accepted_exactly w n f enough t.modes t.states t.words).0 (ap said e) in
      let whole = a.table in
      let fits = subst Fit a.layout f in
      omega (arith, a.of_modes, few (words_of whole) fits (modes_stand whole)) & omega (arith, a.of_states, few (words_of whole) fits (states_stand whole))
      & omega (arith, a.of_words, a.limit) & tt
  answer_small (Err r) e = go ((says_refused w n f).no_other r (ap said e)).1
    where
      numbered : (1 ≤ r.number) × (r.number ≤ 7)
      numbered = ((says_refused w n f).no_other r (ap said e)).0

      go : (r.item ≡ 0) ⊎ (r.number ≡ INDEX) → Printable (values (no_by r))
      go (inl z) =
          let o : no_by r ≡ no r.number r.place = ap (λ i. no_by (record { number = r.number; item = i; place = r.place })) z in
          let p = place_small r.number r.place numbered.0 numbered.1 (ap said e ∙ o) in
          omega (arith, numbered.1) & omega (arith, p) & omega (arith, z) & tt
      go (inr z) =
          let o : no_by r ≡ no_by (broken_by r.place r.item) = ap (λ k. no_by (record { number = k; item = r.item; place = r.place })) z in
          let b = broken_small w f r.place r.item (((says_refused w n f).index r.place r.item).0 (ap said e ∙ o)).1 in
          omega (arith, numbered.1) & omega (arith, b.0) & omega (arith, b.1) & tt

  pub said_small : Printable (values (said (decode_of w n)))
  said_small = answer_small (decode_of w n) refl
