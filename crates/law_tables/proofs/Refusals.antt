-- Document 01's table of refusals, for the layout: SHORT, TAG, FIELD and LEFT are given exactly when it says, and no other number is. The whole's
-- reading is judged so, and the layout agrees with it. Assumes nothing.
use mathlib.Core.Path.{◌≡◌, refl, sym, ap, subst, ◌∙◌}
use mathlib.Core.List.{List}
use mathlib.Core.Bool.{Bool, true, false}
use mathlib.Core.Logic.{◌⊎◌, inl, inr}
use Prim.Native.Nat.{ℕ, ◌≤◌, ◌<◌}
use native.Mathlib.Omega.{arith}
use lib.Dec.{ltb}
use lib.ListN.{length, length-append}
use borrow.Author.Tests.{ltb-true, ltb-false, lt-ltb, le-ltb}
use Rattle.refusal.specs.declared.Refusal.{Refusal}
use Rattle.refusal.specs.Said.{ok, refusal_at, SHORT, TAG, FIELD, LEFT}
use Rattle.refusal.specs.Lists.{pick}
use Rattle.word_reader.specs.Parse.{Place}
use Rattle.std.specs.Prelude.{Ok, Err}
use Rattle.word_reader.specs.Parse.{refused}
use Rattle.word_layout.specs.Layout.{Layout}
use Rattle.word_layout.specs.Layout.{said, unfound, layout_of}
use Rattle.law_tables.specs.Table.{words_of}
use Rattle.law_tables.specs.Whole.{Fit}
use Rattle.law_tables.specs.Fronts.{EndsInside, Differs, Forbids, IsTable, Opens, Refusals}
use Rattle.law_tables.proofs.Whole.{whole_at}
use Rattle.law_tables.proofs.Accepted.{words_accepted, accepted_words}
use Rattle.law_tables.proofs.Agree.{as_place, to_last, agree}
use Rattle.law_tables.proofs.Fronts.{one_way, Reason, ends, differs, forbids, judged, Judged, opens_read}
use Rattle.law_tables.proofs.Fronts.{differs-tag, three_cut, front-short, forbids_field}

-- What the layout's answer says

opens_inside : (w : List ℕ) (p : ℕ) → Opens w p → p ≤ length w
opens_inside w p (t, more, h, o, e) = omega (arith, ap length o, length-append (words_of t) more)

module _ (w : List ℕ) (f : Fit w) where
  abbrev Why : Refusal → Type 0
  Why r = Reason w r ⊎ ((r ≡ refusal_at LEFT r.place) × (r.place < length w) × Opens w r.place)

  abbrev Closed : Place → Type 0
  Closed (Ok p) = IsTable w
  Closed (Err r) = Why r

  closes : (x : Place) → Judged w x → Closed (to_last w x)
  closes (Err r) j = inl j
  closes (Ok p) o = go (ltb p (length w)) refl
    where
      go : (b : Bool) → ltb p (length w) ≡ b → Closed (pick b (refused LEFT p) (Ok (length w)))
      go true u = inr (refl, ltb-true p (length w) u, o)
      go false u = let i : p ≡ length w = omega (arith, ltb-false p (length w) u, opens_inside w p o) in accepted_words w f (opens_read w p o ∙ ap Ok i)

  says : (s : Layout) → layout_of w ≡ s → Closed (as_place w s)
  says s e = subst Closed (sym (agree w) ∙ ap (as_place w) e) (closes (whole_at w) (judged w f))

  -- what is given for each number
  abbrev Given : ℕ → ℕ → Type 0
  Given n p = (n ≡ SHORT → (p ≡ length w) × EndsInside w) × (n ≡ TAG → (p ≡ 0) × Differs w) × (n ≡ FIELD → Forbids w p)
      × (n ≡ LEFT → (p < length w) × Opens w p)

  given : {n p : ℕ} → Why (refusal_at n p) → Given n p
  given {n} (inl (ends i h)) =
      let k : n ≡ SHORT = ap (λ r. r.number) i in
      (λ _. (ap (λ r. r.place) i, h), λ j. absurd (omega arith), λ j. absurd (omega arith), λ j. absurd (omega arith))
  given {n} (inl (differs i h)) =
      let k : n ≡ TAG = ap (λ r. r.number) i in
      (λ j. absurd (omega arith), λ _. (ap (λ r. r.place) i, h), λ j. absurd (omega arith), λ j. absurd (omega arith))
  given {n} (inl (forbids i h)) =
      let k : n ≡ FIELD = ap (λ r. r.number) i in
      (λ j. absurd (omega arith), λ j. absurd (omega arith), λ _. h, λ j. absurd (omega arith))
  given {n} (inr (i, h, o)) =
      let k : n ≡ LEFT = ap (λ r. r.number) i in
      (λ j. absurd (omega arith), λ j. absurd (omega arith), λ j. absurd (omega arith), λ _. (h, o))

  -- no other number is given, and no item
  numbered : {r : Refusal} → Why r → ((r.number ≡ SHORT) ⊎ (r.number ≡ TAG) ⊎ (r.number ≡ FIELD) ⊎ (r.number ≡ LEFT)) × (r.item ≡ 0)
  numbered (inl (ends i _)) = (inl (ap (λ r. r.number) i), ap (λ r. r.item) i)
  numbered (inl (differs i _)) = (inr (inl (ap (λ r. r.number) i)), ap (λ r. r.item) i)
  numbered (inl (forbids i _)) = (inr (inr (inl (ap (λ r. r.number) i))), ap (λ r. r.item) i)
  numbered (inr (i, _, _)) = (inr (inr (inr (ap (λ r. r.number) i))), ap (λ r. r.item) i)

  found_table : (s : Layout) (l : List ℕ) → layout_of w ≡ s → said s ≡ ok l → IsTable w
  found_table (Ok q) l e h = says _ e
  found_table (Err r) l e h = let z : ◌≡◌ {A = ℕ} 0 1 = cc in absurd (omega arith)

  -- The other way: the whole's reading gives the layout's answer

  unfound_as : {n p : ℕ} → to_last w (whole_at w) ≡ refused n p → layout_of w ≡ unfound n p
  unfound_as {n} {p} e = go (layout_of w) (agree w ∙ e)
    where
      go : (s : Layout) → as_place w s ≡ refused n p → s ≡ unfound n p
      go (Ok q) h = absurd (one_way h refl)
      go (Err q) h = cc

  ends-short : EndsInside w → layout_of w ≡ unfound SHORT (length w)
  ends-short (inl h) = unfound_as (ap (to_last w) (front-short w f h))
  ends-short (inr (p, h, k, _, t)) = unfound_as (ap (to_last w) (three_cut w p h k t))

  table_found : IsTable w → (l : List ℕ) × (said (layout_of w) ≡ ok l)
  table_found (t, h, e) =
      let i = ap whole_at e ∙ words_accepted t h ∙ ap (λ l. Ok (length l)) (sym e) in
      go (layout_of w) (agree w ∙ ap (to_last w) i ∙ (rw (le-ltb (length w) (length w) (omega arith))))
    where
      go : (s : Layout) → as_place w s ≡ Ok (length w) → (l : List ℕ) × (said s ≡ ok l)
      go (Ok q) e = (_, refl)
      go (Err q) e = absurd (one_way refl e)

  pub refusals : Refusals w
  refusals = record {
    found = (λ h. found_table (layout_of w) h.0 refl h.1, table_found);
    short = λ p. (λ e. (given (says _ e)).0 refl, λ h. ends-short h.1 ∙ ap (unfound SHORT) (sym h.0));
    differs = λ p. (λ e. (given (says _ e)).1 refl, λ h. unfound_as (ap (to_last w) (differs-tag w h.1)) ∙ ap (unfound TAG) (sym h.0));
    field = λ p. (λ e. (given (says _ e)).2 refl, λ h. unfound_as (ap (to_last w) (forbids_field w p f h)));
    left = λ p. (λ e. (given (says _ e)).3 refl, λ h. unfound_as (ap (to_last w) (opens_read w p h.1) ∙ (rw (lt-ltb p (length w) h.0))));
    no_other = λ r e. numbered (says _ e);
  }
