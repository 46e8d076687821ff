-- Demand 2: "decoding accepts the lists of up to 8,192 words that meet the layout and the nine index rules, and no others": they are the words of
-- the tables that obey the rules. And INDEX names the first rule that a table breaks. For each test judges its rule where the rules before it
-- hold. Assumes nothing.
use mathlib.Core.Path.{◌≡◌, refl, sym, ap, subst, ◌∙◌}
use mathlib.Core.List.{List, [], ◌∷◌}
use mathlib.Core.Bool.{Bool, true, false}
use mathlib.Core.Logic.{inl, inr}
use Prim.Native.Nat.{ℕ, ◌+◌, ◌≤◌, ◌<◌}
use native.Mathlib.Omega.{arith}
use lib.ListN.{length, length-append}
use Rattle.refusal.specs.Lists.{each}
use Rattle.word_reader.specs.declared.Sections.{Sections}
use Rattle.word_layout.specs.Layout.{Layout}
use Rattle.std.specs.Prelude.{Ok, Err}
use Rattle.word_layout.specs.Layout.{layout_of}
use Rattle.rule_words.specs.Rules.{first_broken, first_item, rules, items, broken, broken_item}
use Rattle.law_tables.specs.Table.{Table, State, Fields, state_words, words_of}
use Rattle.law_tables.specs.Whole.{Fit}
use Rattle.law_tables.specs.Places.{sections_of, broken_of, broken_item_of}
use Rattle.law_tables.specs.Rules.{Rules, Rule, FirstOf, in_order, FirstBroken}
use Rattle.law_tables.proofs.Codec.{at_length}
use Rattle.law_tables.proofs.Placed.{states_stand, from_runs, layout_is, found_table}
use Rattle.law_tables.proofs.Judged.{JudgesBy, fails, rule1-judged, rule2-judged, rule3-judged, rule5-judged}
use Rattle.law_tables.proofs.Judged.{rule6-judged, rule7-judged, rule8-judged, rule9-judged}
use Rattle.law_tables.proofs.Classified.{rule4-judged}

-- Tests in order

-- each test, with its item, judges its rule, where the rules before it hold
abbrev Judge : List Bool → List ℕ → List Rule → Type 0
Judge [] is [] = Unit {0}
Judge [] is (R ∷ Rs) = ⊥
Judge (b ∷ bs) is [] = ⊥
Judge (b ∷ bs) [] (R ∷ Rs) = ⊥
Judge (b ∷ bs) (i ∷ is) (R ∷ Rs) = JudgesBy b i R × (R.holds → Judge bs is Rs)

abbrev Hold : List Rule → Type 0
Hold [] = Unit {0}
Hold (R ∷ Rs) = R.holds × Hold Rs

-- no test fails exactly when all rules hold
hold_passed : (n : ℕ) (bs : List Bool) (is : List ℕ) (Rs : List Rule) → Judge bs is Rs → Hold Rs → first_broken n bs ≡ 0
unfolding first_broken
hold_passed n [] is Rs j h = refl
hold_passed n (b ∷ bs) is [] j h = absurd j
hold_passed n (b ∷ bs) [] (R ∷ Rs) j h = absurd j
hold_passed n (b ∷ bs) (i ∷ is) (R ∷ Rs) j h = rw (j.0.judges.told h.0) (hold_passed (n + 1) bs is Rs (j.1 h.0) h.1)

passed_hold : (n : ℕ) (bs : List Bool) (is : List ℕ) (Rs : List Rule) → 0 < n → Judge bs is Rs → first_broken n bs ≡ 0 → Hold Rs
unfolding first_broken
passed_hold n [] is [] p j e = tt
passed_hold n [] is (R ∷ Rs) p j e = absurd j
passed_hold n (b ∷ bs) is [] p j e = absurd j
passed_hold n (b ∷ bs) [] (R ∷ Rs) p j e = absurd j
passed_hold n (true ∷ bs) (i ∷ is) (R ∷ Rs) p j e =
    let r = j.0.judges.says refl in (r, passed_hold (n + 1) bs is Rs (omega arith) (j.1 r) e)
passed_hold n (false ∷ bs) (i ∷ is) (R ∷ Rs) p j e = absurd (omega arith)

-- test k fails first exactly when rule k is the first that is broken, and then its item is the first that breaks it
failed_first : (n k : ℕ) (bs : List Bool) (is : List ℕ) (Rs : List Rule) → 0 < k → Judge bs is Rs → first_broken n bs ≡ k
    → FirstOf n Rs k (first_item bs is)
unfolding first_broken first_item FirstOf
failed_first n k [] is Rs p j e = absurd (omega arith)
failed_first n k (b ∷ bs) is [] p j e = absurd j
failed_first n k (b ∷ bs) [] (R ∷ Rs) p j e = absurd j
failed_first n k (true ∷ bs) (i ∷ is) (R ∷ Rs) p j e = let r = j.0.judges.says refl in inr (r, failed_first (n + 1) k bs is Rs p (j.1 r) e)
failed_first n k (false ∷ bs) (i ∷ is) (R ∷ Rs) p j e = inl (e, j.0.first (fails j.0.judges))

first_failed : (n k m : ℕ) (bs : List Bool) (is : List ℕ) (Rs : List Rule) → Judge bs is Rs → FirstOf n Rs k m
    → (first_broken n bs ≡ k) × (first_item bs is ≡ m)
unfolding first_broken first_item FirstOf
first_failed n k m [] is [] j f = absurd f
first_failed n k m [] is (R ∷ Rs) j f = absurd j
first_failed n k m (b ∷ bs) is [] j f = absurd f
first_failed n k m (b ∷ bs) [] (R ∷ Rs) j f = absurd j
first_failed n k m (true ∷ bs) (i ∷ is) (R ∷ Rs) j (inl f) = absurd (j.0.breaks m f.1 (j.0.judges.says refl))
first_failed n k m (false ∷ bs) (i ∷ is) (R ∷ Rs) j (inl f) = (f.0, j.0.only m f.1)
first_failed n k m (b ∷ bs) (i ∷ is) (R ∷ Rs) j (inr f) = rw (j.0.judges.told f.0) (first_failed (n + 1) k m bs is Rs (j.1 f.0) f.1)

-- The tests of a table

each_long : (ss : List State) → length ss ≤ length (each state_words ss)
unfolding each
each_long [] = omega arith
each_long (s ∷ ss) = omega (arith, each_long ss)

-- rule 4 is judged with state numbers of 16 bits, and a list of 8,192 words has no more states than these number
few_states : (t : Table) → length (words_of t) ≤ 8192 → length t.states ≤ 65536
few_states t l = omega (arith, each_long t.states, at_length (states_stand t), length-append (each state_words t.states) (from_runs t))

abbrev tests_of : Table → List Bool
tests_of t = rules (words_of t) (sections_of t)

abbrev items_of : Table → List ℕ
items_of t = items (words_of t) (sections_of t)

module _ (t : Table) (h : Fields t) (l : length (words_of t) ≤ 8192) where
  -- rule 4 is judged where rules 2 and 3 hold: each run has a state, and that state a row
  tests_judge : Judge (tests_of t) (items_of t) (in_order t)
  tests_judge = (
    rule1-judged t h,
    λ _. (
      rule2-judged t h,
      λ r2. (
        rule3-judged t h,
        λ r3. (
          rule4-judged t h r2 r3 (few_states t l),
          λ _. (
            rule5-judged t h,
            λ _. (rule6-judged t h, λ _. (rule7-judged t h, λ _. (rule8-judged t h, λ _. (rule9-judged t h, λ _. tt)))),
          ),
        ),
      ),
    ),
  )

  -- decoding finds no rule broken exactly when the table obeys all
  pub unbroken_is : (broken_of t ≡ 0 → Rules t) × (Rules t → broken_of t ≡ 0)
  unbroken_is = (
    λ e. let p = passed_hold 1 (tests_of t) (items_of t) (in_order t) (omega arith) tests_judge e in
        record {
          rule1 = p.0;
          rule2 = p.1.0;
          rule3 = p.1.1.0;
          rule4 = p.1.1.1.0;
          rule5 = p.1.1.1.1.0;
          rule6 = p.1.1.1.1.1.0;
          rule7 = p.1.1.1.1.1.1.0;
          rule8 = p.1.1.1.1.1.1.1.0;
          rule9 = p.1.1.1.1.1.1.1.1.0;
        },
    λ r. hold_passed 1 (tests_of t) (items_of t) (in_order t) tests_judge
        (r.rule1, (r.rule2, (r.rule3, (r.rule4, (r.rule5, (r.rule6, (r.rule7, (r.rule8, (r.rule9, tt))))))))),
  )

  -- and finds rule k broken exactly when that is the first that the table breaks, and its item is the first that breaks it
  pub broken_first : (k : ℕ) → 0 < k → broken_of t ≡ k → FirstBroken t k (broken_item_of t)
  broken_first k p = failed_first 1 k (tests_of t) (items_of t) (in_order t) p tests_judge

  pub first_broken_lem : (k i : ℕ) → FirstBroken t k i → (broken_of t ≡ k) × (broken_item_of t ≡ i)
  first_broken_lem k i = first_failed 1 k i (tests_of t) (items_of t) (in_order t) tests_judge

  -- a table that obeys the rules is accepted, with its sections where they stand
  pub obeys_accepted : Rules t → (layout_of (words_of t) ≡ Ok (sections_of t)) × (broken_of t ≡ 0)
  obeys_accepted r = (layout_is t h, unbroken_is.1 r)

-- Words in which a layout is found

-- the number of the first broken rule, by the places that were found
abbrev broken_in : List ℕ → Layout → ℕ
broken_in w (Ok s) = broken w s
broken_in w (Err r) = 0

within : (w : List ℕ) (t : Table) → length w ≤ 8192 → w ≡ words_of t → length (words_of t) ≤ 8192
within w t n e = subst (λ y. length y ≤ 8192) e n

module _ (w : List ℕ) (s : Sections) (f : Fit w) (n : length w ≤ 8192) (l : layout_of w ≡ Ok s) where
  -- they are those of a table, whose rules are judged
  found-judged : (t : Table) × Fields t × (w ≡ words_of t) × (broken_of t ≡ broken w s)
  found-judged =
      let t = found_table w f l in
      (t.0, t.1, t.2, ap (λ y. broken_in y (Ok (sections_of t.0))) (sym t.2) ∙ ap (broken_in w) (sym t.3 ∙ l))

  -- what is accepted is the words of a table that obeys the rules
  pub accepted_obeys : broken w s ≡ 0 → (t : Table) × Fields t × Rules t × (w ≡ words_of t)
  accepted_obeys z = let t = found-judged in (t.0, t.1, (unbroken_is t.0 t.1 (within w t.0 n t.2)).0 (t.3 ∙ z), t.2)
