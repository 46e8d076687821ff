-- Demand 1 for pools, by the two calls' own contracts: a row is answered, appended or refused exactly when the paper says so, and the pool stays as it stood
-- but for an appended row. Once for both kinds of row: w is the pool, n how many rows are stated to stand in it, row the one that is interned. Assumes nothing.
use Prim.Native.Nat.{ℕ, ◌+◌, ◌≤◌, ◌<◌}
use native.Mathlib.Omega.{arith}
use mathlib.Core.Path.{◌≡◌, refl, sym, ap, subst, ◌∙◌}
use mathlib.Core.Bool.{Bool, true, false, false≢true}
use mathlib.Core.List.{List, [], ◌∷◌, ◌++◌}
use mathlib.Core.Logic.{◌⊎◌, inl, inr}
use lib.Dec.{eqb}
use lib.ListN.{length, get_or, drop}
use lib.Seq.{take_at, drop_at}
use Rattle.std.specs.Borrow.{Bor, MutBor}
use borrow.Author.Tests.{lt-ltb, le-ltb}
use Rattle.refusal.specs.declared.Refusal.{Refusal}
use Rattle.refusal.specs.Said.{Said, ok, no, no_by, FIELD, ROOM, NOT-TABLE}
use Rattle.refusal.specs.Lists.{each}
use Rattle.buffer.specs.Over.{lay}
use Rattle.buffer.proofs.Overs.{over-front}
use Rattle.law_tables.specs.Whole.{Fit}
use Rattle.list_transitions.proofs.Order.{le_cases}
use Rattle.pool_rows.specs.Pools.{Kind, ascii, wide, standing, rows_from, after_rows, good, countable, Outcome, found, appended, refused}
use Rattle.pool_rows.specs.Pools.{append, first_in, find_or_append, intern, said, outcome_said, left_in}
use Rattle.lexer_dfa.specs.PoolsRefused.{Stand, RowAllowed, FirstEqual, NoneEqual, CanTake, InternedBy, InternAsciiAnswers, InternWideAnswers}
use Rattle.lexer_dfa.proofs.Saying.{values_of, no_answer, by_refusal, by_number, choose}
use Rattle.lexer_dfa.proofs.PoolRows.{stand_rows, stand_end, stand_after, stands, good_allowed, allowed_good}
use Rattle.lexer_dfa.proofs.PoolRows.{first_there, none-there, first_one, takes, took, can_count, uncounted}
use Rattle.std.specs.Prelude.{Result}

-- numbers that are laid behind others, over what stood there
laid_behind : (front rest new : List ℕ) (n : ℕ) → length front ≡ n → length new ≤ length rest
    → lay n new (front ++ rest) ≡ front ++ (new ++ drop (length new) rest)
unfolding lay
laid_behind front rest new n e h =
    rw (take_at front rest n e, drop_at front rest n e) (ap (λ (x : List ℕ). front ++ x) (over-front new rest h))

module _ (k : Kind) (w : List ℕ) (n : ℕ) (row : List ℕ) where
  -- What interning comes to, by what stands

  abbrev end : ℕ
  end = after_rows k w n 0

  abbrev whole : List ℕ
  whole = standing k row

  not_in : length w < end → intern k w n row ≡ refused NOT-TABLE
  unfolding intern
  not_in h = rw (lt-ltb (length w) end h)

  module _ (h : end ≤ length w) where
    not_good : good k row ≡ false → intern k w n row ≡ refused FIELD
    unfolding intern
    not_good g = rw (le-ltb (length w) end h, g)

    module _ (g : good k row ≡ true) where
      too_many : countable k row ≡ false → intern k w n row ≡ refused ROOM
      unfolding intern
      too_many c = rw (le-ltb (length w) end h, g, c)

      module _ (c : countable k row ≡ true) where
        sought : intern k w n row ≡ find_or_append k w n row
        unfolding intern
        sought = rw (le-ltb (length w) end h, g, c)

        is_found : first_in k w n row < n → intern k w n row ≡ found (first_in k w n row)
        unfolding find_or_append
        is_found l = sought ∙ (rw (lt-ltb (first_in k w n row) n l))

        is_new : n ≤ first_in k w n row → intern k w n row ≡ append k w n row
        unfolding find_or_append
        is_new l = sought ∙ (rw (le-ltb (first_in k w n row) n l))

        no_room : n ≤ first_in k w n row → length w < end + length whole → intern k w n row ≡ refused ROOM
        unfolding append
        no_room l m = is_new l ∙ (rw (lt-ltb (length w) (end + length whole) m))

        is_appended : n ≤ first_in k w n row → end + length whole ≤ length w → intern k w n row ≡ appended n whole end
        unfolding append
        is_appended l m = is_new l ∙ (rw (le-ltb (length w) (end + length whole) m))

  -- Why it comes to it

  abbrev None : Type 0
  None = (s : Stand k w n) → NoneEqual s.rows whole

  data Why (g : Outcome) : Type 0 where
    outside : (Stand k w n → ⊥) → g ≡ refused NOT-TABLE → Why g
    bad : Stand k w n → (RowAllowed k row → ⊥) → g ≡ refused FIELD → Why g
    full : Stand k w n → RowAllowed k row → None → ((s : Stand k w n) → CanTake k s.rest row → ⊥) → g ≡ refused ROOM → Why g
    there : (i : ℕ) → i < n → Stand k w n → RowAllowed k row → ((s : Stand k w n) → FirstEqual s.rows whole i) → g ≡ found i → Why g
    new : Stand k w n → RowAllowed k row → None → ((s : Stand k w n) → CanTake k s.rest row) → g ≡ appended n whole end → Why g

  many : Stand k w n → length (rows_from k w n 0) ≡ n
  many s = ap length (stand_rows s) ∙ s.as_many

  first_in_lem : first_in k w n row < n → (s : Stand k w n) → FirstEqual s.rows whole (first_in k w n row)
  first_in_lem l s =
      subst (λ (rs : List (List ℕ)). FirstEqual rs whole (first_in k w n row)) (stand_rows s) (first_there whole (rows_from k w n 0) (omega (arith, l, many s)))

  none_in : n ≤ first_in k w n row → None
  none_in l s = subst (λ (rs : List (List ℕ)). NoneEqual rs whole) (stand_rows s) (none-there whole (rows_from k w n 0) (omega (arith, l, many s)))

  why : (countable k row ≡ false → None) → Why (intern k w n row)
  why big = le_cases end (length w) inside (λ h. outside (λ s. omega (arith, stand_end s)) (not_in h))
    where
      sought_there : (h : end ≤ length w) (g : good k row ≡ true) (c : countable k row ≡ true) → Why (intern k w n row)
      sought_there h g c =
          let s = stands k w n h in
          let a = good_allowed k row g in
          le_cases n (first_in k w n row)
          (λ l.
          le_cases (end + length whole) (length w)
          (λ m. new s a (none_in l) (λ t. takes k t.rest row c (omega (arith, stand_end t))) (is_appended h g c l m))
          (λ m. full s a (none_in l) (λ t x. omega (arith, stand_end t, took k t.rest row x)) (no_room h g c l m)))
          (λ l. there (first_in k w n row) l s a (first_in_lem l) (is_found h g c l))

      go : end ≤ length w → (g : Bool) → good k row ≡ g → (c : Bool) → countable k row ≡ c → Why (intern k w n row)
      go h false i c j = bad (stands k w n h) (λ a. false≢true (sym i ∙ allowed_good k row a)) (not_good h i)
      go h true i false j =
          full (stands k w n h) (good_allowed k row i) (big j) (λ t x. false≢true (sym j ∙ can_count k t.rest row x)) (too_many h i j)
      go h true i true j = sought_there h i j

      inside : end ≤ length w → Why (intern k w n row)
      inside h = go h (good k row) refl (countable k row) refl

  -- What a call says and leaves

  module _ (big : countable k row ≡ false → None) {says : Said} {left : List ℕ} (e : says ≡ outcome_said (intern k w n row))
      (f : left ≡ left_in w (intern k w n row)) where
    as_said : {g : Outcome} → intern k w n row ≡ g → says ≡ outcome_said g
    as_said i = e ∙ ap outcome_said i

    as_left : {g : Outcome} → intern k w n row ≡ g → left ≡ left_in w g
    as_left i = f ∙ ap (left_in w) i

    -- on what condition each number is given, at that place
    abbrev Condition : ℕ → ℕ → Type 0
    Condition m p =
        choose (eqb m NOT-TABLE) ((p ≡ 0) × (Stand k w n → ⊥))
        (choose (eqb m FIELD) ((p ≡ 0) × Stand k w n × (RowAllowed k row → ⊥))
        (choose (eqb m ROOM) ((p ≡ 0) × (s : Stand k w n) × RowAllowed k row × NoneEqual s.rows whole × (CanTake k s.rest row → ⊥)) ⊥))

    given : {m p : ℕ} → says ≡ no m p → Condition m p
    given {m} {p} h = go (why big)
      where
        go : Why (intern k w n row) → Condition m p
        go (outside s i) = by_number Condition (as_said i) h (refl, s)
        go (bad s a i) = by_number Condition (as_said i) h (refl, s, a)
        go (full s a q t i) = by_number Condition (as_said i) h (refl, s, a, q s, t s)
        go (there j l s a q i) = absurd (no_answer (as_said i) h)
        go (new s a q t i) = absurd (no_answer (as_said i) h)

    abbrev Answered : ℕ → Type 0
    Answered i = (s : Stand k w n) × RowAllowed k row × (FirstEqual s.rows whole i ⊎ (NoneEqual s.rows whole × CanTake k s.rest row × (i ≡ n)))

    one_place : {i j : ℕ} → says ≡ ok (i ∷ []) → says ≡ ok (j ∷ []) → i ≡ j
    one_place a b = ap (λ (s : Said). get_or (values_of s) 0 0) (sym a ∙ b)

    answered : {i : ℕ} → says ≡ ok (i ∷ []) → Answered i
    answered {i} h = go (why big)
      where
        go : Why (intern k w n row) → Answered i
        go (outside s x) = absurd (no_answer h (as_said x))
        go (bad s a x) = absurd (no_answer h (as_said x))
        go (full s a q t x) = absurd (no_answer h (as_said x))
        go (there j l s a q x) = (s, a, inl (subst (FirstEqual s.rows whole) (one_place (as_said x) h) (q s)))
        go (new s a q t x) = (s, a, inr (q s, t s, one_place h (as_said x)))

    answers_so : {i : ℕ} → Answered i → says ≡ ok (i ∷ [])
    answers_so {i} (s, a, y) = go (why big) y
      where
        go : Why (intern k w n row) → FirstEqual s.rows whole i ⊎ (NoneEqual s.rows whole × CanTake k s.rest row × (i ≡ n)) → says ≡ ok (i ∷ [])
        go (outside h x) z = absurd (h s)
        go (bad h b x) z = absurd (b a)
        go (full h b q t x) (inl z) = absurd (q s i z.within z.equal)
        go (full h b q t x) (inr (z, c, o)) = absurd (t s c)
        go (there j l h b q x) (inl z) = as_said x ∙ ap (λ (m : ℕ). ok (m ∷ [])) (first_one (q s) z)
        go (there j l h b q x) (inr (z, c, o)) = absurd (z j (q s).within (q s).equal)
        go (new h b q t x) (inl z) = absurd (q s i z.within z.equal)
        go (new h b q t x) (inr (z, c, o)) = as_said x ∙ ap (λ (m : ℕ). ok (m ∷ [])) (sym o)

    outside_so : {p : ℕ} → (p ≡ 0) × (Stand k w n → ⊥) → says ≡ no NOT-TABLE p
    outside_so (z, h) = go (why big) ∙ ap (no NOT-TABLE) (sym z)
      where
        go : Why (intern k w n row) → says ≡ no NOT-TABLE 0
        go (outside s x) = as_said x
        go (bad s a x) = absurd (h s)
        go (full s a q t x) = absurd (h s)
        go (there j l s a q x) = absurd (h s)
        go (new s a q t x) = absurd (h s)

    bad_so : {p : ℕ} → (p ≡ 0) × Stand k w n × (RowAllowed k row → ⊥) → says ≡ no FIELD p
    bad_so (z, s, h) = go (why big) ∙ ap (no FIELD) (sym z)
      where
        go : Why (intern k w n row) → says ≡ no FIELD 0
        go (outside o x) = absurd (o s)
        go (bad o a x) = as_said x
        go (full o a q t x) = absurd (h a)
        go (there j l o a q x) = absurd (h a)
        go (new o a q t x) = absurd (h a)

    full_so : {p : ℕ} → (p ≡ 0) × (s : Stand k w n) × RowAllowed k row × NoneEqual s.rows whole × (CanTake k s.rest row → ⊥) → says ≡ no ROOM p
    full_so (z, s, a, y, h) = go (why big) ∙ ap (no ROOM) (sym z)
      where
        go : Why (intern k w n row) → says ≡ no ROOM 0
        go (outside o x) = absurd (o s)
        go (bad o b x) = absurd (b a)
        go (full o b q t x) = as_said x
        go (there j l o b q x) = absurd (y j (q s).within (q s).equal)
        go (new o b q t x) = absurd (h (t s))

    -- the pool
    laid : (s : Stand k w n) → CanTake k s.rest row → lay end whole w ≡ each (λ l. l) s.rows ++ (whole ++ drop (length whole) s.rest)
    laid s t = ap (lay end whole) s.whole ∙ laid_behind (each (λ l. l) s.rows) s.rest whole end (sym (stand_after s)) (took k s.rest row t)

    appends_so : (s : Stand k w n) → says ≡ ok (n ∷ []) → left ≡ each (λ l. l) s.rows ++ (whole ++ drop (length whole) s.rest)
    appends_so s h = go (why big)
      where
        go : Why (intern k w n row) → left ≡ each (λ l. l) s.rows ++ (whole ++ drop (length whole) s.rest)
        go (outside o x) = absurd (no_answer h (as_said x))
        go (bad o a x) = absurd (no_answer h (as_said x))
        go (full o a q t x) = absurd (no_answer h (as_said x))
        go (there j l o a q x) = absurd (omega (arith, one_place (as_said x) h))
        go (new o a q t x) = as_left x ∙ laid s (t s)

    stays_so : (says ≡ ok (n ∷ []) → ⊥) → left ≡ w
    stays_so h = go (why big)
      where
        go : Why (intern k w n row) → left ≡ w
        go (outside o x) = as_left x
        go (bad o a x) = as_left x
        go (full o a q t x) = as_left x
        go (there j l o a q x) = as_left x
        go (new o a q t x) = absurd (h (as_said x))

    abbrev Known : Refusal → Type 0
    Known r = ((r.number ≡ NOT-TABLE) ⊎ (r.number ≡ FIELD) ⊎ (r.number ≡ ROOM)) × (r.item ≡ 0)

    known : (r : Refusal) → says ≡ no_by r → Known r
    known r h = go (why big)
      where
        go : Why (intern k w n row) → Known r
        go (outside o x) = by_refusal Known (as_said x) h (inl refl, refl)
        go (bad o a x) = by_refusal Known (as_said x) h (inr (inl refl), refl)
        go (full o a q t x) = by_refusal Known (as_said x) h (inr (inr refl), refl)
        go (there j l o a q x) = absurd (no_answer (as_said x) h)
        go (new o a q t x) = absurd (no_answer (as_said x) h)

    interned : InternedBy k w n row says left
    interned = record {
      not_table_lem = λ p. (λ h. given h, outside_so);
      field = λ p. (λ h. given h, bad_so);
      room = λ p. (λ h. given h, full_so);
      answers = λ i. (answered, answers_so);
      appends = appends_so;
      stays = stays_so;
      no_other = known;
    }

-- THEOREM: "one numbered refusal, given on the stated condition and never otherwise"; "a row pool stays as it stood"
pub intern_ascii_refuses : (pool : MutBor (List ℕ)) (rows : ℕ) (row : Bor (List ℕ)) (x : Result ℕ Refusal) (left : List ℕ) →
    InternAsciiAnswers pool rows row x left → InternedBy ascii pool.now rows row.now (said x) left
intern_ascii_refuses pool rows row x left a =
    interned ascii pool.now rows row.now (λ c. absurd (false≢true (sym c))) a.2.says (sym a.3 ∙ a.2.leaves)

-- .. where the pool's numbers have 32 bits, as the type u32 says
pub intern_wide_refuses : (pool : MutBor (List ℕ)) (rows : ℕ) (row : Bor (List ℕ)) → Fit pool.now → (x : Result ℕ Refusal) (left : List ℕ) →
    InternWideAnswers pool rows row x left → InternedBy wide pool.now rows row.now (said x) left
intern_wide_refuses pool rows row f x left a =
    interned wide pool.now rows row.now (λ c. uncounted wide row.now f c) a.2.says (sym a.3 ∙ a.2.leaves)
