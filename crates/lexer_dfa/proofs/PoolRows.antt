-- The rows that stand in a pool: those that are read are those that stand there, and a row is allowed, found or none's equal as it is judged. w is the pool.
-- Assumes nothing.
use Prim.Native.Nat.{ℕ, zero, suc, ◌+◌, ◌*◌, ◌/◌, ◌≤◌, ◌<◌}
use native.Mathlib.Omega.{arith}
use mathlib.Core.Path.{◌≡◌, refl, sym, ap, ap₂, subst, ◌∙◌}
use mathlib.Core.Bool.{Bool, true, false, false≢true}
use mathlib.Core.List.{List, [], ◌∷◌, ◌++◌, append_assoc}
use lib.ListN.{length, get_or, take, drop, length-append, take-append-drop, get_or-append}
use lib.Seq.{take_at, length-take-le, get_or-append-add}
use borrow.Author.Tests.{eqb-true, eq-eqb, leb-true, leb-false, le-leb}
use Rattle.refusal.specs.Lists.{pick, each, same_list, first_equal}
use Rattle.refusal.specs.Fixed.{NONE}
use Rattle.refusal.proofs.Lists.{and_split, same_equal, equal_same}
use Rattle.law_tables.specs.Table.{Range, All, RangeFields}
use Rattle.law_tables.specs.Whole.{Fit}
use Rattle.law_tables.proofs.Codec.{At, start, same, on, to, at_length, at_head, at_drop}
use Rattle.law_rows.specs.Row.{Row, numbers}
use Rattle.list_transitions.proofs.Order.{le_cases}
use Rattle.pool_rows.specs.Pools.{Kind, ascii, wide, standing, size_at, rows_from, after_rows, in_threes, good, countable}
use Rattle.pool_rows.proofs.Rows.{after_≥}
use Rattle.lexer_dfa.specs.PoolsRefused.{OfKind, Stand, RowAllowed, FirstEqual, NoneEqual, CanTake}

abbrev flat : List (List ℕ) → List ℕ
flat = each (λ l. l)

-- Rows that stand are read

size_there : (k : Kind) {w : List ℕ} {at : ℕ} (l rest : List ℕ) → OfKind k l → At w at (l ++ rest) → size_at k w at ≡ length l
size_there ascii l rest h a = sym h
size_there wide {w} {at} l rest (count, ranges, e, n) a =
    let head : get_or w at 0 ≡ count = at_head (same a (ap (λ (x : List ℕ). x ++ rest) e)) in omega (arith, ap length e)

rows_there : (k : Kind) (w : List ℕ) (at : ℕ) (rows : List (List ℕ)) (rest : List ℕ) → All (OfKind k) rows → At w at (flat rows ++ rest) →
    (rows_from k w (length rows) at ≡ rows) × (after_rows k w (length rows) at ≡ at + length (flat rows))
unfolding rows_from after_rows each All
rows_there k w at [] rest h a = (refl, omega arith)
rows_there k w at (l ∷ rows) rest h a =
    let b : At w at (l ++ (flat rows ++ rest)) = same a (append_assoc l (flat rows) rest) in
    let size : size_at k w at ≡ length l = size_there k l (flat rows ++ rest) h.0 b in
    let next = rows_there k w (at + length l) rows rest h.1 (on l (flat rows ++ rest) b) in
    let row : take (length l) (drop at w) ≡ l = ap (take (length l)) (at_drop b) ∙ take_at l (flat rows ++ rest) (length l) refl in
    let far : at + length l + length (flat rows) ≡ at + length (l ++ flat rows) = omega (arith, length-append l (flat rows)) in
    (rw size (ap₂ {C = List (List ℕ)} (λ x y. x ∷ y) row next.0), ap (λ (m : ℕ). after_rows k w (length rows) (at + m)) size ∙ next.1 ∙ far)

module _ {k : Kind} {w : List ℕ} {n : ℕ} (s : Stand k w n) where
  both : (rows_from k w n 0 ≡ s.rows) × (after_rows k w n 0 ≡ length (flat s.rows))
  both =
      subst (λ (m : ℕ). (rows_from k w m 0 ≡ s.rows) × (after_rows k w m 0 ≡ length (flat s.rows))) s.as_many
      (let r = rows_there k w 0 s.rows s.rest s.of_kind (same (start w) s.whole) in (r.0, omega (arith, r.1)))

  pub stand_rows : rows_from k w n 0 ≡ s.rows
  stand_rows = both.0

  pub stand_end : length w ≡ after_rows k w n 0 + length s.rest
  stand_end = omega (arith, ap length s.whole, length-append (flat s.rows) s.rest, both.1)

  pub stand_after : after_rows k w n 0 ≡ length (flat s.rows)
  stand_after = both.1

-- Rows that are read stand, where they fit the pool

of_its_kind : (k : Kind) (w : List ℕ) (at : ℕ) (rest : List ℕ) → At w at rest → size_at k w at ≤ length rest → OfKind k (take (size_at k w at) rest)
of_its_kind ascii w at rest a h = length-take-le 128 rest h
of_its_kind wide w at [] a h = absurd (omega arith)
of_its_kind wide w at (c ∷ r) a h =
    let head : get_or w at 0 ≡ c = at_head a in
    let one : 1 + get_or w at 0 * 3 ≡ suc (c * 3) = omega arith in
    (c, take (c * 3) r, ap (λ (m : ℕ). take m (c ∷ r)) one, length-take-le (c * 3) r (omega arith))

record Rows (k : Kind) (w : List ℕ) (n at : ℕ) (rest : List ℕ) : Type 0 where
  kinds : All (OfKind k) (rows_from k w n at)
  many : length (rows_from k w n at) ≡ n
  post : List ℕ
  opens : rest ≡ flat (rows_from k w n at) ++ post

rows_made : (k : Kind) (w : List ℕ) (n at : ℕ) (rest : List ℕ) → At w at rest → after_rows k w n at ≤ length w → Rows k w n at rest
unfolding rows_from after_rows each All
rows_made k w zero at rest a h = record { kinds = tt; many = refl; post = rest; opens = refl }
rows_made k w (suc n) at rest a h =
    let size = size_at k w at in
    let within : size ≤ length rest = omega (arith, after_≥ k w n (at + size), at_length a) in
    let long : at + length (take size rest) ≡ at + size = ap (λ (m : ℕ). at + m) (length-take-le size rest within) in
    let parts : take size rest ++ drop size rest ≡ rest = take-append-drop size rest in
    let more = rows_made k w n (at + size) (drop size rest) (to (on (take size rest) (drop size rest) (same a (sym parts))) long) h in
    let row : take size (drop at w) ≡ take size rest = ap (take size) (at_drop a) in
    record {
      kinds = (subst (OfKind k) (sym row) (of_its_kind k w at rest a within), more.kinds);
      many = omega (arith, more.many);
      post = more.post;
      opens =
          sym parts
          ∙ ap₂ (λ (x y : List ℕ). x ++ y) (sym row) more.opens
          ∙ sym (append_assoc (take size (drop at w)) (flat (rows_from k w n (at + size))) more.post);
    }

pub stands : (k : Kind) (w : List ℕ) (n : ℕ) → after_rows k w n 0 ≤ length w → Stand k w n
stands k w n h =
    let r = rows_made k w n 0 w (start w) h in
    record { rows = rows_from k w n 0; as_many = r.many; of_kind = r.kinds; rest = r.post; whole = r.opens }

-- A row that its field allows

threes_ranges : (row : List ℕ) → in_threes row ≡ true → (ranges : Row) × (row ≡ numbers ranges) × All RangeFields ranges
unfolding in_threes each All
threes_ranges [] e = ([], refl, tt)
threes_ranges (a ∷ []) e = absurd (false≢true e)
threes_ranges (a ∷ b ∷ []) e = absurd (false≢true e)
threes_ranges (a ∷ b ∷ c ∷ l) e =
    let s = and_split _ _ e in
    let r = threes_ranges l s.1 in
    let range : Range = record { low = a; high = b; goal = c } in
    (range ∷ r.0, ap (λ (x : List ℕ). a ∷ b ∷ c ∷ x) r.1, (leb-true c 65535 s.0, r.2))

ranges_threes : (ranges : Row) → All RangeFields ranges → in_threes (numbers ranges) ≡ true
unfolding in_threes each All
ranges_threes [] h = refl
ranges_threes (r ∷ rs) h = rw (le-leb r.goal 65535 h.0) (ranges_threes rs h.1)

pub good_allowed : (k : Kind) (row : List ℕ) → good k row ≡ true → RowAllowed k row
good_allowed ascii row e = eqb-true (length row) 128 e
good_allowed wide row e = threes_ranges row e

pub allowed_good : (k : Kind) (row : List ℕ) → RowAllowed k row → good k row ≡ true
allowed_good ascii row h = eq-eqb (length row) 128 h
allowed_good wide row (rs, e, h) = ap in_threes e ∙ ranges_threes rs h

-- The first equal row

not_same : (l row : List ℕ) → same_list l row ≡ false → l ≡ row → ⊥
not_same l row e f = false≢true (sym e ∙ ap (λ (x : List ℕ). same_list x row) f ∙ equal_same row)

before_more : (l row : List ℕ) (ls : List (List ℕ)) (i : ℕ) → (l ≡ row → ⊥) → ((j : ℕ) → j < i → get_or ls j [] ≡ row → ⊥) →
    (j : ℕ) → j < suc i → get_or (l ∷ ls) j [] ≡ row → ⊥
before_more l row ls i f g zero h e = f e
before_more l row ls i f g (suc j) h e = g j (omega arith) e

pub first_there : (row : List ℕ) (ls : List (List ℕ)) → first_equal row ls < length ls → FirstEqual ls row (first_equal row ls)
unfolding first_equal
first_there row [] h = absurd (omega arith)
first_there row (l ∷ ls) h = go (same_list l row) refl h (first_there row ls)
  where
    go : (b : Bool) → same_list l row ≡ b → pick b 0 (suc (first_equal row ls)) < suc (length ls) →
        (first_equal row ls < length ls → FirstEqual ls row (first_equal row ls)) → FirstEqual (l ∷ ls) row (pick b 0 (suc (first_equal row ls)))
    go true e k r = record { within = omega arith; equal = same_equal l row e; before = λ j i f. omega arith }
    go false e k r =
        let q = r (omega arith) in
        record { within = k; equal = q.equal; before = before_more l row ls (first_equal row ls) (not_same l row e) q.before }

pub none-there : (row : List ℕ) (ls : List (List ℕ)) → length ls ≤ first_equal row ls → NoneEqual ls row
unfolding first_equal
none-there row [] h = λ j i e. omega arith
none-there row (l ∷ ls) h = go (same_list l row) refl h (none-there row ls)
  where
    go : (b : Bool) → same_list l row ≡ b → suc (length ls) ≤ pick b 0 (suc (first_equal row ls)) → (length ls ≤ first_equal row ls → NoneEqual ls row) →
        NoneEqual (l ∷ ls) row
    go true e k r = absurd (omega arith)
    go false e k r = before_more l row ls (length ls) (not_same l row e) (r (omega arith))

pub first_one : {ls : List (List ℕ)} {row : List ℕ} {i j : ℕ} → FirstEqual ls row i → FirstEqual ls row j → i ≡ j
first_one {i = i} {j = j} a b =
    le_cases i j
    (λ h. le_cases j i (λ g. omega arith) (λ g. absurd (b.before i g a.equal)))
    (λ h. absurd (a.before j h b.equal))

-- Room for a row

pub takes : (k : Kind) (rest row : List ℕ) → countable k row ≡ true → length (standing k row) ≤ length rest → CanTake k rest row
takes ascii rest row c h = h
takes wide rest row c h = (omega arith, leb-true (length row / 3) NONE c)

pub took : (k : Kind) (rest row : List ℕ) → CanTake k rest row → length (standing k row) ≤ length rest
took ascii rest row h = h
took wide rest row h = omega (arith, h.0)

pub can_count : (k : Kind) (rest row : List ℕ) → CanTake k rest row → countable k row ≡ true
can_count ascii rest row h = refl
can_count wide rest row h = le-leb (length row / 3) NONE h.1

-- a row that a number of 32 bits can't count equals none in a pool of such numbers

row_fit : (rows : List (List ℕ)) (rest : List ℕ) → Fit (flat rows ++ rest) → (j : ℕ) → j < length rows → Fit (get_or rows j [])
unfolding each
row_fit [] rest f j h = absurd (omega arith)
row_fit (l ∷ rows) rest f zero h =
    λ i g.
    subst (λ (x : ℕ). x < 4294967296) (ap (λ (x : List ℕ). get_or x i 0) (append_assoc l (flat rows) rest) ∙ get_or-append l (flat rows ++ rest) 0 i g)
    (f i (omega (arith, length-append (l ++ flat rows) rest, length-append l (flat rows))))
row_fit (l ∷ rows) rest f (suc j) h =
    row_fit rows rest
    (λ i g.
    subst (λ (x : ℕ). x < 4294967296)
    (ap (λ (x : List ℕ). get_or x (length l + i) 0) (append_assoc l (flat rows) rest) ∙ get_or-append-add l (flat rows ++ rest) i 0)
    (f (length l + i) (omega (arith, length-append (l ++ flat rows) rest, length-append l (flat rows), length-append (flat rows) rest))))
    j (omega arith)

pub uncounted : (k : Kind) {w : List ℕ} {n : ℕ} (row : List ℕ) → Fit w → countable k row ≡ false → (s : Stand k w n) → NoneEqual s.rows (standing k row)
uncounted ascii row f c s = absurd (false≢true (sym c))
uncounted wide row f c s = λ j h e.
    let big = leb-false (length row / 3) NONE c in
    let small = subst Fit e (row_fit s.rows s.rest (subst Fit s.whole f) j h) 0 (omega arith) in
    omega (arith, big, small)
