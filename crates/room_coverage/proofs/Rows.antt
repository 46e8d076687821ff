-- In a searchable wide row, the points that are not dead are those of its ranges, counted range by range. Assumes nothing.
use Prim.Native.Nat.{ℕ, ◌+◌, ◌-◌, ◌≤◌, ◌<◌}
use native.Mathlib.Omega.{arith}
use mathlib.Core.Path.{◌≡◌, refl, sym, ◌∙◌}
use mathlib.Core.Bool.{Bool, true, false, not, ◌&&◌}
use mathlib.Core.List.{List, [], ◌∷◌, ◌++◌}
use lib.Dec.{ltb, leb, eqb}
use lib.ListN.{length, get_or}
use borrow.Author.Tests.{le-leb, lt-leb, leb-true, leb-false, ltb-true, ltb-false}
use Rattle.refusal.specs.Lists.{pick, each}
use Rattle.refusal.specs.Fixed.{DEAD-STATE}
use Rattle.law_tables.specs.Table.{Range, range_words}
use Rattle.law_tables.specs.Rules.{Searchable}
use Rattle.law_tables.proofs.Codec.{At, on, at_head}
use Rattle.law_lookups.specs.Looks.{goal_at}
use Rattle.law_lookups.proofs.RowsLooked.{first_ordered, behind_first}
use Rattle.room_coverage.specs.Coverage.{lives, count}
use Rattle.room_coverage.specs.Spans.{below, span, spans}
use Rattle.room_coverage.proofs.Counts.{count_none, count-both, count-range, cut}

-- One range

below_is : (x : ℕ) → below x ≡ cut 1113984 (x - 128)
unfolding below
below_is x = go (ltb x 128) (ltb x 1114112) (leb (x - 128) 1113984) refl refl refl
  where
    go : (a b c : Bool) → ltb x 128 ≡ a → ltb x 1114112 ≡ b → leb (x - 128) 1113984 ≡ c → pick a 0 (pick b (x - 128) 1113984) ≡ pick c (x - 128) 1113984
    go true b true p q r = omega (arith, ltb-true x 128 p)
    go true b false p q r = absurd (omega (arith, ltb-true x 128 p, leb-false (x - 128) 1113984 r))
    go false true true p q r = refl
    go false true false p q r = absurd (omega (arith, ltb-true x 1114112 q, leb-false (x - 128) 1113984 r))
    go false false true p q r = omega (arith, ltb-false x 1114112 q, leb-true (x - 128) 1113984 r)
    go false false false p q r = refl

-- a range holds a point
abbrev holds : Range → ℕ → Bool
holds r x = leb r.low x && leb x r.high

range-counted : (r : Range) → r.low ≤ r.high → count (λ i. lives r.goal && holds r (128 + i)) 1113984 ≡ span r.low r.high r.goal
unfolding span
range-counted r h = go (eqb r.goal DEAD-STATE)
  where
    go : (b : Bool) → count (λ i. not b && holds r (128 + i)) 1113984 ≡ pick b 0 (below (r.high + 1) - below r.low)
    go true = count_none (λ i. false) 1113984 (λ i. refl)
    go false = count-range 128 r.low r.high 1113984 h ∙ (rw (below_is (r.high + 1), below_is r.low))

-- The ranges of a row

-- before its first range a row is dead
dead_before : (r : Range) (rs : List Range) (x : ℕ) → x < r.low → r.low ≤ r.high → goal_at DEAD-STATE (r ∷ rs) x ≡ DEAD-STATE
unfolding goal_at
dead_before r rs x l h = let m : x ≤ r.high = omega arith in rw (le-leb x r.high m, lt-leb r.low x l)

-- up to the high of its first range, the rest of a row is dead
rest_dead : (r : Range) (rs : List Range) → Searchable (r ∷ rs) → (x : ℕ) → x ≤ r.high → goal_at DEAD-STATE rs x ≡ DEAD-STATE
unfolding Searchable goal_at
rest_dead r [] s x h = refl
rest_dead r (next ∷ rs) s x h = let l = s.1 in dead_before next rs x (omega arith) (first_ordered next rs s.2)

none_more : (n : ℕ) → n ≡ 0 + n
none_more n = omega arith

-- a point is in the first range, or in the rest, and never in both
parted : (r : Range) (rs : List Range) → Searchable (r ∷ rs) → (x : ℕ)
    → pick (lives (goal_at DEAD-STATE (r ∷ rs) x)) 1 0 ≡ pick (lives r.goal && holds r x) 1 0 + pick (lives (goal_at DEAD-STATE rs x)) 1 0
unfolding goal_at
parted r rs s x = go (leb r.low x) (leb x r.high) refl (eqb r.goal DEAD-STATE) refl
  where
    go : (a b : Bool) → leb x r.high ≡ b → (c : Bool) → eqb r.goal DEAD-STATE ≡ c
        → pick (lives (pick b (pick a r.goal DEAD-STATE) (goal_at DEAD-STATE rs x))) 1 0
        ≡ pick (not c && (a && b)) 1 0 + pick (lives (goal_at DEAD-STATE rs x)) 1 0
    go true true p true q = rw (rest_dead r rs s x (leb-true x r.high p), q)
    go true true p false q = rw (rest_dead r rs s x (leb-true x r.high p), q)
    go false true p true q = rw (rest_dead r rs s x (leb-true x r.high p))
    go false true p false q = rw (rest_dead r rs s x (leb-true x r.high p))
    go true false p true q = none_more _
    go true false p false q = none_more _
    go false false p true q = none_more _
    go false false p false q = none_more _

pub row-counted : (w : List ℕ) (rs : List Range) (at : ℕ) (post : List ℕ) → Searchable rs → At w at (each range_words rs ++ post)
    → spans w (length rs) at ≡ count (λ i. lives (goal_at DEAD-STATE rs (128 + i))) 1113984
unfolding spans each goal_at
row-counted w [] at post s a = sym (count_none (λ i. false) 1113984 (λ i. refl))
row-counted w (r ∷ rs) at post s a =
    let high : get_or w (at + 1) 0 ≡ r.high = at_head (on (r.low ∷ []) _ a) in
    let goal : get_or w (at + 2) 0 ≡ r.goal = at_head (on (r.low ∷ r.high ∷ []) _ a) in
    let first = range-counted r (first_ordered r rs s) in
    let rest = row-counted w rs (at + 3) post (behind_first r rs s) (on (range_words r) (each range_words rs ++ post) a) in
    let all = count-both (λ i. lives (goal_at DEAD-STATE (r ∷ rs) (128 + i))) (λ i. lives r.goal && holds r (128 + i))
    (λ i. lives (goal_at DEAD-STATE rs (128 + i))) 1113984 (λ i. parted r rs s (128 + i)) in
    rw (at_head a, high, goal, ← first, rest) (sym all)
