-- The laws of the loop that joins: what is left, joined to the range that may still grow, gives what all of it gives. Assumes nothing.
use Prim.Native.Nat.{ℕ, suc, ◌+◌, ◌*◌, ◌-◌, ◌≤◌, ◌<◌, max}
use mathlib.Core.Path.{◌≡◌, refl, sym, ap, ap₂, subst, ◌∙◌}
use mathlib.Core.Logic.{⊎_elim}
use mathlib.Core.Bool.{Bool, true, false, ◌&&◌, ◌||◌, and-eq-true_iff}
use mathlib.Core.List.{List, [], ◌∷◌, ◌++◌}
use native.Mathlib.Omega.{arith}
use borrow.Author.Rules.{rules}
use borrow.Author.Tests.{eqb-true}
use lib.Dec.{eqb, ltb}
use lib.ListN.{length, get_or, set, length-set}
use Rattle.refusal.specs.Lists.{pick, each}
use Rattle.law_tables.specs.Table.{Range}
use Rattle.buffer.specs.Over.{Put}
use Rattle.buffer.proofs.Going.{Going, going_start, going_done, going_turn, put_none, put_one, put_two, put_size}
use Rattle.law_rows.specs.Row.{Row, touches, join_to, part_from, numbers}
use Rattle.law_rows.proofs.Joins.{touch_or_not}
use Rattle.law_rows.proofs.Sizes.{length-join_to, length_part}
use Rattle.row_goals.specs.Goals.{goal_of}
use Rattle.row_goals.specs.Edges.{no_goal, first_of}
use Rattle.row_build.specs.Aimed.{range_of, aimed, living, seen, seen_words, joined, Spaced}
use Rattle.row_build.proofs.Living.{few_living}
use Rattle.row_build.proofs.Aiming.{length-aimed, aimed_turn, aimed_done, aimed_all}

-- One range is written, or left out

three_put : (n x y z : ℕ) (d : List ℕ) → n + 3 ≤ length d → Put (x ∷ y ∷ z ∷ []) n d (n + 3) (set (set (set d n x) (n + 1) y) (n + 2) z)
three_put n x y z d h =
    let s : length (set d n x) ≡ length d = length-set d n x in
    let t : length (set (set d n x) (n + 1) y) ≡ length d = length-set (set d n x) (n + 1) y ∙ s in
    let e : n + 2 + 1 ≡ n + 3 = omega arith in
    let p : Put [] (n + 2 + 1) (set (set (set d n x) (n + 1) y) (n + 2) z) (n + 3) (set (set (set d n x) (n + 1) y) (n + 2) z) =
    rw e (put_none (n + 3) (set (set (set d n x) (n + 1) y) (n + 2) z)) in
    put_two x y (z ∷ []) n d (put_one z [] (n + 2) (set (set d n x) (n + 1) y) p (omega arith)) (omega arith)

module _ (e : Bool) (low high goal n : ℕ) (d : List ℕ) {u : Bool} (j : u ≡ (ltb high (first_of e) || eqb goal (no_goal e))) where
  pub put_unseen : u ≡ true → Put (seen_words e low high goal) n d n d
  put_unseen k = rw (sym j ∙ k) (put_none n d)

  pub put_seen : {x : ℕ} → u ≡ false → x ≡ max low (first_of e) → n + 3 ≤ length d →
      Put (seen_words e low high goal) n d (n + 3) (set (set (set d n x) (n + 1) high) (n + 2) goal)
  put_seen {x} k m h = rw (sym j ∙ k, ← m) (three_put n x high goal d h)

pub ruleset choosing = (rules, put_unseen, put_seen)

-- The numbers of a row

pub length-numbers : (rs : Row) → length (numbers rs) ≡ 3 * length rs
unfolding each
length-numbers [] = refl
length-numbers (r ∷ rs) = omega (arith, length-numbers rs)

-- One range more: it is written, unless it grows

seen_by : (d k : ℕ) (a : Range) (rs : Row) (b c : Bool) → eqb a.goal d ≡ b → ltb a.high k ≡ c →
    numbers (part_from k (living d (a ∷ rs))) ≡ pick (ltb a.high k || eqb a.goal d) [] (max a.low k ∷ a.high ∷ a.goal ∷ [])
    ++ numbers (part_from k (living d rs))
unfolding living part_from each
seen_by d k a rs true true p q = rw (p, q)
seen_by d k a rs true false p q = rw (p, q)
seen_by d k a rs false true p q = rw (p, q)
seen_by d k a rs false false p q = rw (p, q)

seen_first : (e : Bool) (a : Range) (rs : Row) → numbers (seen e (a ∷ rs)) ≡ seen_words e a.low a.high a.goal ++ numbers (seen e rs)
seen_first e a rs = seen_by (no_goal e) (first_of e) a rs (eqb a.goal (no_goal e)) (ltb a.high (first_of e)) refl refl

seen_step : (e : Bool) (a r : Range) (rs : Row) → numbers (seen e (join_to a (r ∷ rs))) ≡
    pick (touches a r) [] (seen_words e a.low a.high a.goal)
    ++ numbers (seen e (join_to (range_of (pick (touches a r) a.low r.low) r.high r.goal) rs))
unfolding join_to
seen_step e a r rs =
    ⊎_elim
    (λ t. rw t.0 (ap (λ (g : ℕ). numbers (seen e (join_to (range_of a.low r.high g) rs))) t.1.1))
    (λ t. rw t.0 (seen_first e a (join_to r rs)))
    (touch_or_not a r)

seen_none : (e : Bool) → numbers (seen e []) ≡ []
unfolding living part_from each
seen_none e = refl

seen_last : (e : Bool) (a : Range) → numbers (seen e (join_to a [])) ≡ seen_words e a.low a.high a.goal ++ []
unfolding join_to
seen_last e a = seen_first e a [] ∙ ap (λ (l : List ℕ). seen_words e a.low a.high a.goal ++ l) (seen_none e)

pick_three : (b : Bool) (xs : List ℕ) → length xs ≤ 3 → length (pick b [] xs) ≤ 3
pick_three true xs h = omega arith
pick_three false xs h = h

few_words : (e : Bool) (low high goal : ℕ) → length (seen_words e low high goal) ≤ 3
few_words e low high goal =
    pick_three (ltb high (first_of e) || eqb goal (no_goal e)) (max low (first_of e) ∷ high ∷ goal ∷ []) (omega arith)

-- The loop

pub record Joining (e : Bool) (ts cs segs ps : List ℕ) (count : ℕ) (old : List ℕ) (low high goal k m : ℕ) (out : List ℕ) : Type 0 where
  pub points : 2 * count ≤ length segs
  pub each_place : count ≤ length ps
  pub room : m + 3 * (count - k) + 3 ≤ length out
  pub going : Going (numbers (joined e ts cs segs ps count)) 0 old
      (numbers (seen e (join_to (range_of low high goal) (aimed (goal_of e ts cs) segs ps (count - k) k)))) m out

pub few_joined : (e : Bool) (ts cs segs ps : List ℕ) (count : ℕ) → length (numbers (joined e ts cs segs ps count)) ≤ 3 * count + 3
few_joined e ts cs segs ps count =
    let all : Row = aimed (goal_of e ts cs) segs ps count 0 in
    let row : Row = join_to (range_of 0 0 (no_goal e)) all in
    omega (
      arith,
      length-numbers (joined e ts cs segs ps count),
      length_part (first_of e) (living (no_goal e) row),
      few_living (no_goal e) row,
      (length-join_to (range_of 0 0 (no_goal e)) all).1,
      length-aimed (goal_of e ts cs) segs ps count 0,
    )

module _ (e : Bool) (ts cs segs ps : List ℕ) (count : ℕ) (old : List ℕ) where
  pub join-start : {goal : ℕ} → Spaced segs ps count old → goal ≡ no_goal e →
      Joining e ts cs segs ps count old 0 0 goal 0 0 old
  join-start {goal} w g =
      let same : numbers (joined e ts cs segs ps count) ≡ numbers (seen e (join_to (range_of 0 0 goal) (aimed (goal_of e ts cs) segs ps (count - 0) 0))) =
      ap₂ (λ (x : ℕ) (rs : Row). numbers (seen e (join_to (range_of 0 0 x) rs))) (sym g) (aimed_all (goal_of e ts cs) segs ps count) in
      record {
        points = w.points;
        each_place = w.each;
        room = omega (arith, w.room);
        going = subst (λ (l : List ℕ). Going (numbers (joined e ts cs segs ps count)) 0 old l 0 old) same
            (going_start (numbers (joined e ts cs segs ps count)) 0 old (omega (arith, w.room, few_joined e ts cs segs ps count)));
      }

  module _ {low high goal k m : ℕ} {out : List ℕ} (h : Joining e ts cs segs ps count old low high goal k m out) where
    module _ (n : k < count) where
      join_next : {value first r : ℕ} {t : Bool} {new : List ℕ} → value ≡ goal_of e ts cs (get_or ps k 0) →
          t ≡ (eqb (suc high) (get_or segs (2 * k) 0) && eqb goal value) →
          Put (pick t [] (seen_words e low high goal)) m out r new → first ≡ pick t low (get_or segs (2 * k) 0) →
          Joining e ts cs segs ps count old first (get_or segs (2 * k + 1) 0) value (k + 1) r new
      join_next {value} {first} {r} {t} {new} v i p f =
          let next : Range = range_of (get_or segs (2 * k) 0) (get_or segs (2 * k + 1) 0) value in
          let rest : Row = aimed (goal_of e ts cs) segs ps (count - (k + 1)) (k + 1) in
          let is : numbers (seen e (join_to (range_of low high goal) (aimed (goal_of e ts cs) segs ps (count - k) k))) ≡
          pick t [] (seen_words e low high goal) ++ numbers (seen e (join_to (range_of first (get_or segs (2 * k + 1) 0) value) rest)) =
          ap (λ (rs : Row). numbers (seen e (join_to (range_of low high goal) rs)))
          (aimed_turn (goal_of e ts cs) segs ps count k n ∙ ap {B = Row} (λ (x : ℕ). range_of (get_or segs (2 * k) 0) (get_or segs (2 * k + 1) 0) x ∷ rest) (sym v))
          ∙ seen_step e (range_of low high goal) next rest
          ∙ ap (λ (b : Bool). pick b [] (seen_words e low high goal)
          ++ numbers (seen e (join_to (range_of (pick b low (get_or segs (2 * k) 0)) (get_or segs (2 * k + 1) 0) value) rest))) (sym i)
          ∙ ap (λ (x : ℕ). pick t [] (seen_words e low high goal) ++ numbers (seen e (join_to (range_of x (get_or segs (2 * k + 1) 0) value) rest))) (sym f) in
          record {
            points = h.points;
            each_place = h.each_place;
            room = omega (arith, h.room, p.next, pick_three t (seen_words e low high goal) (few_words e low high goal), put_size p);
            going = going_turn (numbers (joined e ts cs segs ps count)) 0 old
                (numbers (seen e (join_to (range_of first (get_or segs (2 * k + 1) 0) value) rest))) m out
                (pick t [] (seen_words e low high goal)) p
                (subst (λ (l : List ℕ). Going (numbers (joined e ts cs segs ps count)) 0 old l m out) is h.going);
          }

      module _ {value : ℕ} {t : Bool} (v : value ≡ goal_of e ts cs (get_or ps k 0)) (i : t ≡ (eqb (suc high) (get_or segs (2 * k) 0) && eqb goal value)) where
        pub join_grow : t ≡ true → Joining e ts cs segs ps count old low (get_or segs (2 * k + 1) 0) goal (k + 1) m out
        join_grow y =
            let same : goal ≡ value = eqb-true goal value ((and-eq-true_iff (eqb (suc high) (get_or segs (2 * k) 0)) (eqb goal value)).0 (sym i ∙ y)).1 in
            subst (λ (x : ℕ). Joining e ts cs segs ps count old low (get_or segs (2 * k + 1) 0) x (k + 1) m out) (sym same)
            (join_next v i (rw y (put_none m out)) (rw y))

        pub join_turn : {r : ℕ} {new : List ℕ} → t ≡ false → Put (seen_words e low high goal) m out r new →
            Joining e ts cs segs ps count old (get_or segs (2 * k) 0) (get_or segs (2 * k + 1) 0) value (k + 1) r new
        join_turn y p = join_next v i (rw y p) (rw y)

    pub join_done : {r : ℕ} {new : List ℕ} → count ≤ k → Put (seen_words e low high goal) m out r new → Put (numbers (joined e ts cs segs ps count)) 0 old r new
    join_done n p =
        let is : numbers (seen e (join_to (range_of low high goal) (aimed (goal_of e ts cs) segs ps (count - k) k))) ≡ seen_words e low high goal ++ [] =
        ap (λ (rs : Row). numbers (seen e (join_to (range_of low high goal) rs))) (aimed_done (goal_of e ts cs) segs ps count k n)
        ∙ seen_last e (range_of low high goal) in
        going_done (numbers (joined e ts cs segs ps count)) 0 old
        (going_turn (numbers (joined e ts cs segs ps count)) 0 old [] m out (seen_words e low high goal) p
        (subst (λ (l : List ℕ). Going (numbers (joined e ts cs segs ps count)) 0 old l m out) is h.going))

pub ruleset joining = (rules, join-start, join_grow, join_turn, join_done)
