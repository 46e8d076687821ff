-- The laws of the loop that writes the ascii targets. Assumes nothing.
use Prim.Native.Nat.{ℕ, zero, suc, ◌+◌, ◌*◌, ◌-◌, ◌≤◌, ◌<◌, min}
use mathlib.Core.Path.{◌≡◌, refl, sym, ap, ap₂, subst, ◌∙◌}
use mathlib.Core.Bool.{true, false}
use mathlib.Core.List.{List, [], ◌∷◌, ◌++◌, append-nil, append_assoc}
use native.Mathlib.Omega.{arith}
use borrow.Author.Rules.{rules}
use lib.Seq.{length-take-le}
use lib.ListN.{length, get_or, take, drop, replicate, length-drop, length-append, length-replicate}
use Rattle.refusal.specs.Fixed.{DEAD-STATE}
use Rattle.refusal.specs.Said.{Said, ok}
use Rattle.law_tables.specs.Table.{Range}
use Rattle.law_lookups.specs.Looks.{goal_at}
use Rattle.buffer.specs.Over.{lay, Put}
use Rattle.buffer.proofs.Overs.{over-front}
use borrow.Rule.Slice.PartMut.{put_mid}
use Rattle.buffer.proofs.Going.{Going, going_start, going_done, going_turn, put_size}
use Rattle.law_rows.specs.Row.{Row, Sorted, values, numbers, ascii_part}
use Rattle.law_rows.proofs.Searches.{look_hit, look_gap, look_past, sorted_weaken}
use Rattle.law_rows.proofs.Parts.{length-values}
use Rattle.row_goals.specs.Goals.{target_at}
use Rattle.row_build.specs.Aimed.{range_of, aimed, joined, targets_of, Ordered, Split, Filled}
use Rattle.row_build.proofs.Aiming.{aimed_turn, aimed_done, aimed_all}

-- One number, many times: `fill` writes it over a part

part_filled : (n k x : ℕ) (d xs : List ℕ) → n + k ≤ length d → xs ≡ replicate (length (take k (drop n d))) x → Put (replicate k x) n d (n + k) (put_mid n k d xs)
unfolding lay
part_filled n k x d xs h e' =
    let l : length (replicate k x) ≡ k = length-replicate k x in
    let e : xs ≡ replicate k x = e' ∙ ap (λ (j : ℕ). replicate j x) (length-take-le k (drop n d) (omega (arith, length-drop n d))) in
    record {
      next = ap (λ (j : ℕ). n + j) (sym l);
      is = rw e
          (ap (λ (j : ℕ). take n d ++ (replicate k x ++ drop j (drop n d))) (sym l)
          ∙ ap (λ (ys : List ℕ). take n d ++ ys) (sym (over-front (replicate k x) (drop n d) (omega (arith, length-drop n d)))));
    }

-- Two of them, for one range

pub two_fills : (n low high goal : ℕ) (d : List ℕ) {e f : ℕ} {xs ys : List ℕ} → (n ≤ min low 128) × (low ≤ high) → 128 ≤ length d →
    e ≡ min low 128 → f ≡ min (suc high) 128 → xs ≡ replicate (length (take (e - n) (drop n d))) DEAD-STATE →
    ys ≡ replicate (length (take (f - e) (drop e (put_mid n (e - n) d xs)))) goal →
    Put (targets_of n low high goal) n d f (put_mid e (f - e) (put_mid n (e - n) d xs) ys)
unfolding targets_of
two_fills n low high goal d {e} {f} {xs} {ys} o h p q i j =
    let a : List ℕ = replicate (min low 128 - n) DEAD-STATE in
    let b : List ℕ = replicate (min (suc high) 128 - min low 128) goal in
    let new : List ℕ = put_mid n (e - n) d xs in
    let m : n + (e - n) ≡ e = omega (arith, o.0) in
    let r : e + (f - e) ≡ f = omega (arith, o.1) in
    let u : Put (replicate (e - n) DEAD-STATE) n d (n + (e - n)) new = part_filled n (e - n) DEAD-STATE d xs (omega (arith, o.0)) i in
    let k : Put a n d e new =
    subst (λ (x : ℕ). Put (replicate (x - n) DEAD-STATE) n d e new) p (subst (λ (x : ℕ). Put (replicate (e - n) DEAD-STATE) n d x new) m u) in
    let w : Put (replicate (f - e) goal) e new (e + (f - e)) (put_mid e (f - e) new ys) =
    part_filled e (f - e) goal new ys (omega (arith, put_size u, o.1)) j in
    let v : Put b e new f (put_mid e (f - e) new ys) =
    subst (λ (x : ℕ). Put (replicate (min (suc high) 128 - x) goal) e new f (put_mid e (f - e) new ys)) p
    (subst (λ (x : ℕ). Put (replicate (x - e) goal) e new f (put_mid e (f - e) new ys)) q
    (subst (λ (x : ℕ). Put (replicate (f - e) goal) e new x (put_mid e (f - e) new ys)) r w)) in
    let fits : n + length (a ++ b) ≤ length d =
    omega (arith, o.0, o.1, length-append a b, length-replicate (min low 128 - n) DEAD-STATE, length-replicate (min (suc high) 128 - min low 128) goal) in
    let z : b ≡ b ++ [] = sym (append-nil b) in
    let half : Going (a ++ b) n d b e new = going_turn (a ++ b) n d b n d a k (going_start (a ++ b) n d fits) in
    going_done (a ++ b) n d (going_turn (a ++ b) n d [] e new b v (subst (λ x. Going (a ++ b) n d x e new) z half))

pub ruleset ranging = (rules, two_fills)

-- What a function gives at points one behind another

values-more : (f : ℕ → ℕ) (m a b : ℕ) → values f m (a + b) ≡ values f m a ++ values f (m + a) b
unfolding values
values-more f m zero b =
    let e : m + 0 ≡ m = omega arith in
    let z : 0 + b ≡ b = omega arith in
    rw (e, z)
values-more f m (suc a) b =
    let e : suc m + a ≡ m + suc a = omega arith in
    let z : suc a + b ≡ suc (a + b) = omega arith in
    ap (values f m) z ∙ ap (λ (l : List ℕ). f m ∷ l) (values-more f (suc m) a b ∙ ap (λ (k : ℕ). values f (suc m) a ++ values f k b) e)

pub values_same : (f g : ℕ → ℕ) (m n : ℕ) → ((p : ℕ) → m ≤ p → p < m + n → f p ≡ g p) → values f m n ≡ values g m n
unfolding values
values_same f g m zero h = refl
values_same f g m (suc n) h =
    ap₂ {C = List ℕ} (λ x l. x ∷ l) (h m (omega arith) (omega arith)) (values_same f g (suc m) n (λ p l k. h p (omega arith) (omega arith)))

values_one : (f : ℕ → ℕ) (x m n : ℕ) → ((p : ℕ) → m ≤ p → p < m + n → f p ≡ x) → values f m n ≡ replicate n x
unfolding values
values_one f x m zero h = refl
values_one f x m (suc n) h =
    ap₂ {C = List ℕ} (λ y l. y ∷ l) (h m (omega arith) (omega arith)) (values_one f x (suc m) n (λ p l k. h p (omega arith) (omega arith)))

-- the ascii targets from m on, where the first range starts at m or later
ascii_open : (r : Range) (rs : Row) (m : ℕ) → m ≤ 128 → Sorted m (r ∷ rs) →
    values (goal_at DEAD-STATE (r ∷ rs)) m (128 - m) ≡
    targets_of m r.low r.high r.goal ++ values (goal_at DEAD-STATE rs) (min (suc r.high) 128) (128 - min (suc r.high) 128)
unfolding targets_of
ascii_open r rs m h s =
    let f : ℕ → ℕ = goal_at DEAD-STATE (r ∷ rs) in
    let a : ℕ = min r.low 128 - m in
    let b : ℕ = min (suc r.high) 128 - min r.low 128 in
    let c : ℕ = 128 - min (suc r.high) 128 in
    let all : 128 - m ≡ a + (b + c) = omega arith in
    let one : m + a ≡ min r.low 128 = omega arith in
    let two : m + a + b ≡ min (suc r.high) 128 = omega arith in
    ap (values f m) all
    ∙ values-more f m a (b + c)
    ∙ ap₂ (λ (x y : List ℕ). x ++ y)
    (values_one f DEAD-STATE m a (λ p l k. look_gap DEAD-STATE r rs p (omega arith) (omega arith)))
    (values-more f (m + a) b c
    ∙ ap₂ (λ (x y : List ℕ). x ++ y)
    (values_one f r.goal (m + a) b (λ p l k. look_hit DEAD-STATE r rs p (omega arith) (omega arith)))
    (ap (λ (k : ℕ). values f k c) two ∙ values_same f (goal_at DEAD-STATE rs) (min (suc r.high) 128) c (λ p l k. look_past DEAD-STATE r rs p (omega arith))))
    ∙ sym (append_assoc (replicate a DEAD-STATE) (replicate b r.goal) (values (goal_at DEAD-STATE rs) (min (suc r.high) 128) c))

length-targets : (n low high goal : ℕ) → n ≤ min low 128 → low ≤ high → n + length (targets_of n low high goal) ≡ min (suc high) 128
unfolding targets_of
length-targets n low high goal h l =
    omega (
      arith,
      length-append (replicate (min low 128 - n) DEAD-STATE) (replicate (min (suc high) 128 - min low 128) goal),
      length-replicate (min low 128 - n) DEAD-STATE,
      length-replicate (min (suc high) 128 - min low 128) goal,
    )

-- The loop over segments: the targets of those that are left, from m on, give what all of them give

pub record Filling (ts segs ps : List ℕ) (count : ℕ) (old : List ℕ) (k m : ℕ) (out : List ℕ) : Type 0 where
  pub points : 2 * count ≤ length segs
  pub each_place : count ≤ length ps
  pub fits : 128 ≤ length out
  pub most : m ≤ 128
  pub order : Sorted m (aimed (target_at ts) segs ps (count - k) k)
  pub going : Going (ascii_part (aimed (target_at ts) segs ps count 0)) 0 old
      (values (goal_at DEAD-STATE (aimed (target_at ts) segs ps (count - k) k)) m (128 - m)) m out

module _ (ts segs ps : List ℕ) (count : ℕ) (old : List ℕ) where
  abbrev all : List ℕ
  all = ascii_part (aimed (target_at ts) segs ps count 0)

  pub ascii_start : Ordered segs ps count old → Filling ts segs ps count old 0 0 old
  ascii_start w =
      let same : aimed (target_at ts) segs ps count 0 ≡ aimed (target_at ts) segs ps (count - 0) 0 = aimed_all (target_at ts) segs ps count in
      record {
        points = w.points;
        each_place = w.each;
        fits = w.room;
        most = omega arith;
        order = subst (Sorted 0) same (w.order (target_at ts));
        going = subst (λ (rs : Row). Going all 0 old (values (goal_at DEAD-STATE rs) 0 128) 0 old) same
            (going_start all 0 old (omega (arith, w.room, length-values (goal_at DEAD-STATE (aimed (target_at ts) segs ps count 0)) 0 128)));
      }

  module _ {k m : ℕ} {out : List ℕ} (h : Filling ts segs ps count old k m out) where
    module _ (n : k < count) where
      abbrev low : ℕ
      low = get_or segs (2 * k) 0

      abbrev high : ℕ
      high = get_or segs (2 * k + 1) 0

      abbrev goal : ℕ
      goal = target_at ts (get_or ps k 0)

      abbrev rest : Row
      rest = aimed (target_at ts) segs ps (count - (k + 1)) (k + 1)

      opened : Sorted m (range_of low high goal ∷ rest)
      opened = subst (Sorted m) (aimed_turn (target_at ts) segs ps count k n) h.order

      pub ascii_low : m ≤ min (get_or segs (2 * k) 0) 128
      ascii_low = omega (arith, opened.0, h.most)

      pub ascii_high : get_or segs (2 * k) 0 ≤ get_or segs (2 * k + 1) 0
      ascii_high = opened.1

      pub ascii_turn : {x r : ℕ} {new : List ℕ} → x ≡ target_at ts (get_or ps k 0) →
          Put (targets_of m (get_or segs (2 * k) 0) (get_or segs (2 * k + 1) 0) x) m out r new →
          Filling ts segs ps count old (k + 1) r new
      ascii_turn {x} {r} {new} i q =
          let p : Put (targets_of m low high goal) m out r new = subst (λ (y : ℕ). Put (targets_of m low high y) m out r new) i q in
          let e : r ≡ min (suc high) 128 = p.next ∙ length-targets m low high goal ascii_low ascii_high in
          let is : values (goal_at DEAD-STATE (aimed (target_at ts) segs ps (count - k) k)) m (128 - m) ≡
          targets_of m low high goal ++ values (goal_at DEAD-STATE rest) r (128 - r) =
          ap (λ (rs : Row). values (goal_at DEAD-STATE rs) m (128 - m)) (aimed_turn (target_at ts) segs ps count k n)
          ∙ ascii_open (range_of low high goal) rest m h.most opened
          ∙ ap (λ (y : ℕ). targets_of m low high goal ++ values (goal_at DEAD-STATE rest) y (128 - y)) (sym e) in
          record {
            points = h.points;
            each_place = h.each_place;
            fits = omega (arith, put_size p, h.fits);
            most = omega arith;
            order = sorted_weaken (suc high) r rest (omega arith) opened.2;
            going = going_turn all 0 old (values (goal_at DEAD-STATE rest) r (128 - r)) m out (targets_of m low high goal) p
                (subst (λ (y : List ℕ). Going all 0 old y m out) is h.going);
          }

    pub ascii_done : {xs : List ℕ} → count ≤ k → xs ≡ replicate (length (take (128 - m) (drop m out))) DEAD-STATE →
        put_mid m (128 - m) out xs ≡ lay 0 (ascii_part (aimed (target_at ts) segs ps count 0)) old
    unfolding goal_at
    ascii_done {xs} n e =
        let is : values (goal_at DEAD-STATE (aimed (target_at ts) segs ps (count - k) k)) m (128 - m) ≡ replicate (128 - m) DEAD-STATE ++ [] =
        ap (λ (rs : Row). values (goal_at DEAD-STATE rs) m (128 - m)) (aimed_done (target_at ts) segs ps count k n)
        ∙ values_one (goal_at DEAD-STATE []) DEAD-STATE m (128 - m) (λ p l h. refl)
        ∙ sym (append-nil (replicate (128 - m) DEAD-STATE)) in
        (going_done all 0 old
        (going_turn all 0 old [] m out (replicate (128 - m) DEAD-STATE) (part_filled m (128 - m) DEAD-STATE out xs (omega (arith, h.most, h.fits)) e)
        (subst (λ (y : List ℕ). Going all 0 old y m out) is h.going))).is

pub ruleset targeting =
    (rules, ascii_start, ascii_low, ascii_high, ascii_turn, ascii_done)

-- The rows stand in their buffers

pub rows_filled : (ts cs segs ps : List ℕ) (count : ℕ) {ascii ascii' wide wide' escape escape' : List ℕ} {n m : ℕ} →
    Split ts cs segs ps count ascii ascii' wide n wide' →
    Put (numbers (joined true ts cs segs ps count)) 0 escape m escape' → Filled (record { wide = n; escape = m }) ts cs segs ps count ascii ascii' wide wide' escape escape'
rows_filled ts cs segs ps count {n = n} {m = m} s p =
    let a : n ≡ length (numbers (joined false ts cs segs ps count)) = omega (arith, s.broad.next) in
    let b : m ≡ length (numbers (joined true ts cs segs ps count)) = omega (arith, p.next) in
    record { says = ap₂ {C = Said} (λ x y. ok (x ∷ y ∷ [])) a b; narrow = s.narrow; broad = s.broad.is; escapes = p.is }

pub ruleset standing = (rules, rows_filled)
