-- The law of every loop and every chain of calls that writes. xs is to be written over `old` from n on; some of it stands, and `rest`
-- is to come, from m on. Assumes nothing.
use mathlib.Core.Path.{◌≡◌, refl, sym, ap, subst, ◌∙◌}
use mathlib.Core.List.{List, [], ◌∷◌, ◌++◌}
use Prim.Native.Nat.{ℕ, ◌+◌, ◌<◌, ◌≤◌}
use native.Mathlib.Omega.{arith}
use lib.ListN.{length, set, length-append, length-set}
use Rattle.buffer.specs.Over.{lay, Put}
use Rattle.buffer.proofs.Overs.{lay-length, lay-none, lay_put, lay-lay}

pub record Going (xs : List ℕ) (n : ℕ) (old : List ℕ) (rest : List ℕ) (m : ℕ) (out : List ℕ) : Type 0 where
  pub next : m + length rest ≡ n + length xs
  pub is : lay m rest out ≡ lay n xs old
  pub size : length out ≡ length old
  pub room : n + length xs ≤ length old

pub going_start : (xs : List ℕ) (n : ℕ) (old : List ℕ) → n + length xs ≤ length old → Going xs n old xs n old
going_start xs n old h = record { next = refl; is = refl; size = refl; room = h }

pub going_done : (xs : List ℕ) (n : ℕ) (old : List ℕ) {m : ℕ} {out : List ℕ} → Going xs n old [] m out → Put xs n old m out
going_done xs n old {m} {out} g = record { next = omega (arith, g.next); is = sym (lay-none m out) ∙ g.is }

module _ (xs : List ℕ) (n : ℕ) (old rest : List ℕ) (m : ℕ) (out : List ℕ) where
  -- there is room for what comes next
  pub going_room : (ys : List ℕ) → Going xs n old (ys ++ rest) m out → m + length ys ≤ length out
  going_room ys g = omega (arith, g.next, g.size, g.room, length-append ys rest)

  -- a call wrote what comes next
  pub going_turn : (ys : List ℕ) {r : ℕ} {new : List ℕ} → Put ys m out r new → Going xs n old (ys ++ rest) m out → Going xs n old rest r new
  going_turn ys {r} {new} p g =
      record {
        next = omega (arith, p.next, g.next, length-append ys rest);
        is = (rw (p.next, p.is) (lay-lay m ys rest out (going_room ys g))) ∙ g.is;
        size = ap length p.is ∙ lay-length m ys out ∙ g.size;
        room = g.room;
      }

  -- one number was stored
  pub going_place : (x : ℕ) → Going xs n old (x ∷ rest) m out → m < length out
  going_place x g = omega (arith, g.next, g.size, g.room)

  pub going_put : (x : ℕ) → Going xs n old (x ∷ rest) m out → Going xs n old rest (m + 1) (set out m x)
  going_put x g =
      record {
        next = omega (arith, g.next);
        is = lay_put m x rest out (going_place x g) ∙ g.is;
        size = length-set out m x ∙ g.size;
        room = g.room;
      }

-- Nothing, and numbers that are stored in front of what a call writes

pub put_none : (n : ℕ) (d : List ℕ) → Put [] n d n d
put_none n d = record { next = omega arith; is = sym (lay-none n d) }

pub put_one : (x : ℕ) (rest : List ℕ) (n : ℕ) (d : List ℕ) {r : ℕ} {new : List ℕ} → Put rest (n + 1) (set d n x) r new →
    n + 1 + length rest ≤ length d → Put (x ∷ rest) n d r new
put_one x rest n d p h = record { next = omega (arith, p.next); is = p.is ∙ lay_put n x rest d (omega arith) }

pub put_two : (x y : ℕ) (rest : List ℕ) (n : ℕ) (d : List ℕ) {r : ℕ} {new : List ℕ} → Put rest (n + 2) (set (set d n x) (n + 1) y) r new →
    n + 2 + length rest ≤ length d → Put (x ∷ y ∷ rest) n d r new
put_two x y rest n d {r} {new} p h =
    let e : n + 2 ≡ n + 1 + 1 = omega arith in
    let q : Put rest (n + 1 + 1) (set (set d n x) (n + 1) y) r new = subst (λ k. Put rest k (set (set d n x) (n + 1) y) r new) e p in
    let l : length (set d n x) ≡ length d = length-set d n x in
    put_one x (y ∷ rest) n d (put_one y rest (n + 1) (set d n x) q (omega arith)) (omega arith)

pub put_pair : (x y n : ℕ) (d : List ℕ) → n + 2 ≤ length d → Put (x ∷ y ∷ []) n d (n + 2) (set (set d n x) (n + 1) y)
put_pair x y n d h = put_two x y [] n d (put_none (n + 2) (set (set d n x) (n + 1) y)) (omega arith)

-- What is written keeps the length

pub put_size : {xs : List ℕ} {n : ℕ} {old : List ℕ} {r : ℕ} {new : List ℕ} → Put xs n old r new → length new ≡ length old
put_size {xs} {n} {old} p = ap length p.is ∙ lay-length n xs old

pub put_size_1 : (i x : ℕ) (d : List ℕ) {xs : List ℕ} {n r : ℕ} {new : List ℕ} → Put xs n (set d i x) r new → length new ≡ length d
put_size_1 i x d p = put_size p ∙ length-set d i x
