-- The law of writing a list in parts, one behind the other: room for each, and all of it at the end. Assumes nothing.
use Prim.Native.Nat.{ℕ, ◌+◌, ◌≤◌}
use native.Mathlib.Omega.{arith}
use mathlib.Core.List.{List, [], ◌++◌, append-nil}
use lib.ListN.{length}
use Rattle.buffer.specs.Over.{Put}
use Rattle.buffer.proofs.Going.{Going, going_start, going_room, going_turn, going_done}

-- the last part
last : (xs : List ℕ) (n : ℕ) (d : List ℕ) (ys : List ℕ) (m : ℕ) (out : List ℕ) {r : ℕ} {new : List ℕ} → Put ys m out r new
    → Going xs n d ys m out → Put xs n d r new
last xs n d ys m out p g = going_done xs n d (going_turn xs n d [] m out ys p (rw (← append-nil ys) at g))

last-room : (xs : List ℕ) (n : ℕ) (d : List ℕ) (ys : List ℕ) (m : ℕ) (out : List ℕ) → Going xs n d ys m out → m + length ys ≤ length out
last-room xs n d ys m out g = omega (arith, g.next, g.size, g.room)

-- Two parts, or the first of more

module _ (A B : List ℕ) (n : ℕ) (d : List ℕ) where
  pub first_room : n + length (A ++ B) ≤ length d → n + length A ≤ length d
  first_room h = going_room (A ++ B) n d B n d A (going_start (A ++ B) n d h)

  module _ {n₁ : ℕ} {d₁ : List ℕ} where
    going_1 : Put A n d n₁ d₁ → n + length (A ++ B) ≤ length d → Going (A ++ B) n d B n₁ d₁
    going_1 p h = going_turn (A ++ B) n d B n d A p (going_start (A ++ B) n d h)

    pub two-room : Put A n d n₁ d₁ → n + length (A ++ B) ≤ length d → n₁ + length B ≤ length d₁
    two-room p h = last-room (A ++ B) n d B n₁ d₁ (going_1 p h)

    pub two_put : {n₂ : ℕ} {d₂ : List ℕ} → Put B n₁ d₁ n₂ d₂ → Put A n d n₁ d₁ → n + length (A ++ B) ≤ length d → Put (A ++ B) n d n₂ d₂
    two_put q p h = last (A ++ B) n d B n₁ d₁ q (going_1 p h)

-- Three parts

module _ (A B C : List ℕ) (n : ℕ) (d : List ℕ) {n₁ : ℕ} {d₁ : List ℕ} where
  pub middle_room : Put A n d n₁ d₁ → n + length (A ++ (B ++ C)) ≤ length d → n₁ + length B ≤ length d₁
  middle_room p h = first_room B C n₁ d₁ (two-room A (B ++ C) n d p h)

  module _ {n₂ : ℕ} {d₂ : List ℕ} where
    pub three_room : Put B n₁ d₁ n₂ d₂ → Put A n d n₁ d₁ → n + length (A ++ (B ++ C)) ≤ length d → n₂ + length C ≤ length d₂
    three_room q p h = two-room B C n₁ d₁ q (two-room A (B ++ C) n d p h)

    pub three_put : {n₃ : ℕ} {d₃ : List ℕ} → Put C n₂ d₂ n₃ d₃ → Put B n₁ d₁ n₂ d₂ → Put A n d n₁ d₁ → n + length (A ++ (B ++ C)) ≤ length d
        → Put (A ++ (B ++ C)) n d n₃ d₃
    three_put t q p h = two_put A (B ++ C) n d (two_put B C n₁ d₁ t q (two-room A (B ++ C) n d p h)) p h
