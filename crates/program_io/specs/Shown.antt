-- Writing onto a page of any length: what does not fit is cut off, and nothing else changes. Assumes nothing.
use Rattle.std.specs.Prelude.{ℕ, ◌+◌, ◌-◌, min, ◌≡◌, List, length}
use Rattle.buffer.specs.Over.{lay}

-- how far x bytes from place n on reach on a page of l bytes
unfoldable pub reached : ℕ → ℕ → ℕ → ℕ
reached n x l = n + min x (l - n)

-- xs was written over `old` from n on, as far as the page goes, which gave `new`; r is the place behind it
pub record Shown (xs : List ℕ) (n : ℕ) (old : List ℕ) (r : ℕ) (new : List ℕ) : Type 0 where
  pub next : r ≡ reached n (length xs) (length old)
  pub is : new ≡ lay n xs old
