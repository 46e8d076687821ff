-- What is read from bytes. Assumes nothing.
use Rattle.std.specs.Prelude.{◌≡◌, ℕ, zero, suc, ◌+◌, ◌*◌, ◌/◌, min, List, [], ◌∷◌, length, take, drop, slice_index}
use Rattle.std.specs.Borrow.{Bor}
use Rattle.buffer.specs.Over.{Put}

-- the number of the first k bytes, the least first; past the end every byte is 0
unfoldable pub number : ℕ → List ℕ → ℕ
number zero s = 0
number (suc k) s = slice_index s 0 + 256 * number k (drop 1 s)

-- the first k bytes, and a 0 for each that is not there
unfoldable pub padded : ℕ → List ℕ → List ℕ
padded zero s = []
padded (suc k) s = slice_index s 0 ∷ padded k (drop 1 s)

-- n numbers of k bytes, one behind the other
unfoldable pub numbers : ℕ → ℕ → List ℕ → List ℕ
numbers k zero s = []
numbers k (suc n) s = number k s ∷ numbers k n (drop k s)

-- the whole numbers of k bytes, as many as there is place for, were put at the front of `old`, which gave `new`, and r is how many these are
abbrev pub PutWhole : ℕ → List ℕ → List ℕ → ℕ → List ℕ → Type 0
PutWhole k bytes old r new = Put (numbers k (min (length bytes / k) (length old)) bytes) 0 old r new

-- what stands after the first n bytes: the bytes themselves, and no copy
pub record After (s : Bor (List ℕ)) (n : ℕ) (r : Bor (List ℕ)) : Type 0 where
  pub bytes : r.now ≡ drop n s.now
  pub itself : r.ref_ptr ≡ (s.ref_ptr.0, min n (length s.now) + s.ref_ptr.1)

-- the n bytes from a place on, or all of them where there are fewer
pub record Part (s : Bor (List ℕ)) (from n : ℕ) (r : Bor (List ℕ)) : Type 0 where
  pub bytes : r.now ≡ take n (drop from s.now)
  pub itself : r.ref_ptr ≡ (s.ref_ptr.0, min from (length s.now) + s.ref_ptr.1)
