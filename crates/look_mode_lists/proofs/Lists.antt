-- What a call that writes a list answers and leaves in the buffer: d is the buffer of zeros, new what it holds at the end. Assumes nothing.
use Prim.Native.Nat.{ℕ, suc, ◌+◌, ◌<◌, ◌≤◌}
use native.Mathlib.Omega.{arith}
use mathlib.Core.Path.{◌≡◌, sym, ap, ◌∙◌}
use mathlib.Core.List.{List, [], ◌∷◌}
use lib.ListN.{length, get_or, drop, drop_of_length-le, length-replicate}
use Rattle.std.proofs.Common.{drop-cons}
use Rattle.refusal.specs.Said.{ok, refusal_at}
use Rattle.buffer.specs.Over.{lay, Put, zeros}
use Rattle.buffer.proofs.Overs.{lay-zeros}
use Rattle.look_mode_lists.specs.Written.{wrote, refused, Writes}
use Rattle.std.specs.Prelude.{Result, Ok, Err}
use Rattle.refusal.specs.declared.Refusal.{Refusal}

-- a list that was written over zeros
pub written : (l d : List ℕ) {r : ℕ} {new : List ℕ} → length l ≤ length d → d ≡ zeros (length d) → Put l 0 d r new → Writes (Ok r) (length d) new (wrote l)
written l d {r} h z p =
    let n : r ≡ length l = omega (arith, p.next) in
    record { says = ap (λ (k : ℕ). ok (k ∷ [])) n; leaves = p.is ∙ ap (lay 0 l) z ∙ lay-zeros (length d) l h }

-- a refusal, with nothing written
pub unwritten : (d : List ℕ) {n p : ℕ} {r : Result ℕ Refusal} → r ≡ Err (refusal_at n p) → d ≡ zeros (length d) → Writes r (length d) d (refused n p)
unwritten d e z = record { says = rw e; leaves = z }

-- The buffer was cleared first

module _ (old : List ℕ) {d : List ℕ} (z : d ≡ zeros (length old)) where
  pub cleared_length : length d ≡ length old
  cleared_length = ap length z ∙ length-replicate (length old) 0

  pub cleared : d ≡ zeros (length d)
  cleared = z ∙ ap zeros (sym cleared_length)

-- A list that is gone through one after the other

pub opens : (ys : List ℕ) (j : ℕ) → j < length ys → drop j ys ≡ get_or ys j 0 ∷ drop (j + 1) ys
opens ys j h = let e : j + 1 ≡ suc j = omega arith in rw (e, drop-cons ys j 0)

pub closes : (ys : List ℕ) (j : ℕ) → length ys ≤ j → drop j ys ≡ []
closes ys j h = drop_of_length-le ys h
