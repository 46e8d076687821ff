-- Numbers of any width, joined by their bits. A law with its proof, and no definition: it stands here since the impls of `Number` cite it.
use Rattle.std.specs.Prelude.{◌≡◌, ℕ, bit_or}
use Rattle.std.proofs.Common.{subst, ◌≤◌}
use Rattle.std.proofs.lemmas.Nat.{le_or_l, le_or_r}
use lib.Arith.{le-zero}

-- where no bit of both is set, none of either is
pub or_zero : (a b : ℕ) → bit_or a b ≡ 0 → (a ≡ 0) × (b ≡ 0)
or_zero a b h = (le-zero (subst (λ (n : ℕ). a ≤ n) h (le_or_l a b)), le-zero (subst (λ (n : ℕ). b ≤ n) h (le_or_r a b)))
