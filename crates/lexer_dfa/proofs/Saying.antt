-- The parts of what an answer says: two answers that say the same have the same parts, and none is both an answer and a refusal. Assumes nothing.
use Prim.Native.Nat.{ℕ}
use mathlib.Core.Path.{◌≡◌, sym, ap, subst, ◌∙◌}
use mathlib.Core.Bool.{Bool, true, false, false≢true}
use mathlib.Core.List.{List, []}
use Rattle.refusal.specs.declared.Refusal.{Refusal}
use Rattle.refusal.specs.Said.{Said, ok, no, no_by, refusal_at}

abbrev pub is_ok : Said → Bool
is_ok (ok l) = true
is_ok (no_by r) = false

abbrev pub values_of : Said → List ℕ
values_of (ok l) = l
values_of (no_by r) = []

abbrev refusal_in : Said → Refusal
refusal_in (ok l) = refusal_at 0 0
refusal_in (no_by r) = r

pub no_answer : {says : Said} {l : List ℕ} {r : Refusal} → says ≡ ok l → says ≡ no_by r → ⊥
no_answer a b = false≢true (sym (ap is_ok (sym a ∙ b)))

-- what holds of a refusal holds of it by other words, and what holds of a number and a place
pub by_refusal : (P : Refusal → Type 0) {says : Said} {q r : Refusal} → says ≡ no_by q → says ≡ no_by r → P q → P r
by_refusal P a b x = subst P (ap refusal_in (sym a ∙ b)) x

pub by_number : (P : ℕ → ℕ → Type 0) {says : Said} {n p m q : ℕ} → says ≡ no n p → says ≡ no m q → P n p → P m q
by_number P a b x = by_refusal (λ r. P r.number r.place) a b x

-- one condition or another
abbrev pub choose : Bool → Type 0 → Type 0 → Type 0
choose true A B = A
choose false A B = B
