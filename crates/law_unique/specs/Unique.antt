-- Uniqueness (document 01, "Which sentences bind a function"): "For every input, refusals too,
-- each public function's contract determines the result and every lent number after the call".
-- A contract is taken as it is generated from the source's clauses: it says which answers a call may give, of its lifetimes, its arguments, the answer,
-- and its arguments at exit. Assumes nothing.
use Rattle.std.specs.Prelude.{ℕ, ◌≡◌, List}
use Rattle.std.specs.Borrow.{Bor, MutBor}

-- two answers that a contract allows to one call are equal
abbrev pub Determines : {K : Type 0} {A X E : K → Type 0} → ((κs : K) → A κs → X κs → E κs → Type 0) → Type 0
Determines {K} {A} {X} {E} C = (κs : K) (a : A κs) (x y : X κs) (e f : E κs) → C κs a x e → C κs a y f → x ≡ y

-- where the answer is a part of a slice: they start at one place, and have the same elements
abbrev pub DeterminesPart : {K : Type 0} {A E : K → Type 0} → ((κs : K) → A κs → Bor (List ℕ) → E κs → Type 0) → Type 0
DeterminesPart {K} {A} {E} C = (κs : K) (a : A κs) (x y : Bor (List ℕ)) (e f : E κs) → C κs a x e → C κs a y f → (x.ref_ptr ≡ y.ref_ptr) × (x.now ≡ y.now)

-- where the call writes a slice that it is lent: the answers are equal, and so are the lists in the slice at exit.
-- `lent` takes the slice from the arguments at exit
abbrev pub DeterminesBoth : {K : Type 0} {A X E : K → Type 0} → ((κs : K) → E κs → MutBor (List ℕ)) → ((κs : K) → A κs → X κs → E κs → Type 0) → Type 0
DeterminesBoth {K} {A} {X} {E} lent C = (κs : K) (a : A κs) (x y : X κs) (e f : E κs) → C κs a x e → C κs a y f → (x ≡ y) × ((lent κs e).now ≡ (lent κs f).now)

-- where it writes several: the answers are equal, and so are the lists in all of the slices at exit. `lent` takes these from the arguments at exit
abbrev pub DeterminesAll : {K : Type 0} {A X E : K → Type 0} → ((κs : K) → E κs → List (List ℕ)) → ((κs : K) → A κs → X κs → E κs → Type 0) → Type 0
DeterminesAll {K} {A} {X} {E} lent C = (κs : K) (a : A κs) (x y : X κs) (e f : E κs) → C κs a x e → C κs a y f → (x ≡ y) × (lent κs e ≡ lent κs f)
