-- The search of a row of ranges, of wide and escape rows alike (document 01, "Lookups"). Assumes nothing.
use Rattle.std.specs.Prelude.{ℕ, zero, suc, ◌+◌, ◌*◌, List, [], ◌∷◌, length, get_or, ltb, leb, Option, Some, None, Result, Ok, Err}
use Rattle.refusal.specs.Said.{Said, ok}
use Rattle.refusal.specs.Lists.{pick}
use Rattle.room_find.specs.declared.Missing.{Missing}
use Rattle.room_find.specs.declared.Missing.TheVariants.{Outside}
use Rattle.room_find.specs.Answer.{refused}

-- the third number of the range that is chosen; that none is; or a refusal
abbrev pub said : Result (Option ℕ) Missing → Said
said (Ok (Some t)) = ok (t ∷ [])
said (Ok None) = ok []
said (Err m) = refused m

-- "read to the first range whose high is at least the symbol;
-- its target if low is at most the symbol": of n ranges from `at`, each low, high and a third number
unfoldable pub found : List ℕ → ℕ → ℕ → ℕ → Option ℕ
found w x zero at = None
found w x (suc n) at = pick (leb x (get_or w (at + 1) 0)) (pick (leb (get_or w at 0) x) (Some (get_or w (at + 2) 0)) None) (found w x n (at + 3))

-- the row of n ranges whose length stands at `at`, in a section that ends at e: its whole length lies in its section before it is searched
abbrev pub counted : List ℕ → ℕ → ℕ → ℕ → ℕ → Result (Option ℕ) Missing
counted w at e n x = pick (ltb (n * 3 + at) e) (Ok (found w x n (at + 1))) (Err Outside)

unfoldable pub searched : List ℕ → ℕ → ℕ → ℕ → Result (Option ℕ) Missing
searched w at e x = pick (leb e (length w)) (pick (ltb at e) (counted w at e (get_or w at 0) x) (Err Outside)) (Err Outside)

-- go on with what a search gives
unfoldable pub given : {A : Type 0} → Result (Option ℕ) Missing → (ℕ → A) → A → A → A
given (Ok (Some t)) f gap outside = f t
given (Ok None) f gap outside = gap
given (Err m) f gap outside = outside
