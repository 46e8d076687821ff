-- What the reader of a run answers says where the run ends. Assumes nothing.
use Prim.Native.Nat.{ℕ, ◌+◌, ◌*◌, ◌^◌, ◌<◌, ◌≤◌}
use native.Mathlib.Omega.{arith}
use mathlib.Core.Path.{◌≡◌, refl, sym, ◌∙◌}
use mathlib.Core.Bool.{Bool, true, false}
use mathlib.Core.List.{List}
use lib.Dec.{ltb}
use lib.ListN.{length}
use borrow.Author.Tests.{ltb-true}
use mir.Syntax.{w64}
use mir.Val.{Fits}
use Rattle.refusal.specs.Lists.{pick}
use Rattle.refusal.specs.Said.{SHORT}
use Rattle.run_shape.specs.declared.AsciiRun.{AsciiRun}
use Rattle.run_shape.specs.declared.AsciiRun.TheVariants.{None, Any, Until1, Until2, Until3, Ranges}
use Rattle.run_shape.specs.Shape.{Got, refused}
use Rattle.run_shape.specs.Words.{read_at, size_of}
use Rattle.std.specs.Prelude.{Ok}

-- a run has at most three words
size_≤ : (k : AsciiRun) → size_of k ≤ 3
size_≤ None = omega arith
size_≤ Any = omega arith
size_≤ (Until1 a) = omega arith
size_≤ (Until2 a b) = omega arith
size_≤ (Until3 a b c) = omega arith
size_≤ (Ranges r) = omega arith

-- a run was read: its place is one of the input
there : (b : Bool) (g : Got) (n p : ℕ) {k : AsciiRun} → pick b g (refused n p) ≡ Ok k → b ≡ true
there true g n p e = refl
there false g n p e = let z : ◌≡◌ {A = ℕ} 0 1 = cc in absurd (omega arith)

inside : (w : List ℕ) (at : ℕ) {k : AsciiRun} → read_at w at ≡ Ok k → at < length w
unfolding read_at
inside w at e = ltb-true at (length w) (there (ltb at (length w)) _ SHORT (length w) e)

-- so a place that is a run's size further is a number of the machine
pub end_fits : (w : List ℕ) (at n : ℕ) (k : AsciiRun) {r : Got} → r ≡ read_at w at → r ≡ Ok k → n ≡ size_of k → length w * 4 < 2 ^ 63 → Fits w64 (at + n)
end_fits w at n k h e s l = omega (arith, inside w at (sym h ∙ e), size_≤ k)
