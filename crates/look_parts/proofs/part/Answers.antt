-- The part is the room itself from there on.
use native.Mathlib.Omega.{arith}
use Prim.Native.Nat.{ℕ, ◌+◌, ◌-◌}
use mathlib.Core.Path.{◌≡◌, refl, ap}
use lib.ListN.{take, drop}
use Rattle.look_parts.proofs.part.Goals as goal

pub returns : goal.returns
returns c =
    let a = c.args in
    let e : a.span.from + a.span.length - a.span.from ≡ a.span.length = omega arith in
    record { numbers = ap (λ (n : ℕ). take n (drop a.span.from a.room.now)) e; itself = refl }
