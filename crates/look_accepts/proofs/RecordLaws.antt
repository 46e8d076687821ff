-- The laws of the accepts' records: where a record lies that is found. Assumes nothing.
use Prim.Native.Nat.{ℕ, ◌+◌, ◌*◌, ◌^◌, ◌<◌}
use native.Mathlib.Omega.{arith}
use mathlib.Core.Path.{◌≡◌, refl, sym, ◌∙◌}
use mathlib.Core.List.{List}
use lib.Dec.{ltb}
use lib.ListN.{length, get_or}
use mir.Syntax.{w64}
use mir.Val.{Fits}
use borrow.Author.Tests.{ltb-true}
use Rattle.std.specs.Prelude.{Result, Ok, Err}
use Rattle.room_find.specs.declared.Missing.{Missing}
use Rattle.room_find.specs.declared.Missing.TheVariants.{Absent, Outside}
use Rattle.room_find.specs.Room.{listed_at, follow}
use Rattle.room_find.proofs.Records.{held, listed_lies, ofstate, oflist}
use Rattle.look_accepts.specs.Record.{whole_to, record_at}

-- one more test was passed
followed : (x : Result ℕ Missing) (k : ℕ → Result ℕ Missing) {p : ℕ} → follow x k (Err Absent) (Err Outside) ≡ Ok p → (q : ℕ) × (x ≡ Ok q) × (k q ≡ Ok p)
unfolding follow
followed (Ok q) k h = (q, refl, h)
followed (Err Absent) k h = let z : ◌≡◌ {A = ℕ} 0 1 = cc in absurd (omega arith)
followed (Err Outside) k h = let z : ◌≡◌ {A = ℕ} 0 1 = cc in absurd (omega arith)

-- the record lies in the room, whole
pub whole : (w : List ℕ) (i : ℕ) {p : ℕ} → record_at w i ≡ Ok p → get_or w (p + 2) 0 * 3 + (p + 2) < length w
unfolding record_at whole_to
whole w i {p} h =
    let f = followed (listed_at w 6 i) (whole_to w (get_or w 7 0)) h in
    let q = f.0 in
    let l = listed_lies w 6 i f.1 in
    let h₁ = held (ltb (q + 2) (get_or w 7 0)) f.2 in
    let h₂ = held (ltb (get_or w (q + 2) 0 * 3 + (q + 2)) (get_or w 7 0)) h₁.1 in
    let e : q ≡ p = cc in
    let b : get_or w (q + 2) 0 * 3 + (q + 2) < length w = omega (arith, ltb-true (get_or w (q + 2) 0 * 3 + (q + 2)) (get_or w 7 0) h₂.0) in
    rw e at b

module _ (w : List ℕ) (i : ℕ) {p : ℕ} {got : Result ℕ Missing} (g : got ≡ record_at w i) (e : got ≡ Ok p) where
  pub record_first : p < length w
  record_first = omega (arith, whole w i (sym g ∙ e))

  pub record_number : (j : ℕ) → j < 3 → p + j < length w
  record_number j h = omega (arith, whole w i (sym g ∙ e))

  pub record_index : (j : ℕ) → j < 4 → length w * 4 < 2 ^ 63 → Fits w64 (p + j)
  record_index j h l = record { fits = omega (arith, whole w i (sym g ∙ e)) }

  pub record_bytes : length w * 4 < 2 ^ 63 → Fits w64 (p * 4)
  record_bytes l = record { fits = omega (arith, whole w i (sym g ∙ e)) }

-- where what is found lies
pub ruleset chain = (ofstate, oflist, record_first, record_number, record_index, record_bytes)
