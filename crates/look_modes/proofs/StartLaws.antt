-- The laws of a mode: where it lies, and that what is said takes no two answers to one. Assumes nothing.
use Prim.Native.Nat.{ℕ, ◌*◌, ◌^◌, ◌<◌}
use native.Mathlib.Omega.{arith}
use mathlib.Core.Path.{◌≡◌, refl, sym, ap, ◌∙◌}
use mathlib.Core.Bool.{Bool}
use mathlib.Core.List.{List, [], ◌∷◌}
use lib.Dec.{ltb, leb, eqb}
use lib.ListN.{length, get_or}
use mir.Syntax.{w64}
use mir.Val.{Fits}
use Rattle.refusal.specs.Said.{Said, ok, no_by}
use Rattle.refusal.proofs.Flags.{flag-back}
use Rattle.std.specs.Prelude.{Option, Some, None, Result, Ok, Err}
use Rattle.refusal.specs.Said.{STATE}
use Rattle.refusal.specs.Lists.{pick}
use Rattle.room_find.specs.declared.Missing.{Missing}
use Rattle.room_find.specs.declared.Missing.TheVariants.{Absent, Outside}
use Rattle.room_find.specs.declared.Span.{Span}
use Rattle.refusal.specs.Header.{MODES-START, STATES-START, CONTINUATIONS-START}
use Rattle.room_find.proofs.Records.{held, held-absent, record_in_room}
use Rattle.look_modes.specs.Start.{said, mode_at}
use Rattle.look_modes.specs.Modes.{modes_said, compiled_said}

-- a mode that is found lies in the room
mode_lies : (w : List ℕ) (m : ℕ) {p : ℕ} → mode_at w m ≡ Ok p → p < length w
unfolding mode_at
mode_lies w m {p} h =
    let s = get_or w MODES-START 0 in
    let e = get_or w STATES-START 0 in
    let h₁ = held (ltb CONTINUATIONS-START (length w)) h in
    let h₂ = held (ltb s e) h₁.1 in
    let h₃ = held (leb e (length w)) h₂.1 in
    let h₄ = held-absent (ltb m 2147483648) h₃.1 in
    omega (arith, record_in_room w s e 1 m h₄.1)

module _ (w : List ℕ) (m : ℕ) {p : ℕ} {got : Result ℕ Missing} (g : got ≡ mode_at w m) (e : got ≡ Ok p) where
  pub mode_there : p < length w
  mode_there = mode_lies w m (sym g ∙ e)

  pub mode_bytes : length w * 4 < 2 ^ 63 → Fits w64 (p * 4)
  mode_bytes l = record { fits = omega (arith, mode_lies w m (sym g ∙ e)) }

pub ruleset chain = (mode_there, mode_bytes)

-- what is said takes no two answers to one: it gives the answer back
abbrev why : {A : Type 0} → ℕ → Result A Missing
why n = pick (eqb n STATE) (Err Absent) (Err Outside)

abbrev start_back : Said → Result (Option ℕ) Missing
start_back (ok []) = Ok None
start_back (ok (s ∷ l)) = Ok (Some s)
start_back (no_by r) = why r.number

start_back_lem : (x : Result (Option ℕ) Missing) → start_back (said x) ≡ x
start_back_lem (Ok (Some s)) = refl
start_back_lem (Ok None) = refl
start_back_lem (Err Absent) = refl
start_back_lem (Err Outside) = refl

pub said_one : (x y : Result (Option ℕ) Missing) → said x ≡ said y → x ≡ y
said_one x y e = sym (start_back_lem x) ∙ ap start_back e ∙ start_back_lem y

abbrev compiled_back : Said → Result Bool Missing
compiled_back (ok l) = Ok (eqb (get_or l 0 0) 1)
compiled_back (no_by r) = why r.number

compiled-back : (x : Result Bool Missing) → compiled_back (compiled_said x) ≡ x
compiled-back (Ok b) = rw (flag-back b)
compiled-back (Err Absent) = refl
compiled-back (Err Outside) = refl

pub compiled-said_one : (x y : Result Bool Missing) → compiled_said x ≡ compiled_said y → x ≡ y
compiled-said_one x y e = sym (compiled-back x) ∙ ap compiled_back e ∙ compiled-back y

abbrev modes_back : Said → Result Span Missing
modes_back (ok l) = Ok (record { from = get_or l 0 0; length = get_or l 1 0 })
modes_back (no_by r) = why r.number

modes_back_lem : (x : Result Span Missing) → modes_back (modes_said x) ≡ x
modes_back_lem (Ok s) = refl
modes_back_lem (Err Absent) = refl
modes_back_lem (Err Outside) = refl

pub modes_said_one : (x y : Result Span Missing) → modes_said x ≡ modes_said y → x ≡ y
modes_said_one x y e = sym (modes_back_lem x) ∙ ap modes_back e ∙ modes_back_lem y
