-- A span that a record's call gives lies in the room, and a part by it is the record's. Assumes nothing.
use Prim.Native.Nat.{ℕ, ◌+◌, ◌*◌, ◌-◌, ◌≤◌}
use native.Mathlib.Omega.{arith}
use mathlib.Core.Path.{◌≡◌, refl}
use mathlib.Core.List.{List}
use lib.ListN.{length, get_or}
use denote.Ref.{Bor}
use borrow.Author.Rules.{rules}
use Rattle.std.specs.Prelude.{Result, Ok, Err}
use Rattle.room_find.specs.declared.Missing.{Missing}
use Rattle.room_find.specs.declared.Missing.TheVariants.{Absent, Outside}
use Rattle.room_find.specs.declared.Span.{Span}
use Rattle.room_find.specs.Room.{follow}
use Rattle.room_find.specs.Part.{PartOf}
use Rattle.look_accepts.specs.Record.{record_at, actions_from, actions_length, actions_span}
use Rattle.look_accepts.proofs.RecordLaws.{whole}
use Rattle.look_continuation_records.specs.declared.Whole.{Whole}
use Rattle.look_continuation_records.specs.Configs.{whole_at, of_whole, contexts_from, contexts_length, contexts_span, configs_from, configs_length, configs_span}
use Rattle.look_continuation_records.proofs.WholeLaws.{lies}

module _ (w : List ℕ) (i : ℕ) where
  actions_lie : (x : Result ℕ Missing) → record_at w i ≡ x → follow x (λ p. p + 3) 0 0 + follow x (λ p. get_or w (p + 2) 0 * 3) 0 0 ≤ length w
  unfolding follow
  actions_lie (Ok p) e = omega (arith, whole w i e)
  actions_lie (Err Absent) e = omega arith
  actions_lie (Err Outside) e = omega arith

  contexts_lie : (x : Result Whole Missing) → whole_at w i ≡ x → of_whole x (λ p q z. p + 1) 0 0 + of_whole x (λ p q z. q - (p + 1)) 0 0 ≤ length w
  unfolding of_whole
  contexts_lie (Ok z) e = let l = lies w i e in omega (arith, l.contexts, l.configs, l.inside)
  contexts_lie (Err Absent) e = omega arith
  contexts_lie (Err Outside) e = omega arith

  configs_lie : (x : Result Whole Missing) → whole_at w i ≡ x → of_whole x (λ p q z. q + 1) 0 0 + of_whole x (λ p q z. z - (q + 1)) 0 0 ≤ length w
  unfolding of_whole
  configs_lie (Ok z) e = let l = lies w i e in omega (arith, l.configs, l.inside)
  configs_lie (Err Absent) e = omega arith
  configs_lie (Err Outside) e = omega arith

  pub actions_in : {s : Span} → s ≡ actions_span w i → s.from + s.length ≤ length w
  actions_in e = rw e (actions_lie (record_at w i) refl)

  pub contexts_in : {s : Span} → s ≡ contexts_span w i → s.from + s.length ≤ length w
  contexts_in e = rw e (contexts_lie (whole_at w i) refl)

  pub configs_in : {s : Span} → s ≡ configs_span w i → s.from + s.length ≤ length w
  configs_in e = rw e (configs_lie (whole_at w i) refl)

module _ (room : Bor (List ℕ)) (i : ℕ) {s : Span} {part : Bor (List ℕ)} where
  pub actions_part : s ≡ actions_span room.now i → PartOf room s.from s.length part
      → PartOf room (actions_from room.now i) (actions_length room.now i) part
  actions_part e h = rw e at h

  pub contexts_part : s ≡ contexts_span room.now i → PartOf room s.from s.length part
      → PartOf room (contexts_from room.now i) (contexts_length room.now i) part
  contexts_part e h = rw e at h

  pub configs_part : s ≡ configs_span room.now i → PartOf room s.from s.length part
      → PartOf room (configs_from room.now i) (configs_length room.now i) part
  configs_part e h = rw e at h

pub ruleset parting = (rules, actions_in, contexts_in, configs_in, actions_part, contexts_part, configs_part)
