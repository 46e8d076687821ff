-- The laws of the call for distinct masks without their places: its own buffer for these has room. w is the list's bytes. Assumes nothing.
use mathlib.Core.Path.{◌≡◌, sym, ap, ap₂, ◌∙◌}
use mathlib.Core.List.{List, [], ◌∷◌}
use Prim.Native.Nat.{ℕ}
use native.Mathlib.Omega.{arith}
use borrow.Author.Rules.{rules}
use lib.ListN.{length, length-replicate}
use Rattle.std.specs.Prelude.{Result, Ok, Err}
use Rattle.refusal.specs.declared.Refusal.{Refusal}
use Rattle.refusal.specs.Said.{Said, ok}
use Rattle.list_transitions.specs.Read.{Parsed, parsed, refused}
use Rattle.list_masks.specs.declared.Masks.{Masks}
use Rattle.list_distinct.specs.declared.Places.{Places}
use Rattle.list_masks.specs.Masks.{words_for, distinct_of}
use Rattle.list_masks.specs.Answer.{said, parse_distinct, counted, Distinct}
use Rattle.list_distinct.specs.Answer.{told, parse_places, found_in, Placed}
use Rattle.list_distinct.proofs.PlaceAnswers.{roomy_places}

found-said : (x : Parsed) {f : Places} → told (Ok f) ≡ found_in x → said (Ok (record { masks = f.masks; words = f.words })) ≡ counted distinct_of x
unfolding found_in counted
found-said (parsed ts) {f} e =
    let a : f.masks ≡ length (distinct_of ts) = cc in
    let b : f.words ≡ words_for (length ts) = cc in
    ap₂ {C = Said} (λ x y. ok (x ∷ y ∷ [])) a b
found-said (refused n p) e = let z : ◌≡◌ {A = ℕ} 0 1 = cc in absurd (omega arith)

none_said : (x : Parsed) {r : Refusal} → told (Err r) ≡ found_in x → said (Err r) ≡ counted distinct_of x
unfolding found_in counted
none_said (parsed ts) e = let z : ◌≡◌ {A = ℕ} 0 1 = cc in absurd (omega arith)
none_said (refused n p) e = e

module _ (w a b e : List ℕ) {ps : List ℕ} {got : Result Places Refusal} {ns ms out : List ℕ}
    (h : Placed got (length a) ns (length b) ms (length e) out 2048 ps (parse_places (length a) (length b) (length e) 2048 w)) where
  abbrev x : Parsed
  x = parse_distinct (length a) (length b) (length e) w

  same_list_lem : parse_places (length a) (length b) (length e) 2048 w ≡ x
  same_list_lem = roomy_places (length a) (length b) (length e) w

  without : {r : Result Masks Refusal} → said r ≡ counted distinct_of x → Distinct r (length a) ns (length b) ms (length e) out x
  without s =
      let g = rw same_list_lem at h in
      record { says = s; low_high = g.low_high; each = g.each; leaves = g.once }

  pub without_places : {f : Places} → got ≡ Ok f →
      Distinct (Ok (record { masks = f.masks; words = f.words })) (length a) ns (length b) ms (length e) out (parse_distinct (length a) (length b) (length e) w)
  without_places i = without (found-said x (ap told (sym i) ∙ h.says ∙ ap found_in same_list_lem))

  pub without_refused : {r : Refusal} → got ≡ Err r →
      Distinct (Err r) (length a) ns (length b) ms (length e) out (parse_distinct (length a) (length b) (length e) w)
  without_refused i = without (none_said x (ap told (sym i) ∙ h.says ∙ ap found_in same_list_lem))

pub ruleset distincts = (rules, length-replicate, without_places, without_refused)
