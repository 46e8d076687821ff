-- The laws of writing one record with flags, and a continuation. Assumes nothing.
use Prim.Native.Nat.{ℕ, suc, ◌+◌, ◌*◌, ◌-◌, ◌<◌, ◌≤◌}
use native.Mathlib.Numerals.{add-one}
use native.Mathlib.Omega.{arith}
use mathlib.Core.Path.{◌≡◌, refl, ap, ◌∙◌}
use mathlib.Core.List.{List, ◌∷◌, ◌++◌}
use mathlib.Core.Bool.{Bool, true, false, not}
use mir.Val.{bool_byte}
use lib.Dec.{eqb}
use Rattle.refusal.specs.Lists.{pick}
use lib.ListN.{length, get_or, take, drop, length-append, length-take, length-drop}
use lib.Seq.{drop-cons, take_all}
use Rattle.std.specs.Prelude.{map, Ok}
use Rattle.std.proofs.lemmas.List.{length-map}
use Rattle.word_reader.specs.Records.{accept_at, config_at, continuation_at}
use Rattle.word_reader.proofs.Bounds.{accept-sized, config_sized, configs_behind, section_in}
use Rattle.buffer.specs.Over.{Put}
use Rattle.room_fill.specs.Room.{copied, flag, renewed, accept_made, config_made, continuation_made}
use Rattle.room_fill.specs.Flagged.{flagged}
use Rattle.room_fill.proofs.Parts.{first_room, two-room, two_put, three_put}
use Rattle.room_fill.proofs.Sizes.{accept-sized-made, config_sized_made}

-- A flag

pub flag_is : (x : ℕ) {r : ℕ} → r ≡ bool_byte (not (eqb x 0)) → r ≡ flag x
unfolding flag
flag_is x h = h ∙ go (eqb x 0)
  where
    go : (b : Bool) → bool_byte (not b) ≡ pick b 0 1
    go true = refl
    go false = refl

-- One record's words

-- the words of the record from a place to before another: within the words, with room for k words and k flags, as long as what is made of them
pub record IsRead (w : List ℕ) (at behind k : ℕ) (made : List ℕ) : Type 0 where
  pub order : at ≤ behind
  pub within : behind ≤ length w
  pub flags : k + k ≤ length (take (behind - at) (drop at w))
  pub long : length (take (behind - at) (drop at w)) ≡ length made

module _ (w : List ℕ) where
  opened : (at left : ℕ) → 0 < left → at < length w → take left (drop at w) ≡ get_or w at 0 ∷ take (left - 1) (drop (at + 1) w)
  opened at left h k = let i : left ≡ suc (left - 1) = omega arith in ap (λ (n : ℕ). take n (drop at w)) i ∙ (rw (drop-cons w at 0 k, add-one))

  -- the words of the record from a place to before another, within the words
  part_length : (at behind : ℕ) → behind ≤ length w → length (take (behind - at) (drop at w)) ≡ behind - at
  part_length at behind h = omega (arith, length-take (behind - at) (drop at w), length-drop at w)

-- k words, k flags, and the rest were written one behind the other
pub flagged_put : (k : ℕ) (l : List ℕ) (n : ℕ) (d : List ℕ) {n₁ n₂ n₃ : ℕ} {d₁ d₂ d₃ : List ℕ} → k + k ≤ length l → n + length l ≤ length d
    → Put (take k l) n d n₁ d₁ → Put (map flag (take (k + k - k) (drop k l))) n₁ d₁ n₂ d₂
    → Put (take (length l - (k + k)) (drop (k + k) l)) n₂ d₂ n₃ d₃ → Put (flagged k l) n d n₃ d₃
unfolding flagged
flagged_put k l n d h r p q t =
    let i : k + k - k ≡ k = omega arith in
    let j : take (length l - (k + k)) (drop (k + k) l) ≡ drop (k + k) l = take_all _ _ (omega (arith, length-drop (k + k) l)) in
    let A = take k l in
    let B = map flag (take k (drop k l)) in
    let C = drop (k + k) l in
    three_put A B C n d (rw j at t) (rw i at q) p (omega (
      arith,
      length-append A (B ++ C),
      length-append B C,
      length-map (take k (drop k l)) flag,
      length-take k l,
      length-take k (drop k l),
      length-drop k l,
      length-drop (k + k) l,
    ))

module _ (w : List ℕ) (at behind : ℕ) where
  module _ (e : accept_at w at ≡ Ok behind) where
    pub accept_is : flagged 1 (take (behind - at) (drop at w)) ≡ accept_made w at
    unfolding flagged accept_made copied
    accept_is =
        let r = accept-sized w at behind e in
        let i : at + 1 + 1 ≡ at + 2 = omega arith in
        let j : behind - at - 1 - 1 ≡ get_or w (at + 2) 0 * 3 + 1 = omega arith in
        rw (opened w at (behind - at) (omega arith) (omega arith), opened w (at + 1) (behind - at - 1) (omega arith) (omega arith), i, j)

    pub accept_read : IsRead w at behind 1 (accept_made w at)
    accept_read =
        let r = accept-sized w at behind e in
        let l = part_length w at behind r.1 in
        record { order = omega arith; within = r.1; flags = omega arith; long = omega (arith, accept-sized-made w at behind e) }

  module _ (e : config_at w at ≡ Ok behind) where
    pub config_is : flagged 2 (take (behind - at) (drop at w)) ≡ config_made w at
    unfolding flagged config_made copied
    config_is =
        let r = config_sized w at behind e in
        let i₂ : at + 1 + 1 ≡ at + 2 = omega arith in
        let i₃ : at + 2 + 1 ≡ at + 3 = omega arith in
        let i₄ : at + 3 + 1 ≡ at + 4 = omega arith in
        let j : behind - at - 1 - 1 - 1 - 1 ≡ get_or w (at + 5) 0 * 3 + 2 = omega arith in
        rw (
          opened w at (behind - at) (omega arith) (omega arith),
          opened w (at + 1) (behind - at - 1) (omega arith) (omega arith),
          i₂,
          opened w (at + 2) (behind - at - 1 - 1) (omega arith) (omega arith),
          i₃,
          opened w (at + 3) (behind - at - 1 - 1 - 1) (omega arith) (omega arith),
          i₄,
          j,
        )

    pub config_read : IsRead w at behind 2 (config_made w at)
    config_read =
        let r = config_sized w at behind e in
        let l = part_length w at behind r.1 in
        record { order = omega arith; within = r.1; flags = omega arith; long = omega (arith, config_sized_made w at behind e) }

-- A continuation: its contexts take k words

module _ (w : List ℕ) (at : ℕ) {behind : ℕ} (e : continuation_at w at ≡ Ok behind) where
  abbrev k : ℕ
  k = get_or w at 0 * 3 + 1

  pub configs_there : at + k < length w
  configs_there = (section_in config_at w _ behind (configs_behind w at behind e)).0

  module _ (n : ℕ) (d : List ℕ) (h : n + length (continuation_made w at) ≤ length d) where
    -- the contexts, as `&words[at..at + k]` reads them
    abbrev contexts : List ℕ
    contexts = take (at + k - at) (drop at w)

    abbrev configs : List ℕ
    configs = renewed config_at config_made w (at + k)

    joined : continuation_made w at ≡ contexts ++ configs
    unfolding continuation_made copied
    joined = let i : at + k - at ≡ k = omega arith in rw i

    pub contexts_fit : n + length contexts ≤ length d
    contexts_fit = first_room contexts configs n d (rw joined at h)

    module _ {n₁ : ℕ} {d₁ : List ℕ} (p : Put contexts n d n₁ d₁) where
      pub configs_fit : n₁ + length configs ≤ length d₁
      configs_fit = two-room contexts configs n d p (rw joined at h)

      pub continuation_put : {n₂ : ℕ} {d₂ : List ℕ} → Put configs n₁ d₁ n₂ d₂ → Put (continuation_made w at) n d n₂ d₂
      continuation_put t = rw joined (two_put contexts configs n d t p (rw joined at h))
