-- The laws of decoding, by the tests that the code makes. Assumes nothing.
use Prim.Native.Nat.{ℕ}
use mathlib.Core.Path.{◌≡◌, refl, sym, ap, ◌∙◌}
use mathlib.Core.List.{List}
use lib.ListN.{length, get_or}
use borrow.Author.Rules.{rules}
use Rattle.std.specs.Prelude.{Option, Some, None, Ok, Err}
use Rattle.refusal.specs.declared.Refusal.{Refusal}
use Rattle.refusal.specs.Said.{Said, ok, broken_by, no_by}
use Rattle.word_reader.specs.declared.Sections.{Sections}
use Rattle.word_layout.specs.Layout.{Layout}
use Rattle.rule_words.specs.Rules.{broken}
use Rattle.rule_first.specs.declared.Broken.{Broken}
use Rattle.rule_first.specs.Broken.{first_in}
use Rattle.rule_first.proofs.Breaking.{unbroken, breaks}
use Rattle.buffer.specs.Over.{zeros}
use Rattle.word_layout.specs.Limits.{laid_out}
use Rattle.room_fill.specs.Room.{room_for}
use Rattle.room_decode.specs.Decode.{Decoding, said, judged, decoded_from, decode_of, kept_from, room_of}

module _ (w : List ℕ) (n : ℕ) {got : Layout} (g : got ≡ laid_out w n) where
  module _ {s : Sections} (i : got ≡ Ok s) {q : Option Broken} (b : q ≡ first_in w s) where
    -- no rule is broken
    module _ (o : (r : Broken) → q ≡ Some r → ⊥) where
      z : q ≡ None
      z = go q refl
        where
          go : (x : Option Broken) → q ≡ x → q ≡ None
          go None i = i
          go (Some r) i = absurd (o r i)

      pub obeyed : {m t : ℕ} → m ≡ get_or w s.modes 0 → t ≡ get_or w s.states 0
          → Ok (record { modes = m; states = t; words = length w }) ≡ decode_of w n
      unfolding decoded_from judged
      obeyed e f = let y : broken w s ≡ 0 = unbroken w s b z in rw (← g, i, y, e, f)

      pub obeyed_room : {d : List ℕ} → d ≡ room_for w n got → d ≡ room_of w n
      unfolding kept_from
      obeyed_room h = let y : broken w s ≡ 0 = unbroken w s b z in h ∙ (rw (← g, i, y))

    -- or one is
    module _ {r : Broken} (z : q ≡ Some r) where
      pub broke : Err (broken_by r.rule r.item) ≡ decode_of w n
      unfolding decoded_from judged
      broke = let k = breaks w s b z in rw (← g, i, k.some, ← k.rule, ← k.item)

      pub broke_room : (l : ℕ) {d : List ℕ} → d ≡ zeros l → l ≡ n → d ≡ room_of w n
      unfolding kept_from
      broke_room l h j = let k = breaks w s b z in h ∙ ap zeros j ∙ (rw (← g, i, k.some))

  -- the words are no table
  module _ {r : Refusal} (i : got ≡ Err r) where
    pub halts : Err r ≡ decode_of w n
    unfolding decoded_from
    halts = rw (← g, i)

    pub halts_room : {d : List ℕ} → d ≡ room_for w n got → d ≡ room_of w n
    unfolding kept_from room_for
    halts_room h = h ∙ (rw (← g, i))

-- what decoding is left with
pub ruleset decoding = (rules, obeyed, obeyed_room, broke, broke_room, halts, halts_room)

-- `said` takes no two answers to one: what it says gives the answer back
abbrev back : Said → Decoding
back (ok l) = Ok (record { modes = get_or l 0 0; states = get_or l 1 0; words = get_or l 2 0 })
back (no_by r) = Err r

back-said : (x : Decoding) → back (said x) ≡ x
back-said (Ok t) = refl
back-said (Err r) = refl

pub said_one : (x y : Decoding) → said x ≡ said y → x ≡ y
said_one x y e = sym (back-said x) ∙ ap back e ∙ back-said y
