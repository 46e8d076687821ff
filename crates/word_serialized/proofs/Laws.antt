-- The laws of the opening, by the tests that the code makes. Assumes nothing.
use Prim.Native.Nat.{ℕ, ◌+◌, ◌≤◌}
use native.Mathlib.Omega.{arith}
use mathlib.Core.Path.{◌≡◌, refl, sym, ◌∙◌}
use mathlib.Core.Bool.{Bool, true, false}
use mathlib.Core.List.{List}
use lib.Dec.{ltb}
use lib.ListN.{length}
use borrow.Author.Tests.{eq-eqb, ne_eqb, le-ltb, ltb-false}
use Rattle.std.specs.Prelude.{Option, Some, None, Result, Err}
use Rattle.std.specs.Option.{ok_or}
use Rattle.refusal.specs.declared.Refusal.{Refusal}
use Rattle.refusal.specs.Said.{refusal_at, SHORT, TAG}
use Rattle.refusal.specs.Fixed.{tag}
use Rattle.refusal.specs.Lists.{pick}
use Rattle.word_serialized.specs.Reader.{word_at, past_word}
use Rattle.word_serialized.specs.Opened.{refused, counted, opened, opening_of}

-- past the first word stands the second; where there is no first, there is no second
pub second_word : (w : List ℕ) → word_at w (past_word w 0) ≡ word_at w 1
second_word w = go (ltb 0 (length w)) refl
  where
    go : (b : Bool) → ltb 0 (length w) ≡ b → word_at w (pick b (0 + 1) 0) ≡ word_at w 1
    go true e = refl
    go false e = let l : length w ≤ 0 = ltb-false 0 (length w) e in let k : length w ≤ 1 = omega arith in rw (e, le-ltb 1 (length w) k)

is_counted : (d : Option ℕ) (n : ℕ) → ok_or d (refusal_at SHORT n) ≡ counted d n
unfolding counted
is_counted (Some m) n = refl
is_counted None n = refl

module _ (w : List ℕ) where
  -- the words end before the tag
  pub tag_lacking : {g : Option ℕ} {x : Refusal} → g ≡ word_at w 0 → g ≡ None → Err x ≡ ok_or g (refusal_at SHORT (length w)) → Err x ≡ opening_of w
  unfolding opened
  tag_lacking h e v = let k : word_at w 0 ≡ None = sym h ∙ e in v ∙ (rw (e, k))

  -- the first word is no tag
  pub tag_other : {g : Option ℕ} {t : ℕ} → g ≡ word_at w 0 → g ≡ Some t → (t ≡ tag → ⊥) → refused TAG 0 ≡ opening_of w
  unfolding opened
  tag_other h e f = let k : word_at w 0 ≡ Some _ = sym h ∙ e in rw (k, ne_eqb _ _ f)

  -- behind the tag the count of the modes is there, or the words end
  pub counts : {g d : Option ℕ} {t : ℕ} {r : Result ℕ Refusal} → g ≡ word_at w 0 → g ≡ Some t → t ≡ tag → d ≡ word_at w (past_word w 0)
      → r ≡ ok_or d (refusal_at SHORT (length w)) → r ≡ opening_of w
  unfolding opened
  counts {d = d} h e f i v =
      let k : word_at w 0 ≡ Some _ = sym h ∙ e in
      let m : word_at w 1 ≡ d = sym (i ∙ second_word w) in
      let x : ok_or d (refusal_at SHORT (length w)) ≡ opening_of w = rw (k, eq-eqb _ _ f, m) (is_counted d (length w)) in
      v ∙ x
