-- `word_said` takes no two answers to one: what it says gives the answer back. Assumes nothing.
use mathlib.Core.Path.{◌≡◌, refl, sym, ap, ◌∙◌}
use mathlib.Core.List.{[], ◌∷◌}
use Rattle.std.specs.Prelude.{ℕ, Option, Some, None}
use Rattle.refusal.specs.Said.{Said, ok, no_by}
use Rattle.word_serialized.specs.Reader.{word_said}

abbrev back : Said → Option ℕ
back (ok []) = None
back (ok (x ∷ l)) = Some x
back (no_by r) = None

back-said : (x : Option ℕ) → back (word_said x) ≡ x
back-said (Some x) = refl
back-said None = refl

pub word-said_one : (x y : Option ℕ) → word_said x ≡ word_said y → x ≡ y
word-said_one x y e = sym (back-said x) ∙ ap back e ∙ back-said y
