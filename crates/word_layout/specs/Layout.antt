-- Where the sections of a table start (document 01, "Words of a table" and "Refusals by number"). Assumes nothing.
use Rattle.std.specs.Prelude.{ℕ, List, [], ◌∷◌, Result, Ok, Err, eqb, ltb, length, get_or}
use Rattle.refusal.specs.declared.Refusal.{Refusal}
use Rattle.refusal.specs.Said.{Said, ok, refusal_at, no_by, SHORT, TAG, LEFT}
use Rattle.refusal.specs.Fixed.{tag}
use Rattle.refusal.specs.Lists.{pick}
use Rattle.word_reader.specs.declared.Sections.{Sections}
use Rattle.word_reader.specs.Parse.{Place, and_then, section}
use Rattle.word_reader.specs.Records.{mode_at, state_at, run_at, ascii_at, wide_at, accept_at, escape_at, continuation_at}

-- the sections of a table, or why the words are none
abbrev pub Layout : Type 0
Layout = Result Sections Refusal

-- the places of the sections' counts, or a refusal
abbrev pub said : Layout → Said
said (Ok s) = ok (s.modes ∷ s.states ∷ s.runs ∷ s.ascii ∷ s.wide ∷ s.accepts ∷ s.escapes ∷ s.continuations ∷ [])
said (Err r) = no_by r

abbrev pub unfound : ℕ → ℕ → Layout
unfound n p = Err (refusal_at n p)

-- The modes stand behind the tag, and each other section behind the one before it: where reading goes on behind each, or why it does not

abbrev pub after_modes : List ℕ → Place
after_modes w = and_then (Ok 1) (section mode_at w)

abbrev pub after_states : List ℕ → Place
after_states w = and_then (after_modes w) (section state_at w)

abbrev pub after_runs : List ℕ → Place
after_runs w = and_then (after_states w) (section run_at w)

abbrev pub after_ascii : List ℕ → Place
after_ascii w = and_then (after_runs w) (section ascii_at w)

abbrev pub after_wide : List ℕ → Place
after_wide w = and_then (after_ascii w) (section wide_at w)

abbrev pub after_accepts : List ℕ → Place
after_accepts w = and_then (after_wide w) (section accept_at w)

abbrev pub after_escapes : List ℕ → Place
after_escapes w = and_then (after_accepts w) (section escape_at w)

abbrev pub after_continuations : List ℕ → Place
after_continuations w = and_then (after_escapes w) (section continuation_at w)

-- so the eight start here, where all of them are read
unfoldable pub place_of : Place → ℕ
place_of (Ok p) = p
place_of (Err r) = 0

abbrev pub sections_from : Place → Place → Place → Place → Place → Place → Place → Sections
sections_from s r a v x e c = record {
  modes = 1;
  states = place_of s;
  runs = place_of r;
  ascii = place_of a;
  wide = place_of v;
  accepts = place_of x;
  escapes = place_of e;
  continuations = place_of c;
}

abbrev pub sections_in : List ℕ → Sections
sections_in w = sections_from (after_modes w) (after_states w) (after_runs w) (after_ascii w) (after_wide w) (after_accepts w) (after_escapes w)

-- "LEFT | words remain | first unread"
abbrev pub at_end : List ℕ → Sections → ℕ → Layout
at_end w s end = pick (ltb end (length w)) (unfound LEFT end) (Ok s)

unfoldable pub closed : List ℕ → Sections → Place → Layout
closed w s (Ok end) = at_end w s end
closed w s (Err r) = Err r

-- The tag, then the eight sections in order; SHORT and TAG at 0
unfoldable pub layout_of : List ℕ → Layout
layout_of w = pick (eqb (length w) 0) (unfound SHORT 0) (pick (eqb (get_or w 0 0) tag) (closed w (sections_in w) (after_continuations w)) (unfound TAG 0))
