-- Where a table's sections stand: the layout that decoding finds in the words of a table is the table's places, as each section is read to its
-- end; and a list in which a layout is found is read as a whole table, to its last word. Assumes nothing.
use mathlib.Core.Path.{◌≡◌, refl, ap, ◌∙◌}
use mathlib.Core.List.{List, [], ◌∷◌, ◌++◌, append-nil}
use Prim.Native.Nat.{ℕ, suc, ◌+◌}
use native.Mathlib.Omega.{arith}
use lib.ListN.{length}
use borrow.Author.Tests.{le-ltb, ne_eqb}
use Rattle.refusal.specs.Fixed.{tag}
use Rattle.word_reader.specs.Parse.{Place}
use Rattle.std.specs.Prelude.{Ok}
use Rattle.word_reader.specs.declared.Sections.{Sections}
use Rattle.word_reader.specs.Parse.{and_then}
use Rattle.word_layout.specs.Layout.{place_of, after_modes, after_states, after_runs, after_ascii, after_wide, after_accepts, after_escapes, closed, layout_of}
use Rattle.law_tables.specs.Table.{Table, Fields, counted, section_words, words_of}
use Rattle.law_tables.specs.Table.{mode_words, state_words, run_words, ascii_words, wide_words, accept_words, escape_words, continuation_words}
use Rattle.law_tables.specs.Whole.{Fit}
use Rattle.law_tables.specs.Places.{section_end, sections_of}
use Rattle.law_tables.specs.Places.{states_place, runs_place, ascii_place, wide_place, accepts_place, escapes_place, continuations_place}
use Rattle.law_tables.proofs.Whole.{whole_at}
use Rattle.law_tables.proofs.Codec.{At, Codec, start, same, on, at_length, of_section}
use Rattle.law_tables.proofs.Records.{mode, state, ascii, wide_row_lem, accept, escape, continuation, all_always}
use Rattle.law_tables.proofs.Runs.{run_codec}
use Rattle.law_tables.proofs.Accepted.{accepted_words}
use Rattle.law_tables.proofs.Agree.{found-whole}

-- The words from each section on

abbrev pub from_continuations : Table → List ℕ
from_continuations t = counted continuation_words t.continuations ++ []

abbrev pub from_escapes : Table → List ℕ
from_escapes t = counted escape_words t.escapes ++ from_continuations t

abbrev pub from_accepts : Table → List ℕ
from_accepts t = counted accept_words t.accepts ++ from_escapes t

abbrev pub from_wide : Table → List ℕ
from_wide t = counted wide_words t.wide ++ from_accepts t

abbrev pub from_ascii : Table → List ℕ
from_ascii t = counted ascii_words t.ascii ++ from_wide t

abbrev pub from_runs : Table → List ℕ
from_runs t = counted run_words t.runs ++ from_ascii t

abbrev pub from_states : Table → List ℕ
from_states t = counted state_words t.states ++ from_runs t

abbrev pub all_sections : Table → List ℕ
all_sections t = counted mode_words t.modes ++ from_states t

-- each section stands at its place
module _ (t : Table) where
  pub modes_stand : At (words_of t) 1 (all_sections t)
  unfolding section_words
  modes_stand = same (on (tag ∷ []) (section_words t) (start (words_of t))) (simp append-nil)

  pub states_stand : At (words_of t) (states_place t) (from_states t)
  states_stand = on (counted mode_words t.modes) (from_states t) modes_stand

  pub runs_stand : At (words_of t) (runs_place t) (from_runs t)
  runs_stand = on (counted state_words t.states) (from_runs t) states_stand

  pub ascii_stand : At (words_of t) (ascii_place t) (from_ascii t)
  ascii_stand = on (counted run_words t.runs) (from_ascii t) runs_stand

  pub wide_stand : At (words_of t) (wide_place t) (from_wide t)
  wide_stand = on (counted ascii_words t.ascii) (from_wide t) ascii_stand

  pub accepts_stand : At (words_of t) (accepts_place t) (from_accepts t)
  accepts_stand = on (counted wide_words t.wide) (from_accepts t) wide_stand

  pub escapes_stand : At (words_of t) (escapes_place t) (from_escapes t)
  escapes_stand = on (counted accept_words t.accepts) (from_escapes t) accepts_stand

  pub continuations_stand : At (words_of t) (continuations_place t) (from_continuations t)
  continuations_stand = on (counted escape_words t.escapes) (from_continuations t) escapes_stand

-- The layout of a table's words

-- a section is read to its end
reads : {A : Type 0} {r : List ℕ → ℕ → Place} {f : A → List ℕ} {G : A → Type 0} (c : Codec A r f G) (x : A) {w : List ℕ} (post : List ℕ)
    {at : ℕ} {before : Place}
    → before ≡ Ok at → G x → At w at (f x ++ post) → and_then before (r w) ≡ Ok (at + length (f x))
unfolding and_then
reads c x {w} post {at} e v a = rw e (c.complete x w at post v a)

-- the layout of a table's words is the table's places
pub layout_is : (t : Table) → Fields t → layout_of (words_of t) ≡ Ok (sections_of t)
unfolding layout_of closed place_of
layout_is t h =
    let w = words_of t in
    let s : after_modes w ≡ Ok (states_place t) = reads (of_section mode) t.modes (from_states t) refl h.modes (modes_stand t) in
    let r : after_states w ≡ Ok (runs_place t) = reads (of_section state) t.states (from_runs t) s h.states (states_stand t) in
    let a : after_runs w ≡ Ok (ascii_place t) = reads (of_section run_codec) t.runs (from_ascii t) r h.runs (runs_stand t) in
    let v : after_ascii w ≡ Ok (wide_place t) = reads (of_section ascii) t.ascii (from_wide t) a h.ascii (ascii_stand t) in
    let x : after_wide w ≡ Ok (accepts_place t) = reads (of_section wide_row_lem) t.wide (from_accepts t) v h.wide (wide_stand t) in
    let e : after_accepts w ≡ Ok (escapes_place t) = reads (of_section accept) t.accepts (from_escapes t) x (all_always t.accepts) (accepts_stand t) in
    let c : after_escapes w ≡ Ok (continuations_place t) =
    reads (of_section escape) t.escapes (from_continuations t) e (all_always t.escapes) (escapes_stand t) in
    let end = reads (of_section continuation) t.continuations [] c h.continuations (continuations_stand t) in
    let all = at_length (on (counted continuation_words t.continuations) [] (continuations_stand t)) in
    let left = le-ltb (section_end (continuations_place t) continuation_words t.continuations) (length w) (omega (arith, all)) in
    let n : suc (length (section_words t)) ≡ 0 → ⊥ = λ e. omega arith in
    rw (ne_eqb (suc (length (section_words t))) 0 n, end, left, c, e, x, v, a, r, s)

-- where a whole table is read, to the last word, its layout is found
pub whole-found : (w : List ℕ) → Fit w → whole_at w ≡ Ok (length w) → (t : Table) × Fields t × (w ≡ words_of t) × (layout_of w ≡ Ok (sections_of t))
whole-found w f e = let t = accepted_words w f e in (t.0, t.1, t.2, ap layout_of t.2 ∙ layout_is t.0 t.1)

-- the table in whose words a layout is found
pub found_table : (w : List ℕ) {s : Sections} → Fit w → layout_of w ≡ Ok s → (t : Table) × Fields t × (w ≡ words_of t) × (layout_of w ≡ Ok (sections_of t))
found_table w f l = whole-found w f (found-whole w l)
