-- Demand 2, the layout: what is read as a whole table is exactly the words of a table whose fields are allowed. The sections have a codec, as
-- each of them has one and they stand one behind the other; before them stands the tag. Assumes nothing.
use mathlib.Core.Path.{◌≡◌, refl, sym, ap, ◌∙◌}
use mathlib.Core.List.{List, [], ◌∷◌, ◌++◌, append-nil}
use mathlib.Core.Bool.{Bool, true, false}
use Prim.Native.Nat.{ℕ, suc, ◌+◌}
use native.Mathlib.Omega.{arith}
use lib.Dec.{eqb}
use lib.ListN.{length}
use borrow.Author.Tests.{eqb-true}
use Rattle.refusal.specs.Lists.{pick}
use Rattle.std.specs.Prelude.{Ok}
use Rattle.word_reader.specs.Parse.{refused}
use Rattle.refusal.specs.Fixed.{tag}
use Rattle.law_tables.specs.Table.{Table, section_words, words_of, Fields}
use Rattle.refusal.specs.Said.{TAG}
use Rattle.law_tables.specs.Whole.{Fit}
use Rattle.law_tables.proofs.Whole.{sections_at, whole_at}
use Rattle.law_tables.proofs.Codec.{At, Codec, start, same, on, at_length, past, word_reads, word_read, paired, mapped, of_section}
use Rattle.law_tables.proofs.Records.{mode, state, ascii, wide_row_lem, accept, escape, continuation, all_always}
use Rattle.law_tables.proofs.Runs.{run_codec}

pub sections : Codec Table sections_at section_words Fields
unfolding sections_at section_words
sections = mapped
    (λ v h. (
      record {
        modes = v.0;
        states = v.1.0;
        runs = v.1.1.0;
        ascii = v.1.1.1.0;
        wide = v.1.1.1.1.0;
        accepts = v.1.1.1.1.1.0;
        escapes = v.1.1.1.1.1.1.0;
        continuations = v.1.1.1.1.1.1.1;
      },
      record { modes = h.0; states = h.1.0; runs = h.1.1.0; ascii = h.1.1.1.0; wide = h.1.1.1.1.0; continuations = h.1.1.1.1.1.1.1 },
      refl,
    ))
    (λ t h. (
      (t.modes, (t.states, (t.runs, (t.ascii, (t.wide, (t.accepts, (t.escapes, t.continuations))))))),
      (h.modes, (h.states, (h.runs, (h.ascii, (h.wide, (all_always t.accepts, (all_always t.escapes, h.continuations))))))),
      refl,
    ))
    (paired (of_section mode)
    (paired (of_section state)
    (paired (of_section run_codec)
    (paired (of_section ascii)
    (paired (of_section wide_row_lem)
    (paired (of_section accept)
    (paired (of_section escape)
    (of_section continuation))))))))

-- the words of a table are accepted, to the last
pub words_accepted : (t : Table) → Fields t → whole_at (words_of t) ≡ Ok (length (words_of t))
unfolding whole_at
words_accepted t h =
    let w = words_of t in
    let a = on (tag ∷ []) (section_words t ++ []) (same (start w) (sym (append-nil w))) in
    let e : 1 + length (section_words t) ≡ suc (length (section_words t)) = omega arith in
    word_reads (λ x. pick (eqb x tag) (sections_at w 1) (refused TAG 0)) (start w) ∙ sections.complete t w 1 [] h a ∙ ap Ok e

-- nothing is left behind the last word
pub none_left : {w rest : List ℕ} → At w (length w) rest → rest ≡ []
none_left {rest = []} a = refl
none_left {rest = x ∷ l} a = absurd (omega (arith, at_length a))

-- what is accepted, to the last word, is the words of a table
pub accepted_words : (w : List ℕ) → Fit w → whole_at w ≡ Ok (length w) → (t : Table) × Fields t × (w ≡ words_of t)
unfolding whole_at
accepted_words w f l =
    let h = word_read (λ x. pick (eqb x tag) (sections_at w 1) (refused TAG 0)) (start w) l in
    go h.head h.tail h.opens (eqb h.head tag) refl h.reads
  where
    go : (x : ℕ) (r : List ℕ) → w ≡ x ∷ r → (b : Bool) → eqb x tag ≡ b → pick b (sections_at w 1) (refused TAG 0) ≡ Ok (length w)
        → (t : Table) × Fields t × (w ≡ words_of t)
    go x r o false u e = let z : ◌≡◌ {A = ℕ} 0 1 = cc in absurd (omega arith)
    go x r o true u e =
        let a = on (x ∷ []) r (same (start w) o) in
        let s = sections.sound w 1 (length w) r f a e in
        let m : r ≡ section_words s.item = s.opens ∙ ap (λ l. section_words s.item ++ l) (none_left (past a s)) ∙ append-nil (section_words s.item) in
        let t : x ≡ tag = eqb-true x tag u in
        (s.item, s.valid, o ∙ (cc))
