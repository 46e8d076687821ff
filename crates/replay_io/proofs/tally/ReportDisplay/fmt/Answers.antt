-- A pair that the iterator gives is the first of both lists that are left, and its line is written behind the others.
use mathlib.Core.Path.{refl, sym, ap, ◌∙◌}
use mathlib.Core.Logic.{⊎_elim}
use mathlib.Core.List.{List, [], ◌∷◌, ◌++◌, append_assoc, append-nil}
use Rattle.std.proofs.Common.{rules, arith, ◌≡◌, ℕ, flat_map, zip, Bor}
use Rattle.std.proofs.lemmas.Grind.{common_steps}
use Rattle.std.proofs.lemmas.Slice.Zip.{Zip-more, either_empty_from_Zip}
use Rattle.std.proofs.Output.{has_written_append, has_written_of_eq}
use Rattle.replay_io.specs.declared.tally.Counts.{Counts}
use Rattle.replay_io.specs.Tally.{line}
use Rattle.replay_io.proofs.tally.ReportDisplay.fmt.Goals as goal

abbrev lines : List Counts → List (Bor (List ℕ)) → List ℕ
lines ks vs = flat_map (λ p. line p.0 p.1.now) (zip ks vs)

no_names : (ks : List Counts) → lines ks [] ≡ []
no_names [] = refl
no_names (k ∷ ks) = refl

pub loop-told-init : goal.loop-told-init
loop-told-init g c = λ p. ([], search rules, search rules)

pub loop-told-preserved : goal.loop-told-preserved
loop-told-preserved g c = λ p.
    let i = c.loop-told.invariant p in
    let m = Zip-more c.loop-told.told-iterator c.next.new.self c.next.result _ c.in-Some.is c.next.ensures.steps in
    let text = line c.in-Some.told.now c.in-Some.name.now.now in
    let rest = lines c.next.new.self.a.rest.now c.next.new.self.b.rest.now in
    let one = c.writeln-in-loop-told.ensures.writes i.1.plain (search rules) in
    let step : lines c.loop-told.told-iterator.a.rest.now c.loop-told.told-iterator.b.rest.now ≡ text ++ rest = rw (m.0, m.1) refl in (
      i.0 ++ text,
      has_written_append _ _ _ _ _ _ i.1 (has_written_of_eq _ _ _ _ _ (grind (arith, common_steps)) one),
      append_assoc i.0 text rest ∙ ap (λ (l : List ℕ). i.0 ++ l) (sym step) ∙ i.2,
    )

pub returns-clause-writes : goal.returns-clause-writes
returns-clause-writes g c = λ p q.
    let one = c.writeln.ensures.writes p (search rules) in
    let i = c.loop-told.invariant one.plain in
    let m = either_empty_from_Zip c.loop-told.told-iterator c.next.new.self c.next.result c.in-None.is c.next.ensures.steps in
    let left = lines c.loop-told.told-iterator.a.rest.now c.loop-told.told-iterator.b.rest.now in
    let none : left ≡ [] = ⊎_elim (λ e. rw e refl) (λ e. rw e (no_names c.loop-told.told-iterator.a.rest.now)) m in
    let all : i.0 ≡ lines c.args.self.now.counts.now c.args.self.now.names.now = sym (append-nil i.0) ∙ ap (λ (l : List ℕ). i.0 ++ l) (sym none) ∙ i.2 in
    has_written_of_eq _ _ _ _ _ (grind (arith, common_steps, append_assoc, all)) (has_written_append _ _ _ _ _ _ one i.1)
