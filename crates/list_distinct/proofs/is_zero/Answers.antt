use Rattle.std.proofs.Common.{eqb, refl, rules}
use Rattle.std.proofs.lemmas.List.Recursion.{and_is}
use Rattle.list_masks.specs.Masks.{is_zero}
use Rattle.list_distinct.proofs.is_zero.Goals as goal

pub returns : goal.returns
unfolding is_zero
returns c = and_is is_zero (λ w. eqb w 0) refl (λ _ _. refl) c.args.mask.now 0 _ (search rules) (search rules)
