use Rattle.std.proofs.Common.{rules, ◌≡◌, ◌∙◌, refl, ap, ◌&&◌, List, [], ◌∷◌}
use Rattle.std.specs.List.{list_all}
use Rattle.std.proofs.lemmas.Iterator.{YieldsList-from_slice}
use Rattle.std.proofs.lemmas.Iterator.Search.{all_from_yields_List}
use borrow.Author.Tests.{tests}
use Rattle.run_ranges.specs.declared.AsciiRange.{AsciiRange}
use Rattle.run_ranges.specs.Ranges.{is_zero, unused}
use Rattle.run_ranges.proofs.unused.Goals as goal

each : (rs : List AsciiRange) → list_all is_zero rs ≡ unused rs
unfolding unused
each [] = refl
each (r ∷ rs) = ap (λ t. is_zero r && t) (each rs)

pub returns : goal.returns
returns c =
    let all = all_from_yields_List is_zero _ _ _ c.all.ensures.ran (YieldsList-from_slice c.args.places.now cc) (λ x b q k. search (rules, tests)) in
    all ∙ each c.args.places.now
