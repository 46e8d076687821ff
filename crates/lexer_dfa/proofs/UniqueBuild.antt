-- The contracts of the row call, and of the calls below it that find the place of each mask and what row building asks of a segment, determine the answer and
-- what is left in every lent buffer. Assumes nothing.
use Prim.Native.Nat.{ℕ}
use mathlib.Core.Path.{◌≡◌, refl, sym, ap₂, ◌∙◌}
use mathlib.Core.List.{List, [], ◌∷◌}
use Rattle.list_distinct.proofs.place_masks.Reads as place-masks
use Rattle.list_distinct.proofs.PlaceAnswers.{told_one}
use Rattle.row_goals.proofs.target_at.Reads as target_at
use Rattle.row_goals.proofs.goal_of.Reads as goal-of
use Rattle.row_goals.proofs.refusal_for.Reads as refusal-for
use Rattle.row_goals.proofs.no_goal.Reads as no-goal
use Rattle.row_goals.proofs.touches.Reads as touches
use Rattle.row_goals.proofs.unseen.Reads as unseen
use Rattle.row_goals.proofs.seen_low.Reads as Seen-low
use Rattle.row_build.proofs.build_rows.Reads as build-rows
use Rattle.row_build.proofs.Building.{said_one}
use Rattle.law_unique.specs.Unique.{Determines, DeterminesAll}

and : {x y : List ℕ} {l m : List (List ℕ)} → x ≡ y → l ≡ m → x ∷ l ≡ y ∷ m
and a b = ap₂ {C = List (List ℕ)} (λ x l. x ∷ l) a b

pub place_masks_unique : DeterminesAll (λ κs e. e.1.0.now ∷ e.1.1.0.now ∷ e.1.1.1.0.now ∷ e.1.1.1.1.0.now ∷ []) place-masks.Learnt
place_masks_unique κs a x y e f p q = (
  told_one x y (p.says ∙ sym q.says),
  (and (p.low_high ∙ sym q.low_high) (and (p.each ∙ sym q.each) (and (p.once ∙ sym q.once) (and (p.leaves ∙ sym q.leaves) refl)))),
)

pub target_at_unique : Determines target_at.Learnt
target_at_unique κs a x y e f p q = p ∙ sym q

pub goal_of_unique : Determines goal-of.Learnt
goal_of_unique κs a x y e f p q = p ∙ sym q

pub refusal_for_unique : Determines refusal-for.Learnt
refusal_for_unique κs a x y e f p q = p ∙ sym q

pub no_goal_unique : Determines no-goal.Learnt
no_goal_unique κs a x y e f p q = p ∙ sym q

pub touches_unique : Determines touches.Learnt
touches_unique κs a x y e f p q = p ∙ sym q

pub unseen_unique : Determines unseen.Learnt
unseen_unique κs a x y e f p q = p ∙ sym q

pub seen_low_unique : Determines Seen-low.Learnt
seen_low_unique κs a x y e f p q = p ∙ sym q

pub build_rows_unique : DeterminesAll (λ κs e. e.1.1.1.0.now ∷ e.1.1.1.1.0.now ∷ e.1.1.1.1.1.0.now ∷ e.1.1.1.1.1.1.0.now
    ∷ e.1.1.1.1.1.1.1.0.now ∷ e.1.1.1.1.1.1.1.1.0.now ∷ []) build-rows.Learnt
build_rows_unique κs a x y e f p q = (
  said_one x y (p.says ∙ sym q.says),
  (and (p.low_high ∙ sym q.low_high) (and (p.each ∙ sym q.each)
      (and (p.once ∙ sym q.once) (and (p.narrow ∙ sym q.narrow) (and (p.broad ∙ sym q.broad) (and (p.escapes ∙ sym q.escapes) refl)))))),
)
