-- As many obey a rule as there are; and the first broken rule: this one, or one of the others. Assumes nothing.
use Prim.Native.Nat.{ℕ, ◌+◌}
use native.Mathlib.Omega.{arith}
use mathlib.Core.Path.{◌≡◌, refl, sym, ap, ◌∙◌}
use mathlib.Core.List.{List, [], ◌∷◌}
use mathlib.Core.Bool.{Bool, true, false}
use lib.Dec.{eqb}
use lib.ListN.{get_or}
use borrow.Author.Rules.{rules}
use borrow.Author.Tests.{eqb-true}
use Rattle.refusal.specs.Lists.{pick}
use Rattle.std.specs.Prelude.{Option, Some, None}
use Rattle.word_reader.specs.declared.Sections.{Sections}
use Rattle.word_reader.specs.Records.{mode_at, state_at, run_at, ascii_at, wide_at, escape_at, continuation_at}
use Rattle.rule_words.specs.Rules.{first_broken, first_item, broken, broken_item, start_good, state_good, run_good, ascii_good, wide_good, escape_good, continuation_good}
use Rattle.rule_words.specs.Rules.{rule1, rule2, rule4, rule5, rule6, rule8, rule9, item1, item2, item4, item5, item6, item8, item9}
use Rattle.rule_words.proofs.Laws.{numbered-passes, in_section}
use Rattle.rule_first.specs.declared.Broken.{Broken}
use Rattle.rule_first.specs.Broken.{by_number, first_from, first_in}

-- a rule holds where as many obey it as there are
module _ (w : List ℕ) where
  pub obeyed1 : (m s : ℕ) {x : ℕ} {ok : Bool} → x ≡ item1 w m s → ok ≡ eqb x (get_or w m 0) → ok ≡ rule1 w m s
  obeyed1 m s d e = e ∙ (numbered-passes mode_at w m (λ i. start_good (get_or w s 0) w) d ∙ in_section mode_at (start_good (get_or w s 0) w) w m)

  pub obeyed2 : (s a v x : ℕ) {y : ℕ} {ok : Bool} → y ≡ item2 w s a v x → ok ≡ eqb y (get_or w s 0) → ok ≡ rule2 w s a v x
  obeyed2 s a v x d e =
      let test = state_good (get_or w s 0) (get_or w a 0) (get_or w v 0) (get_or w x 0) w in
      e ∙ (numbered-passes state_at w s (λ i. test) d ∙ in_section state_at test w s)

  pub obeyed4 : (s r a : ℕ) {x : ℕ} {ok : Bool} → x ≡ item4 w s r a → ok ≡ eqb x (get_or w r 0) → ok ≡ rule4 w s r a
  obeyed4 s r a d e = e ∙ (numbered-passes run_at w r (run_good w s a) d)

  pub obeyed5 : (s a : ℕ) {x : ℕ} {ok : Bool} → x ≡ item5 w s a → ok ≡ eqb x (get_or w a 0) → ok ≡ rule5 w s a
  obeyed5 s a d e = e ∙ (numbered-passes ascii_at w a (λ i. ascii_good (get_or w s 0) w) d ∙ in_section ascii_at (ascii_good (get_or w s 0) w) w a)

  pub obeyed6 : (s v : ℕ) {x : ℕ} {ok : Bool} → x ≡ item6 w s v → ok ≡ eqb x (get_or w v 0) → ok ≡ rule6 w s v
  obeyed6 s v d e = e ∙ (numbered-passes wide_at w v (λ i. wide_good (get_or w s 0) w) d ∙ in_section wide_at (wide_good (get_or w s 0) w) w v)

  pub obeyed8 : (e c : ℕ) {x : ℕ} {ok : Bool} → x ≡ item8 w e c → ok ≡ eqb x (get_or w e 0) → ok ≡ rule8 w e c
  obeyed8 e c d f = f ∙ (numbered-passes escape_at w e (λ i. escape_good (get_or w c 0) w) d ∙ in_section escape_at (escape_good (get_or w c 0) w) w e)

  pub obeyed9 : (c : ℕ) {x : ℕ} {ok : Bool} → x ≡ item9 w c → ok ≡ eqb x (get_or w c 0) → ok ≡ rule9 w c
  obeyed9 c d f = f ∙ (numbered-passes continuation_at w c (λ i. continuation_good w) d ∙ in_section continuation_at (continuation_good w) w c)

-- the first that is broken; rules are numbered from 1
module _ (n : ℕ) (bs : List Bool) (i : ℕ) (is : List ℕ) where
  pub broken_here : {ok b : Bool} {j : ℕ} → ok ≡ b → ok ≡ false → j ≡ i → eqb n 0 ≡ false → Some (record { rule = n; item = j }) ≡ first_from n (b ∷ bs) (i ∷ is)
  unfolding by_number first_broken first_item
  broken_here o y e z = rw (← o, y, e, z)

  pub broken-later : {ok b : Bool} {r : Option Broken} → ok ≡ b → ok ≡ true → r ≡ first_from (n + 1) bs is → r ≡ first_from n (b ∷ bs) (i ∷ is)
  unfolding first_broken first_item
  broken-later o y e = e ∙ (rw (← o, y))

pub none-broken : (n i : ℕ) {ok b : Bool} → ok ≡ b → ok ≡ true → None ≡ first_from n (b ∷ []) (i ∷ [])
unfolding by_number first_broken first_item
none-broken n i o y = rw (← o, y)

pub ruleset breaking =
    (rules, obeyed1, obeyed2, obeyed4, obeyed5, obeyed6, obeyed8, obeyed9, broken_here, broken-later, none-broken)

-- What the answer says of the numbers: none is broken, or one is

by_none : (k i : ℕ) → by_number k i ≡ None → k ≡ 0
unfolding by_number
by_none k i e = eqb-true k 0 (none (eqb k 0) (record { rule = k; item = i }) e)
  where
    none : (b : Bool) (q : Broken) → pick b None (Some q) ≡ None → b ≡ true
    none true q e = refl
    none false q e = let z : ◌≡◌ {A = ℕ} 0 1 = cc in absurd (omega arith)

pub unbroken : (w : List ℕ) (s : Sections) {got : Option Broken} → got ≡ first_in w s → got ≡ None → broken w s ≡ 0
unbroken w s g i = by_none (broken w s) (broken_item w s) (sym g ∙ i)

pub record Breaks (k i : ℕ) (q : Broken) : Type 0 where
  pub rule : k ≡ q.rule
  pub item : i ≡ q.item
  pub some : eqb k 0 ≡ false

by_some : (k i : ℕ) (q : Broken) → by_number k i ≡ Some q → Breaks k i q
unfolding by_number
by_some k i q e =
    let h = some (eqb k 0) (record { rule = k; item = i }) e in
    record { rule = ap (λ (b : Broken). b.rule) h.1; item = ap (λ (b : Broken). b.item) h.1; some = h.0 }
  where
    inner : Option Broken → Broken
    inner None = q
    inner (Some b) = b

    some : (b : Bool) (p : Broken) → pick b None (Some p) ≡ Some q → (b ≡ false) × (p ≡ q)
    some true p e = let z : ◌≡◌ {A = ℕ} 0 1 = cc in absurd (omega arith)
    some false p e = (refl, ap inner e)

pub breaks : (w : List ℕ) (s : Sections) {got : Option Broken} {q : Broken} → got ≡ first_in w s → got ≡ Some q → Breaks (broken w s) (broken_item w s) q
breaks w s {q = q} g i = by_some (broken w s) (broken_item w s) q (sym g ∙ i)
