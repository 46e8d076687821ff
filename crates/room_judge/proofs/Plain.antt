-- The flags of a table's words are 0 or 1 exactly where making them so changes no word. Assumes nothing.
use Prim.Native.Nat.{ℕ, zero, suc, ◌+◌, ◌*◌, ◌-◌, ◌≤◌}
use native.Mathlib.Omega.{arith}
use mathlib.Core.Path.{◌≡◌, refl, sym, ap, subst, ◌∙◌}
use mathlib.Core.List.{List, ◌∷◌, ◌++◌}
use mathlib.Core.Bool.{Bool, true, false, ◌&&◌}
use lib.Dec.{eqb}
use lib.ListN.{length, get_or, take, drop, length-drop}
use lib.Seq.{length-take-le, take-length}
use borrow.Author.Tests.{le-leb, leb-true, eqb-true, eq-eqb}
use Rattle.refusal.proofs.Lists.{and_split}
use Rattle.refusal.specs.Lists.{pick, each}
use Rattle.word_reader.specs.Parse.{Place}
use Rattle.std.specs.Prelude.{Ok, Err, Some}
use Rattle.word_reader.specs.Parse.{and_then, many, section}
use Rattle.word_reader.specs.Records.{accept_at, config_at, continuation_at}
use Rattle.word_reader.proofs.Bounds.{accept-sized, config_sized, configs_behind, section_in}
use Rattle.word_reader.specs.declared.Sections.{Sections}
use Rattle.word_layout.specs.Layout.{layout_of}
use Rattle.word_layout.proofs.Found.{found, order}
use Rattle.rule_words.specs.Rules as rules
use Rattle.rule_words.specs.Rules.{every_from, walk, every_in}
use Rattle.rule_words.proofs.Laws.{rest}
use Rattle.room_fill.specs.Room.{starts_from, starts, copied, flag, renewed, accept_made, config_made, continuation_made, made}
use Rattle.room_fill.proofs.Sizes.{made-length}
use Rattle.rule_words.specs.Flags.{plain, accept_plain, config_plain, continuation_plain}
use Rattle.room_judge.specs.Standing.{standing, flags_plain}
use Rattle.room_judge.proofs.Stood.{moved, next_is, stands_in, stands_is, cons_stands, cons_stood, append-stands, append_stood, stood_is, stands-part}

-- One flag

plain_kept : (x : ℕ) → plain x ≡ true → x ≡ flag x
unfolding plain flag
plain_kept x h = go (eqb x 0) refl (leb-true x 1 h)
  where
    go : (b : Bool) → eqb x 0 ≡ b → x ≤ 1 → x ≡ pick b 0 1
    go true e l = eqb-true x 0 e
    go false e l = one x e l
      where
        one : (y : ℕ) → eqb y 0 ≡ false → y ≤ 1 → y ≡ 1
        one zero e l = let i = eq-eqb 0 0 refl in let z : ◌≡◌ {A = ℕ} 0 1 = cc in absurd (omega arith)
        one (suc y) e l = omega arith

kept_plain : (x : ℕ) → x ≡ flag x → plain x ≡ true
unfolding plain flag
kept_plain x h = le-leb x 1 (go (eqb x 0) h)
  where
    go : (b : Bool) → x ≡ pick b 0 1 → x ≤ 1
    go true e = omega arith
    go false e = omega arith

-- words that are copied stand where they were
copied-stands : (w : List ℕ) (at n : ℕ) → at + n ≤ length w → standing (copied w at n) at w ≡ Some (at + n)
unfolding copied
copied-stands w at n h =
    let l : length (take n (drop at w)) ≡ n = length-take-le n (drop at w) (omega (arith, length-drop at w)) in
    stands-part (take n (drop at w)) at w (ap (λ (k : ℕ). take k (drop at w)) l) ∙ ap (λ (k : ℕ). Some (at + k)) l

-- Records: the test of a record that was read says whether what is written for it stands where it was read
abbrev Agrees : (List ℕ → ℕ → Place) → (List ℕ → ℕ → List ℕ) → (ℕ → Bool) → List ℕ → Type 0
Agrees read f test w = (s p : ℕ) → read w s ≡ Ok p
    → (test s ≡ true → standing (f w s) s w ≡ Some p) × ((q : ℕ) → standing (f w s) s w ≡ Some q → (q ≡ p) × (test s ≡ true))

module _ (read : List ℕ → ℕ → Place) (f : List ℕ → ℕ → List ℕ) (test : ℕ → Bool) (w : List ℕ) (k : Agrees read f test w) where
  abbrev Each : ℕ → ℕ → ℕ → Type 0
  Each n at p =
      (rest test (read w) n at ≡ true → standing (each (f w) (starts (read w) n at)) at w ≡ Some p)
      × ((q : ℕ) → standing (each (f w) (starts (read w) n at)) at w ≡ Some q → (q ≡ p) × (rest test (read w) n at ≡ true))

  each_agrees : (n at p : ℕ) → many (read w) n at ≡ Ok p → Each n at p
  unfolding many and_then each starts starts_from walk every_from standing
  each_agrees zero at p e = let i : at ≡ p = cc in (λ h. ap Some i, λ q h. (sym (next_is h) ∙ i, refl))
  each_agrees (suc n) at p e = go (read w at) refl (each_agrees n) e
    where
      go : (o : Place) → read w at ≡ o → ((a q : ℕ) → many (read w) n a ≡ Ok q → Each n a q) → and_then o (many (read w) n) ≡ Ok p
          → ((test at && every_from o (rest test (read w) n)) ≡ true → standing (each (f w) (starts_from o at (starts (read w) n))) at w ≡ Some p)
          × ((q : ℕ) → standing (each (f w) (starts_from o at (starts (read w) n))) at w ≡ Some q
          → (q ≡ p) × ((test at && every_from o (rest test (read w) n)) ≡ true))
      go (Ok m) u rec v = (to, from)
        where
          to : (test at && rest test (read w) n m) ≡ true → standing (f w at ++ each (f w) (starts (read w) n m)) at w ≡ Some p
          to h =
              let s = and_split (test at) (rest test (read w) n m) h in
              append-stands (f w at) _ at w ((k at m u).0 s.0) ((rec m p v).0 s.1)

          from : (q : ℕ) → standing (f w at ++ each (f w) (starts (read w) n m)) at w ≡ Some q → (q ≡ p) × ((test at && rest test (read w) n m) ≡ true)
          from q h =
              let s = append_stood (f w at) _ at w h in
              let i = (k at m u).1 s.0 s.1 in
              let j = (rec m p v).1 q (subst (λ a. standing (each (f w) (starts (read w) n m)) a w ≡ Some q) i.0 s.2) in
              (j.0, rw i.1 j.1)
      go (Err r) u rec v = let z : ◌≡◌ {A = ℕ} 0 1 = cc in absurd (omega arith)

  section_agrees : Agrees (section read) (renewed read f) (every_in read test w) w
  unfolding renewed every_in rules.every
  section_agrees at p e =
      let i = section_in read w at p e in
      let j = each_agrees (get_or w at 0) (at + 1) p i.1 in
      (λ h. cons_stands (get_or w at 0) _ at w (stands_in (get_or w at 0) at w i.0 refl) (j.0 h), λ q h. j.1 q (cons_stood (get_or w at 0) _ at w h).1)

-- of each kind

accept_agrees : (w : List ℕ) → Agrees accept_at accept_made (accept_plain w) w
unfolding accept_made accept_plain
accept_agrees w s p e = (to, from)
  where
    sized : (p ≡ s + 3 + get_or w (s + 2) 0 * 3) × (p ≤ length w)
    sized = accept-sized w s p e

    copy : standing (copied w (s + 2) (get_or w (s + 2) 0 * 3 + 1)) (s + 1 + 1) w ≡ Some p
    copy =
        let i : s + 1 + 1 ≡ s + 2 = omega arith in
        let j : s + 2 + (get_or w (s + 2) 0 * 3 + 1) ≡ p = omega (arith, sized.0) in
        rw i (copied-stands w (s + 2) (get_or w (s + 2) 0 * 3 + 1) (omega (arith, sized.0, sized.1)) ∙ ap Some j)

    to : plain (get_or w (s + 1) 0) ≡ true → standing (get_or w s 0 ∷ flag (get_or w (s + 1) 0) ∷ copied w (s + 2) (get_or w (s + 2) 0 * 3 + 1)) s w ≡ Some p
    to h =
        cons_stands (get_or w s 0) _ s w (stands_in _ s w (omega (arith, sized.0, sized.1)) refl)
        (cons_stands (flag (get_or w (s + 1) 0)) _ (s + 1) w (stands_in _ (s + 1) w (omega (arith, sized.0, sized.1)) (plain_kept (get_or w (s + 1) 0) h)) copy)

    from : (q : ℕ) → standing (get_or w s 0 ∷ flag (get_or w (s + 1) 0) ∷ copied w (s + 2) (get_or w (s + 2) 0 * 3 + 1)) s w ≡ Some q
        → (q ≡ p) × (plain (get_or w (s + 1) 0) ≡ true)
    from q h =
        let i = cons_stood (flag (get_or w (s + 1) 0)) _ (s + 1) w (cons_stood (get_or w s 0) _ s w h).1 in
        (next_is (sym i.1 ∙ copy), kept_plain (get_or w (s + 1) 0) (stands_is _ (s + 1) w i.0).1)

config_agrees : (w : List ℕ) → Agrees config_at config_made (config_plain w) w
unfolding config_made config_plain
config_agrees w s p e = (to, from)
  where
    sized : (p ≡ s + 6 + get_or w (s + 5) 0 * 3) × (p ≤ length w)
    sized = config_sized w s p e

    copy : standing (copied w (s + 4) (get_or w (s + 5) 0 * 3 + 2)) (s + 4) w ≡ Some p
    copy =
        let j : s + 4 + (get_or w (s + 5) 0 * 3 + 2) ≡ p = omega (arith, sized.0) in
        copied-stands w (s + 4) (get_or w (s + 5) 0 * 3 + 2) (omega (arith, sized.0, sized.1)) ∙ ap Some j

    two : s + 1 + 1 ≡ s + 2
    two = omega arith

    three : s + 2 + 1 ≡ s + 3
    three = omega arith

    four : s + 3 + 1 ≡ s + 4
    four = omega arith

    to : (plain (get_or w (s + 2) 0) && plain (get_or w (s + 3) 0)) ≡ true
        → standing (get_or w s 0 ∷ get_or w (s + 1) 0 ∷ flag (get_or w (s + 2) 0) ∷ flag (get_or w (s + 3) 0) ∷ copied w (s + 4) (get_or w (s + 5) 0 * 3 + 2)) s w
        ≡ Some p
    to h =
        let b = and_split (plain (get_or w (s + 2) 0)) (plain (get_or w (s + 3) 0)) h in
        let l = sized in
        let i₃ = cons_stands (flag (get_or w (s + 3) 0)) _ (s + 3) w (stands_in _ (s + 3) w (omega (arith, l.0, l.1)) (plain_kept (get_or w (s + 3) 0) b.1))
        (moved _ w (s + 3 + 1) (s + 4) four copy) in
        let i₂ = cons_stands (flag (get_or w (s + 2) 0)) _ (s + 2) w (stands_in _ (s + 2) w (omega (arith, l.0, l.1)) (plain_kept (get_or w (s + 2) 0) b.0))
        (moved _ w (s + 2 + 1) (s + 3) three i₃) in
        let i₁ = cons_stands (get_or w (s + 1) 0) _ (s + 1) w (stands_in _ (s + 1) w (omega (arith, l.0, l.1)) refl) (moved _ w (s + 1 + 1) (s + 2) two i₂) in
        cons_stands (get_or w s 0) _ s w (stands_in _ s w (omega (arith, l.0, l.1)) refl) i₁

    from : (q : ℕ) → standing
        (get_or w s 0 ∷ get_or w (s + 1) 0 ∷ flag (get_or w (s + 2) 0) ∷ flag (get_or w (s + 3) 0) ∷ copied w (s + 4) (get_or w (s + 5) 0 * 3 + 2)) s w ≡ Some q
        → (q ≡ p) × ((plain (get_or w (s + 2) 0) && plain (get_or w (s + 3) 0)) ≡ true)
    from q h =
        let i₁ = (cons_stood (get_or w s 0) _ s w h).1 in
        let i₂ = moved _ w (s + 2) (s + 1 + 1) (sym two) (cons_stood (get_or w (s + 1) 0) _ (s + 1) w i₁).1 in
        let i₃ = cons_stood (flag (get_or w (s + 2) 0)) _ (s + 2) w i₂ in
        let i₄ = cons_stood (flag (get_or w (s + 3) 0)) _ (s + 3) w (moved _ w (s + 3) (s + 2 + 1) (sym three) i₃.1) in
        let a = kept_plain (get_or w (s + 2) 0) (stands_is _ (s + 2) w i₃.0).1 in
        let b = kept_plain (get_or w (s + 3) 0) (stands_is _ (s + 3) w i₄.0).1 in
        (next_is (sym (moved _ w (s + 4) (s + 3 + 1) (sym four) i₄.1) ∙ copy), rw a b)

continuation_agrees : (w : List ℕ) → Agrees continuation_at continuation_made (continuation_plain w) w
unfolding continuation_made continuation_plain
continuation_agrees w s p e =
    let n = get_or w s 0 * 3 + 1 in
    let b = configs_behind w s p e in
    let i = section_in config_at w (s + n) p b in
    let c = copied-stands w s n (omega (arith, i.0)) in
    let j = section_agrees config_at config_made (config_plain w) w (config_agrees w) (s + n) p b in (
      λ h. append-stands (copied w s n) _ s w c (j.0 h),
      λ q h. let k = append_stood (copied w s n) _ s w h in
          j.1 q (subst (λ a. standing (renewed config_at config_made w (s + n)) a w ≡ Some q) (next_is (sym k.1 ∙ c)) k.2),
    )

-- All flags

module _ (w : List ℕ) {s : Sections} (laid : layout_of w ≡ Ok s) where
  abbrev x : ℕ
  x = s.accepts

  abbrev e : ℕ
  e = s.escapes

  abbrev c : ℕ
  c = s.continuations

  abbrev accepts : List ℕ
  accepts = renewed accept_at accept_made w x

  abbrev continuations : List ℕ
  continuations = renewed continuation_at continuation_made w c

  between : standing (copied w e (c - e)) e w ≡ Some c
  between =
      let o = order w laid in
      let i : e + (c - e) ≡ c = omega (arith, o.continuations) in
      copied-stands w e (c - e) (omega (arith, o.continuations, o.all)) ∙ ap Some i

  before : standing (copied w 0 x) 0 w ≡ Some x
  before =
      let o = order w laid in
      let i : 0 + x ≡ x = omega arith in
      copied-stands w 0 x (omega (arith, o.escapes, o.continuations, o.all)) ∙ ap Some i

  pub plain-made : flags_plain w x c ≡ true → made w s ≡ w
  unfolding flags_plain
  plain-made h =
      let b = and_split _ _ h in
      let i = (section_agrees accept_at accept_made (accept_plain w) w (accept_agrees w) x e (found w laid).accepts).0 b.0 in
      let j = (section_agrees continuation_at continuation_made (continuation_plain w) w (continuation_agrees w) c (length w)
      (found w laid).continuations).0 b.1 in
      let k = append-stands (copied w 0 x) _ 0 w before (append-stands accepts _ x w i (append-stands (copied w e (c - e)) continuations e w between j)) in
      let t = stood_is (copied w 0 x ++ (accepts ++ (copied w e (c - e) ++ continuations))) 0 w (length w) k in
      let n = made-length w laid in
      sym t ∙ ap (λ (o : ℕ). take o w) n ∙ take-length w

  pub made_plain : made w s ≡ w → flags_plain w x c ≡ true
  unfolding flags_plain
  made_plain h =
      let all = copied w 0 x ++ (accepts ++ (copied w e (c - e) ++ continuations)) in
      let t : take (length all) w ≡ all = ap (λ (o : List ℕ). take (length o) w) h ∙ take-length w ∙ sym h in
      let k₀ = append_stood (copied w 0 x) _ 0 w (stands-part all 0 w t) in
      let k₁ = append_stood accepts _ x w
      (subst (λ q. standing (accepts ++ (copied w e (c - e) ++ continuations)) q w ≡ Some (0 + length all)) (next_is (sym k₀.1 ∙ before)) k₀.2) in
      let i = (section_agrees accept_at accept_made (accept_plain w) w (accept_agrees w) x e (found w laid).accepts).1 k₁.0 k₁.1 in
      let k₂ = append_stood (copied w e (c - e)) continuations e w
      (subst (λ q. standing (copied w e (c - e) ++ continuations) q w ≡ Some (0 + length all)) i.0 k₁.2) in
      let k₃ = subst (λ q. standing continuations q w ≡ Some (0 + length all)) (next_is (sym k₂.1 ∙ between)) k₂.2 in
      let j = (section_agrees continuation_at continuation_made (continuation_plain w) w (continuation_agrees w) c (length w)
      (found w laid).continuations).1 (0 + length all) k₃ in
      rw i.1 j.1
