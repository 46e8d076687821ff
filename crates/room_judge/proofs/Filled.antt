-- The tests of a room say whether it is a table: whether its own words are accepted, and decoding them leaves the room. Assumes nothing.
use Prim.Native.Nat.{ℕ, ◌+◌, ◌-◌, ◌<◌, ◌≤◌}
use native.Mathlib.Omega.{arith}
use mathlib.Core.Path.{◌≡◌, refl, sym, ap, subst, ◌∙◌}
use mathlib.Core.List.{List, [], ◌∷◌}
use mathlib.Core.Bool.{Bool, true, false, ◌&&◌}
use borrow.Author.Rules.{rules}
use borrow.Author.Tests.{lt-ltb, le-ltb}
use lib.Dec.{eqb}
use lib.ListN.{length, take, drop, length-take, length-drop}
use lib.Seq.{take_all}
use lib.Pointwise.{pointwise}
use Rattle.refusal.specs.declared.Refusal.{Refusal}
use Rattle.refusal.specs.Said.{refusal_at, broken_by, NOT-TABLE, LIMIT, ROOM}
use Rattle.refusal.proofs.Lists.{and_split, same_equal, equal_same}
use Rattle.refusal.specs.Lists.{pick, every, same_list}
use Rattle.refusal.specs.Header.{WORD-COUNT, MODES-START, HEADER-NUMBERS, word_count}
use Rattle.std.specs.Prelude.{Option, Some, None, Ok, Err, map, is_some}
use Rattle.word_reader.specs.declared.Sections.{Sections}
use Rattle.word_layout.specs.Layout.{Layout}
use Rattle.word_layout.specs.Layout.{unfound, layout_of}
use Rattle.word_layout.proofs.Found.{there}
use Rattle.rule_words.specs.Rules.{broken, broken_item}
use Rattle.rule_first.specs.declared.Broken.{Broken}
use Rattle.rule_first.specs.Broken.{first_in}
use Rattle.rule_first.proofs.Breaking.{unbroken, breaks}
use Rattle.buffer.specs.Over.{zeros, padded}
use Rattle.word_layout.specs.Limits.{laid_out}
use Rattle.room_fill.specs.Room.{in_room, eight, header, made, places, numbers, room_for}
use Rattle.room_fill.proofs.Sizes.{made-length}
use Rattle.room_decode.specs.Decode.{counts, judged, decoded_from, kept_from}
use Rattle.room_judge.specs.Standing.{standing, empty_from, empty_behind, eight_stand, flags_plain, filled, sound}
use Rattle.room_judge.specs.Judge.{words_part, Part, accepted, is_table, table_in}
use Rattle.room_judge.proofs.Comparing.{part_stands}
use Rattle.room_judge.proofs.Stood.{moved, alike, stands_in, cons_stands, cons_stood, append-stands, append_stood}
use Rattle.room_judge.proofs.Stood.{stood_within, stood_next, stood_is, stands-part, whole_stood, whole-stands}
use Rattle.room_judge.proofs.Plain.{plain-made, made_plain}

-- The places of the sections' counts

module _ (s : Sections) (d : List ℕ) where
  abbrev heads : List ℕ
  heads = map in_room (eight s)

  eight-stands : eight_stand s d ≡ true → standing heads MODES-START d ≡ Some HEADER-NUMBERS
  unfolding eight_stand
  eight-stands h = go (standing heads MODES-START d) refl h
    where
      go : (o : Option ℕ) → standing heads MODES-START d ≡ o → is_some o ≡ true → standing heads MODES-START d ≡ Some HEADER-NUMBERS
      go (Some q) e k = let i : q ≡ HEADER-NUMBERS = omega (arith, stood_next heads MODES-START d q e) in e ∙ ap Some i
      go None e k = let z : ◌≡◌ {A = ℕ} 0 1 = cc in absurd (omega arith)

  eight_stood : {p : ℕ} → standing heads MODES-START d ≡ Some p → (p ≡ HEADER-NUMBERS) × (eight_stand s d ≡ true)
  unfolding eight_stand
  eight_stood {p} h = (omega (arith, stood_next heads MODES-START d p h), rw h)

-- the part of the room behind its first number is these eight
pub counts-stand : (s : Sections) (d : List ℕ) {ok : Bool} {x₁ x₂ x₃ x₄ x₅ x₆ x₇ x₈ : ℕ}
    → x₁ ≡ in_room s.modes → x₂ ≡ in_room s.states → x₃ ≡ in_room s.runs → x₄ ≡ in_room s.ascii
    → x₅ ≡ in_room s.wide → x₆ ≡ in_room s.accepts → x₇ ≡ in_room s.escapes → x₈ ≡ in_room s.continuations → 16384 ≤ length d
    → ok ≡ pointwise eqb (take 8 (drop MODES-START d)) (x₁ ∷ x₂ ∷ x₃ ∷ x₄ ∷ x₅ ∷ x₆ ∷ x₇ ∷ x₈ ∷ []) → ok ≡ eight_stand s d
unfolding eight_stand
counts-stand s d {x₁ = x₁} {x₂ = x₂} {x₃ = x₃} {x₄ = x₄} {x₅ = x₅} {x₆ = x₆} {x₇ = x₇} {x₈ = x₈} e₁ e₂ e₃ e₄ e₅ e₆ e₇ e₈ h k =
    let e : (x₁ ∷ x₂ ∷ x₃ ∷ x₄ ∷ x₅ ∷ x₆ ∷ x₇ ∷ x₈ ∷ []) ≡ map in_room (eight s) = cc in
    k ∙ ap (pointwise eqb (take 8 (drop MODES-START d))) e ∙ part_stands (map in_room (eight s)) MODES-START d (omega arith)

-- The room of found sections

module _ (w d : List ℕ) (part : w ≡ words_part d) (limit : length w ≤ 8192) (room : 16384 ≤ length d) where
  -- the first number is the word count
  count_is : word_count d ≡ length w
  unfolding words_part
  count_is =
      let l = ap length part ∙ length-take (word_count d) (drop HEADER-NUMBERS d) in
      omega (arith, l, length-drop HEADER-NUMBERS d)

  part_is : take (length w) (drop HEADER-NUMBERS d) ≡ w
  unfolding words_part
  part_is = ap (λ (n : ℕ). take n (drop HEADER-NUMBERS d)) (sym count_is) ∙ sym part

  module _ {s : Sections} (l : layout_of w ≡ Ok s) where
    to : filled w s d ≡ true → padded (length d) (numbers w s) ≡ d
    unfolding filled header empty_behind
    to h =
        let i = and_split (eight_stand s d) _ h in
        let j = and_split (flags_plain w s.accepts s.continuations) _ i.1 in
        let head = cons_stands (length w) (heads s d) WORD-COUNT d (stands_in (length w) WORD-COUNT d (omega arith) count_is) (eight-stands s d i.0) in
        let same = plain-made w l j.0 in
        let words : standing (made w s) HEADER-NUMBERS d ≡ Some (HEADER-NUMBERS + length w) = rw same (stands-part w HEADER-NUMBERS d part_is) in
        go (standing (places w s) (length w + HEADER-NUMBERS) d) refl j.1
        (λ q k. append-stands (header w s) _ 0 d head (append-stands (made w s) _ HEADER-NUMBERS d words k))
      where
        go : (o : Option ℕ) → standing (places w s) (length w + HEADER-NUMBERS) d ≡ o → empty_behind o d ≡ true
            → ((q : ℕ) → standing (places w s) (HEADER-NUMBERS + length w) d ≡ Some q → standing (numbers w s) 0 d ≡ Some q)
            → padded (length d) (numbers w s) ≡ d
        go (Some q) g z k = let n : HEADER-NUMBERS + length w ≡ length w + HEADER-NUMBERS = omega arith in whole_stood _ d (k q (moved _ d _ _ n g)) z
        go None g z k = let y : ◌≡◌ {A = ℕ} 0 1 = cc in absurd (omega arith)

    from : padded (length d) (numbers w s) ≡ d → filled w s d ≡ true
    unfolding filled header empty_behind
    from h =
        let i = whole-stands (numbers w s) d h in
        let k₀ = append_stood (header w s) _ 0 d i.0 in
        let f = eight_stood s d (cons_stood (length w) _ WORD-COUNT d k₀.1).1 in
        let q₉ : k₀.0 ≡ HEADER-NUMBERS = f.0 in
        let k₂ = append_stood (made w s) (places w s) HEADER-NUMBERS d (moved _ d HEADER-NUMBERS k₀.0 (sym q₉) k₀.2) in
        let n = stood_next (made w s) HEADER-NUMBERS d _ k₂.1 in
        let o : k₂.0 ≡ length w + HEADER-NUMBERS = omega (arith, n, made-length w l) in
        let same : made w s ≡ w =
        sym (stood_is (made w s) HEADER-NUMBERS d _ k₂.1) ∙ ap (λ (p : ℕ). take p (drop HEADER-NUMBERS d)) (made-length w l) ∙ part_is in
        let b = made_plain w l same in
        let t = moved (places w s) d (length w + HEADER-NUMBERS) k₂.0 (sym o) k₂.2 in
        rw (f.1, b, t) i.1

    -- all tests hold exactly where the room is what is written
    filled_is : filled w s d ≡ same_list (padded (length d) (numbers w s)) d
    filled_is =
        alike (filled w s d) (same_list (padded (length d) (numbers w s)) d)
        (λ h. subst (λ o. same_list o d ≡ true) (sym (to h)) (equal_same d))
        (λ h. from (same_equal (padded (length d) (numbers w s)) d h))

  laid_is : laid_out w (length d) ≡ layout_of w
  unfolding laid_out
  laid_is = rw (le-ltb (length d) 16384 room, le-ltb 8192 (length w) limit)

-- What judging a room is left with

abbrev not_table : Layout
not_table = unfound NOT-TABLE 0

module _ (w d : List ℕ) where
  module _ {s : Sections} where
    table_is : Part w d → layout_of w ≡ Ok s → table_in d ≡ pick (sound w s d) (Ok s) not_table
    unfolding table_in is_table sound decoded_from judged kept_from room_for
    table_is p f =
        let i = filled_is w d p.is p.limit p.room f in
        rw (← p.is, laid_is w d p.is p.limit p.room, f, i) (go (eqb (broken w s) 0))
      where
        go : (t : Bool) → pick
            (accepted (pick t (Ok (counts w s)) (Err (broken_by (broken w s) (broken_item w s))))
            && same_list (pick t (padded (length d) (numbers w s)) (zeros (length d))) d) (Ok s) not_table
            ≡ pick (t && same_list (padded (length d) (numbers w s)) d) (Ok s) not_table
        go true = refl
        go false = refl

    pub is_there : {got : Layout} {ok : Bool} → Part w d → got ≡ layout_of w → got ≡ Ok s → ok ≡ sound w s d → ok ≡ true → Ok s ≡ table_in d
    is_there p g f o y = sym (table_is p (sym g ∙ f) ∙ (rw (← o, y)))

    pub is_other : {got : Layout} {ok : Bool} {n : Layout} → Part w d → got ≡ layout_of w → got ≡ Ok s → ok ≡ sound w s d → ok ≡ false
        → n ≡ not_table → n ≡ table_in d
    is_other p g f o y h = h ∙ sym (table_is p (sym g ∙ f) ∙ (rw (← o, y)))

  pub is_unlaid : {got : Layout} {o : Refusal} {n : Layout} → Part w d → got ≡ layout_of w → got ≡ Err o → n ≡ not_table → n ≡ table_in d
  unfolding table_in is_table decoded_from
  is_unlaid p g f h = let i = laid_is w d p.is p.limit p.room ∙ sym g ∙ f in h ∙ (rw (← p.is, i))

module _ (d : List ℕ) {n : Layout} where
  refused_is : {o : Refusal} → laid_out (words_part d) (length d) ≡ Err o → n ≡ not_table → n ≡ table_in d
  unfolding table_in is_table decoded_from
  refused_is i h = h ∙ (rw i)

  -- too short a room, or too many words
  pub too_short_lem : length d < 16384 → n ≡ not_table → n ≡ table_in d
  unfolding laid_out
  too_short_lem h = refused_is {o = refusal_at ROOM 0} (rw (lt-ltb (length d) 16384 h))

  pub too_many : (k : ℕ) → k ≡ word_count d → 16384 ≤ length d → 8192 < k → n ≡ not_table → n ≡ table_in d
  unfolding laid_out words_part
  too_many k e h l =
      let i = length-take (word_count d) (drop HEADER-NUMBERS d) in
      let j : 8192 < length (take (word_count d) (drop HEADER-NUMBERS d)) = omega (arith, i, length-drop HEADER-NUMBERS d) in
      refused_is {o = refusal_at LIMIT 8192}
      (rw (le-ltb (length d) 16384 h, lt-ltb 8192 (length (take (word_count d) (drop HEADER-NUMBERS d))) j))

-- the words, as `&room[9..9 + count]` reads them
module _ (d : List ℕ) (k : ℕ) where
  pub words_few : k ≤ 8192 → length (take (HEADER-NUMBERS + k - HEADER-NUMBERS) (drop HEADER-NUMBERS d)) ≤ 8192
  words_few h = omega (arith, length-take (HEADER-NUMBERS + k - HEADER-NUMBERS) (drop HEADER-NUMBERS d))

  pub words_part_lem : k ≡ word_count d → 16384 ≤ length d → k ≤ 8192 → Part (take (HEADER-NUMBERS + k - HEADER-NUMBERS) (drop HEADER-NUMBERS d)) d
  unfolding words_part
  words_part_lem e h l = let i : HEADER-NUMBERS + k - HEADER-NUMBERS ≡ word_count d = omega arith in record { is = rw i; limit = words_few l; room = h }

pub same_found : (w : List ℕ) {x got : Layout} → got ≡ layout_of w → got ≡ x → layout_of w ≡ x
same_found w g i = sym g ∙ i

pub part_room : (w d : List ℕ) → Part w d → 16384 ≤ length d
part_room w d p = p.room

pub ruleset judging = (rules, part_room, same_found, is_there, is_other, is_unlaid)

pub ruleset measuring = (rules, too_short_lem, too_many, words_part_lem, words_few)

-- What comparing all numbers is left with

module _ (w d : List ℕ) (s : Sections) where
  pub filled_head : {ok : Bool} → ok ≡ eight_stand s d → ok ≡ false → false ≡ filled w s d
  unfolding filled
  filled_head o y = rw (← o, y)

  pub filled-flags : {ok t : Bool} → ok ≡ eight_stand s d → ok ≡ true → t ≡ flags_plain w s.accepts s.continuations → t ≡ false → false ≡ filled w s d
  unfolding filled
  filled-flags o y u z = rw (← o, y, ← u, z)

  module _ {ok t : Bool} {got : Option ℕ} (o : ok ≡ eight_stand s d) (y : ok ≡ true) (u : t ≡ flags_plain w s.accepts s.continuations) (z : t ≡ true)
      (g : got ≡ standing (places w s) (length w + HEADER-NUMBERS) d) where
    pub filled-places : got ≡ None → false ≡ filled w s d
    unfolding filled empty_behind
    filled-places i = rw (← o, y, ← u, z, ← g, i)

    -- the room behind them, as `&room[p..]` reads it
    pub filled_within : {p : ℕ} → got ≡ Some p → length w ≤ 8192 → 16384 ≤ length d → p ≤ length d
    filled_within {p} i l k = stood_within (places w s) (length w + HEADER-NUMBERS) d p (omega arith) (sym g ∙ i)

    pub filled_all : {p : ℕ} {n : Bool} → got ≡ Some p → n ≡ every (λ x. eqb x 0) (take (length d - p) (drop p d)) → n ≡ filled w s d
    unfolding filled empty_behind empty_from
    filled_all {p} i h =
        let a : take (length d - p) (drop p d) ≡ drop p d = take_all (length d - p) (drop p d) (omega (arith, length-drop p d)) in
        h ∙ (rw (← o, y, ← u, z, ← g, i, a))

-- no rule is broken, or one is
module _ (w d : List ℕ) (s : Sections) {q : Option Broken} (b : q ≡ first_in w s) where
  pub sound-filled : {n : Bool} → q ≡ None → n ≡ filled w s d → n ≡ sound w s d
  unfolding sound
  sound-filled z h = let y : broken w s ≡ 0 = unbroken w s b z in h ∙ (rw y)

  pub sound-broken : {r : Broken} → q ≡ Some r → false ≡ sound w s d
  unfolding sound
  sound-broken z = let k = breaks w s b z in rw k.some

-- a count is one of few words
pub few : {p : ℕ} (n : ℕ) → p < n → n ≤ 8192 → p ≤ 8192
few n h k = omega arith

pub ruleset heading = (rules, there, few)

pub ruleset filling = (rules, sound-filled, sound-broken, filled_head, filled-flags, filled-places, filled_within, filled_all)
