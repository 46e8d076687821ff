-- The laws of finding a record: where a record that is found lies, how to go on from it, and that `said`
-- takes no two answers to one. `got` is what the code found. Assumes nothing.
use Prim.Native.Nat.{ℕ, zero, suc, ◌+◌, ◌*◌, ◌-◌, ◌^◌, ◌<◌, ◌≤◌}
use native.Mathlib.Omega.{arith}
use mathlib.Core.Path.{◌≡◌, refl, sym, ap, ◌∙◌}
use mathlib.Core.Bool.{Bool, true, false}
use mathlib.Core.List.{List, [], ◌∷◌}
use lib.Dec.{ltb, leb}
use lib.ListN.{length, get_or}
use mir.Syntax.{w64}
use mir.Val.{Fits}
use borrow.Author.Rules.{rules}
use borrow.Author.Tests.{ltb-true, leb-true}
use Rattle.std.specs.Prelude.{Result, Ok, Err}
use Rattle.refusal.specs.Said.{Said, ok, no_by}
use Rattle.refusal.specs.Lists.{pick}
use Rattle.room_find.specs.declared.Missing.{Missing}
use Rattle.room_find.specs.declared.Missing.TheVariants.{Absent, Outside}
use Rattle.room_find.specs.Room.{said, record_in, listed_in, record_at, words_end, end_of, section_of, past_lists, listed_at, state_at, follow}

-- Where a record lies that is found

-- a test that held, since the other way leads elsewhere
pub held : (b : Bool) {x : Result ℕ Missing} {p : ℕ} → pick b x (Err Outside) ≡ Ok p → (b ≡ true) × (x ≡ Ok p)
held true e = (refl, e)
held false e = let z : ◌≡◌ {A = ℕ} 0 1 = cc in absurd (omega arith)

pub held-absent : (b : Bool) {x : Result ℕ Missing} {p : ℕ} → pick b x (Err Absent) ≡ Ok p → (b ≡ true) × (x ≡ Ok p)
held-absent true e = (refl, e)
held-absent false e = let z : ◌≡◌ {A = ℕ} 0 1 = cc in absurd (omega arith)

module _ (w : List ℕ) (s e : ℕ) where
  -- a record of a given size lies in the room, whole
  pub record_in_room : (size i : ℕ) {p : ℕ} → record_in w s e size i ≡ Ok p → p + size ≤ length w
  unfolding record_in
  record_in_room size i {p} h =
      let h₁ = held (ltb s e) h in
      let h₂ = held (leb e (length w)) h₁.1 in
      let h₃ = held-absent (ltb i (get_or w s 0)) h₂.1 in
      let h₄ = held (ltb (i * size + s + size) e) h₃.1 in
      let q : i * size + s + 1 ≡ p = cc in
      omega (arith, leb-true e (length w) h₂.0, ltb-true (i * size + s + size) e h₄.0)

  -- a record of a length of its own starts in its section, which lies in the room
  listed_in_room : (i list : ℕ) {p : ℕ} → listed_in w s e i list ≡ Ok p → (p < e) × (e ≤ length w)
  unfolding listed_in
  listed_in_room i list {p} h =
      let at = get_or w (list + i) 0 in
      let h₁ = held (ltb s e) h in
      let h₂ = held (leb e (length w)) h₁.1 in
      let h₃ = held-absent (ltb i (get_or w s 0)) h₂.1 in
      let h₄ = held (ltb (list + i) (length w)) h₃.1 in
      let h₅ = held (ltb s at) h₄.1 in
      let h₆ = held (ltb at e) h₅.1 in
      let q : at ≡ p = cc in
      (omega (arith, ltb-true at e h₆.0), leb-true e (length w) h₂.0)

-- it is found by a list of places, wherever that starts
some_list : (w : List ℕ) (n j list : ℕ) (f : ℕ → Result ℕ Missing) {p : ℕ} → past_lists w n j list f ≡ Ok p → (l : ℕ) × (f l ≡ Ok p)
unfolding past_lists
some_list w zero j list f h = (list, h)
some_list w (suc n) j list f h = some_list w n (j + 1) (list + get_or w (get_or w (section_of j) 0) 0) f (held (ltb (get_or w (section_of j) 0) (length w)) h).1

pub record Lies (w : List ℕ) (k p : ℕ) : Type 0 where
  pub header : 8 < length w
  pub before : p < end_of w k
  pub inside : end_of w k ≤ length w

pub listed_lies : (w : List ℕ) (k i : ℕ) {p : ℕ} → listed_at w k i ≡ Ok p → Lies w k p
unfolding listed_at
listed_lies w k i h =
    let h₁ = held (ltb 8 (length w)) h in
    let h₂ = held (leb k 8) h₁.1 in
    let q = some_list w (k - 4) 0 (words_end w) (listed_in w (get_or w k 0) (end_of w k) i) h₂.1 in
    let l = listed_in_room w (get_or w k 0) (end_of w k) i q.0 q.1 in
    record { header = ltb-true 8 (length w) h₁.0; before = l.0; inside = l.1 }

-- where it ends is read in the header; its first number, and the number behind that
module _ (w : List ℕ) (k i : ℕ) {p : ℕ} {got : Result ℕ Missing} (g : got ≡ listed_at w k i) (e : got ≡ Ok p) where
  lies : Lies w k p
  lies = listed_lies w k i (sym g ∙ e)

  pub listed-header : (j : ℕ) → j < 9 → j < length w
  listed-header j h = omega (arith, lies.header)

  pub listed-before : {n : ℕ} → end_of w k ≡ n → p < n
  listed-before h = rw h at lies.before

  pub listed_inside : {n : ℕ} → end_of w k ≡ n → n ≤ length w
  listed_inside h = rw h at lies.inside

  pub listed_first : p < length w
  listed_first = omega (arith, lies.before, lies.inside)

  pub listed-index : length w * 4 < 2 ^ 63 → Fits w64 (p + 1)
  listed-index l = record { fits = omega (arith, listed_first) }

  pub listed-bytes : length w * 4 < 2 ^ 63 → Fits w64 (p * 4)
  listed-bytes l = record { fits = omega (arith, listed_first) }

-- what a lookup that goes on from such a record is left with
pub ruleset oflist = (listed-header, listed-before, listed_inside, listed_first, listed-index, listed-bytes)

-- a record of a section of fixed size lies in the room, whole
pub record_at_in_room : (w : List ℕ) (k size i : ℕ) {p : ℕ} → record_at w k size i ≡ Ok p → p + size ≤ length w
record_at_in_room w k size i h = record_in_room w (get_or w k 0) (get_or w (k + 1) 0) size i (held (ltb 8 (length w)) h).1

pub state_in_room : (w : List ℕ) (i : ℕ) {p : ℕ} → state_at w i ≡ Ok p → p + 4 ≤ length w
unfolding state_at
state_in_room w i h = record_at_in_room w 2 4 i h

-- number j of a state: it is there, and its index is a number of 64 bits, also in bytes
module _ (w : List ℕ) (i : ℕ) {p : ℕ} {got : Result ℕ Missing} (g : got ≡ state_at w i) (e : got ≡ Ok p) where
  pub state_first : p < length w
  state_first = omega (arith, state_in_room w i (sym g ∙ e))

  pub state_number : (j : ℕ) → j < 4 → p + j < length w
  state_number j h = omega (arith, state_in_room w i (sym g ∙ e))

  pub state_index : (j : ℕ) → j < 4 → length w * 4 < 2 ^ 63 → Fits w64 (p + j)
  state_index j h l = record { fits = omega (arith, state_in_room w i (sym g ∙ e)) }

  pub state_bytes : length w * 4 < 2 ^ 63 → Fits w64 (p * 4)
  state_bytes l = record { fits = omega (arith, state_in_room w i (sym g ∙ e)) }

-- Going on from a record: it is there, absent, or outside
module _ {A : Type 0} (x : Result ℕ Missing) (f : ℕ → A) (a o : A) where
  pub there : {p : ℕ} {got : Result ℕ Missing} {all : A} → got ≡ x → got ≡ Ok p → all ≡ f p → all ≡ follow x f a o
  unfolding follow
  there g e h = h ∙ (rw (← g, e))

  pub absent : {got : Result ℕ Missing} → got ≡ x → got ≡ Err Absent → a ≡ follow x f a o
  unfolding follow
  absent g e = rw (← g, e)

  pub outside : {got : Result ℕ Missing} → got ≡ x → got ≡ Err Outside → o ≡ follow x f a o
  unfolding follow
  outside g e = rw (← g, e)

-- what a lookup that goes on from a state is left with
pub ruleset ofstate = (rules, there, absent, outside, state_first, state_number, state_index, state_bytes)

-- `said` takes no two answers to one: what it says gives the answer back
abbrev list_back : List ℕ → Result ℕ Missing
list_back [] = (Err Absent)
list_back (p ∷ l) = Ok p

abbrev back : Said → Result ℕ Missing
back (ok l) = list_back l
back (no_by r) = (Err Outside)

back-said : (x : Result ℕ Missing) → back (said x) ≡ x
back-said (Ok p) = refl
back-said (Err Absent) = refl
back-said (Err Outside) = refl

pub said_one : (x y : Result ℕ Missing) → said x ≡ said y → x ≡ y
said_one x y e = sym (back-said x) ∙ ap back e ∙ back-said y
