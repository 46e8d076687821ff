-- The laws of forms: how one is written byte by byte, and which text each is. A form goes by its place (src/forms.rt). Assumes nothing.
use Prim.Native.Nat.{ℕ, zero, suc, ◌+◌, ◌-◌, ◌/◌, ◌%◌, ◌<◌, ◌≤◌}
use native.Mathlib.Nat.{not-suc-le-zero}
use native.Mathlib.Omega.{arith}
use mathlib.Core.Bool.{Bool, true, false}
use mathlib.Core.Path.{◌≡◌, refl, ap}
use mathlib.Core.List.{List, [], ◌∷◌, ◌++◌, append-nil}
use mir.Syntax.{w64}
use mir.Val.{Fits}
use borrow.Author.Rules.{rules}
use borrow.Author.Tests.{lt-ltb, le-ltb, eq-eqb, ne_eqb}
use lib.Dec.{ltb, eqb}
use lib.ListN.{length, get_or, drop}
use Rattle.refusal.specs.Fixed.{NONE, ESCAPE-STATE, DEAD-STATE}
use Rattle.refusal.specs.Lists.{pick}
use Rattle.program_io.specs.Shown.{Shown}
use Rattle.tableshow.specs.Joined.{joined, if_less, if_same}
use Rattle.program_io.specs.Decimal.{number}
use Rattle.tableshow.specs.declared.rows.Kind.{Kind}
use Rattle.tableshow.specs.Names.{hex_digit, symbol, quoted, front, four, point, range, target}
use Rattle.tableshow.specs.Texts as t
use Rattle.tableshow.specs.Forms.{filled, digit_in, glyph_of, number_in, exit_in, low_in, high_in, piece, forms, drawn, formed}
use Rattle.tableshow.specs.Rows.{gap}
use Rattle.tableshow.specs.Page.{record_line, until_text, ranges_line, run_text, rule_text, reason_text, start_line, table_text, end_target, end_continuation}
use Rattle.program_io.proofs.Shows.{Coming, coming_start, coming_turn, coming_done, text_open}
use Rattle.tableshow.proofs.Shows.{joined_3, if_same_lem, if_not_same}

-- Byte by byte

inside : (fs : List ℕ) (i : ℕ) → 0 < get_or fs i 0 → i < length fs
inside [] i h = absurd (not-suc-le-zero h)
inside (x ∷ fs) zero h = omega arith
inside (x ∷ fs) (suc i) h = let k : i < length fs = inside fs i h in omega arith

filled_open : (f : ℕ → List ℕ) (fs : List ℕ) (i : ℕ) → 0 < get_or fs i 0 → filled f (drop i fs) ≡ f (get_or fs i 0) ++ filled f (drop (i + 1) fs)
unfolding filled
filled_open f fs i h = rw (text_open fs i (inside fs i h), ne_eqb (get_or fs i 0) 0 (λ e. absurd (omega arith)))

filled_shut : (f : ℕ → List ℕ) (fs : List ℕ) (i : ℕ) → get_or fs i 0 ≡ 0 → filled f (drop i fs) ≡ []
unfolding filled
filled_shut f [] zero e = refl
filled_shut f [] (suc i) e = refl
filled_shut f (x ∷ fs) zero e = rw (eq-eqb x 0 e)
filled_shut f (x ∷ fs) (suc i) e = filled_shut f fs i e

module _ (i y : ℕ) where
  early : y ≡ get_or forms i 0 → 0 < y → i < 1514
  unfolding forms joined
  early e h = inside forms i (rw e at h)

  pub next_fits : y ≡ get_or forms i 0 → 0 < y → Fits w64 (i + 1)
  next_fits e h = let k : i < 1514 = early e h in search (rules, k)

  pub nearer : y ≡ get_or forms i 0 → 0 < y → 1514 - (i + 1) < 1514 - i
  nearer e h = let k : i < 1514 = early e h in omega arith

module _ (i y : ℕ) {xs : List ℕ} {n : ℕ} {old : List ℕ} {m : ℕ} {out : List ℕ} where
  pub drawn_turn : (x g : ℕ) {r : ℕ} {new : List ℕ} → Shown (g ∷ []) m out r new → g ≡ glyph_of y x → y ≡ get_or forms i 0 → 0 < y →
      Coming xs n old (drawn i x) m out → Coming xs n old (drawn (i + 1) x) r new
  unfolding drawn
  drawn_turn x g p k e h c = coming_turn (rw (k, e) at p) (rw (filled_open (λ z. glyph_of z x ∷ []) forms i (rw e at h)) at c)

  pub drawn_done : (x : ℕ) → y ≡ get_or forms i 0 → y ≤ 0 → Coming xs n old (drawn i x) m out → Shown xs n old m out
  unfolding drawn
  drawn_done x e h c = let z : get_or forms i 0 ≡ 0 = omega arith in coming_done (rw (filled_shut (λ z. glyph_of z x ∷ []) forms i z) at c)

  pub formed_turn : (a b c : ℕ) {r : ℕ} {new : List ℕ} → Shown (piece y a b c) m out r new → y ≡ get_or forms i 0 → 0 < y →
      Coming xs n old (formed i a b c) m out → Coming xs n old (formed (i + 1) a b c) r new
  unfolding formed
  formed_turn a b c p e h g = coming_turn (rw e at p) (rw (filled_open (λ z. piece z a b c) forms i (rw e at h)) at g)

  pub formed_done : (a b c : ℕ) → y ≡ get_or forms i 0 → y ≤ 0 → Coming xs n old (formed i a b c) m out → Shown xs n old m out
  unfolding formed
  formed_done a b c e h g = let z : get_or forms i 0 ≡ 0 = omega arith in coming_done (rw (filled_shut (λ z. piece z a b c) forms i z) at g)

pub ruleset letters = (rules, coming_start, next_fits, nearer, drawn_turn, drawn_done, formed_turn, formed_done)

-- What a byte stands for: a chain of tests, as that of the code

module _ {A : Type 0} (a b : ℕ) (x y : A) {v : A} where
  pub pick_same : a ≡ b → v ≡ x → v ≡ pick (eqb a b) x y
  pick_same h e = rw (eq-eqb a b h) e

  pub pick-not_same : (a ≡ b → ⊥) → v ≡ y → v ≡ pick (eqb a b) x y
  pick-not_same h e = rw (ne_eqb a b h) e

  -- where a is a number that is not b
  pub pick_known : (k : ℕ) → a ≡ k → eqb k b ≡ false → v ≡ y → v ≡ pick (eqb a b) x y
  pick_known k h i e = rw (h, i) e

  pub pick_less : a < b → v ≡ x → v ≡ pick (ltb a b) x y
  pick_less h e = rw (lt-ltb a b h) e

  pub pick-not_less : b ≤ a → v ≡ y → v ≡ pick (ltb a b) x y
  pick-not_less h e = rw (le-ltb a b h) e

pub ruleset tests = (rules, pick_same, pick-not_same, pick_known, pick_less, pick-not_less)

module _ (y x : ℕ) where
  pub glyph_plain : y < 128 → y ≡ glyph_of y x
  unfolding glyph_of
  glyph_plain h = rw (lt-ltb y 128 h)

  pub glyph_itself : y ≡ 128 → x % 256 ≡ glyph_of y x
  unfolding glyph_of
  glyph_itself h = rw h

  pub glyph_digit : {g k : ℕ} → g ≡ hex_digit k → k ≡ digit_in y x → 128 ≤ y → (y ≡ 128 → ⊥) → g ≡ glyph_of y x
  unfolding glyph_of
  glyph_digit i e h k = rw (le-ltb y 128 h, ne_eqb y 128 k, ← e) i

pub digit_known : (y x k : ℕ) {v : ℕ} → y ≡ k → v ≡ digit_in k x → v ≡ digit_in y x
digit_known y x k h e = rw h e

pub digit_last : (y x : ℕ) → (y ≡ 129 → ⊥) → (y ≡ 130 → ⊥) → (y ≡ 131 → ⊥) → (y ≡ 132 → ⊥) → (y ≡ 133 → ⊥) →
    (y ≡ 134 → ⊥) → (y ≡ 135 → ⊥) → x / 65536 / 4096 ≡ digit_in y x
unfolding digit_in
digit_last y x h i j k l m n = rw (ne_eqb y 129 h, ne_eqb y 130 i, ne_eqb y 131 j, ne_eqb y 132 k, ne_eqb y 133 l, ne_eqb y 134 m, ne_eqb y 135 n)

pub ruleset digits = (rules, digit_known, digit_last)

pub ruleset glyphs = (rules, glyph_plain, glyph_itself, glyph_digit)

-- Which text a form is

module _ (a b : ℕ) (xs ys : List ℕ) {t : List ℕ} where
  pub is_less : a < b → t ≡ xs → t ≡ if_less a b xs ys
  unfolding if_less
  is_less h e = rw (lt-ltb a b h) e

  pub is_not_less : b ≤ a → t ≡ ys → t ≡ if_less a b xs ys
  unfolding if_less
  is_not_less h e = rw (le-ltb a b h) e

  pub is_same : a ≡ b → t ≡ xs → t ≡ if_same a b xs ys
  unfolding if_same
  is_same h e = rw (eq-eqb a b h) e

  pub is_not_same : (a ≡ b → ⊥) → t ≡ ys → t ≡ if_same a b xs ys
  unfolding if_same
  is_not_same h e = rw (ne_eqb a b h) e

  -- where a is a number that is not b
  pub is_known : (k : ℕ) → a ≡ k → eqb k b ≡ false → t ≡ ys → t ≡ if_same a b xs ys
  unfolding if_same
  is_known k h i e = rw (h, i) e

pub kind_known : {k : Kind} (j : Kind) (t : ℕ) {s : List ℕ} → k ≡ j → s ≡ target j t → s ≡ target k t
kind_known j t e h = rw e h

-- a flag as a number
pub flag_not : {x : Bool} → x ≡ false → ◌≡◌ {A = ℕ} (pick x 1 0) 0
flag_not e = rw e

pub flag_set : {x : Bool} → x ≡ true → ◌≡◌ {A = ℕ} (pick x 1 0) 0 → ⊥
flag_set e h = let z : ◌≡◌ {A = ℕ} 1 0 = rw e at h in absurd (omega arith)

pub ruleset choices = (rules, is_less, is_not_less, is_same, is_not_same, is_known, kind_known)

-- symbols

pub is_quoted : (x : ℕ) → x < 127 → drawn 16 x ≡ quoted x
unfolding drawn formed filled forms joined if_less if_same piece glyph_of digit_in number_in exit_in low_in high_in
is_quoted x h = let e : x % 256 ≡ x = omega arith in ap (λ (y : ℕ). 39 ∷ y ∷ 39 ∷ []) e

module _ (x : ℕ) where
  pub wide_4 : x / 65536 < 1 → drawn 25 x ≡ joined (t.code_point ∷ front (x / 65536) ∷ four x ∷ [])
  unfolding drawn formed filled forms joined if_less if_same piece glyph_of digit_in number_in exit_in low_in high_in
  wide_4 h = rw (lt-ltb (x / 65536) 1 h)

  pub wide_5 : 1 ≤ x / 65536 → x / 65536 < 16 → drawn 32 x ≡ joined (t.code_point ∷ front (x / 65536) ∷ four x ∷ [])
  unfolding drawn formed filled forms joined if_less if_same piece glyph_of digit_in number_in exit_in low_in high_in
  wide_5 h k = rw (le-ltb (x / 65536) 1 h, lt-ltb (x / 65536) 16 k)

  pub wide_6 : 1 ≤ x / 65536 → 16 ≤ x / 65536 → x / 65536 < 256 → drawn 40 x ≡ joined (t.code_point ∷ front (x / 65536) ∷ four x ∷ [])
  unfolding drawn formed filled forms joined if_less if_same piece glyph_of digit_in number_in exit_in low_in high_in
  wide_6 h k l = rw (le-ltb (x / 65536) 1 h, le-ltb (x / 65536) 16 k, lt-ltb (x / 65536) 256 l)

  pub wide_8 : 1 ≤ x / 65536 → 16 ≤ x / 65536 → 256 ≤ x / 65536 → drawn 49 x ≡ joined (t.code_point ∷ front (x / 65536) ∷ four x ∷ [])
  unfolding drawn formed filled forms joined if_less if_same piece glyph_of digit_in number_in exit_in low_in high_in
  wide_8 h k l = rw (le-ltb (x / 65536) 1 h, le-ltb (x / 65536) 16 k, le-ltb (x / 65536) 256 l)

pub ruleset points = (choices, is_quoted, wide_4, wide_5, wide_6, wide_8)

module _ (low high f : ℕ) {n r : ℕ} {d d₁ : List ℕ} where
  pub range_one : Shown (drawn f low) n d r d₁ → drawn f low ≡ point low → low ≡ high → Shown (range low high) n d r d₁
  range_one p e h = if_same_lem low high (point low) _ h (rw e at p)

  pub range-both : (g : ℕ) {q s : ℕ} {d₂ d₃ : List ℕ} → Shown (drawn f low) n d r d₁ → Shown (drawn 60 0) r d₁ q d₂ →
      Shown (drawn g high) q d₂ s d₃ → drawn f low ≡ point low → drawn g high ≡ point high → (low ≡ high → ⊥) →
      Shown (range low high) n d s d₃
  unfolding drawn formed filled forms joined if_less if_same piece glyph_of digit_in number_in exit_in low_in high_in
  range-both g p q u e k h = if_not_same low high (point low) _ h (joined_3 (rw e at p) q (rw k at u))

module _ (y a b c : ℕ) {n r : ℕ} {d new : List ℕ} where
  pub piece_byte : Shown (y ∷ []) n d r new → y < 128 → Shown (piece y a b c) n d r new
  unfolding piece if_less
  piece_byte p h = rw (lt-ltb y 128 h) p

  pub piece-number : {x : ℕ} → Shown (number x) n d r new → x ≡ number_in y a b c → 128 ≤ y → y < 131 → Shown (piece y a b c) n d r new
  unfolding piece if_less
  piece-number p e h k = rw (le-ltb y 128 h, lt-ltb y 131 k) (rw e at p)

  pub piece_exit : (f x : ℕ) → Shown (drawn f x) n d r new → drawn f x ≡ symbol x → x ≡ exit_in y a → 131 ≤ y → y < 134 →
      Shown (piece y a b c) n d r new
  unfolding piece if_less
  piece_exit f x p i e h k =
      let h' : 128 ≤ y = omega arith in
      rw (le-ltb y 128 h', le-ltb y 131 h, lt-ltb y 134 k) (rw e at (rw i at p))

  pub piece-range : {low high : ℕ} → Shown (range low high) n d r new → low ≡ low_in y a b c → high ≡ high_in y b c → 134 ≤ y →
      Shown (piece y a b c) n d r new
  unfolding piece if_less
  piece-range p e i h =
      let h' : 128 ≤ y = omega arith in
      let h'' : 131 ≤ y = omega arith in
      rw (le-ltb y 128 h', le-ltb y 131 h'', le-ltb y 134 h) (rw (e, i) at p)

pub ruleset pieces = (rules, range_one, range-both, piece_byte, piece-number, piece_exit, piece-range)

-- lines

module _ (k rule f n : ℕ) where
  pub record_plain : n ≡ 0 → f ≡ 0 → formed 170 k rule n ≡ record_line k rule f n
  unfolding drawn formed filled forms joined if_less if_same piece glyph_of digit_in number_in exit_in low_in high_in
  record_plain h i = rw (eq-eqb n 0 h, eq-eqb f 0 i)

  pub record_end : n ≡ 0 → (f ≡ 0 → ⊥) → formed 221 k rule n ≡ record_line k rule f n
  unfolding drawn formed filled forms joined if_less if_same piece glyph_of digit_in number_in exit_in low_in high_in
  record_end h i = rw (eq-eqb n 0 h, ne_eqb f 0 i)

  pub record_actions : (n ≡ 0 → ⊥) → f ≡ 0 → formed 190 k rule n ≡ record_line k rule f n
  unfolding drawn formed filled forms joined if_less if_same piece glyph_of digit_in number_in exit_in low_in high_in
  record_actions h i = rw (ne_eqb n 0 h, eq-eqb f 0 i)

  pub record_both : (n ≡ 0 → ⊥) → (f ≡ 0 → ⊥) → formed 259 k rule n ≡ record_line k rule f n
  unfolding drawn formed filled forms joined if_less if_same piece glyph_of digit_in number_in exit_in low_in high_in
  record_both h i = rw (ne_eqb n 0 h, ne_eqb f 0 i)

module _ (a b c : ℕ) where
  pub is_nothing : formed 0 a b c ≡ []
  unfolding drawn formed filled forms joined if_less if_same piece glyph_of digit_in number_in exit_in low_in high_in
  is_nothing = refl

  pub is_always : formed 308 a b c ≡ t.loops_always
  unfolding drawn formed filled forms joined if_less if_same piece glyph_of digit_in number_in exit_in low_in high_in
  is_always = refl

  pub until_1 : a % 256 < 3 → formed 336 a b c ≡ until_text a
  unfolding drawn formed filled forms joined if_less if_same piece glyph_of digit_in number_in exit_in low_in high_in
  until_1 h = let k : a % 256 < 4 = omega arith in rw (lt-ltb (a % 256) 3 h, lt-ltb (a % 256) 4 k)

  pub until_2 : 3 ≤ a % 256 → a % 256 < 4 → formed 356 a b c ≡ until_text a
  unfolding drawn formed filled forms joined if_less if_same piece glyph_of digit_in number_in exit_in low_in high_in
  until_2 h k = rw (le-ltb (a % 256) 3 h, lt-ltb (a % 256) 4 k)

  pub until_3 : 4 ≤ a % 256 → formed 381 a b c ≡ until_text a
  unfolding drawn formed filled forms joined if_less if_same piece glyph_of digit_in number_in exit_in low_in high_in
  until_3 h = let k : 3 ≤ a % 256 = omega arith in rw (le-ltb (a % 256) 3 k, le-ltb (a % 256) 4 h)

  module _ (n : ℕ) where
    pub on_1 : n < 2 → formed 411 a b c ≡ ranges_line n b c
    unfolding drawn formed filled forms joined if_less if_same piece glyph_of digit_in number_in exit_in low_in high_in
    on_1 h = let i : n < 3 = omega arith in let k : n < 4 = omega arith in rw (lt-ltb n 2 h, lt-ltb n 3 i, lt-ltb n 4 k)

    pub on_2 : 2 ≤ n → n < 3 → formed 428 a b c ≡ ranges_line n b c
    unfolding drawn formed filled forms joined if_less if_same piece glyph_of digit_in number_in exit_in low_in high_in
    on_2 h i = let k : n < 4 = omega arith in rw (le-ltb n 2 h, lt-ltb n 3 i, lt-ltb n 4 k)

    pub on_3 : 3 ≤ n → n < 4 → formed 448 a b c ≡ ranges_line n b c
    unfolding drawn formed filled forms joined if_less if_same piece glyph_of digit_in number_in exit_in low_in high_in
    on_3 i k = let h : 2 ≤ n = omega arith in rw (le-ltb n 2 h, le-ltb n 3 i, lt-ltb n 4 k)

    pub on_4 : 4 ≤ n → formed 471 a b c ≡ ranges_line n b c
    unfolding drawn formed filled forms joined if_less if_same piece glyph_of digit_in number_in exit_in low_in high_in
    on_4 k = let h : 2 ≤ n = omega arith in let i : 3 ≤ n = omega arith in rw (le-ltb n 2 h, le-ltb n 3 i, le-ltb n 4 k)

pub not-compiled : (m s : ℕ) → s ≡ NONE → formed 98 m s 0 ≡ start_line m s
unfolding drawn formed filled forms joined if_less if_same piece glyph_of digit_in number_in exit_in low_in high_in
not-compiled m s h = rw (eq-eqb s NONE h)

pub starts_at : (m s : ℕ) → (s ≡ NONE → ⊥) → formed 122 m s 0 ≡ start_line m s
unfolding drawn formed filled forms joined if_less if_same piece glyph_of digit_in number_in exit_in low_in high_in
starts_at m s h = rw (ne_eqb s NONE h)

pub end_to : (x : ℕ) → (x ≡ ESCAPE-STATE → ⊥) → (x ≡ DEAD-STATE → ⊥) → formed 623 x 0 0 ≡ end_target x
unfolding drawn formed filled forms joined if_less if_same piece glyph_of digit_in number_in exit_in low_in high_in
end_to x h k = rw (ne_eqb x ESCAPE-STATE h, ne_eqb x DEAD-STATE k, append-nil (number x))

pub end_escape : (x : ℕ) → x ≡ ESCAPE-STATE → formed 640 x 0 0 ≡ end_target x
unfolding drawn formed filled forms joined if_less if_same piece glyph_of digit_in number_in exit_in low_in high_in
end_escape x h = rw h

pub end_continuation_lem : (x : ℕ) → (x ≡ NONE → ⊥) → formed 662 x 0 0 ≡ end_continuation x
unfolding drawn formed filled forms joined if_less if_same piece glyph_of digit_in number_in exit_in low_in high_in
end_continuation_lem x h = rw (ne_eqb x NONE h, append-nil (number x))

module _ (p low high : ℕ) where
  pub next_line : p ≡ 3 → formed 554 low high 0 ≡ joined (gap p ∷ range low high ∷ [])
  unfolding drawn formed filled forms joined if_less if_same piece glyph_of digit_in number_in exit_in low_in high_in
  next_line h = rw h

  pub same_line : (p ≡ 3 → ⊥) → formed 550 low high 0 ≡ joined (gap p ∷ range low high ∷ [])
  unfolding drawn formed filled forms joined if_less if_same piece glyph_of digit_in number_in exit_in low_in high_in
  same_line h = rw (ne_eqb p 3 h)

pub ruleset gaps = (rules, next_line, same_line)

module _ (f a b c : ℕ) where
  pub run_ranges : ((x y z : ℕ) → formed f x y z ≡ ranges_line (a / 256 % 256) y z) → (a % 256 ≡ 0 → ⊥) → (a % 256 ≡ 1 → ⊥) →
      a % 256 ≡ 5 → formed f a b c ≡ run_text a b c
  run_ranges e h i j = is_not_same (a % 256) 0 _ _ h (is_not_same (a % 256) 1 _ _ i (is_same (a % 256) 5 _ _ j (e a b c)))

  pub run_until : ((y z : ℕ) → formed f a y z ≡ until_text a) → (a % 256 ≡ 0 → ⊥) → (a % 256 ≡ 1 → ⊥) → (a % 256 ≡ 5 → ⊥) →
      formed f a b c ≡ run_text a b c
  run_until e h i j = is_not_same (a % 256) 0 _ _ h (is_not_same (a % 256) 1 _ _ i (is_not_same (a % 256) 5 _ _ j (e b c)))

pub ruleset runs = (choices, is_nothing, is_always, run_ranges, run_until)

-- a refusal: by the number that is known, or by all that it is not
module _ (r : ℕ) where
  pub rule_known : (k : ℕ) {t : List ℕ} → r ≡ k → t ≡ rule_text k → t ≡ rule_text r
  rule_known k h e = rw h e

  pub rule_last : (r ≡ 1 → ⊥) → (r ≡ 2 → ⊥) → (r ≡ 3 → ⊥) → (r ≡ 4 → ⊥) → (r ≡ 5 → ⊥) → (r ≡ 6 → ⊥) →
      (r ≡ 7 → ⊥) → (r ≡ 8 → ⊥) → formed 1445 0 0 0 ≡ rule_text r
  unfolding drawn formed filled forms joined if_less if_same piece glyph_of digit_in number_in exit_in low_in high_in
  rule_last h i j k l m n o = rw (ne_eqb r 1 h, ne_eqb r 2 i, ne_eqb r 3 j, ne_eqb r 4 k, ne_eqb r 5 l, ne_eqb r 6 m, ne_eqb r 7 n, ne_eqb r 8 o)

  module _ (place : ℕ) where
    pub reason_known : (k : ℕ) {t : List ℕ} → r ≡ k → t ≡ reason_text k place → t ≡ reason_text r place
    reason_known k h e = rw h e

    pub reason_rule : {t : List ℕ} → r ≡ 6 → t ≡ rule_text place → t ≡ reason_text r place
    unfolding if_same
    reason_rule h e = rw h e

    pub reason_last : (r ≡ 1 → ⊥) → (r ≡ 2 → ⊥) → (r ≡ 3 → ⊥) → (r ≡ 4 → ⊥) → (r ≡ 5 → ⊥) → (r ≡ 6 → ⊥) →
        formed 948 0 0 0 ≡ reason_text r place
    unfolding drawn formed filled forms joined if_less if_same piece glyph_of digit_in number_in exit_in low_in high_in
    reason_last h i j k l m = rw (ne_eqb r 1 h, ne_eqb r 2 i, ne_eqb r 3 j, ne_eqb r 4 k, ne_eqb r 5 l, ne_eqb r 6 m)

pub ruleset reasons = (rules, rule_known, rule_last, reason_rule, reason_known, reason_last)

pub ruleset drawn-runs = (until_1, until_2, until_3, on_1, on_2, on_3, on_4)

pub ruleset lines =
    (choices, drawn-runs, flag_not, flag_set, record_plain, record_end, record_actions, record_both, not-compiled, starts_at, end_to, end_escape, end_continuation_lem)

-- the forms that are not chosen

pub is_no_accept : formed 157 0 0 0 ≡ t.no-accept
unfolding drawn formed filled forms joined if_less if_same piece glyph_of digit_in number_in exit_in low_in high_in
is_no_accept = refl

pub is_state : (s : ℕ) → formed 148 s 0 0 ≡ joined (t.state_word ∷ number s ∷ [])
unfolding drawn formed filled forms joined if_less if_same piece glyph_of digit_in number_in exit_in low_in high_in
is_state s = refl

pub is_table_lem : (a b c : ℕ) → formed 63 a b c ≡ table_text a b c
unfolding drawn formed filled forms joined if_less if_same piece glyph_of digit_in number_in exit_in low_in high_in
is_table_lem a b c = refl

pub is_refused : (n place : ℕ) → formed 692 n place 0 ≡ joined (t.refused-word ∷ number n ∷ t.at_word ∷ number place ∷ [])
unfolding drawn formed filled forms joined if_less if_same piece glyph_of digit_in number_in exit_in low_in high_in
is_refused n place = refl

pub is_ascii_lem : formed 497 0 0 0 ≡ t.ascii_label
unfolding drawn formed filled forms joined if_less if_same piece glyph_of digit_in number_in exit_in low_in high_in
is_ascii_lem = refl

pub is_wide : formed 507 0 0 0 ≡ t.wide_label
unfolding drawn formed filled forms joined if_less if_same piece glyph_of digit_in number_in exit_in low_in high_in
is_wide = refl

pub is_wide_as : (s : ℕ) → formed 517 s 0 0 ≡ joined (t.wide_as ∷ number s ∷ t.end_line ∷ [])
unfolding drawn formed filled forms joined if_less if_same piece glyph_of digit_in number_in exit_in low_in high_in
is_wide_as s = refl

pub is_escapes : formed 540 0 0 0 ≡ t.escapes_label
unfolding drawn formed filled forms joined if_less if_same piece glyph_of digit_in number_in exit_in low_in high_in
is_escapes = refl
