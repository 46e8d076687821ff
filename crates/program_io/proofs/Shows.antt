-- The laws of writing onto a page: bytes, texts and numbers, one behind the other and in a loop, and what stands on the page then. Assumes nothing.
use Prim.Native.Nat.{ℕ, zero, suc, ◌+◌, ◌<◌, ◌≤◌}
use native.Mathlib.Nat.{not-suc-le-zero, le_of_suc-le-suc}
use native.Mathlib.Numerals.{add-one}
use native.Mathlib.Omega.{arith}
use mathlib.Core.Path.{◌≡◌, refl, sym, ap, ◌∙◌}
use mathlib.Core.Bool.{Bool, true, false}
use mathlib.Core.List.{List, [], ◌∷◌, ◌++◌}
use mir.Syntax.{w64}
use mir.Val.{Fits}
use borrow.Author.Rules.{rules}
use borrow.Author.Tests.{ltb-true, ltb-false}
use lib.Dec.{ltb}
use lib.ListN.{length, set, get_or, take, drop, length-append, drop_of_length-le}
use lib.Seq.{drop-cons, length-take-le}
use Rattle.io.specs.Digits.{last_digits, IsDigitCount}
use Rattle.buffer.specs.Over.{over, lay}
use Rattle.buffer.proofs.Overs.{lay-length, lay-none, lay_put, lay-lay}
use Rattle.program_io.specs.Decimal.{number}
use Rattle.program_io.specs.Shown.{reached, Shown}
use Rattle.program_io.proofs.Decimal.{found}

-- What is laid past the end is nothing, and what is laid behind what reaches the end

over-empty : (xs : List ℕ) → over xs [] ≡ []
unfolding over
over-empty [] = refl
over-empty (x ∷ xs) = refl

lay_past : (n : ℕ) (xs d : List ℕ) → length d ≤ n → lay n xs d ≡ d
unfolding lay
lay_past zero xs [] h = over-empty xs
lay_past (suc n) xs [] h = over-empty xs
lay_past zero xs (y ∷ d) h = absurd (not-suc-le-zero h)
lay_past (suc n) xs (y ∷ d) h = ap (λ (l : List ℕ). y ∷ l) (lay_past n xs d (le_of_suc-le-suc h))

over-more : (xs ys d : List ℕ) → length d ≤ length xs → over (xs ++ ys) d ≡ over xs d
unfolding over
over-more xs ys [] h = over-empty (xs ++ ys) ∙ sym (over-empty xs)
over-more [] ys (y ∷ d) h = absurd (not-suc-le-zero h)
over-more (x ∷ xs) ys (y ∷ d) h = ap (λ (l : List ℕ). x ∷ l) (over-more xs ys d (le_of_suc-le-suc h))

lay-more : (n : ℕ) (xs ys d : List ℕ) → length d ≤ n + length xs → lay n (xs ++ ys) d ≡ lay n xs d
unfolding lay
lay-more zero xs ys d h = over-more xs ys d (omega arith)
lay-more (suc n) xs ys [] h = over-empty (xs ++ ys) ∙ sym (over-empty xs)
lay-more (suc n) xs ys (y ∷ d) h = ap (λ (l : List ℕ). y ∷ l) (lay-more n xs ys d (omega arith))

-- how far two parts reach, of which the second starts where the first ends
reach : (n y z l r : ℕ) → r ≡ reached n y l → reached r z l ≡ reached n (y + z) l
unfolding reached
reach n y z l r e = omega arith

-- what reaches past the end, and what does not
reach_end : (n y l r : ℕ) → r ≡ reached n y l → l < n + y → l ≤ r
unfolding reached
reach_end n y l r e h = omega arith

reach_in : (n y l r : ℕ) → r ≡ reached n y l → n + y ≤ l → r ≡ n + y
unfolding reached
reach_in n y l r e h = omega arith

reach_within : (n y l r : ℕ) → r ≡ reached n y l → n ≤ l → r ≤ l
unfolding reached
reach_within n y l r e h = omega arith

-- what is written within a page stays within it
pub shown_within : {xs : List ℕ} {n : ℕ} {old : List ℕ} {r : ℕ} {new : List ℕ} → n ≤ length old → Shown xs n old r new → r ≤ length new
shown_within {xs} {n} {old} {r} h p = omega (arith, reach_within n (length xs) (length old) r p.next h, ap length p.is, lay-length n xs old)

-- what a method of a page is left with
pub ruleset paging = (rules, shown_within)

reach_none : (n l : ℕ) → n ≡ reached n 0 l
unfolding reached
reach_none n l = omega arith

reach_one : (n l : ℕ) → n < l → n + 1 ≡ reached n 1 l
unfolding reached
reach_one n l h = omega arith

reach_past : (n l : ℕ) → l ≤ n → n ≡ reached n 1 l
unfolding reached
reach_past n l h = omega arith

module _ {xs : List ℕ} {n : ℕ} {d : List ℕ} {r : ℕ} {new : List ℕ} where
  pub shown_size : Shown xs n d r new → length new ≡ length d
  shown_size p = ap length p.is ∙ lay-length n xs d

  -- what is laid behind what was shown
  laid : (ys : List ℕ) → Shown xs n d r new → lay r ys new ≡ lay n (xs ++ ys) d
  laid ys p = go (ltb (length d) (n + length xs)) refl
    where
      go : (b : Bool) → ltb (length d) (n + length xs) ≡ b → lay r ys new ≡ lay n (xs ++ ys) d
      go true e =
          let h : length d < n + length xs = ltb-true (length d) (n + length xs) e in
          let k : length d ≤ r = reach_end n (length xs) (length d) r p.next h in
          let l : length new ≤ r = omega (arith, shown_size p) in
          let m : length d ≤ n + length xs = omega arith in
          lay_past r ys new l ∙ p.is ∙ sym (lay-more n xs ys d m)
      go false e =
          let h : n + length xs ≤ length d = ltb-false (length d) (n + length xs) e in
          let k : r ≡ n + length xs = reach_in n (length xs) (length d) r p.next h in
          rw (k, p.is) (lay-lay n xs ys d h)

  pub shown_behind : {ys : List ℕ} {q : ℕ} {d₂ : List ℕ} → Shown xs n d r new → Shown ys r new q d₂ → Shown (xs ++ ys) n d q d₂
  shown_behind {ys} p q =
      record {
        next = q.next ∙ (rw (shown_size p, length-append xs ys) (reach n (length xs) (length ys) (length d) r p.next));
        is = q.is ∙ laid ys p;
      }

-- nothing is written
pub shown_none : (n : ℕ) (d : List ℕ) → Shown [] n d n d
shown_none n d = record { next = reach_none n (length d); is = sym (lay-none n d) }

-- A byte

pub byte_in : (b n : ℕ) (d : List ℕ) → n < length d → Shown (b ∷ []) n d (n + 1) (set d n b)
byte_in b n d h =
    record {
      next = reach_one n (length d) h;
      is = sym (lay-none (n + 1) (set d n b)) ∙ lay_put n b [] d h;
    }

pub byte_out : (b n : ℕ) (d : List ℕ) → length d ≤ n → Shown (b ∷ []) n d n d
byte_out b n d h = record { next = reach_past n (length d) h; is = sym (lay_past n (b ∷ []) d h) }

-- A loop: xs is to be shown on `old` from n on; some of it stands, and `rest` is to come, from m on

pub record Coming (xs : List ℕ) (n : ℕ) (old : List ℕ) (rest : List ℕ) (m : ℕ) (out : List ℕ) : Type 0 where
  pub next : reached m (length rest) (length out) ≡ reached n (length xs) (length old)
  pub is : lay m rest out ≡ lay n xs old
  pub size : length out ≡ length old

pub coming_start : (xs : List ℕ) (n : ℕ) (old : List ℕ) → Coming xs n old xs n old
coming_start xs n old = record { next = refl; is = refl; size = refl }

module _ {xs : List ℕ} {n : ℕ} {old : List ℕ} {m : ℕ} {out : List ℕ} where
  pub coming_turn : {ys rest : List ℕ} {r : ℕ} {new : List ℕ} → Shown ys m out r new → Coming xs n old (ys ++ rest) m out →
      Coming xs n old rest r new
  coming_turn {ys} {rest} {r} {new} p g =
      let e : reached r (length rest) (length new) ≡ reached m (length (ys ++ rest)) (length out) = rw (shown_size p, length-append ys rest)
      (reach m (length ys) (length rest) (length out) r p.next) in
      record {
        next = e ∙ g.next;
        is = laid rest p ∙ g.is;
        size = shown_size p ∙ g.size;
      }

  -- what comes last is shown
  pub coming_last : {ys : List ℕ} {r : ℕ} {new : List ℕ} → Shown ys m out r new → Coming xs n old ys m out → Shown xs n old r new
  coming_last p g = record { next = p.next ∙ g.next; is = p.is ∙ g.is }

  pub coming_done : Coming xs n old [] m out → Shown xs n old m out
  coming_done g = coming_last (shown_none m out) g

-- A text: the bytes that are left, shown from here, give what all of them give

pub text_open : (t : List ℕ) (i : ℕ) → i < length t → drop i t ≡ (get_or t i 0 ∷ []) ++ drop (i + 1) t
text_open t i h = rw (drop-cons t i 0 h, add-one)

module _ (t : List ℕ) (i : ℕ) {xs : List ℕ} {n : ℕ} {old : List ℕ} {m : ℕ} {out : List ℕ} where
  pub text_turn : {r : ℕ} {new : List ℕ} → i < length t → Shown (get_or t i 0 ∷ []) m out r new → Coming xs n old (drop i t) m out →
      Coming xs n old (drop (i + 1) t) r new
  text_turn h p g = coming_turn p (rw (text_open t i h) at g)

  pub text_done : length t ≤ i → Coming xs n old (drop i t) m out → Shown xs n old m out
  text_done h g = coming_done (rw (drop_of_length-le t h) at g)

-- A number: k digits were found in ds

pub number_put : (x k : ℕ) (ds : List ℕ) {n : ℕ} {d : List ℕ} {r : ℕ} {new : List ℕ} → Shown (take k ds) n d r new →
    take k ds ≡ last_digits 10 k x → IsDigitCount 10 1 x k → Fits w64 x → Shown (number x) n d r new
number_put x k ds p e w h = rw (found x k ds e w h) at p

-- All of a page, from its front on

reach_no : (l r : ℕ) → r ≡ reached 0 0 l → r ≡ 0
unfolding reached
reach_no l r e = omega arith

reach_nowhere : (x r : ℕ) → r ≡ reached 0 x 0 → r ≡ 0
unfolding reached
reach_nowhere x r e = omega arith

reach_suc : (x l r : ℕ) → r ≡ reached 0 (suc x) (suc l) → r ≡ suc (reached 0 x l)
unfolding reached
reach_suc x l r e = omega arith

reach_le : (x l r : ℕ) → r ≡ reached 0 x l → r ≤ l
unfolding reached
reach_le x l r e = omega arith

take_none : (d : List ℕ) → take 0 d ≡ take (length d) []
take_none [] = refl
take_none (y ∷ d) = refl

over_page : (xs d : List ℕ) (r : ℕ) → r ≡ reached 0 (length xs) (length d) → take r (over xs d) ≡ take (length d) xs
unfolding over
over_page [] d r e = rw (reach_no (length d) r e) (take_none d)
over_page (x ∷ xs) [] r e = rw (reach_nowhere (suc (length xs)) r e)
over_page (x ∷ xs) (y ∷ d) r e =
    rw (reach_suc (length xs) (length d) r e) (ap (λ (l : List ℕ). x ∷ l) (over_page xs d (reached 0 (length xs) (length d)) refl))

module _ {xs d : List ℕ} {r : ℕ} {new : List ℕ} where
  pub page_in : Shown xs 0 d r new → r ≤ length new
  page_in p = let h : r ≤ length d = reach_le (length xs) (length d) r p.next in omega (arith, shown_size p)

  pub page_many : Shown xs 0 d r new → r ≡ length (take r new)
  page_many p = sym (length-take-le r new (page_in p))

  pub page_is : Shown xs 0 d r new → take r new ≡ take (length d) xs
  unfolding lay
  page_is p = rw p.is (over_page xs d r p.next)

-- of a page that begins again at its front
pub page_again : (xs old : List ℕ) {n : ℕ} {d : List ℕ} {r : ℕ} {new : List ℕ} → n ≡ 0 → d ≡ old → Shown xs n d r new → take r new ≡ take (length old) xs
page_again xs old e f p = page_is (rw (e, f) at p)

pub ruleset pages = (rules, page_again)

-- what the writing of a byte, of a text and of a number is left with
pub ruleset bytes = (rules, byte_in, byte_out)

pub ruleset texts = (rules, coming_start, text_turn, text_done)

pub ruleset numbers = (rules, number_put)
