-- A line is read back: it gives the numbers that it shows, so that two answers have two lines. Assumes nothing.
use Prim.Native.Nat.{ℕ, zero, suc, ◌+◌, ◌*◌, ◌-◌, ◌/◌, ◌%◌, ◌^◌, ◌<◌}
use native.Mathlib.Nat.{pow-suc}
use native.Mathlib.Omega.{arith}
use mathlib.Core.Path.{◌≡◌, refl, sym, ap, ◌∙◌}
use mathlib.Core.Bool.{Bool, true, false}
use mathlib.Core.List.{List, [], ◌∷◌, ◌++◌, append_assoc}
use borrow.Author.Tests.{ne_eqb}
use lib.Dec.{eqb, ltb}
use lib.ListN.{get_or, drop}
use Rattle.refusal.specs.Said.{Said, ok, no_by}
use Rattle.refusal.specs.Lists.{pick, each}
use Rattle.program_io.specs.Decimal.{decimal}
use Rattle.tableread.specs.Line.{spaced, line_with, line_of}
use Rattle.tableread.specs.Told.{values, Printable}

-- the numbers in a text, of which the first has been read up to a: a space ends a number, and the end of the line all of them
unfoldable read : ℕ → List ℕ → List ℕ
read a [] = a ∷ []
read a (b ∷ bs) = pick (eqb b 32) (a ∷ read 0 bs) (pick (eqb b 10) (a ∷ []) (read (10 * a + (b - 48)) bs))

-- a digit
read_digit : (a d : ℕ) (bs : List ℕ) → read a ((48 + d) ∷ bs) ≡ read (10 * a + d) bs
unfolding read
read_digit a d bs =
    let e : 48 + d - 48 ≡ d = omega arith in
    rw (ne_eqb (48 + d) 32 (λ z. omega arith), ne_eqb (48 + d) 10 (λ z. omega arith), e)

-- all digits of a number
read-decimal : (k n : ℕ) (bs : List ℕ) → n < 10 ^ k → read 0 (decimal k n ++ bs) ≡ read n bs
unfolding decimal
read-decimal zero n bs h = let e : n ≡ 0 = omega arith in rw e
read-decimal (suc k) n bs h =
    let p : 10 ^ suc k ≡ 10 ^ k * 10 = pow-suc 10 k in
    go (ltb n 10) (read-decimal k (n / 10) ((48 + n % 10) ∷ bs) (omega arith))
  where
    go : (b : Bool) → read 0 (decimal k (n / 10) ++ ((48 + n % 10) ∷ bs)) ≡ read (n / 10) ((48 + n % 10) ∷ bs) →
        read 0 (pick b ((48 + n) ∷ []) (decimal k (n / 10) ++ ((48 + n % 10) ∷ [])) ++ bs) ≡ read n bs
    go true r = let z : 10 * 0 + n ≡ n = omega arith in read_digit 0 n bs ∙ (rw z)
    go false r =
        let z : 10 * (n / 10) + n % 10 ≡ n = omega arith in
        ap (read 0) (append_assoc (decimal k (n / 10)) ((48 + n % 10) ∷ []) bs) ∙ r ∙ read_digit (n / 10) (n % 10) bs ∙ (rw z)

-- the numbers of a line
read_line : (a : ℕ) (xs : List ℕ) → Printable xs → read a (each spaced xs ++ (10 ∷ [])) ≡ a ∷ xs
unfolding read each spaced
read_line a [] h = refl
read_line a (x ∷ xs) h =
    ap (read a) (append_assoc (spaced x) (each spaced xs) (10 ∷ []))
    ∙ ap (λ l. a ∷ l) (read-decimal 20 x (each spaced xs ++ (10 ∷ [])) (omega (arith, h.0)) ∙ read_line x xs h.1)

-- what a line says
unfoldable back : List ℕ → Said
back line = pick (eqb (get_or line 0 0) 111) (ok (drop 1 (read 0 (drop 2 line))))
    (no_by (record {
      number = get_or (read 0 (drop 2 line)) 1 0;
      place = get_or (read 0 (drop 2 line)) 2 0;
      item = get_or (read 0 (drop 2 line)) 3 0;
    }))

back_line : (x : Said) → Printable (values x) → back (line_of x) ≡ x
unfolding back line_of line_with
back_line (ok l) h = rw (read_line 0 l h)
back_line (no_by r) h = rw (read_line 0 (values (no_by r)) h)

-- no two answers have one line
pub line_one : (x y : Said) → Printable (values x) → Printable (values y) → line_of x ≡ line_of y → x ≡ y
line_one x y h k e = sym (back_line x h) ∙ ap back e ∙ back_line y k
