-- The laws of the line: its parts, one behind the other. Assumes nothing.
use Prim.Native.Nat.{ℕ, ◌+◌, ◌*◌, ◌<◌, ◌≤◌}
use native.Mathlib.Omega.{arith}
use mathlib.Core.Path.{◌≡◌, ◌∙◌}
use mathlib.Core.List.{List, [], ◌∷◌, ◌++◌}
use borrow.Author.Rules.{rules}
use lib.ListN.{length, get_or, take, drop, length-append, drop_of_length-le}
use lib.Seq.{take_all}
use Rattle.refusal.specs.declared.Refusal.{Refusal}
use Rattle.refusal.specs.Lists.{each}
use Rattle.room_decode.specs.declared.Decoded.{Decoded}
use Rattle.std.specs.Prelude.{Result, Ok, Err}
use Rattle.room_decode.specs.Decode.{said}
use Rattle.program_io.specs.Decimal.{number}
use Rattle.program_io.specs.Shown.{Shown}
use Rattle.program_io.proofs.Decimal.{decimal-length}
use Rattle.program_io.proofs.Shows.{shown_behind, Coming, coming_start, coming_turn, coming_done, text_open, page_is}
use Rattle.tableread.specs.Line.{spaced, line_with, line_of}

-- numbers, each with its space
each-length : (xs : List ℕ) → length (each spaced xs) ≤ 21 * length xs
unfolding each spaced
each-length [] = omega arith
each-length (x ∷ xs) = omega (arith, length-append (spaced x) (each spaced xs), decimal-length 20 x, each-length xs)

pub spaced_put : (x : ℕ) {n r q : ℕ} {d d₁ d₂ : List ℕ} → Shown (32 ∷ []) n d r d₁ → Shown (number x) r d₁ q d₂ → Shown (spaced x) n d q d₂
unfolding spaced
spaced_put x p t = shown_behind p t

-- a number stands at a place, or none does
numbers_open : (xs : List ℕ) (i : ℕ) → i < length xs → each spaced (drop i xs) ≡ spaced (get_or xs i 0) ++ each spaced (drop (i + 1) xs)
unfolding each
numbers_open xs i h = rw (text_open xs i h)

numbers-none : (xs : List ℕ) (i : ℕ) → length xs ≤ i → each spaced (drop i xs) ≡ []
unfolding each
numbers-none xs i h = rw (drop_of_length-le xs h)

-- the numbers that are left, written from here, give what all of them give
module _ (ys : List ℕ) (i : ℕ) {xs : List ℕ} {n : ℕ} {old : List ℕ} {m : ℕ} {out : List ℕ} where
  pub numbers_turn : {r : ℕ} {new : List ℕ} → i < length ys → Shown (spaced (get_or ys i 0)) m out r new →
      Coming xs n old (each spaced (drop i ys)) m out → Coming xs n old (each spaced (drop (i + 1) ys)) r new
  numbers_turn h p g = coming_turn p (rw (numbers_open ys i h) at g)

  pub numbers_done : length ys ≤ i → Coming xs n old (each spaced (drop i ys)) m out → Shown xs n old m out
  numbers_done h g = coming_done (rw (numbers-none ys i h) at g)

-- what the loop over numbers is left with
pub ruleset numbers = (rules, coming_start, numbers_turn, numbers_done)

-- a word, numbers, and the end, each behind the one before, from the front of an empty page
pub line_put : (w xs : List ℕ) {n : ℕ} {d old : List ℕ} {r q e : ℕ} {d₁ d₂ d₃ : List ℕ} → n ≡ 0 → d ≡ old → Shown w n d r d₁ →
    Shown (each spaced xs) r d₁ q d₂ → Shown (10 ∷ []) q d₂ e d₃ → Shown (line_with w xs) 0 old e d₃
unfolding line_with
line_put w xs z o p t l = rw (z, o) at (shown_behind p (shown_behind t l))

-- what the writing of a number and of a line is left with
pub ruleset parts = (rules, spaced_put, line_put)

-- The line of an answer

-- two letters and three numbers have at most 66 bytes with the end
short : (a b : ℕ) (xs : List ℕ) → length xs ≤ 3 → length (line_with (a ∷ b ∷ []) xs) ≤ 66
unfolding line_with
short a b xs h = omega (arith, length-append (each spaced xs) (10 ∷ []), each-length xs)

-- what was put is the line of the answer
module _ {k : ℕ} {d new : List ℕ} where
  all_put : (a b : ℕ) (xs : List ℕ) → length xs ≤ 3 → Shown (line_with (a ∷ b ∷ []) xs) 0 d k new → length d ≡ 66 → take k new ≡ line_with (a ∷ b ∷ []) xs
  all_put a b xs h p l = page_is p ∙ take_all (length d) (line_with (a ∷ b ∷ []) xs) (omega (arith, short a b xs h))

  pub ok_line : {answer : Result Decoded Refusal} {m s w a b : ℕ} → Shown (line_with (111 ∷ 107 ∷ []) (a ∷ b ∷ w ∷ [])) 0 d k new → answer ≡ Ok (record { modes = m; states = s; words = w }) →
      a ≡ m → b ≡ s → length d ≡ 66 → take k new ≡ line_of (said answer)
  unfolding line_of
  ok_line {m = m} {s} {w} p e f g l = rw e (all_put 111 107 (m ∷ s ∷ w ∷ []) (omega arith) (rw (f, g) at p) l)

  pub no_line : {answer : Result Decoded Refusal} {r : Refusal} {a b : ℕ} → Shown (line_with (110 ∷ 111 ∷ []) (a ∷ r.place ∷ b ∷ [])) 0 d k new → answer ≡ Err r →
      a ≡ r.number → b ≡ r.item → length d ≡ 66 → take k new ≡ line_of (said answer)
  unfolding line_of
  no_line {r = r} p e f g l = rw e (all_put 110 111 (r.number ∷ r.place ∷ r.item ∷ []) (omega arith) (rw (f, g) at p) l)

-- what the line of an answer is left with
pub ruleset answering = (rules, ok_line, no_line)
