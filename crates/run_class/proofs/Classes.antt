-- What is seen of the bytes of ranges. Assumes nothing.
use Prim.Native.Nat.{ℕ, suc, ◌+◌, ◌-◌, ◌≤◌, ◌<◌, zero-le}
use native.Mathlib.Numerals.{add-one}
use native.Mathlib.Omega.{arith}
use mathlib.Core.Path.{◌≡◌, refl, ap, sym, ◌∙◌}
use mathlib.Core.Bool.{Bool, true, false, ◌&&◌, ◌||◌, beq, and_assoc, or_assoc, and-true, or-false}
use mathlib.Core.List.{List, [], ◌∷◌, ◌++◌}
use lib.ListN.{length, get_or, drop, drop_of_length-le}
use lib.Seq.{drop-cons}
use borrow.Author.Rules.{rules}
use Rattle.refusal.specs.Lists.{some, every}
use Rattle.run_ranges.specs.Ranges.{range}
use Rattle.run_class.specs.Byte.{byte_class, up_from}
use Rattle.run_class.specs.Class.{bytes_in, bytes_of}
use Rattle.run_class.proofs.Arms.{and_left, and_right, inside}
use Rattle.run_class.specs.Seen.{flags, seen_in, facts_of, both}
use Rattle.run_ranges.specs.declared.AsciiRange.{AsciiRange}
use Rattle.run_class.specs.declared.Seen.{Seen}
use Rattle.run_class.specs.declared.ByteClass.{ByteClass}

-- What one byte says, by its class.

same : (a b : Bool) → beq a b ≡ true → a ≡ b
same true true e = refl
same true false e = sym e
same false true e = e
same false false e = refl

flag : (a b rest : Bool) → (beq a b && rest) ≡ true → (a ≡ b) × (rest ≡ true)
flag a b rest e = (same a b (and_left _ rest e), and_right (beq a b) rest e)

-- two lots of flags agree
abbrev alike : Seen → Seen → Bool
alike s t =
    beq s.any_digit t.any_digit &&
    (beq s.any_alpha t.any_alpha &&
    (beq s.all_whitespace t.all_whitespace
    && (beq s.all_number t.all_number && beq s.all_identifier t.all_identifier)))

alike_same : (s t : Seen) → alike s t ≡ true → s ≡ t
alike_same s t e =
    let a = flag s.any_digit t.any_digit _ e in
    let b = flag s.any_alpha t.any_alpha _ a.1 in
    let c = flag s.all_whitespace t.all_whitespace _ b.1 in
    let d = flag s.all_number t.all_number _ c.1 in
    let f = same s.all_identifier t.all_identifier d.1 in
    λ i. flags (a.0 i) (b.0 i) (c.0 i) (d.0 i) (f i)

-- a class says of its bytes what there is to see in them, by one computed test
byte_facts : (b : ℕ) → b < 256 → facts_of (byte_class b) ≡ seen_in (b ∷ [])
unfolding byte_class seen_in some every up_from
byte_facts b h = alike_same _ _ (inside (λ (x : ℕ). alike (facts_of (byte_class x)) (seen_in (x ∷ []))) 0 256 refl b zero-le h)

-- What is seen in two places together.

some-append : (p : ℕ → Bool) (xs ys : List ℕ) → some p (xs ++ ys) ≡ (some p xs || some p ys)
unfolding some
some-append p [] ys = refl
some-append p (x ∷ xs) ys = ap (λ (t : Bool). p x || t) (some-append p xs ys) ∙ sym (or_assoc (p x) (some p xs) (some p ys))

every_append : (p : ℕ → Bool) (xs ys : List ℕ) → every p (xs ++ ys) ≡ (every p xs && every p ys)
unfolding every
every_append p [] ys = refl
every_append p (x ∷ xs) ys = ap (λ (t : Bool). p x && t) (every_append p xs ys) ∙ sym (and_assoc (p x) (every p xs) (every p ys))

seen-append : (xs ys : List ℕ) → seen_in (xs ++ ys) ≡ both (seen_in xs) (seen_in ys)
unfolding seen_in both
seen-append xs ys = simp (some-append, every_append)

both_assoc : (a b c : Seen) → both (both a b) c ≡ both a (both b c)
unfolding both
both_assoc a b c = simp (or_assoc, and_assoc)

both-none : (s : Seen) → both s (seen_in []) ≡ s
unfolding both seen_in some every
both-none s = simp (or-false, and-true)

pub none_both : (s : Seen) {r : Seen} → r ≡ flags false false true true true → both r s ≡ s
unfolding both
none_both s e = rw e

-- The bytes of a range, one after the other. What was seen, with what there is from here on, is what there is in all.

bytes_next : (b high : ℕ) → b ≤ high → bytes_in (range b high) ≡ b ∷ bytes_in (range (b + 1) high)
unfolding up_from
bytes_next b high h = let n : suc high - b ≡ suc (suc high - suc b) = omega arith in rw (add-one, n)

bytes-none : (b high : ℕ) → high < b → bytes_in (range b high) ≡ []
unfolding up_from
bytes-none b high h = let n : suc high - b ≡ 0 = omega arith in rw n

pub no_byte : {seen all : Seen} {b high : ℕ} → high < b → both seen (seen_in (bytes_in (range b high))) ≡ all → seen ≡ all
no_byte {seen} {all} {b} {high} h a = sym (both-none seen) ∙ (rw (← bytes-none b high h) a)

module _ (class : ByteClass) (seen : Seen) {one next all : Seen} {b high : ℕ} (l : b ≤ high) (h : high < 256) (e : class ≡ byte_class b)
    (f : one ≡ facts_of class) (n : next ≡ both seen one) (a : both seen (seen_in (bytes_in (range b high))) ≡ all) where
  pub next_byte : both next (seen_in (bytes_in (range (b + 1) high))) ≡ all
  next_byte =
      let g : one ≡ seen_in (b ∷ []) = f ∙ ap facts_of e ∙ byte_facts b (omega arith) in
      rw (n, both_assoc, g, ← seen-append, ← bytes_next b high l) a

  pub last_byte : high ≤ b → next ≡ all
  last_byte m = no_byte {b = b + 1} {high = high} (omega arith) next_byte

-- Ranges, one after the other, in the same way.

module _ (rs : List AsciiRange) (i : ℕ) (seen : Seen) {all : Seen} (a : both seen (seen_in (bytes_of (drop i rs))) ≡ all) where
  pub no_range : length rs ≤ i → seen ≡ all
  unfolding bytes_of
  no_range h = sym (both-none seen) ∙ (rw (drop_of_length-le rs h) at a)

  pub next_range : {next : Seen} → i < length rs → next ≡ both seen (seen_in (bytes_in (get_or rs i (range 0 0)))) → both next (seen_in (bytes_of (drop (i + 1) rs))) ≡ all
  unfolding bytes_of
  next_range h n = rw (add-one i, n, both_assoc, ← seen-append) (rw (drop-cons rs i (range 0 0) h) at a)

pub ruleset seeing = (rules, next_byte, last_byte, no_byte, next_range, no_range, none_both)
