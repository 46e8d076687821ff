-- The parts of records in the form in which code tests: so many words are there, then a field is judged. Assumes nothing.
use Prim.Native.Nat.{ℕ, zero, suc, ◌+◌, ◌<◌, ◌≤◌}
use native.Mathlib.Omega.{arith}
use mathlib.Core.Path.{◌≡◌, refl, ap, ◌∙◌}
use mathlib.Core.List.{List, [], ◌∷◌}
use mathlib.Core.Bool.{Bool, true, false}
use lib.Dec.{ltb, leb}
use lib.ListN.{length, get_or}
use borrow.Author.Tests.{le-leb, lt-ltb, le-ltb, leb-true, leb-false}
use Rattle.refusal.specs.Lists.{pick}
use Rattle.std.specs.Prelude.{Ok}
use Rattle.word_reader.specs.Parse.{Place, short, and_then, word, fields, many, section, both}
use Rattle.word_reader.specs.Records.{any}
use Rattle.word_reader.proofs.Laws.{ahead}

-- one word, and then on
pub single : (w : List ℕ) (at : ℕ) (k : ℕ → Place) → word w at (λ x. k (at + 1)) ≡ ahead w 1 at k
unfolding word ahead
single w at k = go (leb (at + 1) (length w)) refl
  where
    go : (b : Bool) → leb (at + 1) (length w) ≡ b → pick (ltb at (length w)) (k (at + 1)) (short w) ≡ pick b (k (at + 1)) (short w)
    go true u = let h : at < length w = omega (arith, leb-true (at + 1) (length w) u) in rw (lt-ltb at (length w) h)
    go false u = let h : length w ≤ at = omega (arith, leb-false (at + 1) (length w) u) in rw (le-ltb at (length w) h)

-- one word more
more : (w : List ℕ) (n at : ℕ) (k : ℕ → Place) → word w at (λ x. ahead w n (at + 1) k) ≡ ahead w (n + 1) at k
unfolding word ahead
more w n at k = go (leb (at + (n + 1)) (length w)) refl
  where
    e : at + 1 + n ≡ at + (n + 1)
    e = omega arith

    same : (c : Bool) → pick c (short w) (short w) ≡ short w
    same true = refl
    same false = refl

    go : (b : Bool) → leb (at + (n + 1)) (length w) ≡ b
        → pick (ltb at (length w)) (pick (leb (at + 1 + n) (length w)) (k (at + 1 + n)) (short w)) (short w) ≡ pick b (k (at + (n + 1))) (short w)
    go true u = let h : at < length w = omega (arith, leb-true (at + (n + 1)) (length w) u) in rw (e, u, lt-ltb at (length w) h)
    go false u = rw (e, u) (same (ltb at (length w)))

-- fields of any value, and others behind them
abbrev pub anys : ℕ → List (ℕ → Bool) → List (ℕ → Bool)
anys zero ts = ts
anys (suc n) ts = any ∷ anys n ts

-- they are so many words
pub heads : (n : ℕ) (ts : List (ℕ → Bool)) (w : List ℕ) (at : ℕ) → fields (anys (suc n) ts) w at ≡ ahead w (suc n) at (fields ts w)
unfolding fields any
heads zero ts w at = single w at (fields ts w)
heads (suc n) ts w at =
    let e : suc n + 1 ≡ suc (suc n) = omega arith in
    ap (λ p. word w at (λ x. p)) (heads n ts w (at + 1)) ∙ more w (suc n) at (fields ts w) ∙ ap (λ m. ahead w m at (fields ts w)) e

-- so many words, and one more that is judged
pub last : (g : ℕ → ℕ → Place) (n : ℕ) (w : List ℕ) (at : ℕ) → ahead w n at (λ p. word w p (g p)) ≡ ahead w (n + 1) at (λ q. g (at + n) (get_or w (at + n) 0))
unfolding ahead word
last g n w at = go (leb (at + (n + 1)) (length w)) refl
  where
    less : (c : Bool) → length w ≤ at + n → pick c (pick (ltb (at + n) (length w)) (g (at + n) (get_or w (at + n) 0)) (short w)) (short w) ≡ short w
    less true h = rw (le-ltb (at + n) (length w) h)
    less false h = refl

    go : (b : Bool) → leb (at + (n + 1)) (length w) ≡ b
        → pick (leb (at + n) (length w)) (pick (ltb (at + n) (length w)) (g (at + n) (get_or w (at + n) 0)) (short w)) (short w)
        ≡ pick b (g (at + n) (get_or w (at + n) 0)) (short w)
    go true u =
        let f = leb-true (at + (n + 1)) (length w) u in
        let h : at + n ≤ length w = omega arith in
        let k : at + n < length w = omega arith in
        rw (le-leb (at + n) (length w) h, lt-ltb (at + n) (length w) k)
    go false u = less (leb (at + n) (length w)) (omega (arith, leb-false (at + (n + 1)) (length w) u))

-- so many words, the last of them the count of a list
counted : (f : List ℕ → ℕ → Place) (n : ℕ) (w : List ℕ) (at : ℕ) → ahead w n at (section f w) ≡ ahead w (n + 1) at (many (f w) (get_or w (at + n) 0))
unfolding section ahead
counted f n w at =
    let e : at + n + 1 ≡ at + (n + 1) = omega arith in
    last (λ p c. many (f w) c (p + 1)) n w at ∙ (rw e)

-- a list behind fields of any value
through : (w : List ℕ) (n at : ℕ) (k : ℕ → Place) → and_then (ahead w n at Ok) k ≡ ahead w n at k
unfolding and_then ahead
through w n at k = go (leb (at + n) (length w))
  where
    go : (b : Bool) → and_then (pick b (Ok (at + n)) (short w)) k ≡ pick b (k (at + n)) (short w)
    go true = refl
    go false = refl

pub listed : (n : ℕ) (f : List ℕ → ℕ → Place) (w : List ℕ) (at : ℕ)
    → both (fields (anys (suc n) [])) (section f) w at ≡ ahead w (suc n + 1) at (many (f w) (get_or w (at + suc n) 0))
unfolding both fields
listed n f w at = ap (λ p. and_then p (section f w)) (heads n [] w at) ∙ through w (suc n) at (section f w) ∙ counted f (suc n) w at
