-- Readers of a list of words: each says where reading goes on, or refuses by number and place.
use Rattle.std.specs.Prelude.{ℕ, zero, suc, ◌+◌, List, [], ◌∷◌, Bool, Result, Ok, Err, length, get_or, take, drop, ltb, leb}
use Rattle.refusal.specs.declared.Refusal.{Refusal}
use Rattle.refusal.specs.Said.{Said, ok, refusal_at, no_by, SHORT, FIELD}
use Rattle.refusal.specs.Lists.{pick}

-- where reading goes on, or why it does not
abbrev pub Place : Type 0
Place = Result ℕ Refusal

-- a place, or a refusal
abbrev pub said : Place → Said
said (Ok p) = ok (p ∷ [])
said (Err r) = no_by r

abbrev pub refused : ℕ → ℕ → Place
refused n p = Err (refusal_at n p)

-- the input ended: "SHORT in words returns the word count"
abbrev pub short : List ℕ → Place
short w = refused SHORT (length w)

-- read on from where the first stopped
unfoldable pub and_then : Place → (ℕ → Place) → Place
and_then (Ok p) k = k p
and_then (Err r) k = Err r

-- the word at a place, handed on
unfoldable pub word : List ℕ → ℕ → (ℕ → Place) → Place
word w at k = pick (ltb at (length w)) (k (get_or w at 0)) (short w)

-- a word for each field, in order, which its field allows; FIELD is at the word
unfoldable pub fields : List (ℕ → Bool) → List ℕ → ℕ → Place
fields [] w at = Ok at
fields (t ∷ ts) w at = word w at (λ x. pick (t x) (fields ts w (at + 1)) (refused FIELD at))

-- n words, read before any of them is judged, and judged as one field; FIELD is at the first
unfoldable pub block : ℕ → (List ℕ → Bool) → List ℕ → ℕ → Place
block n good w at = pick (leb (at + n) (length w)) (pick (good (take n (drop at w))) (Ok (at + n)) (refused FIELD at)) (short w)

-- n records, one after the other
unfoldable pub many : (ℕ → Place) → ℕ → ℕ → Place
many f zero at = Ok at
many f (suc n) at = and_then (f at) (many f n)

-- a count, and so many records
unfoldable pub section : (List ℕ → ℕ → Place) → List ℕ → ℕ → Place
section f w at = word w at (λ n. many (f w) n (at + 1))

-- one record behind another
unfoldable pub both : (List ℕ → ℕ → Place) → (List ℕ → ℕ → Place) → List ℕ → ℕ → Place
both f g w at = and_then (f w at) (g w)
