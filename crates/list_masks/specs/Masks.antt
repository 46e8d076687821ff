-- Masks: which transitions of a list hold a segment, as 64-bit words (document 01, "Transitions, segments, rows"). ts is the list, p a point,
-- m a mask, its words from the lowest. Assumes nothing.
use Rattle.std.specs.Prelude.{ℕ, zero, suc, ◌+◌, ◌*◌, ◌/◌, Bool, true, ◌&&◌, List, [], ◌∷◌, ◌++◌, length, take, drop, eqb, ltb}
use Rattle.refusal.specs.Lists.{pick, first_equal}
use Rattle.refusal.specs.Fixed.{NONE}
use Rattle.list_transitions.specs.Transition.{Transition, hold_at}
use Rattle.list_segments.specs.Segments.{cuts_of, starts}

-- a word of bits, the lowest first
abbrev pub bit : Bool → ℕ
bit b = pick b 1 0

unfoldable pub word_of : List Bool → ℕ
word_of [] = 0
word_of (b ∷ bs) = bit b + 2 * word_of bs

-- so many words, 64 bits each
unfoldable pub pack : ℕ → List Bool → List ℕ
pack zero bs = []
pack (suc n) bs = word_of (take 64 bs) ∷ pack n (drop 64 bs)

-- "ceil(n/64) words each"
abbrev pub words_for : ℕ → ℕ
words_for n = (n + 63) / 64

-- "Mask bit i is set where transition i holds the segment": the mask of a point; a segment has that of its first
unfoldable pub mask_of : List Transition → ℕ → List ℕ
mask_of ts p = pack (words_for (length ts)) (hold_at ts p)

unfoldable pub masks_at : List Transition → List ℕ → List (List ℕ)
masks_at ts [] = []
masks_at ts (p ∷ ps) = mask_of ts p ∷ masks_at ts ps

-- the matrix: one mask for each segment
abbrev pub matrix : List Transition → List (List ℕ)
matrix ts = masks_at ts (starts (cuts_of ts))

-- masks one behind another
unfoldable pub flat : List (List ℕ) → List ℕ
flat [] = []
flat (m ∷ ms) = m ++ flat ms

-- the empty mask
unfoldable pub is_zero : List ℕ → Bool
is_zero [] = true
is_zero (w ∷ ws) = eqb w 0 && is_zero ws

-- the place of the first equal mask, or how many there are
abbrev pub index : List (List ℕ) → List ℕ → ℕ
index ds m = first_equal m ds

-- "Distinct nonzero masks come in order of first segment": each is put behind those before it, unless it is empty or stands there
unfoldable pub add_new : List (List ℕ) → List ℕ → List (List ℕ)
add_new ds m = pick (is_zero m) ds (pick (ltb (index ds m) (length ds)) ds (ds ++ (m ∷ [])))

unfoldable pub distinct : List (List ℕ) → List (List ℕ) → List (List ℕ)
distinct ds [] = ds
distinct ds (m ∷ ms) = distinct (add_new ds m) ms

abbrev pub distinct_of : List Transition → List (List ℕ)
distinct_of ts = distinct [] (matrix ts)

-- where a mask stands among the distinct ones; the empty one has no place
unfoldable pub place_of : List (List ℕ) → List ℕ → ℕ
place_of ds m = pick (is_zero m) NONE (index ds m)

unfoldable pub places_in : List (List ℕ) → List (List ℕ) → List ℕ
places_in ds [] = []
places_in ds (m ∷ ms) = place_of ds m ∷ places_in ds ms

abbrev pub places_of : List Transition → List ℕ
places_of ts = places_in (distinct_of ts) (matrix ts)
