-- What the bytes of a record stand for (document 01, "Transitions, segments, rows"). w is the list's bytes, p a place in it, size the
-- length that a record states. Assumes nothing.
use Rattle.std.specs.Prelude.{ℕ, zero, suc, ◌+◌, ◌*◌, ◌/◌, ◌%◌, List, [], ◌∷◌, Bool, false, length, get_or, eqb}
use Rattle.refusal.specs.Lists.{pick}
use Rattle.list_transitions.specs.Transition.{Transition, Pair, atom, range, set, not_set, wildcard, key}

-- "two-byte length .. little-endian"
unfoldable pub size_at : List ℕ → ℕ → ℕ
size_at w p = get_or w p 0 + 256 * get_or w (p + 1) 0

-- "little-endian, 32-bit two's complement numbers", as a key
unfoldable pub number_at : List ℕ → ℕ → ℕ
number_at w p = key (get_or w p 0 + 256 * get_or w (p + 1) 0 + 65536 * get_or w (p + 2) 0 + 16777216 * get_or w (p + 3) 0)

-- "8 each pair"
abbrev pub pair_at : List ℕ → ℕ → Pair
pair_at w p = record { low = number_at w p; high = number_at w (p + 4) }

-- n pairs from p
unfoldable pub pairs_at : List ℕ → ℕ → ℕ → List Pair
pairs_at w zero p = []
pairs_at w (suc n) p = pair_at w p ∷ pairs_at w n (p + 8)

-- the pairs that a value's bytes are
abbrev pub pairs_in : List ℕ → List Pair
pairs_in w = pairs_at w (length w / 8) 0

-- "1 atom (4 bytes), 2 range (8), 3 set and 4 not-set (8 each pair), 5 wildcard (0)": no other tag, and no other length
unfoldable pub shape_of : ℕ → ℕ → Bool
shape_of tag size =
    pick (eqb tag 1) (eqb size 4)
    (pick (eqb tag 2) (eqb size 8)
    (pick (eqb tag 3) (eqb (size % 8) 0)
    (pick (eqb tag 4) (eqb (size % 8) 0)
    (pick (eqb tag 5) (eqb size 0) false))))

-- the transition of a tag and of a value that starts at p
unfoldable pub trans_of : List ℕ → ℕ → ℕ → ℕ → Transition
trans_of w tag size p =
    pick (eqb tag 1) (atom (number_at w p))
    (pick (eqb tag 2) (range (number_at w p) (number_at w (p + 4)))
    (pick (eqb tag 3) (set (pairs_at w (size / 8) p))
    (pick (eqb tag 4) (not_set (pairs_at w (size / 8) p))
    wildcard)))
