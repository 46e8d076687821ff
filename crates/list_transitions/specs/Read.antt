-- A list of transitions is read record by record (document 01, "Transitions, segments, rows"): "SHORT, FIELD (tag, then length), ORDER,
-- LIMIT; all at the record's offset". w is the list's bytes, `at` a record's offset. Assumes nothing.
use Rattle.std.specs.Prelude.{ℕ, zero, suc, ◌+◌, List, [], ◌∷◌, Bool, true, false, length, get_or, ltb, leb, Result, Ok, Err}
use Rattle.refusal.specs.declared.Refusal.{Refusal}
use Rattle.refusal.specs.Said.{Said, ok, no_by, no, refusal_at, SHORT, FIELD, LIMIT, ORDER}
use Rattle.refusal.specs.Lists.{pick}
use Rattle.list_transitions.specs.Transition.{Transition, in_order}
use Rattle.list_transitions.specs.Intervals.{intervals, total}
use Rattle.list_transitions.specs.Bytes.{size_at, shape_of, trans_of}
use Rattle.list_transitions.specs.declared.Step.{Step}
use Rattle.list_transitions.specs.declared.Transitions.{Transitions}

-- how many transitions and intervals a list has, or a refusal
abbrev pub said : Result Transitions Refusal → Said
said (Ok t) = ok (t.count ∷ t.intervals ∷ [])
said (Err r) = no_by r

-- a record: its transition and where the next one starts, or its refusal's number
pub data Rec : Type 0 where
  good : Transition → ℕ → Rec
  bad : ℕ → Rec

-- "FIELD (tag, then length), ORDER": the record whose value, `size` bytes, is there
unfoldable pub body_at : List ℕ → ℕ → ℕ → Rec
body_at w at size =
    pick (shape_of (get_or w at 0) size)
    (pick (in_order (trans_of w (get_or w at 0) size (at + 3)))
    (good (trans_of w (get_or w at 0) size (at + 3)) (at + 3 + size))
    (bad ORDER))
    (bad FIELD)

-- "one-byte tag, two-byte length, value"; SHORT where "the input ends inside a field or record"
unfoldable pub record_at : List ℕ → ℕ → Rec
record_at w at =
    pick (leb (at + 3) (length w))
    (pick (leb (at + 3 + size_at w (at + 1)) (length w)) (body_at w at (size_at w (at + 1))) (bad SHORT))
    (bad SHORT)

-- where the next record starts and how many intervals this one has, or its refusal: the record stands at `at`
unfoldable pub step_of : ℕ → Rec → Result Step Refusal
step_of at (good t next) = Ok (record { next = next; intervals = length (intervals t) })
step_of at (bad n) = Err (refusal_at n at)

-- a list: its transitions, or a refusal's number and place
pub data Parsed : Type 0 where
  parsed : List Transition → Parsed
  refused : ℕ → ℕ → Parsed

unfoldable pub more : Transition → Parsed → Parsed
more t (parsed ts) = parsed (t ∷ ts)
more t (refused n p) = refused n p

-- "LIMIT .. 1,024 intervals a list": behind the record at `at`, with `used` intervals before it, on with k
unfoldable pub onward : ℕ → ℕ → Rec → (ℕ → ℕ → Parsed) → Parsed
onward at used (bad n) k = refused n at
onward at used (good t next) k =
    pick (leb (used + length (intervals t)) 1024) (more t (k next (used + length (intervals t)))) (refused LIMIT at)

-- from `at` on, where so many transitions may still come
unfoldable pub parse_from : List ℕ → ℕ → ℕ → ℕ → Parsed
parse_from w zero at used = pick (ltb at (length w)) (onward at used (record_at w at) (λ _ _. refused LIMIT at)) (parsed [])
parse_from w (suc left) at used = pick (ltb at (length w)) (onward at used (record_at w at) (parse_from w left)) (parsed [])

-- "256 transitions"
abbrev pub parse : List ℕ → Parsed
parse w = parse_from w 256 0 0

unfoldable pub is_parsed : Parsed → Bool
is_parsed (parsed ts) = true
is_parsed (refused n p) = false

-- the transitions of an accepted list
unfoldable pub accepted : Parsed → List Transition
accepted (parsed ts) = ts
accepted (refused n p) = []

-- how many transitions and intervals, or the refusal
unfoldable pub counted : Parsed → Said
counted (parsed ts) = ok (length ts ∷ total ts ∷ [])
counted (refused n p) = no n p
