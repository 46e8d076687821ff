-- What an answer says, whatever its form in the code: values, or a refusal by number and place (document 01, "Refusals by number").
use Rattle.std.specs.Prelude.{ℕ, List}
use Rattle.refusal.specs.declared.Refusal.{Refusal}

-- the refusal of that number, at that place: its item is 0
abbrev pub refusal_at : ℕ → ℕ → Refusal
refusal_at n p = record { number = n; item = 0; place = p }

pub data Said : Type 0 where
  ok : List ℕ → Said
  no_by : Refusal → Said

-- no answer, but the refusal of that number, at that place
abbrev pub no : ℕ → ℕ → Said
no n p = no_by (refusal_at n p)

-- The refusals by number.

-- the input ends inside a field or record
abbrev pub SHORT : ℕ
SHORT = 1

-- the first word differs
abbrev pub TAG : ℕ
TAG = 2

-- a value its field forbids
abbrev pub FIELD : ℕ
FIELD = 3

-- over 8,192 words, 256 transitions or 1,024 intervals
abbrev pub LIMIT : ℕ
LIMIT = 4

-- words remain
abbrev pub LEFT : ℕ
LEFT = 5

-- an index rule is broken
abbrev pub INDEX : ℕ
INDEX = 6

-- "for INDEX the first mode, state, row or continuation that breaks that rule": that of rule k, broken first by item i
abbrev pub broken_by : ℕ → ℕ → Refusal
broken_by k i = record { number = INDEX; item = i; place = k }

-- a lent buffer is shorter than stated, or a pool can't take a new row
abbrev pub ROOM : ℕ
ROOM = 7

-- no such state, or a symbol past 127 for `ascii_target`
abbrev pub STATE : ℕ
STATE = 8

-- of lookups: a number followed leads outside the room or its section, or a number read is one its field forbids; of encoding and coverage: the room
-- isn't what decoding leaves for some accepted words; of pools: the stated rows don't fit the lent pool
abbrev pub NOT-TABLE : ℕ
NOT-TABLE = 9

-- a set out of order, or compiled mode starts descend
abbrev pub ORDER : ℕ
ORDER = 10

-- targets or continuations differ in number from distinct masks
abbrev pub TARGETS : ℕ
TARGETS = 11
