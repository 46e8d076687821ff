-- The nine index rules over a table (document 01, "Index rules, in this order"). No word and no place of a word is named here.
use Rattle.std.specs.Prelude.{ℕ, ◌+◌, ◌<◌, ◌≤◌, ◌%◌, ◌/◌, ◌≡◌, List, [], ◌∷◌, ◌⊎◌, length, get_or}
use Rattle.refusal.specs.Fixed.{NONE, ESCAPE-STATE, DEAD-STATE}
use Rattle.run_shape.specs.Shape.{Shape}
use Rattle.run_shape.specs.Classify.{classification}
use Rattle.law_tables.specs.Table.{Table, State, Range, Escape, Context, Continuation, All}

-- each of a list fits its number; the first has number n
unfoldable pub Numbered : {A : Type 0} → (ℕ → A → Type 0) → ℕ → List A → Type 0
Numbered P n [] = Unit {0}
Numbered P n (x ∷ xs) = P n x × Numbered P (n + 1) xs

-- i is the first of a list that does not fit its number, where the first has number n: those before it do, and it does not
unfoldable pub FirstNot : {A : Type 0} → (ℕ → A → Type 0) → ℕ → List A → ℕ → Type 0
FirstNot P n [] i = ⊥
FirstNot P n (x ∷ xs) i = ((n ≡ i) × (P n x → ⊥)) ⊎ (P n x × FirstNot P (n + 1) xs i)

-- NONE, or one of so many
abbrev pub NoneOr : ℕ → ℕ → Type 0
NoneOr count x = (x ≡ NONE) ⊎ (x < count)

-- "Good: a state, 65534 or 65535"
abbrev pub Good : Table → ℕ → Type 0
Good t x = (x < length t.states) ⊎ (x ≡ ESCAPE-STATE) ⊎ (x ≡ DEAD-STATE)

-- "Searchable: low at most high, each high below the next low"
unfoldable pub Searchable : List Range → Type 0
Searchable [] = Unit {0}
Searchable (r ∷ []) = r.low ≤ r.high
Searchable (r ∷ next ∷ rs) = (r.low ≤ r.high) × (r.high < next.low) × Searchable (next ∷ rs)

-- the targets of an ascii row: "64 words, even symbol in the low half"
unfoldable pub targets : List ℕ → List ℕ
targets [] = []
targets (x ∷ words) = x % 65536 ∷ x / 65536 ∷ targets words

-- the targets of the ascii row of state i; an absent state counts as one of zeros, and an absent row as empty
abbrev pub absent : State
absent = record { ascii = 0; wide = 0; eof = 0; accept = 0 }

abbrev pub row_of : Table → ℕ → List ℕ
row_of t i = targets (get_or t.ascii (get_or t.states i absent).ascii [])

-- "(1) mode starts are states"
abbrev pub Rule1 : Table → Type 0
Rule1 t = All (NoneOr (length t.states)) t.modes

-- "(2) each state's rows exist, its EOF target is good, its accept is NONE or exists"
abbrev pub ValidState : Table → State → Type 0
ValidState t s = (s.ascii < length t.ascii) × (s.wide < length t.wide) × Good t s.eof × NoneOr (length t.accepts) s.accept

abbrev pub Rule2 : Table → Type 0
Rule2 t = All (ValidState t) t.states

-- "(3) as many runs as states"
abbrev pub Rule3 : Table → Type 0
Rule3 t = length t.runs ≡ length t.states

-- "(4) each run is the classification of its state's row"
abbrev pub Classified : Table → ℕ → Shape → Type 0
Classified t i run = run ≡ classification i (row_of t i)

abbrev pub Rule4 : Table → Type 0
Rule4 t = Numbered (Classified t) 0 t.runs

-- "(5) ascii targets good"
abbrev pub GoodRow : Table → List ℕ → Type 0
GoodRow t row = All (Good t) (targets row)

abbrev pub Rule5 : Table → Type 0
Rule5 t = All (GoodRow t) t.ascii

-- "(6) wide rows searchable, targets good"
abbrev pub GoodWide : Table → List Range → Type 0
GoodWide t row = Searchable row × All (λ r. Good t r.goal) row

abbrev pub Rule6 : Table → Type 0
Rule6 t = All (GoodWide t) t.wide

-- "(7) as many escape rows as states"
abbrev pub Rule7 : Table → Type 0
Rule7 t = length t.escapes ≡ length t.states

-- "(8) escape rows searchable, EOF continuation NONE or present, continuations present"
abbrev pub ValidEscape : ℕ → Escape → Type 0
ValidEscape count e = NoneOr count e.eof × Searchable e.ranges × All (λ r. r.goal < count) e.ranges

abbrev pub Rule8 : Table → Type 0
Rule8 t = All (ValidEscape (length t.continuations)) t.escapes

-- "(9) context i (from 1) refers only below i, the second word of kind 0 being free; config contexts at most the context count"
abbrev pub RefersBelow : ℕ → Context → Type 0
RefersBelow i x = (x.a < i) × ((x.kind ≡ 0) ⊎ (x.b < i))

abbrev pub ValidContinuation : Continuation → Type 0
ValidContinuation c = Numbered RefersBelow 1 c.contexts × All (λ x. x.context ≤ length c.contexts) c.configs

abbrev pub Rule9 : Table → Type 0
Rule9 t = All ValidContinuation t.continuations

-- a table that obeys all nine
pub record Rules (t : Table) : Type 0 where
  pub rule1 : Rule1 t
  pub rule2 : Rule2 t
  pub rule3 : Rule3 t
  pub rule4 : Rule4 t
  pub rule5 : Rule5 t
  pub rule6 : Rule6 t
  pub rule7 : Rule7 t
  pub rule8 : Rule8 t
  pub rule9 : Rule9 t

-- A rule that can be broken: what holds where it is not, and when item i breaks it first

pub record Rule : Type 1 where
  pub holds : Type 0
  pub fails : ℕ → Type 0

-- of each of a list
abbrev pub of_each : {A : Type 0} → (A → Type 0) → List A → Rule
of_each P xs = record { holds = All P xs; fails = FirstNot (λ n. P) 0 xs }

-- of each by its number
abbrev pub of_numbered : {A : Type 0} → (ℕ → A → Type 0) → List A → Rule
of_numbered P xs = record { holds = Numbered P 0 xs; fails = FirstNot P 0 xs }

-- of the whole table: "0 for rules 3 and 7"
abbrev pub of_all : Type 0 → Rule
of_all R = record { holds = R; fails = λ i. (i ≡ 0) × (R → ⊥) }

-- of rules in order, numbered from n on, k is the first that is broken, and i its first item that breaks it: the rules before k hold
unfoldable pub FirstOf : ℕ → List Rule → ℕ → ℕ → Type 0
FirstOf n [] k i = ⊥
FirstOf n (R ∷ Rs) k i = ((n ≡ k) × R.fails i) ⊎ (R.holds × FirstOf (n + 1) Rs k i)

-- "in this order"
abbrev pub in_order : Table → List Rule
in_order t =
    of_each (NoneOr (length t.states)) t.modes
    ∷ of_each (ValidState t) t.states
    ∷ of_all (Rule3 t)
    ∷ of_numbered (Classified t) t.runs
    ∷ of_each (GoodRow t) t.ascii
    ∷ of_each (GoodWide t) t.wide
    ∷ of_all (Rule7 t)
    ∷ of_each (ValidEscape (length t.continuations)) t.escapes
    ∷ of_each ValidContinuation t.continuations
    ∷ []

-- "INDEX | an index rule is broken | rule number"; "for INDEX the first mode, state, row or continuation that breaks that rule, in count order"
abbrev pub FirstBroken : Table → ℕ → ℕ → Type 0
FirstBroken t = FirstOf 1 (in_order t)
