-- The index rules of a table (document 01, "Index rules, in this order"), over its words and the places of the sections' counts:
-- modes m, states s, runs r, ascii rows a, wide rows v, accepts x, escape rows e, continuations c.
-- A word past the end is 0, so a count there is 0 and lists nothing. Assumes nothing.
use Rattle.std.specs.Prelude.{ℕ, zero, suc, ◌+◌, ◌*◌, ◌/◌, ◌%◌, List, [], ◌∷◌, Bool, true, false, ◌&&◌, ◌||◌, get_or, ltb, leb, eqb}
use Rattle.refusal.specs.Lists.{pick}
use Rattle.run_shape.specs.declared.RunWords.{RunWords}
use Rattle.run_shape.specs.Shape.{held}
use Rattle.run_shape.specs.Classify.{classification}
use Rattle.run_shape.specs.Words.{words_of_run}
use Rattle.word_reader.specs.declared.Sections.{Sections}
use Rattle.word_reader.specs.Parse.{Place}
use Rattle.std.specs.Prelude.{Ok, Err}
use Rattle.refusal.specs.Fixed.{NONE, ESCAPE-STATE, DEAD-STATE}
use Rattle.word_reader.specs.Records.{mode_at, state_at, run_at, ascii_at, wide_at, escape_at, config_at, continuation_at}

-- Walks

-- on from where a record ends; where its reader refuses, the test fails
unfoldable pub every_from : Place → (ℕ → Bool) → Bool
every_from (Ok p) k = k p
every_from (Err r) k = false

-- n records, each found behind the one before it, and judged by its place and by x, of which it hands the next on
unfoldable pub walk : (ℕ → ℕ → Bool) → (ℕ → ℕ → ℕ) → (ℕ → Place) → ℕ → ℕ → ℕ → Bool
walk test hand f x zero at = true
walk test hand f x (suc n) at = test x at && every_from (f at) (walk test hand f (hand x at) n)

-- each of n records passes the test
unfoldable pub every : (ℕ → Bool) → (ℕ → Place) → ℕ → ℕ → Bool
every test f n at = walk (λ x p. test p) (λ x p. x) f 0 n at

-- each record of the section at `at`
unfoldable pub every_in : (List ℕ → ℕ → Place) → (ℕ → Bool) → List ℕ → ℕ → Bool
every_in read test w at = every test (read w) (get_or w at 0) (at + 1)

-- the same, judged by its number too, from 0
abbrev pub numbered_in : (List ℕ → ℕ → Place) → (ℕ → ℕ → Bool) → List ℕ → ℕ → Bool
numbered_in read test w at = walk test (λ i p. i + 1) (read w) 0 (get_or w at 0) (at + 1)

-- on from where a record ends; where its reader refuses, i
unfoldable pub read_or : ℕ → Place → (ℕ → ℕ) → ℕ
read_or i (Ok p) k = k p
read_or i (Err r) k = i

-- how many records pass before the first that does not: i are behind, n are left, and each is read, and judged by its number and its place
unfoldable pub passing : (ℕ → ℕ → Bool) → (ℕ → Place) → ℕ → ℕ → ℕ → ℕ
passing test f i zero at = i
passing test f i (suc n) at = read_or i (f at) (λ p. pick (test i at) (passing test f (i + 1) n p) i)

-- of the section at `at`: all of them, where each passes
abbrev pub passing_in : (List ℕ → ℕ → Place) → (ℕ → ℕ → Bool) → List ℕ → ℕ → ℕ
passing_in read test w at = passing test (read w) 0 (get_or w at 0) (at + 1)

-- a record of so many words, whatever they are
abbrev pub sized : ℕ → ℕ → Place
sized n at = Ok (at + n)

-- What a number may refer to

-- "Good: a state, 65534 or 65535"
unfoldable pub good : ℕ → ℕ → Bool
good n x = ltb x n || (eqb x ESCAPE-STATE || eqb x DEAD-STATE)

-- NONE, or one of n
unfoldable pub none_or : ℕ → ℕ → Bool
none_or n x = eqb x NONE || ltb x n

-- one of n
unfoldable pub present : ℕ → ℕ → Bool
present n x = ltb x n

-- Lists of words

-- "Searchable: low at most high, each high below the next low"
-- a range starts at `from` or later, and its low is at most its high
unfoldable pub follows : List ℕ → ℕ → ℕ → Bool
follows w from at = leb from (get_or w at 0) && leb (get_or w at 0) (get_or w (at + 1) 0)

-- where the range behind a range may start
abbrev pub next_from : List ℕ → ℕ → ℕ
next_from w at = get_or w (at + 1) 0 + 1

-- n ranges of three words, the first from `from` on
abbrev pub searchable : List ℕ → ℕ → ℕ → ℕ → Bool
searchable w = walk (follows w) (λ from at. next_from w at) (sized 3)

-- the third word of each of n ranges passes the test
abbrev pub thirds : (ℕ → Bool) → List ℕ → ℕ → ℕ → Bool
thirds test w = walk (λ x at. test (get_or w (at + 2) 0)) (λ x at. x) (sized 3) 0

-- each of n words passes the test
abbrev pub each_word : (ℕ → Bool) → List ℕ → ℕ → ℕ → Bool
each_word test w = walk (λ x at. test (get_or w at 0)) (λ x at. x) (sized 1) 0

-- "context i (from 1) refers only below i, the second word of kind 0 being free"
unfoldable pub refers_below : List ℕ → ℕ → ℕ → Bool
refers_below w i at = ltb (get_or w (at + 1) 0) i && (eqb (get_or w at 0) 0 || ltb (get_or w (at + 2) 0) i)

-- n contexts of three words, numbered from i
abbrev pub below : List ℕ → ℕ → ℕ → ℕ → Bool
below w = walk (refers_below w) (λ i at. i + 1) (sized 3)

-- (1) mode starts are states

abbrev pub start_good : ℕ → List ℕ → ℕ → Bool
start_good ns w at = none_or ns (get_or w at 0)

abbrev pub rule1 : List ℕ → ℕ → ℕ → Bool
rule1 w m s = every_in mode_at (start_good (get_or w s 0) w) w m

-- (2) each state's rows exist, its EOF target is good, its accept is NONE or exists

unfoldable pub state_good : ℕ → ℕ → ℕ → ℕ → List ℕ → ℕ → Bool
state_good ns na nv nx w at =
    present na (get_or w at 0) && (present nv (get_or w (at + 1) 0) && (good ns (get_or w (at + 2) 0) && none_or nx (get_or w (at + 3) 0)))

abbrev pub rule2 : List ℕ → ℕ → ℕ → ℕ → ℕ → Bool
rule2 w s a v x = every_in state_at (state_good (get_or w s 0) (get_or w a 0) (get_or w v 0) (get_or w x 0) w) w s

-- two sections have one count
abbrev pub same_count : List ℕ → ℕ → ℕ → Bool
same_count w p q = eqb (get_or w p 0) (get_or w q 0)

-- (3) as many runs as states
abbrev pub rule3 : List ℕ → ℕ → ℕ → Bool
rule3 w s r = same_count w r s

-- (4) each run is the classification of its state's row

-- the targets that n words hold: two to a word, that of the even symbol in the low half
unfoldable pub targets : List ℕ → ℕ → ℕ → List ℕ
targets w zero at = []
targets w (suc n) at = get_or w at 0 % 65536 ∷ get_or w at 0 / 65536 ∷ targets w n (at + 1)

-- row k of the ascii rows
abbrev pub row_of : List ℕ → ℕ → ℕ → List ℕ
row_of w a k = targets w 64 (a + (1 + 64 * k))

-- the words of the classification of row k at state i
unfoldable pub classified_words : List ℕ → ℕ → ℕ → ℕ → RunWords
classified_words w a k i = words_of_run (held (classification i (row_of w a k)))

-- the words of a run, one or three, stand at a place
unfoldable pub stands : List ℕ → ℕ → RunWords → Bool
stands w at r =
    eqb (get_or w at 0) r.first && (ltb r.length 3 || (eqb (get_or w (at + 1) 0) r.second && eqb (get_or w (at + 2) 0) r.third))

-- the row of state i: the first of its four words
abbrev pub row_number : List ℕ → ℕ → ℕ → ℕ
row_number w s i = get_or w (s + (1 + 4 * i)) 0

-- the run of state i stands at a place; a state's number has 16 bits
unfoldable pub run_good : List ℕ → ℕ → ℕ → ℕ → ℕ → Bool
run_good w s a i at = leb i 65535 && stands w at (classified_words w a (row_number w s i) i)

-- n runs from that of state i on
abbrev pub runs_good : List ℕ → ℕ → ℕ → ℕ → ℕ → ℕ → Bool
runs_good w s a = walk (run_good w s a) (λ i at. i + 1) (run_at w)

abbrev pub rule4 : List ℕ → ℕ → ℕ → ℕ → Bool
rule4 w s r a = runs_good w s a 0 (get_or w r 0) (r + 1)

-- (5) ascii targets good

unfoldable pub both_good : ℕ → ℕ → Bool
both_good ns x = good ns (x % 65536) && good ns (x / 65536)

abbrev pub ascii_good : ℕ → List ℕ → ℕ → Bool
ascii_good ns w at = each_word (both_good ns) w 64 at

abbrev pub rule5 : List ℕ → ℕ → ℕ → Bool
rule5 w s a = every_in ascii_at (ascii_good (get_or w s 0) w) w a

-- (6) wide rows searchable, targets good

unfoldable pub wide_good : ℕ → List ℕ → ℕ → Bool
wide_good ns w at = searchable w 0 (get_or w at 0) (at + 1) && thirds (good ns) w (get_or w at 0) (at + 1)

abbrev pub rule6 : List ℕ → ℕ → ℕ → Bool
rule6 w s v = every_in wide_at (wide_good (get_or w s 0) w) w v

-- (7) as many escape rows as states
abbrev pub rule7 : List ℕ → ℕ → ℕ → Bool
rule7 w s e = same_count w e s

-- (8) escape rows searchable, EOF continuation NONE or present, continuations present

unfoldable pub escape_good : ℕ → List ℕ → ℕ → Bool
escape_good nc w at =
    none_or nc (get_or w at 0) && (searchable w 0 (get_or w (at + 1) 0) (at + 2) && thirds (present nc) w (get_or w (at + 1) 0) (at + 2))

abbrev pub rule8 : List ℕ → ℕ → ℕ → Bool
rule8 w e c = every_in escape_at (escape_good (get_or w c 0) w) w e

-- (9) contexts refer only below themselves; config contexts at most the context count

unfoldable pub config_good : ℕ → List ℕ → ℕ → Bool
config_good n w at = leb (get_or w (at + 4) 0) n

-- a continuation with n contexts
unfoldable pub continuation_with : ℕ → List ℕ → ℕ → Bool
continuation_with n w at = below w 1 n (at + 1) && every_in config_at (config_good n w) w (at + (n * 3 + 1))

abbrev pub continuation_good : List ℕ → ℕ → Bool
continuation_good w at = continuation_with (get_or w at 0) w at

abbrev pub rule9 : List ℕ → ℕ → Bool
rule9 w c = every_in continuation_at (continuation_good w) w c

-- the number of the first rule that is broken, from n on, or 0
unfoldable pub first_broken : ℕ → List Bool → ℕ
first_broken n [] = 0
first_broken n (b ∷ bs) = pick b (first_broken (n + 1) bs) n

-- rules 8 and 9
abbrev pub end_rules : List ℕ → Sections → List Bool
end_rules w s = rule8 w s.escapes s.continuations ∷ rule9 w s.continuations ∷ []

-- rules 5 to 9
abbrev pub row_rules : List ℕ → Sections → List Bool
row_rules w s = rule5 w s.states s.ascii ∷ rule6 w s.states s.wide ∷ rule7 w s.states s.escapes ∷ end_rules w s

-- all nine
abbrev pub rules : List ℕ → Sections → List Bool
rules w s =
    rule1 w s.modes s.states
    ∷ rule2 w s.states s.ascii s.wide s.accepts
    ∷ rule3 w s.states s.runs
    ∷ rule4 w s.states s.runs s.ascii
    ∷ row_rules w s

abbrev pub broken : List ℕ → Sections → ℕ
broken w s = first_broken 1 (rules w s)

-- "the first mode, state, row or continuation that breaks that rule, in count order": how many obey the rule before it
abbrev pub item1 : List ℕ → ℕ → ℕ → ℕ
item1 w m s = passing_in mode_at (λ i. start_good (get_or w s 0) w) w m

abbrev pub item2 : List ℕ → ℕ → ℕ → ℕ → ℕ → ℕ
item2 w s a v x = passing_in state_at (λ i. state_good (get_or w s 0) (get_or w a 0) (get_or w v 0) (get_or w x 0) w) w s

abbrev pub item4 : List ℕ → ℕ → ℕ → ℕ → ℕ
item4 w s r a = passing_in run_at (run_good w s a) w r

abbrev pub item5 : List ℕ → ℕ → ℕ → ℕ
item5 w s a = passing_in ascii_at (λ i. ascii_good (get_or w s 0) w) w a

abbrev pub item6 : List ℕ → ℕ → ℕ → ℕ
item6 w s v = passing_in wide_at (λ i. wide_good (get_or w s 0) w) w v

abbrev pub item8 : List ℕ → ℕ → ℕ → ℕ
item8 w e c = passing_in escape_at (λ i. escape_good (get_or w c 0) w) w e

abbrev pub item9 : List ℕ → ℕ → ℕ
item9 w c = passing_in continuation_at (λ i. continuation_good w) w c

-- "0 for rules 3 and 7"
abbrev pub end_items : List ℕ → Sections → List ℕ
end_items w s = item8 w s.escapes s.continuations ∷ item9 w s.continuations ∷ []

abbrev pub row_items : List ℕ → Sections → List ℕ
row_items w s = item5 w s.states s.ascii ∷ item6 w s.states s.wide ∷ 0 ∷ end_items w s

abbrev pub items : List ℕ → Sections → List ℕ
items w s =
    item1 w s.modes s.states
    ∷ item2 w s.states s.ascii s.wide s.accepts
    ∷ 0
    ∷ item4 w s.states s.runs s.ascii
    ∷ row_items w s

-- the item of the first rule that is broken, or 0
unfoldable pub first_item : List Bool → List ℕ → ℕ
first_item [] is = 0
first_item (b ∷ bs) [] = 0
first_item (b ∷ bs) (i ∷ is) = pick b (first_item bs is) i

abbrev pub broken_item : List ℕ → Sections → ℕ
broken_item w s = first_item (rules w s) (items w s)
