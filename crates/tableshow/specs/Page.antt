-- The page of a table: its head, a line for each mode, and what each state does. w is the room, s a state. Assumes nothing.
use Rattle.std.specs.Prelude.{ℕ, ◌+◌, ◌/◌, ◌%◌, List, [], ◌∷◌, ◌++◌, get_or}
use Rattle.refusal.specs.Said.{Said, ok, no_by}
use Rattle.refusal.specs.Fixed.{NONE, DEAD-STATE}
use Rattle.refusal.specs.Header.{RUNS-START}
use Rattle.look_modes.specs.Start.{mode_start}
use Rattle.look_targets.specs.Targets.{eof_target}
use Rattle.look_accepts.specs.Accept.{accept_of}
use Rattle.look_accepts.specs.Record.{record_of}
use Rattle.look_continuations.specs.Continuation.{eof_continuation}
use Rattle.tableshow.specs.declared.rows.Kind.TheVariants.{Target, Continuation}
use Rattle.tableshow.specs.Joined.{joined, if_less, if_same}
use Rattle.program_io.specs.Decimal.{number}
use Rattle.tableshow.specs.Names.{symbol, range, target}
use Rattle.tableshow.specs.Rows.{or_else, place_of, ascii_text, wide_text, escapes_text}
use Rattle.tableshow.specs.Texts as t

-- The accept of a state: its number, its rule, its flag and how many actions it has

abbrev pub flag_text : ℕ → List ℕ
flag_text flag = if_same flag 0 [] t.end_consumed

abbrev pub actions_text : ℕ → List ℕ
actions_text n = if_same n 0 t.end_line (t.actions_word ++ (number n ++ t.end_line))

abbrev pub record_line : ℕ → ℕ → ℕ → ℕ → List ℕ
record_line k rule flag actions = t.accept-word ++ (number k ++ (t.rule_word ++ (number rule ++ (flag_text flag ++ actions_text actions))))

-- of a record that says rule, flag and actions; 0 where it says none
abbrev pub part : ℕ → Said → ℕ
part k (ok l) = get_or l k 0
part k (no_by r) = 0

unfoldable pub said_line : ℕ → Said → List ℕ
said_line k g = record_line k (part 0 g) (part 1 g) (part 2 g)

abbrev pub accept_text : List ℕ → ℕ → List ℕ
accept_text w k = if_same k NONE t.no-accept (said_line k (record_of w k))

abbrev pub head_text : List ℕ → ℕ → List ℕ
head_text w s = joined (joined (t.state_word ∷ number s ∷ []) ∷ accept_text w (or_else NONE (accept_of w s)) ∷ [])

-- The run of a state by its words: "low byte is the kind", and the exits or the count in the next bytes

abbrev pub or_exit : ℕ → ℕ → ℕ → List ℕ
or_exit kind needed x = if_less kind needed [] (t.or_word ++ symbol x)

abbrev pub until_text : ℕ → List ℕ
until_text a = t.loops_until ++ (symbol (a / 256 % 256) ++ (or_exit (a % 256) 3 (a / 65536 % 256) ++ (or_exit (a % 256) 4 (a / 16777216) ++ t.end_line)))

abbrev pub more_range : ℕ → ℕ → ℕ → ℕ → List ℕ
more_range count needed low high = if_less count needed [] (t.comma ++ range low high)

-- "two more words holding ranges as low, high bytes, least byte first"
abbrev pub ranges_line : ℕ → ℕ → ℕ → List ℕ
ranges_line count b c =
    t.loops_on ++ (range (b % 256) (b / 256 % 256) ++ (more_range count 2 (b / 65536 % 256) (b / 16777216) ++ (more_range count 3 (c % 256) (c / 256 % 256)
    ++ (more_range count 4 (c / 65536 % 256) (c / 16777216) ++ t.end_line))))

abbrev pub run_text : ℕ → ℕ → ℕ → List ℕ
run_text a b c =
    if_same (a % 256) 0 [] (if_same (a % 256) 1 t.loops_always
    (if_same (a % 256) 5 (ranges_line (a / 256 % 256) b c) (until_text a)))

abbrev pub run_line : List ℕ → ℕ → List ℕ
run_line w p = run_text (get_or w p 0) (get_or w (p + 1) 0) (get_or w (p + 2) 0)

-- What the end of the input leads to

abbrev pub end_target : ℕ → List ℕ
end_target x = if_same x DEAD-STATE [] (joined (t.end_label ∷ target Target x ∷ t.end_line ∷ []))

abbrev pub end_continuation : ℕ → List ℕ
end_continuation x = if_same x NONE [] (joined (t.end_label ∷ target Continuation x ∷ t.end_line ∷ []))

abbrev pub rest_text : List ℕ → ℕ → List ℕ
rest_text w s =
    joined (wide_text w s ∷ escapes_text w s ∷ end_target (or_else DEAD-STATE (eof_target w s)) ∷ end_continuation (or_else NONE (eof_continuation w s)) ∷ [])

-- All of a state
abbrev pub state_text : List ℕ → ℕ → List ℕ
state_text w s = joined (head_text w s ∷ run_line w (place_of w RUNS-START s) ∷ ascii_text w s ∷ rest_text w s ∷ [])

-- A mode

abbrev pub start_text : ℕ → List ℕ
start_text s = if_same s NONE t.not-compiled (t.starts_at ++ (number s ++ t.end_line))

abbrev pub start_line : ℕ → ℕ → List ℕ
start_line m s = t.mode_word ++ (number m ++ start_text s)

abbrev pub mode_text : List ℕ → ℕ → List ℕ
mode_text w m = start_line m (or_else NONE (mode_start w m))

-- The head of a table

abbrev pub table_text : ℕ → ℕ → ℕ → List ℕ
table_text modes states words = t.table_word ++ (number modes ++ (t.states_word ++ (number states ++ (t.words_word ++ (number words ++ t.end_line)))))

-- A refusal: its number, its place, its name and what is wrong

-- the nine index rules
abbrev pub rule_text : ℕ → List ℕ
rule_text k =
    if_same k 1 t.rule_1 (if_same k 2 t.rule_2 (if_same k 3 t.rule_3 (if_same k 4 t.rule_4
    (if_same k 5 t.rule_5 (if_same k 6 t.rule_6 (if_same k 7 t.rule_7 (if_same k 8 t.rule_8 t.rule_9)))))))

abbrev pub reason_text : ℕ → ℕ → List ℕ
reason_text n place =
    if_same n 1 t.short_reason (if_same n 2 t.tag_reason (if_same n 3 t.field_reason
    (if_same n 4 t.limit_reason (if_same n 5 t.left_reason (if_same n 6 (rule_text place) t.other_reason)))))

abbrev pub refusal_text : ℕ → ℕ → List ℕ
refusal_text n place = joined (joined (t.refused-word ∷ number n ∷ t.at_word ∷ number place ∷ []) ∷ reason_text n place ∷ [])
