-- The texts of a page, by their bytes. Assumes nothing.
use Rattle.std.specs.Prelude.{ℕ, List, [], ◌∷◌}

-- Symbols and targets

-- "space"
abbrev pub space : List ℕ
space = 115 ∷ 112 ∷ 97 ∷ 99 ∷ 101 ∷ []

-- "\\t"
abbrev pub tab : List ℕ
tab = 92 ∷ 116 ∷ []

-- "\\n"
abbrev pub newline : List ℕ
newline = 92 ∷ 110 ∷ []

-- "\\r"
abbrev pub return_sign : List ℕ
return_sign = 92 ∷ 114 ∷ []

-- "0x"
abbrev pub hex : List ℕ
hex = 48 ∷ 120 ∷ []

-- "U+"
abbrev pub code_point : List ℕ
code_point = 85 ∷ 43 ∷ []

-- ".."
abbrev pub dots : List ℕ
dots = 46 ∷ 46 ∷ []

-- " -> "
abbrev pub arrow : List ℕ
arrow = 32 ∷ 45 ∷ 62 ∷ 32 ∷ []

-- " -> escape"
abbrev pub escape_target : List ℕ
escape_target = 32 ∷ 45 ∷ 62 ∷ 32 ∷ 101 ∷ 115 ∷ 99 ∷ 97 ∷ 112 ∷ 101 ∷ []

-- " -> dead"
abbrev pub dead_target : List ℕ
dead_target = 32 ∷ 45 ∷ 62 ∷ 32 ∷ 100 ∷ 101 ∷ 97 ∷ 100 ∷ []

-- " -> continuation "
abbrev pub to_continuation : List ℕ
to_continuation = 32 ∷ 45 ∷ 62 ∷ 32 ∷ 99 ∷ 111 ∷ 110 ∷ 116 ∷ 105 ∷ 110 ∷ 117 ∷ 97 ∷ 116 ∷ 105 ∷ 111 ∷ 110 ∷ 32 ∷ []

-- The items of a row

-- "  "
abbrev pub between : List ℕ
between = 32 ∷ 32 ∷ []

-- "\n           "
abbrev pub next_line : List ℕ
next_line = 10 ∷ 32 ∷ 32 ∷ 32 ∷ 32 ∷ 32 ∷ 32 ∷ 32 ∷ 32 ∷ 32 ∷ 32 ∷ 32 ∷ []

-- "  none\n"
abbrev pub no_items : List ℕ
no_items = 32 ∷ 32 ∷ 110 ∷ 111 ∷ 110 ∷ 101 ∷ 10 ∷ []

-- "\n"
abbrev pub end_line : List ℕ
end_line = 10 ∷ []

-- The lines of a state

-- "\nstate "
abbrev pub state_word : List ℕ
state_word = 10 ∷ 115 ∷ 116 ∷ 97 ∷ 116 ∷ 101 ∷ 32 ∷ []

-- ", no accept\n"
abbrev pub no-accept : List ℕ
no-accept = 44 ∷ 32 ∷ 110 ∷ 111 ∷ 32 ∷ 97 ∷ 99 ∷ 99 ∷ 101 ∷ 112 ∷ 116 ∷ 10 ∷ []

-- ": accept "
abbrev pub accept-word : List ℕ
accept-word = 58 ∷ 32 ∷ 97 ∷ 99 ∷ 99 ∷ 101 ∷ 112 ∷ 116 ∷ 32 ∷ []

-- ", rule "
abbrev pub rule_word : List ℕ
rule_word = 44 ∷ 32 ∷ 114 ∷ 117 ∷ 108 ∷ 101 ∷ 32 ∷ []

-- ", the end consumed"
abbrev pub end_consumed : List ℕ
end_consumed = 44 ∷ 32 ∷ 116 ∷ 104 ∷ 101 ∷ 32 ∷ 101 ∷ 110 ∷ 100 ∷ 32 ∷ 99 ∷ 111 ∷ 110 ∷ 115 ∷ 117 ∷ 109 ∷ 101 ∷ 100 ∷ []

-- ", "
abbrev pub comma : List ℕ
comma = 44 ∷ 32 ∷ []

-- ", actions "
abbrev pub actions_word : List ℕ
actions_word = 44 ∷ 32 ∷ 97 ∷ 99 ∷ 116 ∷ 105 ∷ 111 ∷ 110 ∷ 115 ∷ 32 ∷ []

-- "  loops    on every symbol\n"
abbrev pub loops_always : List ℕ
loops_always =
    32 ∷ 32 ∷ 108 ∷ 111 ∷ 111 ∷ 112 ∷ 115 ∷ 32 ∷ 32 ∷ 32 ∷ 32 ∷ 111 ∷ 110 ∷ 32 ∷ 101 ∷ 118 ∷ 101 ∷ 114 ∷ 121 ∷ 32 ∷
    115 ∷ 121 ∷ 109 ∷ 98 ∷ 111 ∷ 108 ∷ 10 ∷ []

-- "  loops    until "
abbrev pub loops_until : List ℕ
loops_until = 32 ∷ 32 ∷ 108 ∷ 111 ∷ 111 ∷ 112 ∷ 115 ∷ 32 ∷ 32 ∷ 32 ∷ 32 ∷ 117 ∷ 110 ∷ 116 ∷ 105 ∷ 108 ∷ 32 ∷ []

-- "  loops    on "
abbrev pub loops_on : List ℕ
loops_on = 32 ∷ 32 ∷ 108 ∷ 111 ∷ 111 ∷ 112 ∷ 115 ∷ 32 ∷ 32 ∷ 32 ∷ 32 ∷ 111 ∷ 110 ∷ 32 ∷ []

-- " or "
abbrev pub or_word : List ℕ
or_word = 32 ∷ 111 ∷ 114 ∷ 32 ∷ []

-- "  ascii  "
abbrev pub ascii_label : List ℕ
ascii_label = 32 ∷ 32 ∷ 97 ∷ 115 ∷ 99 ∷ 105 ∷ 105 ∷ 32 ∷ 32 ∷ []

-- "  wide   "
abbrev pub wide_label : List ℕ
wide_label = 32 ∷ 32 ∷ 119 ∷ 105 ∷ 100 ∷ 101 ∷ 32 ∷ 32 ∷ 32 ∷ []

-- "  wide     as state "
abbrev pub wide_as : List ℕ
wide_as =
    32 ∷ 32 ∷ 119 ∷ 105 ∷ 100 ∷ 101 ∷ 32 ∷ 32 ∷ 32 ∷ 32 ∷ 32 ∷ 97 ∷ 115 ∷ 32 ∷ 115 ∷ 116 ∷ 97 ∷ 116 ∷ 101 ∷ 32 ∷ []

-- "  escapes"
abbrev pub escapes_label : List ℕ
escapes_label = 32 ∷ 32 ∷ 101 ∷ 115 ∷ 99 ∷ 97 ∷ 112 ∷ 101 ∷ 115 ∷ []

-- "  at end  "
abbrev pub end_label : List ℕ
end_label = 32 ∷ 32 ∷ 97 ∷ 116 ∷ 32 ∷ 101 ∷ 110 ∷ 100 ∷ 32 ∷ 32 ∷ []

-- The head

-- "table: modes "
abbrev pub table_word : List ℕ
table_word = 116 ∷ 97 ∷ 98 ∷ 108 ∷ 101 ∷ 58 ∷ 32 ∷ 109 ∷ 111 ∷ 100 ∷ 101 ∷ 115 ∷ 32 ∷ []

-- ", states "
abbrev pub states_word : List ℕ
states_word = 44 ∷ 32 ∷ 115 ∷ 116 ∷ 97 ∷ 116 ∷ 101 ∷ 115 ∷ 32 ∷ []

-- ", words "
abbrev pub words_word : List ℕ
words_word = 44 ∷ 32 ∷ 119 ∷ 111 ∷ 114 ∷ 100 ∷ 115 ∷ 32 ∷ []

-- "mode "
abbrev pub mode_word : List ℕ
mode_word = 109 ∷ 111 ∷ 100 ∷ 101 ∷ 32 ∷ []

-- " starts at state "
abbrev pub starts_at : List ℕ
starts_at = 32 ∷ 115 ∷ 116 ∷ 97 ∷ 114 ∷ 116 ∷ 115 ∷ 32 ∷ 97 ∷ 116 ∷ 32 ∷ 115 ∷ 116 ∷ 97 ∷ 116 ∷ 101 ∷ 32 ∷ []

-- " is not compiled\n"
abbrev pub not-compiled : List ℕ
not-compiled = 32 ∷ 105 ∷ 115 ∷ 32 ∷ 110 ∷ 111 ∷ 116 ∷ 32 ∷ 99 ∷ 111 ∷ 109 ∷ 112 ∷ 105 ∷ 108 ∷ 101 ∷ 100 ∷ 10 ∷ []

-- A refusal

-- "refused: "
abbrev pub refused-word : List ℕ
refused-word = 114 ∷ 101 ∷ 102 ∷ 117 ∷ 115 ∷ 101 ∷ 100 ∷ 58 ∷ 32 ∷ []

-- " at "
abbrev pub at_word : List ℕ
at_word = 32 ∷ 97 ∷ 116 ∷ 32 ∷ []

-- ": SHORT, the words end inside a field or record\n"
abbrev pub short_reason : List ℕ
short_reason =
    58 ∷ 32 ∷ 83 ∷ 72 ∷ 79 ∷ 82 ∷ 84 ∷ 44 ∷ 32 ∷ 116 ∷ 104 ∷ 101 ∷ 32 ∷ 119 ∷ 111 ∷ 114 ∷ 100 ∷ 115 ∷ 32 ∷ 101 ∷ 110 ∷
    100 ∷ 32 ∷ 105 ∷ 110 ∷ 115 ∷ 105 ∷ 100 ∷ 101 ∷ 32 ∷ 97 ∷ 32 ∷ 102 ∷ 105 ∷ 101 ∷ 108 ∷ 100 ∷ 32 ∷ 111 ∷ 114 ∷ 32 ∷
    114 ∷ 101 ∷ 99 ∷ 111 ∷ 114 ∷ 100 ∷ 10 ∷ []

-- ": TAG, the first word is not the tag of a table\n"
abbrev pub tag_reason : List ℕ
tag_reason =
    58 ∷ 32 ∷ 84 ∷ 65 ∷ 71 ∷ 44 ∷ 32 ∷ 116 ∷ 104 ∷ 101 ∷ 32 ∷ 102 ∷ 105 ∷ 114 ∷ 115 ∷ 116 ∷ 32 ∷ 119 ∷ 111 ∷ 114 ∷
    100 ∷ 32 ∷ 105 ∷ 115 ∷ 32 ∷ 110 ∷ 111 ∷ 116 ∷ 32 ∷ 116 ∷ 104 ∷ 101 ∷ 32 ∷ 116 ∷ 97 ∷ 103 ∷ 32 ∷ 111 ∷ 102 ∷ 32 ∷
    97 ∷ 32 ∷ 116 ∷ 97 ∷ 98 ∷ 108 ∷ 101 ∷ 10 ∷ []

-- ": FIELD, the word here is one that its field forbids\n"
abbrev pub field_reason : List ℕ
field_reason =
    58 ∷ 32 ∷ 70 ∷ 73 ∷ 69 ∷ 76 ∷ 68 ∷ 44 ∷ 32 ∷ 116 ∷ 104 ∷ 101 ∷ 32 ∷ 119 ∷ 111 ∷ 114 ∷ 100 ∷ 32 ∷ 104 ∷ 101 ∷ 114 ∷
    101 ∷ 32 ∷ 105 ∷ 115 ∷ 32 ∷ 111 ∷ 110 ∷ 101 ∷ 32 ∷ 116 ∷ 104 ∷ 97 ∷ 116 ∷ 32 ∷ 105 ∷ 116 ∷ 115 ∷ 32 ∷ 102 ∷ 105 ∷
    101 ∷ 108 ∷ 100 ∷ 32 ∷ 102 ∷ 111 ∷ 114 ∷ 98 ∷ 105 ∷ 100 ∷ 115 ∷ 10 ∷ []

-- ": LIMIT, there are more than 8,192 words\n"
abbrev pub limit_reason : List ℕ
limit_reason =
    58 ∷ 32 ∷ 76 ∷ 73 ∷ 77 ∷ 73 ∷ 84 ∷ 44 ∷ 32 ∷ 116 ∷ 104 ∷ 101 ∷ 114 ∷ 101 ∷ 32 ∷ 97 ∷ 114 ∷ 101 ∷ 32 ∷ 109 ∷ 111 ∷
    114 ∷ 101 ∷ 32 ∷ 116 ∷ 104 ∷ 97 ∷ 110 ∷ 32 ∷ 56 ∷ 44 ∷ 49 ∷ 57 ∷ 50 ∷ 32 ∷ 119 ∷ 111 ∷ 114 ∷ 100 ∷ 115 ∷ 10 ∷ []

-- ": LEFT, words remain behind the last section\n"
abbrev pub left_reason : List ℕ
left_reason =
    58 ∷ 32 ∷ 76 ∷ 69 ∷ 70 ∷ 84 ∷ 44 ∷ 32 ∷ 119 ∷ 111 ∷ 114 ∷ 100 ∷ 115 ∷ 32 ∷ 114 ∷ 101 ∷ 109 ∷ 97 ∷ 105 ∷ 110 ∷ 32 ∷
    98 ∷ 101 ∷ 104 ∷ 105 ∷ 110 ∷ 100 ∷ 32 ∷ 116 ∷ 104 ∷ 101 ∷ 32 ∷ 108 ∷ 97 ∷ 115 ∷ 116 ∷ 32 ∷ 115 ∷ 101 ∷ 99 ∷ 116 ∷
    105 ∷ 111 ∷ 110 ∷ 10 ∷ []

-- ": no answer of decoding\n"
abbrev pub other_reason : List ℕ
other_reason =
    58 ∷ 32 ∷ 110 ∷ 111 ∷ 32 ∷ 97 ∷ 110 ∷ 115 ∷ 119 ∷ 101 ∷ 114 ∷ 32 ∷ 111 ∷ 102 ∷ 32 ∷ 100 ∷ 101 ∷ 99 ∷ 111 ∷ 100 ∷
    105 ∷ 110 ∷ 103 ∷ 10 ∷ []

-- ": INDEX, a mode starts at what is no state\n"
abbrev pub rule_1 : List ℕ
rule_1 =
    58 ∷ 32 ∷ 73 ∷ 78 ∷ 68 ∷ 69 ∷ 88 ∷ 44 ∷ 32 ∷ 97 ∷ 32 ∷ 109 ∷ 111 ∷ 100 ∷ 101 ∷ 32 ∷ 115 ∷ 116 ∷ 97 ∷ 114 ∷ 116 ∷
    115 ∷ 32 ∷ 97 ∷ 116 ∷ 32 ∷ 119 ∷ 104 ∷ 97 ∷ 116 ∷ 32 ∷ 105 ∷ 115 ∷ 32 ∷ 110 ∷ 111 ∷ 32 ∷ 115 ∷ 116 ∷ 97 ∷ 116 ∷
    101 ∷ 10 ∷ []

-- ": INDEX, a state names a row, a target or an accept that is not there\n"
abbrev pub rule_2 : List ℕ
rule_2 =
    58 ∷ 32 ∷ 73 ∷ 78 ∷ 68 ∷ 69 ∷ 88 ∷ 44 ∷ 32 ∷ 97 ∷ 32 ∷ 115 ∷ 116 ∷ 97 ∷ 116 ∷ 101 ∷ 32 ∷ 110 ∷ 97 ∷ 109 ∷ 101 ∷
    115 ∷ 32 ∷ 97 ∷ 32 ∷ 114 ∷ 111 ∷ 119 ∷ 44 ∷ 32 ∷ 97 ∷ 32 ∷ 116 ∷ 97 ∷ 114 ∷ 103 ∷ 101 ∷ 116 ∷ 32 ∷ 111 ∷ 114 ∷
    32 ∷ 97 ∷ 110 ∷ 32 ∷ 97 ∷ 99 ∷ 99 ∷ 101 ∷ 112 ∷ 116 ∷ 32 ∷ 116 ∷ 104 ∷ 97 ∷ 116 ∷ 32 ∷ 105 ∷ 115 ∷ 32 ∷ 110 ∷
    111 ∷ 116 ∷ 32 ∷ 116 ∷ 104 ∷ 101 ∷ 114 ∷ 101 ∷ 10 ∷ []

-- ": INDEX, there are not as many runs as states\n"
abbrev pub rule_3 : List ℕ
rule_3 =
    58 ∷ 32 ∷ 73 ∷ 78 ∷ 68 ∷ 69 ∷ 88 ∷ 44 ∷ 32 ∷ 116 ∷ 104 ∷ 101 ∷ 114 ∷ 101 ∷ 32 ∷ 97 ∷ 114 ∷ 101 ∷ 32 ∷ 110 ∷ 111 ∷
    116 ∷ 32 ∷ 97 ∷ 115 ∷ 32 ∷ 109 ∷ 97 ∷ 110 ∷ 121 ∷ 32 ∷ 114 ∷ 117 ∷ 110 ∷ 115 ∷ 32 ∷ 97 ∷ 115 ∷ 32 ∷ 115 ∷ 116 ∷
    97 ∷ 116 ∷ 101 ∷ 115 ∷ 10 ∷ []

-- ": INDEX, a run is not that of its state's row\n"
abbrev pub rule_4 : List ℕ
rule_4 =
    58 ∷ 32 ∷ 73 ∷ 78 ∷ 68 ∷ 69 ∷ 88 ∷ 44 ∷ 32 ∷ 97 ∷ 32 ∷ 114 ∷ 117 ∷ 110 ∷ 32 ∷ 105 ∷ 115 ∷ 32 ∷ 110 ∷ 111 ∷ 116 ∷
    32 ∷ 116 ∷ 104 ∷ 97 ∷ 116 ∷ 32 ∷ 111 ∷ 102 ∷ 32 ∷ 105 ∷ 116 ∷ 115 ∷ 32 ∷ 115 ∷ 116 ∷ 97 ∷ 116 ∷ 101 ∷ 39 ∷ 115 ∷
    32 ∷ 114 ∷ 111 ∷ 119 ∷ 10 ∷ []

-- ": INDEX, an ascii row has a target that is not there\n"
abbrev pub rule_5 : List ℕ
rule_5 =
    58 ∷ 32 ∷ 73 ∷ 78 ∷ 68 ∷ 69 ∷ 88 ∷ 44 ∷ 32 ∷ 97 ∷ 110 ∷ 32 ∷ 97 ∷ 115 ∷ 99 ∷ 105 ∷ 105 ∷ 32 ∷ 114 ∷ 111 ∷ 119 ∷
    32 ∷ 104 ∷ 97 ∷ 115 ∷ 32 ∷ 97 ∷ 32 ∷ 116 ∷ 97 ∷ 114 ∷ 103 ∷ 101 ∷ 116 ∷ 32 ∷ 116 ∷ 104 ∷ 97 ∷ 116 ∷ 32 ∷ 105 ∷
    115 ∷ 32 ∷ 110 ∷ 111 ∷ 116 ∷ 32 ∷ 116 ∷ 104 ∷ 101 ∷ 114 ∷ 101 ∷ 10 ∷ []

-- ": INDEX, a wide row is out of order, or has a target that is not there\n"
abbrev pub rule_6 : List ℕ
rule_6 =
    58 ∷ 32 ∷ 73 ∷ 78 ∷ 68 ∷ 69 ∷ 88 ∷ 44 ∷ 32 ∷ 97 ∷ 32 ∷ 119 ∷ 105 ∷ 100 ∷ 101 ∷ 32 ∷ 114 ∷ 111 ∷ 119 ∷ 32 ∷ 105 ∷
    115 ∷ 32 ∷ 111 ∷ 117 ∷ 116 ∷ 32 ∷ 111 ∷ 102 ∷ 32 ∷ 111 ∷ 114 ∷ 100 ∷ 101 ∷ 114 ∷ 44 ∷ 32 ∷ 111 ∷ 114 ∷ 32 ∷ 104 ∷
    97 ∷ 115 ∷ 32 ∷ 97 ∷ 32 ∷ 116 ∷ 97 ∷ 114 ∷ 103 ∷ 101 ∷ 116 ∷ 32 ∷ 116 ∷ 104 ∷ 97 ∷ 116 ∷ 32 ∷ 105 ∷ 115 ∷ 32 ∷
    110 ∷ 111 ∷ 116 ∷ 32 ∷ 116 ∷ 104 ∷ 101 ∷ 114 ∷ 101 ∷ 10 ∷ []

-- ": INDEX, there are not as many escape rows as states\n"
abbrev pub rule_7 : List ℕ
rule_7 =
    58 ∷ 32 ∷ 73 ∷ 78 ∷ 68 ∷ 69 ∷ 88 ∷ 44 ∷ 32 ∷ 116 ∷ 104 ∷ 101 ∷ 114 ∷ 101 ∷ 32 ∷ 97 ∷ 114 ∷ 101 ∷ 32 ∷ 110 ∷ 111 ∷
    116 ∷ 32 ∷ 97 ∷ 115 ∷ 32 ∷ 109 ∷ 97 ∷ 110 ∷ 121 ∷ 32 ∷ 101 ∷ 115 ∷ 99 ∷ 97 ∷ 112 ∷ 101 ∷ 32 ∷ 114 ∷ 111 ∷ 119 ∷
    115 ∷ 32 ∷ 97 ∷ 115 ∷ 32 ∷ 115 ∷ 116 ∷ 97 ∷ 116 ∷ 101 ∷ 115 ∷ 10 ∷ []

-- ": INDEX, an escape row is out of order, or names a continuation that is not there\n"
abbrev pub rule_8 : List ℕ
rule_8 =
    58 ∷ 32 ∷ 73 ∷ 78 ∷ 68 ∷ 69 ∷ 88 ∷ 44 ∷ 32 ∷ 97 ∷ 110 ∷ 32 ∷ 101 ∷ 115 ∷ 99 ∷ 97 ∷ 112 ∷ 101 ∷ 32 ∷ 114 ∷ 111 ∷
    119 ∷ 32 ∷ 105 ∷ 115 ∷ 32 ∷ 111 ∷ 117 ∷ 116 ∷ 32 ∷ 111 ∷ 102 ∷ 32 ∷ 111 ∷ 114 ∷ 100 ∷ 101 ∷ 114 ∷ 44 ∷ 32 ∷ 111 ∷
    114 ∷ 32 ∷ 110 ∷ 97 ∷ 109 ∷ 101 ∷ 115 ∷ 32 ∷ 97 ∷ 32 ∷ 99 ∷ 111 ∷ 110 ∷ 116 ∷ 105 ∷ 110 ∷ 117 ∷ 97 ∷ 116 ∷ 105 ∷
    111 ∷ 110 ∷ 32 ∷ 116 ∷ 104 ∷ 97 ∷ 116 ∷ 32 ∷ 105 ∷ 115 ∷ 32 ∷ 110 ∷ 111 ∷ 116 ∷ 32 ∷ 116 ∷ 104 ∷ 101 ∷ 114 ∷ 101 ∷
    10 ∷ []

-- ": INDEX, a context or a config refers to a context that it must not\n"
abbrev pub rule_9 : List ℕ
rule_9 =
    58 ∷ 32 ∷ 73 ∷ 78 ∷ 68 ∷ 69 ∷ 88 ∷ 44 ∷ 32 ∷ 97 ∷ 32 ∷ 99 ∷ 111 ∷ 110 ∷ 116 ∷ 101 ∷ 120 ∷ 116 ∷ 32 ∷ 111 ∷ 114 ∷
    32 ∷ 97 ∷ 32 ∷ 99 ∷ 111 ∷ 110 ∷ 102 ∷ 105 ∷ 103 ∷ 32 ∷ 114 ∷ 101 ∷ 102 ∷ 101 ∷ 114 ∷ 115 ∷ 32 ∷ 116 ∷ 111 ∷ 32 ∷
    97 ∷ 32 ∷ 99 ∷ 111 ∷ 110 ∷ 116 ∷ 101 ∷ 120 ∷ 116 ∷ 32 ∷ 116 ∷ 104 ∷ 97 ∷ 116 ∷ 32 ∷ 105 ∷ 116 ∷ 32 ∷ 109 ∷ 117 ∷
    115 ∷ 116 ∷ 32 ∷ 110 ∷ 111 ∷ 116 ∷ 10 ∷ []
