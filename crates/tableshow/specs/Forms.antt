-- Forms: texts with places for what varies, one behind the other, each ended by a zero. Assumes nothing.
use Rattle.std.specs.Prelude.{ℕ, ◌/◌, ◌%◌, List, [], ◌∷◌, ◌++◌, ltb, eqb, drop}
use Rattle.refusal.specs.Lists.{pick}
use Rattle.tableshow.specs.Joined.{joined, if_less}
use Rattle.program_io.specs.Decimal.{number}
use Rattle.tableshow.specs.Names.{hex_digit, symbol, range}
use Rattle.tableshow.specs.Texts as t

-- a form up to its zero, with f for each byte
unfoldable pub filled : (ℕ → List ℕ) → List ℕ → List ℕ
filled f [] = []
filled f (y ∷ ys) = pick (eqb y 0) [] (f y ++ filled f ys)

-- In the form of a symbol x

-- what stands before the last digit of which a byte is the place
unfoldable pub digit_in : ℕ → ℕ → ℕ
digit_in y x =
    pick (eqb y 129) x (pick (eqb y 130) (x / 16) (pick (eqb y 131) (x / 256) (pick (eqb y 132) (x / 4096)
    (pick (eqb y 133) (x / 65536) (pick (eqb y 134) (x / 65536 / 16) (pick (eqb y 135) (x / 65536 / 256) (x / 65536 / 4096)))))))

unfoldable pub glyph_of : ℕ → ℕ → ℕ
glyph_of y x = pick (ltb y 128) y (pick (eqb y 128) (x % 256) (hex_digit (digit_in y x)))

-- In the form of a line with the numbers a, b and c

unfoldable pub number_in : ℕ → ℕ → ℕ → ℕ → ℕ
number_in y a b c = pick (eqb y 128) a (pick (eqb y 129) b c)

-- the three exits of a run whose first word is a
unfoldable pub exit_in : ℕ → ℕ → ℕ
exit_in y a = pick (eqb y 131) (a / 256 % 256) (pick (eqb y 132) (a / 65536 % 256) (a / 16777216))

-- the range from a to b, and the four ranges of a run whose other words are b and c
unfoldable pub low_in : ℕ → ℕ → ℕ → ℕ → ℕ
low_in y a b c =
    pick (eqb y 134) a (pick (eqb y 135) (b % 256) (pick (eqb y 136) (b / 65536 % 256) (pick (eqb y 137) (c % 256) (c / 65536 % 256))))

unfoldable pub high_in : ℕ → ℕ → ℕ → ℕ
high_in y b c =
    pick (eqb y 134) b (pick (eqb y 135) (b / 256 % 256) (pick (eqb y 136) (b / 16777216) (pick (eqb y 137) (c / 256 % 256) (c / 16777216))))

unfoldable pub piece : ℕ → ℕ → ℕ → ℕ → List ℕ
piece y a b c =
    if_less y 128 (y ∷ []) (if_less y 131 (number (number_in y a b c))
    (if_less y 134 (symbol (exit_in y a)) (range (low_in y a b c) (high_in y b c))))

-- The bytes of the forms

abbrev number_a : List ℕ
number_a = 128 ∷ []

abbrev number_b : List ℕ
number_b = 129 ∷ []

abbrev number_c : List ℕ
number_c = 130 ∷ []

abbrev exit_1 : List ℕ
exit_1 = 131 ∷ []

abbrev exit_2 : List ℕ
exit_2 = 132 ∷ []

abbrev exit_3 : List ℕ
exit_3 = 133 ∷ []

abbrev whole : List ℕ
whole = 134 ∷ []

abbrev range_1 : List ℕ
range_1 = 135 ∷ []

abbrev range_2 : List ℕ
range_2 = 136 ∷ []

abbrev range_3 : List ℕ
range_3 = 137 ∷ []

abbrev range_4 : List ℕ
range_4 = 138 ∷ []

abbrev itself : List ℕ
itself = 128 ∷ []

abbrev digit_1 : List ℕ
digit_1 = 129 ∷ []

abbrev digit_2 : List ℕ
digit_2 = 130 ∷ []

abbrev digit_3 : List ℕ
digit_3 = 131 ∷ []

abbrev digit_4 : List ℕ
digit_4 = 132 ∷ []

abbrev digit_5 : List ℕ
digit_5 = 133 ∷ []

abbrev digit_6 : List ℕ
digit_6 = 134 ∷ []

abbrev digit_7 : List ℕ
digit_7 = 135 ∷ []

abbrev digit_8 : List ℕ
digit_8 = 136 ∷ []

abbrev quote : List ℕ
quote = 39 ∷ []

abbrev ends : List ℕ
ends = 0 ∷ []

unfoldable pub forms : List ℕ
forms =
    joined
    (ends
    ∷ t.space ∷ ends
    ∷ t.tab ∷ ends
    ∷ t.newline ∷ ends
    ∷ t.return_sign ∷ ends
    ∷ quote ∷ itself ∷ quote ∷ ends
    ∷ t.hex ∷ digit_2 ∷ digit_1 ∷ ends
    ∷ t.code_point ∷ digit_4 ∷ digit_3 ∷ digit_2 ∷ digit_1 ∷ ends
    ∷ t.code_point ∷ digit_5 ∷ digit_4 ∷ digit_3 ∷ digit_2 ∷ digit_1 ∷ ends
    ∷ t.code_point ∷ digit_6 ∷ digit_5 ∷ digit_4 ∷ digit_3 ∷ digit_2 ∷ digit_1 ∷ ends
    ∷ t.code_point ∷ digit_8 ∷ digit_7 ∷ digit_6 ∷ digit_5 ∷ digit_4 ∷ digit_3 ∷ digit_2 ∷ digit_1 ∷ ends
    ∷ t.dots ∷ ends
    ∷ t.table_word ∷ number_a ∷ t.states_word ∷ number_b ∷ t.words_word ∷ number_c ∷ t.end_line ∷ ends
    ∷ t.mode_word ∷ number_a ∷ t.not-compiled ∷ ends
    ∷ t.mode_word ∷ number_a ∷ t.starts_at ∷ number_b ∷ t.end_line ∷ ends
    ∷ t.state_word ∷ number_a ∷ ends
    ∷ t.no-accept ∷ ends
    ∷ t.accept-word ∷ number_a ∷ t.rule_word ∷ number_b ∷ t.end_line ∷ ends
    ∷ t.accept-word ∷ number_a ∷ t.rule_word ∷ number_b ∷ t.actions_word ∷ number_c ∷ t.end_line ∷ ends
    ∷ t.accept-word ∷ number_a ∷ t.rule_word ∷ number_b ∷ t.end_consumed ∷ t.end_line ∷ ends
    ∷ t.accept-word ∷ number_a ∷ t.rule_word ∷ number_b ∷ t.end_consumed ∷ t.actions_word ∷ number_c ∷ t.end_line ∷ ends
    ∷ t.loops_always ∷ ends
    ∷ t.loops_until ∷ exit_1 ∷ t.end_line ∷ ends
    ∷ t.loops_until ∷ exit_1 ∷ t.or_word ∷ exit_2 ∷ t.end_line ∷ ends
    ∷ t.loops_until ∷ exit_1 ∷ t.or_word ∷ exit_2 ∷ t.or_word ∷ exit_3 ∷ t.end_line ∷ ends
    ∷ t.loops_on ∷ range_1 ∷ t.end_line ∷ ends
    ∷ t.loops_on ∷ range_1 ∷ t.comma ∷ range_2 ∷ t.end_line ∷ ends
    ∷ t.loops_on ∷ range_1 ∷ t.comma ∷ range_2 ∷ t.comma ∷ range_3 ∷ t.end_line ∷ ends
    ∷ t.loops_on ∷ range_1 ∷ t.comma ∷ range_2 ∷ t.comma ∷ range_3 ∷ t.comma ∷ range_4 ∷ t.end_line ∷ ends
    ∷ t.ascii_label ∷ ends
    ∷ t.wide_label ∷ ends
    ∷ t.wide_as ∷ number_a ∷ t.end_line ∷ ends
    ∷ t.escapes_label ∷ ends
    ∷ t.between ∷ whole ∷ ends
    ∷ t.next_line ∷ whole ∷ ends
    ∷ t.arrow ∷ number_a ∷ ends
    ∷ t.escape_target ∷ ends
    ∷ t.dead_target ∷ ends
    ∷ t.to_continuation ∷ number_a ∷ ends
    ∷ t.no_items ∷ ends
    ∷ t.end_line ∷ ends
    ∷ t.end_label ∷ t.arrow ∷ number_a ∷ t.end_line ∷ ends
    ∷ t.end_label ∷ t.escape_target ∷ t.end_line ∷ ends
    ∷ t.end_label ∷ t.to_continuation ∷ number_a ∷ t.end_line ∷ ends
    ∷ t.refused-word ∷ number_a ∷ t.at_word ∷ number_b ∷ ends
    ∷ t.short_reason ∷ ends
    ∷ t.tag_reason ∷ ends
    ∷ t.field_reason ∷ ends
    ∷ t.limit_reason ∷ ends
    ∷ t.left_reason ∷ ends
    ∷ t.other_reason ∷ ends
    ∷ t.rule_1 ∷ ends
    ∷ t.rule_2 ∷ ends
    ∷ t.rule_3 ∷ ends
    ∷ t.rule_4 ∷ ends
    ∷ t.rule_5 ∷ ends
    ∷ t.rule_6 ∷ ends
    ∷ t.rule_7 ∷ ends
    ∷ t.rule_8 ∷ ends
    ∷ t.rule_9 ∷ ends ∷ [])

-- what the form at place k says of a symbol, and of three numbers
unfoldable pub drawn : ℕ → ℕ → List ℕ
drawn k x = filled (λ y. glyph_of y x ∷ []) (drop k forms)

unfoldable pub formed : ℕ → ℕ → ℕ → ℕ → List ℕ
formed k a b c = filled (λ y. piece y a b c) (drop k forms)
