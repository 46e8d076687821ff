-- The first broken rule and the item that breaks it. Assumes nothing.
use Rattle.std.specs.Prelude.{ℕ, List, Bool, Option, Some, None, eqb}
use Rattle.refusal.specs.Lists.{pick}
use Rattle.word_reader.specs.declared.Sections.{Sections}
use Rattle.rule_words.specs.Rules.{first_broken, first_item, rules, items, row_rules, row_items, end_rules, end_items}
use Rattle.rule_first.specs.declared.Broken.{Broken}

-- a rule by its number and the item that breaks it: the number is 0 where none is broken
unfoldable pub by_number : ℕ → ℕ → Option Broken
by_number k i = pick (eqb k 0) None (Some (record { rule = k; item = i }))

-- of rules that are numbered from n on, by their tests and their items
abbrev pub first_from : ℕ → List Bool → List ℕ → Option Broken
first_from n bs is = by_number (first_broken n bs) (first_item bs is)

abbrev pub first_in : List ℕ → Sections → Option Broken
first_in w s = first_from 1 (rules w s) (items w s)

-- from rule 5 on, and from rule 8 on
abbrev pub first_row : List ℕ → Sections → Option Broken
first_row w s = first_from 5 (row_rules w s) (row_items w s)

abbrev pub first_end : List ℕ → Sections → Option Broken
first_end w s = first_from 8 (end_rules w s) (end_items w s)
