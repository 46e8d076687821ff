-- Where the sections of a table stand in its words, and what decoding judges there. Assumes nothing.
use Rattle.std.specs.Prelude.{ℕ, ◌+◌, List, length}
use Rattle.word_reader.specs.declared.Sections.{Sections}
use Rattle.rule_words.specs.Rules.{broken, broken_item}
use Rattle.law_tables.specs.Table.{Table, counted, mode_words, state_words, run_words, ascii_words, wide_words, accept_words, escape_words, words_of}

-- where a section that starts at a place ends
abbrev pub section_end : {A : Type 0} → ℕ → (A → List ℕ) → List A → ℕ
section_end at words xs = at + length (counted words xs)

-- "In order": the modes stand behind the tag, and each other section behind the one before it

abbrev pub states_place : Table → ℕ
states_place t = section_end 1 mode_words t.modes

abbrev pub runs_place : Table → ℕ
runs_place t = section_end (states_place t) state_words t.states

abbrev pub ascii_place : Table → ℕ
ascii_place t = section_end (runs_place t) run_words t.runs

abbrev pub wide_place : Table → ℕ
wide_place t = section_end (ascii_place t) ascii_words t.ascii

abbrev pub accepts_place : Table → ℕ
accepts_place t = section_end (wide_place t) wide_words t.wide

abbrev pub escapes_place : Table → ℕ
escapes_place t = section_end (accepts_place t) accept_words t.accepts

abbrev pub continuations_place : Table → ℕ
continuations_place t = section_end (escapes_place t) escape_words t.escapes

-- the places of the eight counts
abbrev pub sections_of : Table → Sections
sections_of t = record {
  modes = 1;
  states = states_place t;
  runs = runs_place t;
  ascii = ascii_place t;
  wide = wide_place t;
  accepts = accepts_place t;
  escapes = escapes_place t;
  continuations = continuations_place t;
}

-- the number of the first rule that decoding finds broken in a table's words, or 0
abbrev pub broken_of : Table → ℕ
broken_of t = broken (words_of t) (sections_of t)

-- and the first item that breaks it, or 0
abbrev pub broken_item_of : Table → ℕ
broken_item_of t = broken_item (words_of t) (sections_of t)
