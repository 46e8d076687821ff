-- The questions by name: what is asked of a record, and of each of a section. Assumes nothing.
use Rattle.std.specs.Prelude.{ℕ, List, Bool}
use Rattle.word_reader.specs.Parse.{Place}
use Rattle.word_reader.specs.Records.{mode_at, state_at, run_at, ascii_at, wide_at, accept_at, escape_at, continuation_at}
use Rattle.rule_words.specs.Rules.{numbered_in, passing_in, start_good, state_good, run_good, ascii_good, wide_good, escape_good, continuation_good}
use Rattle.rule_words.specs.Flags.{accept_plain, continuation_plain}
use Rattle.rule_walk.specs.declared.Question.{Question}
use Rattle.rule_walk.specs.declared.Question.TheVariants.{StartIsState, StateIsValid, RunIsClassified, AsciiRowIsGood, WideRowIsSearchable}
use Rattle.rule_walk.specs.declared.Question.TheVariants.{EscapeRowIsValid, ContinuationIsValid, AcceptIsPlain, ContinuationIsPlain}

-- the record that is asked, by the reader of its kind
abbrev pub asked_at : Question → List ℕ → ℕ → Place
asked_at (StartIsState ns) = mode_at
asked_at (StateIsValid ns na nv nx) = state_at
asked_at (RunIsClassified s a) = run_at
asked_at (AsciiRowIsGood ns) = ascii_at
asked_at (WideRowIsSearchable ns) = wide_at
asked_at (EscapeRowIsValid nc) = escape_at
asked_at ContinuationIsValid = continuation_at
asked_at AcceptIsPlain = accept_at
asked_at ContinuationIsPlain = continuation_at

-- the record of number i passes, at a place
abbrev pub passes : Question → List ℕ → ℕ → ℕ → Bool
passes (StartIsState ns) w i = start_good ns w
passes (StateIsValid ns na nv nx) w i = state_good ns na nv nx w
passes (RunIsClassified s a) w i = run_good w s a i
passes (AsciiRowIsGood ns) w i = ascii_good ns w
passes (WideRowIsSearchable ns) w i = wide_good ns w
passes (EscapeRowIsValid nc) w i = escape_good nc w
passes ContinuationIsValid w i = continuation_good w
passes AcceptIsPlain w i = accept_plain w
passes ContinuationIsPlain w i = continuation_plain w

-- how many of the section at `at` do before the first that does not
abbrev pub passing_of : Question → List ℕ → ℕ → ℕ
passing_of q w at = passing_in (asked_at q) (passes q w) w at

-- each of them does
abbrev pub all_pass : Question → List ℕ → ℕ → Bool
all_pass q w at = numbered_in (asked_at q) (passes q w) w at
