-- The answers about runs in C: a number of 0 and the run's words, or the refusal. Assumes nothing.
use Rattle.std.specs.Prelude.{Ok, Err}
use Rattle.refusal.specs.declared.Refusal.{Refusal}
use Rattle.run_shape.specs.declared.RunWords.{RunWords}
use Rattle.run_shape.specs.Shape.{Got}
use Rattle.run_shape.specs.Words.{words_of_run}
use Rattle.c_runs.specs.declared.CRun.{CRun}

abbrev pub words_c : RunWords → CRun
words_c w = record { number = 0; item = 0; place = 0; length = w.length; first = w.first; second = w.second; third = w.third }

abbrev pub refused_run : Refusal → CRun
refused_run r = record { number = r.number; item = r.item; place = r.place; length = 0; first = 0; second = 0; third = 0 }

-- a run by its words
abbrev pub run_in_c : Got → CRun
run_in_c (Ok q) = words_c (words_of_run q)
run_in_c (Err r) = refused_run r
