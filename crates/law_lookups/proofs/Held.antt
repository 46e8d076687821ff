-- The room of a table holds its sections, as the header says, and lists of places lead to the records of variable length. Assumes nothing.
use Prim.Native.Nat.{ℕ, ◌+◌, ◌-◌, ◌≤◌, ◌<◌}
use native.Mathlib.Omega.{arith}
use mathlib.Core.Path.{◌≡◌, refl, sym, ap}
use mathlib.Core.List.{List, [], ◌++◌, map, append_assoc}
use lib.ListN.{length, get_or, length-append}
use Rattle.refusal.specs.Header.{MODES-START, STATES-START, RUNS-START, ASCII-START, WIDE-START, ACCEPTS-START, ESCAPES-START, CONTINUATIONS-START}
use Rattle.refusal.specs.Header.{HEADER-NUMBERS, word_count}
use Rattle.buffer.specs.Over.{zeros, padded}
use Rattle.std.specs.Prelude.{Ok}
use Rattle.room_fill.specs.Room.{header, room_for}
use Rattle.room_find.specs.Room.{words_end}
use Rattle.law_tables.specs.Table.{Table, Accept, Continuation, Fields, counted, words_of, mode_words, state_words, run_words, ascii_words}
use Rattle.law_tables.specs.Table.{wide_words, accept_words, escape_words, continuation_words}
use Rattle.law_tables.specs.Normal.{normal_accept, normal_continuation, normal}
use Rattle.law_tables.specs.Places.{states_place, runs_place, ascii_place, wide_place, accepts_place, escapes_place, continuations_place, sections_of}
use Rattle.law_tables.proofs.Codec.{At, same, on, to, at_length}
use Rattle.law_tables.proofs.Sizes.{counted-map, same_length, all_of, sized}
use Rattle.law_tables.proofs.Normal.{counted_size, accept_size, continuation_size, normal_size, words_size, offsets, numbers_of, numbers_are}
use Rattle.law_tables.proofs.Placed.{modes_stand, states_stand, runs_stand, ascii_stand, wide_stand, accepts_stand, escapes_stand}
use Rattle.law_tables.proofs.Placed.{continuations_stand, from_states, from_runs, from_ascii, from_wide, from_accepts, from_escapes, from_continuations}
use Rattle.law_lookups.proofs.Stands.{Section, Listed, moved, offsets-length, listed, nested}

-- the words of an accept and of a continuation with their flags made 0 or 1
abbrev pub accept_kept : Accept → List ℕ
accept_kept x = accept_words (normal_accept x)

abbrev pub continuation_kept : Continuation → List ℕ
continuation_kept x = continuation_words (normal_continuation x)

-- w holds t: section k from where number k says to where the next number says, the last to the end of the words; behind the words the lists of places
pub record Held (t : Table) (w : List ℕ) : Type 0 where
  pub long : CONTINUATIONS-START < length w
  pub few_modes : length t.modes ≤ 8192
  pub few_states : length t.states ≤ 8192
  pub modes : Section w (get_or w MODES-START 0) (get_or w STATES-START 0) mode_words t.modes
  pub states : Section w (get_or w STATES-START 0) (get_or w RUNS-START 0) state_words t.states
  pub runs : Section w (get_or w RUNS-START 0) (get_or w ASCII-START 0) run_words t.runs
  pub ascii : Section w (get_or w ASCII-START 0) (get_or w WIDE-START 0) ascii_words t.ascii
  pub wide : Section w (get_or w WIDE-START 0) (get_or w ACCEPTS-START 0) wide_words t.wide
  pub accepts : Section w (get_or w ACCEPTS-START 0) (get_or w ESCAPES-START 0) accept_kept t.accepts
  pub escapes : Section w (get_or w ESCAPES-START 0) (get_or w CONTINUATIONS-START 0) escape_words t.escapes
  pub continuations : Section w (get_or w CONTINUATIONS-START 0) (words_end w) continuation_kept t.continuations
  pub run_places : Listed w (get_or w RUNS-START 0) (words_end w) run_words t.runs
  pub wide_places : Listed w (get_or w WIDE-START 0) (words_end w + length t.runs) wide_words t.wide
  pub accept-places : Listed w (get_or w ACCEPTS-START 0) (words_end w + length t.runs + length t.wide) accept_kept t.accepts
  pub escape_places : Listed w (get_or w ESCAPES-START 0) (words_end w + length t.runs + length t.wide + length t.accepts) escape_words t.escapes
  pub continuation-places :
      Listed w (get_or w CONTINUATIONS-START 0) (words_end w + length t.runs + length t.wide + length t.accepts + length t.escapes)
      continuation_kept t.continuations

-- parts, one behind the other
flat : (v a b c d e z : List ℕ) → (v ++ (a ++ (b ++ (c ++ (d ++ e))))) ++ z ≡ v ++ (a ++ (b ++ (c ++ (d ++ (e ++ z)))))
flat v a b c d e z = simp append_assoc

module _ (t : Table) (h : Fields t) (limit : length (words_of t) ≤ 8192) (n : ℕ) where
  abbrev words : List ℕ
  words = words_of t

  -- the lists of places

  abbrev R : List ℕ
  R = offsets run_words t.runs (runs_place t + 1)

  abbrev W : List ℕ
  W = offsets wide_words t.wide (wide_place t + 1)

  abbrev P : List ℕ
  P = offsets accept_words t.accepts (accepts_place t + 1)

  abbrev Q : List ℕ
  Q = offsets escape_words t.escapes (escapes_place t + 1)

  abbrev S : List ℕ
  S = offsets continuation_words t.continuations (continuations_place t + 1)

  -- the room

  abbrev w : List ℕ
  w = room_for words n (Ok (sections_of t))

  abbrev Z : List ℕ
  Z = zeros (n - length (numbers_of t))

  abbrev from_q : List ℕ
  from_q = Q ++ (S ++ Z)

  abbrev from_p : List ℕ
  from_p = P ++ from_q

  abbrev from_w : List ℕ
  from_w = W ++ from_p

  abbrev from_r : List ℕ
  from_r = R ++ from_w

  -- the words of the table with its flags made 0 or 1, and the lists, stand behind the header
  stands : At w HEADER-NUMBERS (words_of (normal t) ++ from_r)
  unfolding room_for padded header numbers_of
  stands =
      let a : At w HEADER-NUMBERS ((words_of (normal t) ++ (R ++ (W ++ (P ++ (Q ++ S))))) ++ Z) = record {
        pre = header words (sections_of t);
        whole = ap (padded n) (numbers_are t h);
        here = refl;
      } in
      same a (flat (words_of (normal t)) R W P Q S Z)

  -- the header's numbers
  heads : (word_count w ≡ length words) × (get_or w MODES-START 0 ≡ 1 + HEADER-NUMBERS) × (get_or w STATES-START 0 ≡ states_place t + HEADER-NUMBERS)
      × (get_or w RUNS-START 0 ≡ runs_place t + HEADER-NUMBERS) × (get_or w ASCII-START 0 ≡ ascii_place t + HEADER-NUMBERS)
      × (get_or w WIDE-START 0 ≡ wide_place t + HEADER-NUMBERS) × (get_or w ACCEPTS-START 0 ≡ accepts_place t + HEADER-NUMBERS)
      × (get_or w ESCAPES-START 0 ≡ escapes_place t + HEADER-NUMBERS) × (get_or w CONTINUATIONS-START 0 ≡ continuations_place t + HEADER-NUMBERS)
  unfolding room_for padded header
  heads = (refl, refl, refl, refl, refl, refl, refl, refl, refl)

  -- the sections with flags, and those behind them: as long as in the table's own words
  in_accepts : At w (accepts_place t + HEADER-NUMBERS) (counted accept_kept t.accepts ++ (from_escapes (normal t) ++ from_r))
  unfolding normal
  in_accepts = same (nested (counted accept_words (map normal_accept t.accepts)) (from_escapes (normal t)) from_r stands (accepts_stand (normal t)))
      (ap (λ l. l ++ (from_escapes (normal t) ++ from_r)) (counted-map accept_words normal_accept t.accepts))

  accepts_size : length (counted accept_words (map normal_accept t.accepts)) ≡ length (counted accept_words t.accepts)
  accepts_size = counted_size accept_words normal_accept accept_size t.accepts

  in_escapes : At w (escapes_place t + HEADER-NUMBERS) (counted escape_words t.escapes ++ (from_continuations (normal t) ++ from_r))
  unfolding normal
  in_escapes =
      to (nested (counted escape_words t.escapes) (from_continuations (normal t)) from_r stands (escapes_stand (normal t))) (omega (arith, accepts_size))

  in_continuations : At w (continuations_place t + HEADER-NUMBERS) (counted continuation_kept t.continuations ++ from_r)
  unfolding normal
  in_continuations =
      let a = nested (counted continuation_words (map normal_continuation t.continuations)) [] from_r stands (continuations_stand (normal t)) in
      let b = same a (ap (λ l. l ++ from_r) (counted-map continuation_words normal_continuation t.continuations)) in
      to b (omega (arith, accepts_size))

  all_words : HEADER-NUMBERS + length words ≡ continuations_place t + HEADER-NUMBERS + length (counted continuation_kept t.continuations)
  all_words = omega (arith, words_size t, same_length continuation_kept continuation_words continuation_size t.continuations)

  in_runs : At w (HEADER-NUMBERS + length words) from_r
  in_runs = to (on (words_of (normal t)) from_r stands) (ap (λ m. HEADER-NUMBERS + m) (normal_size t))

  in_wide : At w (HEADER-NUMBERS + length words + length t.runs) from_w
  in_wide = to (on R from_w in_runs) (ap (λ m. HEADER-NUMBERS + length words + m) (offsets-length run_words t.runs (runs_place t + 1)))

  in_accept_places : At w (HEADER-NUMBERS + length words + length t.runs + length t.wide) from_p
  in_accept_places =
      to (on W from_p in_wide) (ap (λ m. HEADER-NUMBERS + length words + length t.runs + m) (offsets-length wide_words t.wide (wide_place t + 1)))

  in_escape_places : At w (HEADER-NUMBERS + length words + length t.runs + length t.wide + length t.accepts) from_q
  in_escape_places = to (on P from_q in_accept_places)
      (ap (λ m. HEADER-NUMBERS + length words + length t.runs + length t.wide + m) (offsets-length accept_words t.accepts (accepts_place t + 1)))

  in_continuation_places : At w (HEADER-NUMBERS + length words + length t.runs + length t.wide + length t.accepts + length t.escapes) (S ++ Z)
  in_continuation_places = to (on Q (S ++ Z) in_escape_places)
      (ap (λ m. HEADER-NUMBERS + length words + length t.runs + length t.wide + length t.accepts + m)
      (offsets-length escape_words t.escapes (escapes_place t + 1)))

  -- there are no more modes and states than words
  modes_few : length t.modes ≤ 8192
  modes_few = omega (
    arith,
    limit,
    at_length (modes_stand t),
    length-append (counted mode_words t.modes) (from_states t),
    sized mode_words 1 t.modes (all_of (λ m. length (mode_words m) ≡ 1) (λ m. refl) t.modes),
  )

  states_few : length t.states ≤ 8192
  states_few = omega (
    arith,
    limit,
    at_length (states_stand t),
    length-append (counted state_words t.states) (from_runs t),
    sized state_words 4 t.states (all_of (λ x. length (state_words x) ≡ 4) (λ x. refl) t.states),
  )

  -- the room holds the table
  pub held : Held t w
  unfolding normal
  held =
      let g = heads in
      let c : HEADER-NUMBERS + length words ≡ words_end w = ap (λ m. HEADER-NUMBERS + m) (sym g.0) in
      record {
        long = omega (arith, at_length in_runs);
        few_modes = modes_few;
        few_states = states_few;
        modes = moved (record {
          post = _;
          stands = nested (counted mode_words t.modes) (from_states (normal t)) from_r stands (modes_stand (normal t));
          ends = omega arith;
        }) (sym g.1) (sym g.2);
        states = moved (record {
          post = _;
          stands = nested (counted state_words t.states) (from_runs (normal t)) from_r stands (states_stand (normal t));
          ends = omega arith;
        }) (sym g.2) (sym g.3);
        runs = moved (record {
          post = _;
          stands = nested (counted run_words t.runs) (from_ascii (normal t)) from_r stands (runs_stand (normal t));
          ends = omega arith;
        }) (sym g.3) (sym g.4);
        ascii = moved (record {
          post = _;
          stands = nested (counted ascii_words t.ascii) (from_wide (normal t)) from_r stands (ascii_stand (normal t));
          ends = omega arith;
        }) (sym g.4) (sym g.5);
        wide = moved (record {
          post = _;
          stands = nested (counted wide_words t.wide) (from_accepts (normal t)) from_r stands (wide_stand (normal t));
          ends = omega arith;
        }) (sym g.5) (sym g.6);
        accepts = moved (record { post = _; stands = in_accepts; ends = omega (arith, same_length accept_kept accept_words accept_size t.accepts) })
            (sym g.6) (sym g.7);
        escapes = moved (record { post = _; stands = in_escapes; ends = omega arith }) (sym g.7) (sym g.8);
        continuations = moved (record { post = _; stands = in_continuations; ends = all_words }) (sym g.8) c;
        run_places = listed run_words run_words t.runs (runs_place t) from_w (λ y. refl) in_runs c (sym g.3);
        wide_places = listed wide_words wide_words t.wide (wide_place t) from_p (λ y. refl) in_wide (ap (λ m. m + length t.runs) c) (sym g.5);
        accept-places = listed accept_words accept_kept t.accepts (accepts_place t) from_q accept_size in_accept_places
            (ap (λ m. m + length t.runs + length t.wide) c) (sym g.6);
        escape_places = listed escape_words escape_words t.escapes (escapes_place t) (S ++ Z) (λ y. refl) in_escape_places
            (ap (λ m. m + length t.runs + length t.wide + length t.accepts) c) (sym g.7);
        continuation-places = listed continuation_words continuation_kept t.continuations (continuations_place t) Z continuation_size in_continuation_places
            (ap (λ m. m + length t.runs + length t.wide + length t.accepts + length t.escapes) c) (sym g.8);
      }
