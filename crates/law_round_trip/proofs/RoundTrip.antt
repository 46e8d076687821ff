-- Demand 2: encode after decode gives the words with nonzero flags made 1; decoding those gives the same room, number for number; and
-- every room that encoding accepts comes from decoding. Assumes nothing.
use Prim.Native.Nat.{ℕ, ◌+◌, ◌-◌, ◌≤◌, ◌<◌}
use native.Mathlib.Omega.{arith}
use mathlib.Core.Path.{◌≡◌, refl, sym, ap, subst, ◌∙◌}
use mathlib.Core.List.{List, ◌++◌, append_assoc}
use mathlib.Core.Bool.{true}
use lib.ListN.{length, take, length-map, length-append, length-replicate}
use lib.Seq.{take_at}
use borrow.Author.Tests.{le-ltb, eq-eqb}
use Rattle.std.specs.Prelude.{Ok}
use Rattle.refusal.proofs.Lists.{equal_same}
use Rattle.buffer.specs.Over.{zeros, padded}
use Rattle.room_fill.specs.Room.{room_for}
use Rattle.room_fill.proofs.Sizes.{numbers-length}
use Rattle.room_decode.specs.Decode.{Decoding, judged, decoded_from, decode_of, kept_from, room_of}
use Rattle.room_judge.specs.Judge.{words_part, accepted, is_table}
use Rattle.room_judge.proofs.Tables.{laid, accepted_table}
use Rattle.room_encode.specs.Encode.{encode_of, out_of}
use Rattle.law_tables.specs.Table.{Table, Fields, All, words_of, run_words, wide_words, accept_words, escape_words, continuation_words}
use Rattle.law_tables.specs.Whole.{Fit}
use Rattle.law_tables.specs.Places.{runs_place, wide_place, accepts_place, escapes_place, continuations_place, broken_of}
use Rattle.law_tables.specs.Rules.{Rules, Good, NoneOr, Searchable, Numbered, RefersBelow}
use Rattle.law_tables.proofs.Codec.{at_head}
use Rattle.law_tables.proofs.Placed.{modes_stand, states_stand}
use Rattle.law_tables.proofs.Obeyed.{obeys_accepted}
use Rattle.law_tables.specs.Normal.{normal_accept, normal_config, normal_continuation, normal}
use Rattle.law_round_trip.specs.Trip.{Trip, Left}
use Rattle.law_tables.proofs.Normal.{all_to, normal-fields, normal_size, offsets, numbers_of, numbers_are, same_numbers}
use Rattle.std.specs.Prelude.{Ok}

-- The rules do not look at flags

normal-rules : (t : Table) → Rules t → Rules (normal t)
unfolding normal
normal-rules t r =
    let a = sym (length-map t.accepts normal_accept) in
    let c = sym (length-map t.continuations normal_continuation) in
    record {
      rule1 = r.rule1;
      rule2 = subst (λ n.
          All (λ s. (s.ascii < length t.ascii) × (s.wide < length t.wide) × Good t s.eof × NoneOr n s.accept) t.states) a r.rule2;
      rule3 = r.rule3;
      rule4 = r.rule4;
      rule5 = r.rule5;
      rule6 = r.rule6;
      rule7 = r.rule7;
      rule8 = subst (λ n. All (λ e. NoneOr n e.eof × Searchable e.ranges × All (λ r. r.goal < n) e.ranges) t.escapes) c r.rule8;
      rule9 = all_to (λ k. Numbered RefersBelow 1 k.contexts × All (λ g. g.context ≤ length k.contexts) k.configs)
          (λ k. Numbered RefersBelow 1 k.contexts × All (λ g. g.context ≤ length k.contexts) k.configs) normal_continuation
          (λ x v. (v.0, all_to (λ g. g.context ≤ length x.contexts) (λ g. g.context ≤ length x.contexts) normal_config (λ y h. h) x.configs v.1))
          t.continuations r.rule9;
    }

-- A table that obeys the rules, decoded

-- its numbers, for n words
abbrev told : Table → ℕ → Decoding
told t n = Ok (record { modes = length t.modes; states = length t.states; words = n })

module _ (t : Table) (h : Fields t) (r : Rules t) (l : length (words_of t) ≤ 8192) (n : ℕ) (room : 16384 ≤ n) where
  table_decoded : decode_of (words_of t) n ≡ told t (length (words_of t))
  unfolding decoded_from judged
  table_decoded =
      let m = at_head (modes_stand t) in
      let s = at_head (states_stand t) in
      rw (laid t h r l n room, eq-eqb (broken_of t) 0 (obeys_accepted t h l r).1, m, s)

  table_room : room_of (words_of t) n ≡ padded n (numbers_of t)
  unfolding kept_from room_for
  table_room = rw (laid t h r l n room, eq-eqb (broken_of t) 0 (obeys_accepted t h l r).1) (ap (padded n) (numbers_are t h))

-- The room of a table's numbers

words_part_lem : (t : Table) (n : ℕ) → words_part (padded n (numbers_of t)) ≡ words_of (normal t)
unfolding words_part padded numbers_of
words_part_lem t n =
    let z = zeros (n - length (numbers_of t)) in
    let places = offsets run_words t.runs (runs_place t + 1) ++ (offsets wide_words t.wide (wide_place t + 1)
    ++ (offsets accept_words t.accepts (accepts_place t + 1)
    ++ (offsets escape_words t.escapes (escapes_place t + 1) ++ offsets continuation_words t.continuations (continuations_place t + 1)))) in
    ap (take (length (words_of t))) (append_assoc (words_of (normal t)) places z)
    ∙ take_at (words_of (normal t)) (places ++ z) (length (words_of t)) (normal_size t)

padded-length : (n : ℕ) (xs : List ℕ) → length xs ≤ n → length (padded n xs) ≡ n
unfolding padded
padded-length n xs h = omega (arith, length-append xs (zeros (n - length xs)), length-replicate {A = ℕ} (n - length xs) 0)

-- There and back

module _ (t : Table) (h : Fields t) (r : Rules t) (l : length (words_of t) ≤ 8192) (n : ℕ) (room : 16384 ≤ n) where
  normal_limit : length (words_of (normal t)) ≤ 8192
  normal_limit = omega (arith, normal_size t)

  room_again : room_of (words_of (normal t)) n ≡ room_of (words_of t) n
  room_again = table_room (normal t) (normal-fields t h) (normal-rules t r) normal_limit n room ∙ ap (padded n) (same_numbers t)
      ∙ sym (table_room t h r l n room)

  decoded_again : decode_of (words_of (normal t)) n ≡ decode_of (words_of t) n
  unfolding normal
  decoded_again =
      table_decoded (normal t) (normal-fields t h) (normal-rules t r) normal_limit n room
      ∙ ap (told t) (normal_size t) ∙ sym (table_decoded t h r l n room)

  room-part : words_part (room_of (words_of t) n) ≡ words_of (normal t)
  room-part = ap words_part (table_room t h r l n room) ∙ words_part_lem t n

  room_size : length (room_of (words_of t) n) ≡ n
  room_size =
      let f = numbers-length (words_of t) (obeys_accepted t h l r).0 in
      let k = ap length (numbers_are t h) in
      ap length (table_room t h r l n room) ∙ padded-length n (numbers_of t) (omega (arith, f, k))

  room-held : is_table (room_of (words_of t) n) ≡ true
  unfolding is_table
  room-held = rw (room-part, room_size, decoded_again, table_decoded t h r l n room, room_again) (equal_same (room_of (words_of t) n))

  room_encoded : (k : ℕ) → length (words_of t) ≤ k → encode_of (room_of (words_of t) n) k ≡ Ok (length (words_of t))
  unfolding encode_of
  room_encoded k i =
      let j : length (words_of (normal t)) ≤ k = omega (arith, normal_size t) in
      rw (room-held, room-part, le-ltb k (length (words_of (normal t))) j) (ap Ok (normal_size t))

  room_out : (k : ℕ) → length (words_of t) ≤ k → out_of (room_of (words_of t) n) k ≡ padded k (words_of (normal t))
  unfolding out_of
  room_out k i =
      let j : length (words_of (normal t)) ≤ k = omega (arith, normal_size t) in
      rw (room-held, room-part, le-ltb k (length (words_of (normal t))) j)

  table_trip : Trip (words_of t) n
  table_trip = record {
    table = t;
    fields = h;
    rules = r;
    words = refl;
    held = room-held;
    part = room-part;
    encoded = room_encoded;
    out = room_out;
    again = decoded_again;
    room = room_again;
  }

-- "Encode after decode gives the words with nonzero flags made 1; decoding those gives the same room"
pub round_trip : (w : List ℕ) (n : ℕ) → Fit w → accepted (decode_of w n) ≡ true → Trip w n
round_trip w n f h =
    let t = accepted_table w n f h in
    subst (λ u. Trip u n) (sym t.3) (table_trip t.0 t.1 t.2 (subst (λ u. length u ≤ 8192) t.3 t.4) n t.5)

-- no room that decoding leaves for accepted words is refused
pub left-held : (w d : List ℕ) → Fit w → Left w d → is_table d ≡ true
left-held w d f (h, e) = subst (λ u. is_table u ≡ true) (sym e) (round_trip w (length d) f h).held
