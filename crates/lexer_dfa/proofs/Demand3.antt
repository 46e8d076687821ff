-- DEMAND 3, over the calls' own contracts: a row call that is asked as document 01 says answers rows, in which the target and the continuation looked up at
-- each point are those given for exactly the transitions that hold it; complements flip every bit; and builds that answer the same have the same rows.
-- Assumes nothing.
use Prim.Native.Nat.{ℕ, suc, ◌*◌, ◌-◌, ◌≤◌, ◌<◌}
use native.Mathlib.Omega.{arith}
use mathlib.Core.Path.{◌≡◌, refl, sym, ap, ap₂, subst, ◌∙◌}
use mathlib.Core.Bool.{true}
use mathlib.Core.List.{List, [], ◌∷◌, ◌++◌}
use lib.ListN.{length, get_or, take}
use lib.Seq.{get_or-take}
use Rattle.std.specs.Borrow.{Bor, MutBor}
use borrow.Author.Tests.{lt-ltb, le-ltb, eq-eqb}
use Rattle.refusal.specs.Said.{ok}
use Rattle.refusal.specs.Fixed.{NONE, DEAD-STATE}
use Rattle.buffer.specs.Over.{zeros, padded}
use Rattle.law_tables.specs.Table.{Table}
use Rattle.law_tables.proofs.Codec.{At}
use Rattle.law_lookups.specs.Looks as table
use Rattle.law_lookups.specs.Looks.{goal_at, state_of, of_state}
use Rattle.list_transitions.specs.Transition.{Transition, Complement}
use Rattle.list_transitions.specs.Read.{Parsed, parsed, refused, parse, is_parsed, accepted}
use Rattle.list_transitions.proofs.Accepted.{listed}
use Rattle.list_transitions.proofs.Order.{le_cases}
use Rattle.list_segments.specs.Segments.{cuts_of, starts, segments}
use Rattle.list_segments.specs.Answer.{parse_for, segments_in}
use Rattle.list_masks.specs.declared.Masks.{Masks}
use Rattle.list_masks.specs.Masks.{words_for, flat, matrix, distinct_of}
use Rattle.list_masks.specs.Answer as masks
use Rattle.list_masks.specs.Answer.{parse_masks, parse_distinct, masks_in, Matrix, Distinct}
use Rattle.list_masks.proofs.Packs.{length_masks}
use Rattle.list_distinct.proofs.PlaceAnswers.{accepted_list}
use Rattle.law_rows.specs.Row.{numbers}
use Rattle.law_rows.specs.Build.{target_row, ascii_of, wide_of, escape_of}
use Rattle.law_rows.specs.Demand as law
use Rattle.law_rows.proofs.Parts.{length-values}
use Rattle.law_rows.proofs.Looks.{accepted_looked, mask_exact}
use Rattle.law_rows.proofs.Flips.{segment_mask_lem, flipped}
use Rattle.law_rows.proofs.SameRows.{same_rows, wide_searchable, escape_searchable}
use Rattle.law_rows.proofs.Goals.{wide_given, escape_given}
use Rattle.row_build.specs.declared.Rows.{Rows}
use Rattle.row_build.specs.Answer.{said, Lent, lent, too_short, with_rows, parse_rows, counted, ascii_in, wide_in, escape_in, Builds}
use Rattle.row_build.proofs.Joining.{length-numbers}
use Rattle.row_build.proofs.Asking.{rows_asked}
use Rattle.lexer_dfa.specs.Demand3.{ListAccepted, list_of, words_per_mask, bit_at, RowArgs, RowsLeft, BuildAnswers, Asked, searched_for, target_at}
use Rattle.lexer_dfa.specs.Demand3.{cont_at, Placed, RowsKept, RowsIn, SameLookups, SameAnswers, SameRows, MatrixAnswers, point_bit}
use Rattle.lexer_dfa.specs.Demand3.{MasksAsked, MasksKept, Flipped, DistinctAnswers, MasksAgree}
use Rattle.lexer_dfa.proofs.Buffers.{padded_at, padded-front, padded-stands, searched_is, searched-front, length-distinct, bit-distinct, bit-holds}
use Rattle.std.specs.Prelude.{Result, Ok, Err}
use Rattle.refusal.specs.declared.Refusal.{Refusal}

-- The rows of a list, as they stand in the buffers

pub record Laid (ts : List Transition) (targets conts : List ℕ) (n m : ℕ) (l : RowsLeft) : Type 0 where
  pub wide_count : n ≡ length (numbers (wide_of ts targets))
  pub escape_count : m ≡ length (numbers (escape_of ts targets conts))
  pub distinct-room : ℕ
  pub distinct_is : l.distinct ≡ padded distinct-room (flat (distinct_of ts))
  pub ascii_room : ℕ
  pub ascii_is : l.ascii ≡ padded ascii_room (ascii_of ts targets)
  pub wide_room : ℕ
  pub wide_is : l.wide ≡ padded wide_room (numbers (wide_of ts targets))
  pub escape_room : ℕ
  pub escape_is : l.escape ≡ padded escape_room (numbers (escape_of ts targets conts))

module _ {ts : List Transition} {targets conts : List ℕ} {n m : ℕ} {l : RowsLeft} (s : Laid ts targets conts n m l) where
  -- what is looked up there is what the laws on rows look up
  target_is : (p : ℕ) → target_at l n p ≡ law.target_at ts targets p
  target_is p =
      le_cases 128 p
      (λ h.
      rw (le-ltb p 128 h)
      (ap₂ (λ (k : ℕ) (b : List ℕ). searched_for DEAD-STATE b k p) s.wide_count s.wide_is ∙ searched_is DEAD-STATE s.wide_room (wide_of ts targets) p))
      (λ h.
      let k : p < length (ascii_of ts targets) = omega (arith, length-values (goal_at DEAD-STATE (target_row ts targets)) 0 128) in
      rw (lt-ltb p 128 h) (ap (λ (b : List ℕ). get_or b p 0) s.ascii_is ∙ padded_at s.ascii_room (ascii_of ts targets) p k))

  cont_is : (p : ℕ) → cont_at l m p ≡ law.cont_at ts targets conts p
  cont_is p =
      ap₂ (λ (k : ℕ) (b : List ℕ). searched_for NONE b k p) s.escape_count s.escape_is ∙ searched_is NONE s.escape_room (escape_of ts targets conts) p

  bit_is : (k i : ℕ) → k < length (distinct_of ts) → i < length ts → bit_at l.distinct (k * words_for (length ts)) i ≡ law.mask_bit (get_or (distinct_of ts) k []) i
  bit_is k i h j = ap (λ (b : List ℕ). bit_at b (k * words_for (length ts)) i) s.distinct_is ∙ bit-distinct ts s.distinct-room k i h j

  ascii_front : take 128 l.ascii ≡ ascii_of ts targets
  ascii_front =
      let size : 128 ≡ length (ascii_of ts targets) = sym (length-values (goal_at DEAD-STATE (target_row ts targets)) 0 128) in
      ap₂ (λ (k : ℕ) (b : List ℕ). take k b) size s.ascii_is ∙ padded-front s.ascii_room (ascii_of ts targets)

  wide_front : take n l.wide ≡ numbers (wide_of ts targets)
  wide_front = ap₂ (λ (k : ℕ) (b : List ℕ). take k b) s.wide_count s.wide_is ∙ padded-front s.wide_room (numbers (wide_of ts targets))

  escape_front : take m l.escape ≡ numbers (escape_of ts targets conts)
  escape_front = ap₂ (λ (k : ℕ) (b : List ℕ). take k b) s.escape_count s.escape_is ∙ padded-front s.escape_room (numbers (escape_of ts targets conts))

-- What the row call answers

-- where it answers rows, they are those of a list
module _ {n m : ℕ} {given : Lent} {seg masks : List ℕ} {l : RowsLeft} {targets conts : List ℕ} where
  pub built_laid : (ts : List Transition) → Builds (Ok (record { wide = n; escape = m })) given seg masks l.distinct l.ascii l.wide l.escape targets conts (parsed ts) →
      Laid ts targets conts n m l
  unfolding counted masks_in ascii_in wide_in escape_in
  built_laid ts b =
      let e = b.says in
      record {
        wide_count = cc;
        escape_count = cc;
        distinct-room = given.distinct;
        distinct_is = b.once;
        ascii_room = given.ascii;
        ascii_is = b.narrow;
        wide_room = given.wide;
        wide_is = b.broad;
        escape_room = given.escape;
        escape_is = b.escapes;
      }

  some_laid : (x : Parsed) → Builds (Ok (record { wide = n; escape = m })) given seg masks l.distinct l.ascii l.wide l.escape targets conts x →
      (ts : List Transition) × Laid ts targets conts n m l
  unfolding counted
  some_laid (parsed ts) b = (ts, built_laid ts b)
  some_laid (refused k p) b = let e = b.says in let z : ◌≡◌ {A = ℕ} 0 1 = cc in absurd (omega arith)

-- the answer, where the list is accepted
record Told (targets conts : List ℕ) (ts : List Transition) (x : Result Rows Refusal) : Type 0 where
  wide : ℕ
  escape : ℕ
  is : x ≡ Ok (record { wide = wide; escape = escape })

told : {targets conts : List ℕ} {ts : List Transition} (x : Result Rows Refusal) → said x ≡ counted targets conts (parsed ts) → Told targets conts ts x
unfolding counted
told (Ok r) e = record { wide = r.wide; escape = r.escape; is = refl }
told (Err r) e = let z : ◌≡◌ {A = ℕ} 0 1 = cc in absurd (omega arith)

parsed_is : (x : Parsed) → is_parsed x ≡ true → x ≡ parsed (accepted x)
unfolding is_parsed accepted
parsed_is (parsed ts) e = refl
parsed_is (refused k p) e = let z : ◌≡◌ {A = ℕ} 0 1 = cc in absurd (omega arith)

-- a list that is asked for as document 01 says is not refused
masks_parsed : (s n : ℕ) (w : List ℕ) → 4096 ≤ s → 8192 ≤ n → ListAccepted w → parse_masks s n w ≡ parsed (list_of w)
unfolding parse_masks parse_for
masks_parsed s n w a b g = rw (le-ltb n 8192 b, le-ltb s 4096 a) (parsed_is (parse w) g)

distinct_parsed : (s n d : ℕ) (w : List ℕ) → 4096 ≤ s → 8192 ≤ n → 8192 ≤ d → ListAccepted w → parse_distinct s n d w ≡ parsed (list_of w)
unfolding parse_distinct
distinct_parsed s n d w a b c g = rw (le-ltb d 8192 c) (masks_parsed s n w a b g)

rows_parsed : (l : Lent) (targets conts : List ℕ) (ts : List Transition) → length targets ≡ length (distinct_of ts) → length conts ≡ length (distinct_of ts) →
    128 ≤ l.ascii → 6144 ≤ l.wide → 6144 ≤ l.escape →
    with_rows (length targets) (length conts) (too_short l.ascii l.wide l.escape) (parsed ts) ≡ parsed ts
unfolding with_rows
rows_parsed l targets conts ts t c x y z =
    rw (
      eq-eqb (length targets) (length (distinct_of ts)) t,
      eq-eqb (length conts) (length (distinct_of ts)) c,
      le-ltb l.ascii 128 x,
      le-ltb l.wide 6144 y,
      le-ltb l.escape 6144 z,
    )

abbrev lent_by : RowArgs → Lent
lent_by a = lent a.segments.now a.masks.now a.distinct.now a.ascii.now a.wide.now a.escape.now

asked_parsed : (a : RowArgs) → Asked a → parse_rows (lent_by a) a.list.now a.targets.now a.conts.now ≡ parsed (list_of a.list.now)
asked_parsed a q =
    ap (with_rows (length a.targets.now) (length a.conts.now) (too_short (length a.ascii.now) (length a.wide.now) (length a.escape.now)))
    (distinct_parsed (length a.segments.now) (length a.masks.now) (length a.distinct.now) a.list.now q.segments-room q.masks_room
    q.distinct-room q.accepted)
    ∙ rows_parsed (lent_by a) a.targets.now a.conts.now (list_of a.list.now) q.a_target_each q.a_continuation_each q.ascii_room
    q.wide_room q.escape_room

-- the call's own contract, over what it left
pub record Given (a : RowArgs) (x : Result Rows Refusal) (l : RowsLeft) : Type 0 where
  pub segments : List ℕ
  pub masks : List ℕ
  pub built : Builds x (lent_by a) segments masks l.distinct l.ascii l.wide l.escape a.targets.now a.conts.now
      (parse_rows (lent_by a) a.list.now a.targets.now a.conts.now)

pub given : (a : RowArgs) (x : Result Rows Refusal) (l : RowsLeft) → BuildAnswers a x l → Given a x l
given a x l b = record { segments = b.1.1.1.1.0.now; masks = b.1.1.1.1.1.0.now; built = rw (b.3, b.4, b.5, b.6) at b.2 }

-- Rows of an accepted list, with as many targets as it has distinct masks

module _ (w targets conts : List ℕ) (good : ListAccepted w) (each : length targets ≡ length (distinct_of (list_of w))) {n m : ℕ} {l : RowsLeft}
    (s : Laid (list_of w) targets conts n m l) where
  laid_placed : (p : ℕ) → law.Placed (list_of w) targets conts p → Placed w targets conts n m l p
  laid_placed p h =
      record {
        place = h.place;
        within = omega (arith, h.within, each);
        exactly = λ i j. bit_is s h.place i h.within j ∙ h.exactly i j;
        alone = λ k g e. let there : k < length (distinct_of (list_of w)) = omega (arith, each) in h.alone k there (λ i j. sym (bit_is s k i there j) ∙ e i j);
        target = target_is s p ∙ h.target;
        cont_dead = λ e. cont_is s p ∙ h.cont_dead e;
        cont_live = λ e. cont_is s p ∙ h.cont_live e;
      }

  pub laid_kept : RowsKept w targets conts (Ok (record { wide = n; escape = m })) l
  laid_kept =
      let looked = accepted_looked w good targets conts in
      record {
        wide = n;
        escape = m;
        answer = refl;
        held = λ p h i j y. laid_placed p (looked.held p h i j y);
        unheld = λ p h none. let d = looked.unheld p h none in record { target = target_is s p ∙ d.target; cont = cont_is s p ∙ d.cont };
        wide_stands =
            record {
              ranges = wide_of (list_of w) targets;
              as_many = s.wide_count ∙ length-numbers (wide_of (list_of w) targets);
              are = wide_front s;
              searchable = wide_searchable (list_of w) targets;
              goals_given = wide_given (list_of w) targets;
            };
        escape_stands =
            record {
              ranges = escape_of (list_of w) targets conts;
              as_many = s.escape_count ∙ length-numbers (escape_of (list_of w) targets conts);
              are = escape_front s;
              searchable = escape_searchable (list_of w) targets conts;
              goals_given = escape_given (list_of w) targets conts;
            };
      }

-- THEOREM: "For any accepted transition list and one target per distinct mask, the target looked up at each code point .."
pub rows_kept : (a : RowArgs) → Asked a → (x : Result Rows Refusal) (l : RowsLeft) → BuildAnswers a x l → RowsKept a.list.now a.targets.now a.conts.now x l
rows_kept a q x l b =
    let w = a.list.now in
    let targets = a.targets.now in
    let conts = a.conts.now in
    let f = given a x l b in
    let h = subst (λ (y : Parsed). Builds x (lent_by a) f.segments f.masks l.distinct l.ascii l.wide l.escape targets conts y)
    (asked_parsed a q) f.built in
    let t = told x h.says in
    let g = subst (λ (y : Result Rows Refusal).
    Builds y (lent_by a) f.segments f.masks l.distinct l.ascii l.wide l.escape targets conts (parsed (list_of w))) t.is h in
    subst (λ (y : Result Rows Refusal). RowsKept w targets conts y l) (sym t.is) (laid_kept w targets conts q.accepted q.a_target_each (built_laid (list_of w) g))

-- THEOREM: "Two builds whose rows answer the same target and continuation at every point have the same rows, number for number."
pub rows_one : (a b : RowArgs) (n m : ℕ) (l : RowsLeft) (n' m' : ℕ) (k : RowsLeft) → BuildAnswers a (Ok (record { wide = n; escape = m })) l → BuildAnswers b (Ok (record { wide = n'; escape = m' })) k →
    SameAnswers n m l n' m' k → SameRows n m l n' m' k
rows_one a b n m l n' m' k x y e =
    let f = some_laid _ (given a (Ok (record { wide = n; escape = m })) l x).built in
    let g = some_laid _ (given b (Ok (record { wide = n'; escape = m' })) k y).built in
    let s = f.1 in
    let t = g.1 in
    let same =
    same_rows f.0 g.0 a.targets.now b.targets.now a.conts.now b.conts.now
    (record {
      targets_same = λ p h. sym (target_is s p) ∙ e.targets p h ∙ target_is t p;
      conts_same = λ p h. sym (cont_is s p) ∙ e.conts p h ∙ cont_is t p;
    }) in
    record {
      wide_as_many = s.wide_count ∙ ap length same.wide ∙ sym t.wide_count;
      escape_as_many = s.escape_count ∙ ap length same.escape ∙ sym t.escape_count;
      ascii = ascii_front s ∙ same.ascii ∙ sym (ascii_front t);
      wide = wide_front s ∙ same.wide ∙ sym (wide_front t);
      escape = escape_front s ∙ same.escape ∙ sym (escape_front t);
    }

-- THEOREM: where the rows stand in a table, `char_target` and `char_continuation` answer what was looked up in the buffers
pub rows_in_table : (a : RowArgs) (n m : ℕ) (l : RowsLeft) → BuildAnswers a (Ok (record { wide = n; escape = m })) l → (t : Table) (s : ℕ) → RowsIn t s n m l → SameLookups t s n m l
rows_in_table a n m l x t s i =
    let b = (some_laid _ (given a (Ok (record { wide = n; escape = m })) l x).built).1 in
    let wides : n ≡ length (numbers (get_or t.wide (state_of t s).wide [])) = b.wide_count ∙ ap length (sym (wide_front b) ∙ sym i.wide) in
    let escapes : m ≡ length (numbers (table.escape_of t s).ranges) = b.escape_count ∙ ap length (sym (escape_front b) ∙ sym i.escape) in
    record {
      target = λ p.
          ap (of_state t s)
          (le_cases 128 p
          (λ h. rw (le-ltb p 128 h) (sym (searched-front DEAD-STATE l.wide n (get_or t.wide (state_of t s).wide []) p wides i.wide)))
          (λ h. rw (lt-ltb p 128 h) (ap (λ (r : List ℕ). get_or r p 0) i.ascii ∙ get_or-take 128 l.ascii p 0 h)));
      cont = λ p. ap (of_state t s) (sym (searched-front NONE l.escape m (table.escape_of t s).ranges p escapes i.escape));
    }

-- Masks

counted_masks : {n k : ℕ} (x : Result Masks Refusal) → masks.said x ≡ ok (n ∷ k ∷ []) → x ≡ Ok (record { masks = n; words = k })
counted_masks {n} {k} (Ok c) e =
    let a : c.masks ≡ n = cc in
    let b : c.words ≡ k = cc in
    ap₂ {C = Result Masks Refusal} (λ m w. Ok (record { masks = m; words = w })) a b
counted_masks (Err r) e = let z : ◌≡◌ {A = ℕ} 0 1 = cc in absurd (omega arith)

matrix_kept : (w : List ℕ) (x : Result Masks Refusal) (n k : ℕ) (s m : List ℕ) → ListAccepted w → Matrix x n s k m (parsed (list_of w)) → MasksKept w x s m
unfolding masks.counted segments_in masks_in
matrix_kept w x n k s m good h =
    let ts = list_of w in
    let many : length (matrix ts) ≡ length (starts (cuts_of ts)) = length_masks ts (starts (cuts_of ts)) in
    record {
      count = length (matrix ts);
      answer = counted_masks x h.says;
      bits = λ p i g l.
          ap (λ (c : ℕ). point_bit s m c (words_per_mask w) p i) many
          ∙ bit-holds ts s m p i l (listed w good).order g (zeros (n - length (segments (cuts_of ts)))) (zeros (k - length (flat (matrix ts))))
          (subst (λ (b : List ℕ). At b 0 (segments (cuts_of ts) ++ zeros (n - length (segments (cuts_of ts))))) (sym h.low_high)
          (padded-stands n (segments (cuts_of ts))))
          (subst (λ (b : List ℕ). At b 0 (flat (matrix ts) ++ zeros (k - length (flat (matrix ts))))) (sym h.leaves) (padded-stands k (flat (matrix ts))));
    }

-- THEOREM: "Mask bit i is set where transition i holds the segment", and so at every point
pub masks_kept : (list : Bor (List ℕ)) (segments masks : MutBor (List ℕ)) → MasksAsked list segments masks → (x : Result Masks Refusal) (s m : List ℕ) → MatrixAnswers list segments masks x s m →
    MasksKept list.now x s m
masks_kept list segments masks q x s m b =
    let w = list.now in
    let g = rw (b.3, b.4) at b.2 in
    matrix_kept w x (length segments.now) (length (masks).now) s m q.accepted
    (subst (λ (y : Parsed). Matrix x (length segments.now) s (length (masks).now) m y)
    (masks_parsed (length segments.now) (length (masks).now) w q.segments-room q.masks_room q.accepted) g)

-- complements are equally long
complement_length : (ts us : List Transition) → Complement ts us → length ts ≡ length us
complement_length [] [] c = refl
complement_length [] (u ∷ us) c = absurd c
complement_length (t ∷ ts) [] c = absurd c
complement_length (t ∷ ts) (u ∷ us) c = ap suc (complement_length ts us c.1)

-- THEOREM: "If two accepted lists are complements place by place, each transition's bit is flipped at every point."
pub masks_flipped : (list : Bor (List ℕ)) (segments masks : MutBor (List ℕ)) → MasksAsked list segments masks → (x : Result Masks Refusal) (s m : List ℕ) →
    MatrixAnswers list segments masks x s m →
    (list' : Bor (List ℕ)) (segments' masks' : MutBor (List ℕ)) → MasksAsked list' segments' masks' → (y : Result Masks Refusal) (s' m' : List ℕ) → MatrixAnswers list' segments' masks' y s' m' →
    Complement (list_of list.now) (list_of list'.now) → Flipped list.now x s m list'.now y s' m'
masks_flipped list segments masks q x s m b list' segments' masks' q' y s' m' b' c =
    let v = list.now in
    let w = list'.now in
    let first = masks_kept list segments masks q x s m b in
    let second = masks_kept list' segments' masks' q' y s' m' b' in
    let many = complement_length (list_of v) (list_of w) c in
    let order = (listed v q.accepted).order in
    let order' = (listed w q'.accepted).order in
    record {
      first = first;
      second = second;
      as_many = many;
      flips = λ p i h l.
          let l' : i < length (list_of w) = omega (arith, many) in
          let one = ap (λ (k : List ℕ). law.mask_bit k i) (segment_mask_lem (list_of v) p order h) ∙ mask_exact (list_of v) p i l in
          let two = ap (λ (k : List ℕ). law.mask_bit k i) (segment_mask_lem (list_of w) p order' h) ∙ mask_exact (list_of w) p i l' in
          second.bits p i h l' ∙ sym two ∙ flipped (list_of v) (list_of w) order order' c p i h l ∙ ap (λ (k : ℕ). 1 - k) (one ∙ sym (first.bits p i h l));
    }

-- The masks that a caller is told of, and those by which it gives targets

-- the row call answers rows of a list that was read, with as many targets and continuations as it has distinct masks
pub built_parsed : {n m : ℕ} {given : Lent} {seg masks : List ℕ} {l : RowsLeft} {targets conts : List ℕ} (x : Parsed) →
    Builds (Ok (record { wide = n; escape = m })) given seg masks l.distinct l.ascii l.wide l.escape targets conts x → (ts : List Transition) × (x ≡ parsed ts)
unfolding counted
built_parsed (parsed ts) b = (ts, refl)
built_parsed (refused k p) b = let e = b.says in let z : ◌≡◌ {A = ℕ} 0 1 = cc in absurd (omega arith)

-- the call for distinct masks answers those of a list that was read
record Counted (n k : ℕ) (r : ℕ) (d : List ℕ) (x : Parsed) : Type 0 where
  ts : List Transition
  is : x ≡ parsed ts
  count : n ≡ length (distinct_of ts)
  words : k ≡ words_for (length ts)
  stands : d ≡ padded r (flat (distinct_of ts))

counted_parsed : {n k s : ℕ} {seg : List ℕ} {j : ℕ} {masks : List ℕ} (r : ℕ) {d : List ℕ} (x : Parsed)
    → Distinct (Ok (record { masks = n; words = k })) s seg j masks r d x → Counted n k r d x
unfolding masks.counted masks_in
counted_parsed r (parsed ts) b = let e = b.says in record { ts = ts; is = refl; count = cc; words = cc; stands = b.leaves }
counted_parsed r (refused k p) b = let e = b.says in let z : ◌≡◌ {A = ℕ} 0 1 = cc in absurd (omega arith)

one_list : {ts us : List Transition} → parsed ts ≡ parsed us → ts ≡ us
one_list e = cc

-- THEOREM: the masks that `distinct_masks` tells of a list are those by which `build_rows` was given targets and continuations for it
pub masks_agree : (list : Bor (List ℕ)) (segments masks out : MutBor (List ℕ)) (n k : ℕ) (d : List ℕ) → DistinctAnswers list segments masks out (Ok (record { masks = n; words = k })) d →
    (a : RowArgs) (w e : ℕ) (l : RowsLeft) → BuildAnswers a (Ok (record { wide = w; escape = e })) l → a.list.now ≡ list.now → MasksAgree n k d a.targets.now a.conts.now l
masks_agree list segments masks out n k d b a w e l y same =
    let bytes = list.now in
    let f = given a (Ok (record { wide = w; escape = e })) l y in
    let built = built_parsed _ f.built in
    let ts = built.0 in
    let asked = rows_asked (length a.targets.now) (length a.conts.now) (too_short (length a.ascii.now) (length a.wide.now)
    (length a.escape.now)) (parse_distinct (length a.segments.now) (length a.masks.now) (length a.distinct.now) a.list.now) built.1 in
    let read = ap parse (sym same)
    ∙ accepted_list (length a.segments.now) (length a.masks.now) (length a.distinct.now) a.list.now ts asked.0 in
    let laid = built_laid ts (subst (λ (x : Parsed). Builds (Ok (record { wide = w; escape = e })) (lent_by a) f.segments f.masks l.distinct l.ascii l.wide l.escape
    a.targets.now a.conts.now x) built.1 f.built) in
    let tells = counted_parsed (length out.now) (parse_distinct (length segments.now) (length (masks).now) (length out.now) bytes)
    (rw b.3 at b.2) in
    let one : tells.ts ≡ ts =
    one_list (sym (accepted_list (length segments.now) (length (masks).now) (length out.now) bytes tells.ts tells.is) ∙ read) in
    let count : n ≡ length (distinct_of ts) = tells.count ∙ ap (λ (x : List Transition). length (distinct_of x)) one in
    let size : n * k ≡ length (flat (distinct_of ts)) =
    ap₂ (λ (x y : ℕ). x * y) count (tells.words ∙ ap (λ (x : List Transition). words_for (length x)) one) ∙ sym (length-distinct ts) in
    record {
      a_target_each = asked.1 ∙ sym count;
      a_continuation_each = asked.2 ∙ sym count;
      same =
          ap₂ (λ (j : ℕ) (x : List ℕ). take j x) size (tells.stands ∙ ap (λ (x : List Transition). padded (length out.now) (flat (distinct_of x))) one)
          ∙ padded-front (length out.now) (flat (distinct_of ts))
          ∙ sym
          (ap₂ (λ (j : ℕ) (x : List ℕ). take j x) size laid.distinct_is
          ∙ padded-front laid.distinct-room (flat (distinct_of ts)));
    }
