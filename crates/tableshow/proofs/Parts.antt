-- The laws of digits on a page, and of the rows of a state. Assumes nothing.
use Prim.Native.Nat.{ℕ, zero, suc, ◌+◌, ◌*◌, ◌-◌, ◌%◌, ◌^◌, ◌<◌, ◌≤◌}
use native.Mathlib.Nat.{not-suc-le-zero, le_of_suc-le-suc}
use native.Mathlib.Omega.{arith}
use mathlib.Core.Path.{◌≡◌, refl, ◌∙◌}
use mathlib.Core.Bool.{Bool}
use mathlib.Core.List.{List, [], ◌∷◌}
use borrow.Author.Rules.{rules}
use borrow.Author.Tests.{lt-ltb, le-ltb, eq-eqb, ne_eqb}
use lib.ListN.{length, get_or}
use Rattle.refusal.specs.Said.{Said}
use Rattle.refusal.specs.Fixed.{NONE, DEAD-STATE}
use Rattle.refusal.specs.Lists.{pick}
use Rattle.refusal.specs.Header.{RUNS-START, WIDE-START, ESCAPES-START}
use Rattle.std.specs.Prelude.{Result, Ok}
use Rattle.room_find.specs.declared.Missing.{Missing}
use Rattle.room_find.specs.Room.{listed_at}
use Rattle.room_find.proofs.Records.{listed_first, ofstate}
use Rattle.look_accepts.specs.Record.{record_of}
use Rattle.look_modes.specs.Start.{mode_start}
use Rattle.look_targets.specs.Targets.{ascii_target, eof_target}
use Rattle.look_accepts.specs.Accept.{accept_of}
use Rattle.look_continuations.specs.Continuation.{eof_continuation}
use Rattle.program_io.specs.Shown.{Shown}
use Rattle.tableshow.specs.Joined.{joined}
use Rattle.tableshow.specs.Names.{hex_digit, range, target}
use Rattle.tableshow.specs.Forms.{formed}
use Rattle.tableshow.specs.Rows.{gap, after, ending, item, or_else, target_on, edge, low_after, items_after, edge_at, low_at, items_at, ascii_from}
use Rattle.tableshow.specs.declared.rows.Kind.{Kind}
use Rattle.tableshow.specs.declared.rows.Kind.TheVariants.{Target, Continuation}
use Rattle.tableshow.specs.Rows.{ascii_text, ranges_from, row_text, place_of, wide_row, first_with, wide_with, wide_text, escapes_text}
use Rattle.tableshow.specs.Page.{part, record_line, said_line, accept_text, head_text, run_text, run_line, end_target, end_continuation, start_line}
use Rattle.tableshow.specs.Page.{mode_text, table_text, reason_text, refusal_text}
use Rattle.tableshow.proofs.Filling.{is_no_accept, is_state, is_table_lem, is_refused, is_ascii_lem, is_wide, is_wide_as, is_escapes}
use Rattle.program_io.proofs.Shows.{shown_none, Coming, coming_start, coming_turn, coming_last}
use Rattle.tableshow.proofs.Shows.{shows, joined_2, if_same_lem, if_not_same, if_same_as, if_not_same_as}

-- Digits

module _ (x : ℕ) where
  pub digit_low : (d : ℕ) → d ≡ x % 16 → d < 10 → 48 + d ≡ hex_digit x
  unfolding hex_digit
  digit_low d e h = rw (← e, lt-ltb d 10 h)

  pub digit_high : (d : ℕ) → d ≡ x % 16 → 10 ≤ d → 55 + d ≡ hex_digit x
  unfolding hex_digit
  digit_high d e h = rw (← e, le-ltb d 10 h)

pub ruleset hexes = (rules, digit_low, digit_high)

-- Items

pub after_less : (p : ℕ) → p < 3 → p + 1 ≡ after p
unfolding after
after_less p h = rw (lt-ltb p 3 h)

pub after_three : (p : ℕ) → 3 ≤ p → 1 ≡ after p
unfolding after
after_three p h = rw (le-ltb p 3 h)

module _ (t next p : ℕ) where
  pub items_same : t ≡ next → p ≡ items_after t next p
  unfolding items_after
  items_same h = rw (eq-eqb t next h)

  pub items_dead : (t ≡ next → ⊥) → t ≡ DEAD-STATE → p ≡ items_after t next p
  unfolding items_after
  items_dead h k = rw (ne_eqb t next h, eq-eqb t DEAD-STATE k)

  pub items_on : {r : ℕ} → r ≡ after p → (t ≡ next → ⊥) → (t ≡ DEAD-STATE → ⊥) → r ≡ items_after t next p
  unfolding items_after
  items_on e h k = e ∙ (rw (ne_eqb t next h, ne_eqb t DEAD-STATE k))

  pub low_same : (y : ℕ) → t ≡ next → p ≡ low_after t next p y
  unfolding low_after
  low_same y h = rw (eq-eqb t next h)

  pub low_not : (y : ℕ) → (t ≡ next → ⊥) → y ≡ low_after t next p y
  unfolding low_after
  low_not y h = rw (ne_eqb t next h)

module _ (t v low x p : ℕ) {n : ℕ} {d : List ℕ} where
  pub edge_same : t ≡ v → Shown (edge t v low x p) n d n d
  unfolding edge
  edge_same h = if_same_lem t v [] _ h (shown_none n d)

  pub edge_dead : (t ≡ v → ⊥) → t ≡ DEAD-STATE → Shown (edge t v low x p) n d n d
  unfolding edge
  edge_dead h k = if_not_same t v [] _ h (if_same_lem t DEAD-STATE [] _ k (shown_none n d))

  pub edge_on : {r : ℕ} {new : List ℕ} → Shown (item p low x Target t) n d r new → (t ≡ v → ⊥) → (t ≡ DEAD-STATE → ⊥) →
      Shown (edge t v low x p) n d r new
  unfolding edge
  edge_on q h k = if_not_same t v [] _ h (if_not_same t DEAD-STATE [] _ k q)

module _ (w : List ℕ) (s x : ℕ) where
  pub on_ascii : {r : ℕ} {g : Said} → r ≡ or_else DEAD-STATE g → g ≡ ascii_target w s x → x < 128 → r ≡ target_on w s x
  unfolding target_on
  on_ascii e i h = e ∙ (rw (← i, lt-ltb x 128 h))

  pub on_past : 128 ≤ x → DEAD-STATE ≡ target_on w s x
  unfolding target_on
  on_past h = rw (le-ltb x 128 h)

pub ruleset items = (rules, after_less, after_three, items_same, items_dead, items_on, low_same, low_not, edge_same, edge_dead, edge_on, on_ascii, on_past)

-- A number of the room

pub past : (w : List ℕ) (at : ℕ) → length w ≤ at → 0 ≡ get_or w at 0
past [] at h = refl
past (x ∷ w) zero h = absurd (not-suc-le-zero h)
past (x ∷ w) (suc at) h = past w at (le_of_suc-le-suc h)

-- a record that is found lies in the room
pub place_low : (w : List ℕ) (k i : ℕ) {p : ℕ} {got : Result ℕ Missing} → got ≡ listed_at w k i → got ≡ Ok p → length w * 4 < 2 ^ 63 → p < 2 ^ 62
place_low w k i g e l = omega (arith, listed_first w k i g e)

pub ruleset places = (ofstate, past, place_low)

-- The loops

suc_of : (count x : ℕ) → x < count → count - x ≡ suc (count - (x + 1))
suc_of count x h = omega arith

-- the symbols from x on are to come; `to` is the target on the first of them
pub record Edging (w : List ℕ) (s count n : ℕ) (old : List ℕ) (x low p to m : ℕ) (out : List ℕ) : Type 0 where
  pub on : to ≡ target_on w s x
  pub coming : Coming (ascii_from w s count 0 0 0) n old (ascii_from w s (count - x) x low p) m out

pub edges_start : (w : List ℕ) (s count n : ℕ) (old : List ℕ) {to : ℕ} → to ≡ target_on w s 0 → Edging w s count n old 0 0 0 to n old
edges_start w s count n old e = record { on = e; coming = let z : count - 0 ≡ count = omega arith in rw z (coming_start _ _ _) }

module _ {w : List ℕ} {s count n : ℕ} {old : List ℕ} {x low p to m : ℕ} {out : List ℕ} where
  pub edges_turn : {v r l i : ℕ} {new : List ℕ} → Shown (edge to v low x p) m out r new → l ≡ low_after to v low (x + 1) →
      i ≡ items_after to v p → v ≡ target_on w s (x + 1) → x < count → Edging w s count n old x low p to m out →
      Edging w s count n old (x + 1) l i v r new
  unfolding ascii_from edge_at low_at items_at
  edges_turn q c e b h g =
      let g' : Coming (ascii_from w s count 0 0 0) n old (ascii_from w s (suc (count - (x + 1))) x low p) m out = rw (suc_of count x h) at g.coming in
      record {
        on = b;
        coming = rw (c, e, g.on, b) (coming_turn (rw (g.on, b) at q) g');
      }

  pub edges_done : (f : ℕ) {r : ℕ} {new : List ℕ} → Shown (formed f 0 0 0) m out r new → formed f 0 0 0 ≡ ending p → count ≤ x →
      Edging w s count n old x low p to m out → Shown (ascii_from w s count 0 0 0) n old r new
  unfolding ascii_from
  edges_done f q e h g = let z : count - x ≡ 0 = omega arith in coming_last (rw e at q) (rw z at g.coming)

pub ruleset edges = (rules, edges_start, edges_done)

pub ruleset edges-on = (edges_turn)

module _ (kind : Kind) (w : List ℕ) (count at : ℕ) where
  pub ranges_start : (p n : ℕ) (old : List ℕ) → Coming (ranges_from kind w count at p) n old (ranges_from kind w (count - 0) (at + 3 * 0) p) n old
  ranges_start p n old =
      let y : count - 0 ≡ count = omega arith in
      let z : at + 3 * 0 ≡ at = omega arith in
      rw (y, z) (coming_start _ _ _)

module _ (kind : Kind) (w : List ℕ) (count at i p : ℕ) {xs : List ℕ} {n : ℕ} {old : List ℕ} {m : ℕ} {out : List ℕ} where
  pub ranges_turn : {a b c r q : ℕ} {new : List ℕ} → Shown (item p a b kind c) m out r new → a ≡ get_or w (at + 3 * i) 0 → b ≡ get_or w (at + 3 * i + 1) 0 →
      c ≡ get_or w (at + 3 * i + 2) 0 → q ≡ after p → i < count → Coming xs n old (ranges_from kind w (count - i) (at + 3 * i) p) m out →
      Coming xs n old (ranges_from kind w (count - (i + 1)) (at + 3 * (i + 1)) q) r new
  unfolding ranges_from
  ranges_turn s a b c e h g =
      let g' : Coming xs n old (ranges_from kind w (suc (count - (i + 1))) (at + 3 * i) p) m out = rw (suc_of count i h) at g in
      let z : at + 3 * (i + 1) ≡ at + 3 * i + 3 = omega arith in
      rw (e, z) (coming_turn (rw (a, b, c) at s) g')

  pub ranges_done : (f : ℕ) {r : ℕ} {new : List ℕ} → Shown (formed f 0 0 0) m out r new → formed f 0 0 0 ≡ ending p → count ≤ i →
      Coming xs n old (ranges_from kind w (count - i) (at + 3 * i) p) m out → Shown xs n old r new
  unfolding ranges_from
  ranges_done f q e h g = let z : count - i ≡ 0 = omega arith in coming_last (rw e at q) (rw z at g)

pub ruleset ranges = (rules, ranges_start, ranges_turn, ranges_done)

module _ (w : List ℕ) (row s t : ℕ) {f : ℕ} where
  pub first_turn : {x : ℕ} → x ≡ wide_row w t → (x ≡ row → ⊥) → t < s → first_with w row (s - t) t ≡ f → first_with w row (s - (t + 1)) (t + 1) ≡ f
  unfolding first_with
  first_turn {x} e k h g =
      let z : s - t ≡ suc (s - (t + 1)) = omega arith in
      let g' : first_with w row (suc (s - (t + 1))) t ≡ f = rw z at g in
      rw (← e, ne_eqb x row k) at g'

  pub first_hit : {x : ℕ} → x ≡ wide_row w t → x ≡ row → t < s → first_with w row (s - t) t ≡ f → t ≡ f
  unfolding first_with
  first_hit {x} e k h g =
      let z : s - t ≡ suc (s - (t + 1)) = omega arith in
      let g' : first_with w row (suc (s - (t + 1))) t ≡ f = rw z at g in
      rw (← e, eq-eqb x row k) at g'

  pub first_done : s ≤ t → t ≤ s → first_with w row (s - t) t ≡ f → s ≡ f
  unfolding first_with
  first_done h i g =
      let z : s - t ≡ 0 = omega arith in
      let e : s ≡ t = omega arith in
      e ∙ (rw z at g)

pub ruleset firsts = (rules, first_turn, first_hit, first_done)

-- What is shown by a form, of numbers that calls answered

module _ {n : ℕ} {d : List ℕ} {r : ℕ} {new : List ℕ} (f : ℕ) where
  pub said_put : (g : Said) (x : Bool) (k : ℕ) {a b : ℕ} → Shown (formed f k a b) n d r new →
      ((j rule : ℕ) → formed f j rule b ≡ record_line j rule (pick x 1 0) b) → a ≡ part 0 g → pick x 1 0 ≡ part 1 g → b ≡ part 2 g →
      Shown (said_line k g) n d r new
  unfolding said_line
  said_put g x k {a} p h i e b = rw (← i, ← e, ← b) (rw (h k a) at p)

  module _ (w : List ℕ) (s : ℕ) {k : ℕ} {g : Said} where
    pub start_put : Shown (formed f s k 0) n d r new → ((m : ℕ) → formed f m k 0 ≡ start_line m k) → k ≡ or_else NONE g → g ≡ mode_start w s →
        Shown (mode_text w s) n d r new
    start_put p h a b = rw (← b, ← a) (rw (h s) at p)

    pub end_put : Shown (formed f k 0 0) n d r new → formed f k 0 0 ≡ end_target k → k ≡ or_else DEAD-STATE g → g ≡ eof_target w s →
        Shown (end_target (or_else DEAD-STATE (eof_target w s))) n d r new
    end_put p h a b = rw (← b, ← a) (rw h at p)

    pub continuation_put : Shown (formed f k 0 0) n d r new → formed f k 0 0 ≡ end_continuation k → k ≡ or_else NONE g → g ≡ eof_continuation w s →
        Shown (end_continuation (or_else NONE (eof_continuation w s))) n d r new
    continuation_put p h a b = rw (← b, ← a) (rw h at p)

  pub run_line_lem : (w : List ℕ) (at : ℕ) {a b c : ℕ} → Shown (formed f a b c) n d r new → ((y z : ℕ) → formed f a y z ≡ run_text a y z) →
      a ≡ get_or w at 0 → b ≡ get_or w (at + 1) 0 → c ≡ get_or w (at + 2) 0 → Shown (run_line w at) n d r new
  run_line_lem w at {a} {b} {c} p h i j k = rw (← i, ← j, ← k) (rw (h b c) at p)

  module _ {q : ℕ} {d₂ : List ℕ} where
    pub item_put : (p low high : ℕ) (kind : Kind) (t g : ℕ) → Shown (formed f low high 0) n d r new → Shown (formed g t 0 0) r new q d₂ →
        ((a b : ℕ) → formed f a b 0 ≡ joined (gap p ∷ range a b ∷ [])) → formed g t 0 0 ≡ target kind t →
        Shown (item p low high kind t) n d q d₂
    item_put p low high kind t g x y h i = joined_2 (rw (h low high) at x) (rw i at y)

    pub refusal_put : (m place : ℕ) → Shown (formed 692 m place 0) n d r new → Shown (formed f 0 0 0) r new q d₂ →
        formed f 0 0 0 ≡ reason_text m place → Shown (refusal_text m place) n d q d₂
    refusal_put m place x y h = joined_2 (rw (is_refused m place) at x) (rw h at y)

module _ {n : ℕ} {d : List ℕ} {r : ℕ} {new : List ℕ} where
  pub table_put : (a b c : ℕ) → Shown (formed 63 a b c) n d r new → Shown (table_text a b c) n d r new
  table_put a b c p = rw (is_table_lem a b c) at p

  module _ (w : List ℕ) (k : ℕ) where
    pub accept-none : Shown (formed 157 0 0 0) n d r new → k ≡ NONE → Shown (accept_text w k) n d r new
    accept-none p h = if_same_lem k NONE _ _ h (rw is_no_accept at p)

    pub accept_put : (g : Said) → Shown (said_line k g) n d r new → g ≡ record_of w k → (k ≡ NONE → ⊥) → Shown (accept_text w k) n d r new
    accept_put g p e h = if_not_same k NONE _ _ h (rw e at p)

  module _ (w : List ℕ) (s : ℕ) where
    pub head_put : {k q : ℕ} {g : Said} {d₂ : List ℕ} → Shown (formed 148 s 0 0) n d r new → Shown (accept_text w k) r new q d₂ →
        k ≡ or_else NONE g → g ≡ accept_of w s → Shown (head_text w s) n d q d₂
    head_put p q a b = joined_2 (rw (is_state s) at p) (rw (a, b) at q)

    pub ascii_put : {q : ℕ} {d₂ : List ℕ} → Shown (formed 497 0 0 0) n d r new → Shown (ascii_from w s 128 0 0 0) r new q d₂ →
        Shown (ascii_text w s) n d q d₂
    ascii_put p q = joined_2 (rw is_ascii_lem at p) q

    pub wide_put : {at t row : ℕ} → Shown (wide_with w s at t) n d r new → at ≡ place_of w WIDE-START row → t ≡ first_with w row s 0 → row ≡ wide_row w s →
        Shown (wide_text w s) n d r new
    wide_put p a b c = rw (← c, ← b, ← a) p

    pub escapes_put : {at : ℕ} → Shown (row_text (formed 540 0 0 0) Continuation w (at + 1)) n d r new → at ≡ place_of w ESCAPES-START s → Shown (escapes_text w s) n d r new
    escapes_put p a = rw (← a) (rw is_escapes at p)

    pub run_put : {at : ℕ} → Shown (run_line w at) n d r new → at ≡ place_of w RUNS-START s → Shown (run_line w (place_of w RUNS-START s)) n d r new
    run_put p a = rw (← a) p

-- a wide row, or the state that has the same; k is its length
module _ (w : List ℕ) (s at t : ℕ) {n : ℕ} {d : List ℕ} where
  pub wide_row_lem : {r : ℕ} {new : List ℕ} → Shown (row_text (formed 507 0 0 0) Target w at) n d r new → t ≡ s → Shown (wide_with w s at t) n d r new
  wide_row_lem p h = if_same_lem t s _ _ h (rw is_wide at p)

  pub wide_none : (k : ℕ) → k ≡ get_or w at 0 → k ≡ 0 → (t ≡ s → ⊥) → Shown (wide_with w s at t) n d n d
  wide_none k e i h = if_not_same t s _ _ h (if_same_as (get_or w at 0) 0 [] _ k e i (shown_none n d))

  pub wide_shared : (k : ℕ) {r : ℕ} {new : List ℕ} → Shown (formed 517 t 0 0) n d r new → k ≡ get_or w at 0 → (k ≡ 0 → ⊥) →
      (t ≡ s → ⊥) → Shown (wide_with w s at t) n d r new
  wide_shared k p e i h = if_not_same t s _ _ h (if_not_same_as (get_or w at 0) 0 [] _ k e i (rw (is_wide_as t) at p))

-- the row whose length k stands at a place
module _ (label : List ℕ) (kind : Kind) (w : List ℕ) (at k : ℕ) {n : ℕ} {d : List ℕ} where
  pub row-none : k ≡ get_or w at 0 → k ≡ 0 → Shown (row_text label kind w at) n d n d
  row-none e h = if_same_as (get_or w at 0) 0 [] _ k e h (shown_none n d)

  pub row_put : {r q : ℕ} {d₁ d₂ : List ℕ} → Shown label n d r d₁ → Shown (ranges_from kind w k (at + 1) 0) r d₁ q d₂ → k ≡ get_or w at 0 →
      (k ≡ 0 → ⊥) → Shown (row_text label kind w at) n d q d₂
  row_put p q e h = if_not_same_as (get_or w at 0) 0 [] _ k e h (joined_2 p (rw e at q))

pub ruleset rows = (ascii_put, wide_put, escapes_put, wide_row_lem, wide_none, wide_shared, row-none, row_put)

pub ruleset parts =
    (shows, rows, said_put, start_put, end_put, continuation_put, run_line_lem, item_put, refusal_put, table_put, accept-none, accept_put, head_put, run_put)
