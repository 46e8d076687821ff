-- Lookups on a room that holds a table equal plain definitions on the table. Assumes nothing.
use Prim.Native.Nat.{ℕ, zero, suc, ◌+◌, ◌*◌, ◌/◌, ◌%◌, ◌≤◌, ◌<◌}
use native.Mathlib.Omega.{arith}
use mathlib.Core.Path.{◌≡◌, refl, ap, subst, ◌∙◌}
use mathlib.Core.Bool.{Bool, true, false}
use mathlib.Core.List.{List, [], ◌∷◌, ◌++◌}
use mathlib.Core.Logic.{inl, inr}
use lib.Dec.{ltb, leb, eqb}
use lib.ListN.{length, get_or, take, get_or-eq_default}
use lib.Seq.{length-take-le}
use borrow.Author.Tests.{le-leb, lt-ltb, le-ltb, ne_eqb, ltb-true, ltb-false}
use Rattle.refusal.specs.Said.{Said, ok, no, STATE, NOT-TABLE}
use Rattle.refusal.specs.Fixed.{NONE, DEAD-STATE}
use Rattle.refusal.specs.Lists.{pick, each}
use Rattle.std.specs.Prelude.{Result, Some, None, Ok, Err}
use Rattle.room_find.specs.declared.Missing.{Missing}
use Rattle.room_find.specs.declared.Missing.TheVariants.{Absent}
use Rattle.refusal.specs.Header.{MODES-START, STATES-START, RUNS-START, ASCII-START, WIDE-START, ACCEPTS-START, ESCAPES-START, CONTINUATIONS-START}
use Rattle.room_find.specs.Room as rooms
use Rattle.room_find.specs.Room.{listed_at, state_at, follow}
use Rattle.room_find.proofs.There.{record_there, record_absent, state_there, state_absent}
use Rattle.law_tables.specs.Table.{Table, State, Range, Fields, All, Start, StateFields, AsciiFields, RangeFields, counted}
use Rattle.look_row.specs.Search.{found, searched, given}
use Rattle.look_row.proofs.Searches.{row-searched}
use Rattle.law_tables.specs.Table.{mode_words, state_words, ascii_words, range_words, wide_words, escape_words}
use Rattle.law_tables.specs.Rules.{Rules, Good, NoneOr, targets, absent, row_of}
use Rattle.law_tables.proofs.Codec.{At, on, at_head}
use Rattle.law_tables.proofs.Sizes.{sized, threes, all_of}
use Rattle.look_modes.specs.Start.{started, mode_at, mode_start}
use Rattle.look_modes.specs.Modes.{state_count}
use Rattle.look_targets.specs.Targets.{target, half, ascii_row_at, row_target, wide_row_at, wide_target, ascii_target, char_target, eof_target}
use Rattle.look_accepts.specs.Accept.{accept_of}
use Rattle.look_continuations.specs.Continuation.{search_row, char_continuation, eof_continuation}
use Rattle.law_lookups.specs.Looks.{goal_at, of_state, state_of, start_of, mode_start_of, ascii_target_of, char_target_of, escape_of, char_continuation_of}
use Rattle.law_lookups.proofs.Stands.{Within, counts, opens, inside, recorded, all_take, all_nth, at_number}
use Rattle.law_lookups.proofs.Held.{Held}
use Rattle.law_lookups.proofs.Lists.{listed_is, wide_listed, escapes_listed}

-- Rows

-- "64 words, even symbol in the low half"
half_is : (l : List ℕ) (x : ℕ) → half (get_or l (x / 2) 0) x ≡ get_or (targets l) x 0
unfolding targets
half_is [] x = go (eqb (x % 2) 0)
  where
    go : (b : Bool) → pick b (0 % 65536) (0 / 65536) ≡ 0
    go true = refl
    go false = refl
half_is (y ∷ l) zero = refl
half_is (y ∷ l) (suc zero) = refl
half_is (y ∷ l) (suc (suc x)) =
    let d : suc (suc x) / 2 ≡ suc (x / 2) = omega arith in
    let m : suc (suc x) % 2 ≡ x % 2 = omega arith in
    rw (d, m) (half_is l x)

-- what follows from what holds of all
all_map : {A : Type 0} (P Q : A → Type 0) → ((x : A) → P x → Q x) → (xs : List A) → All P xs → All Q xs
unfolding All
all_map P Q f [] h = tt
all_map P Q f (x ∷ xs) h = (f x h.0, all_map P Q f xs h.1)

-- a search of a row that stands in the room, where each goal is answered as it is
module _ (w : List ℕ) (x : ℕ) (f : ℕ → Said) (other : ℕ) (o : Said) where
  found_goal : (rs : List Range) (at : ℕ) (post : List ℕ) → All (λ r. f r.goal ≡ ok (r.goal ∷ [])) rs → At w at (each range_words rs ++ post)
      → given (Ok (found w x (length rs) at)) f (ok (other ∷ [])) o ≡ ok (goal_at other rs x ∷ [])
  unfolding found given goal_at each All
  found_goal [] at post v a = refl
  found_goal (r ∷ rs) at post v a =
      let high : get_or w (at + 1) 0 ≡ r.high = at_head (on (r.low ∷ []) _ a) in
      let goal : get_or w (at + 2) 0 ≡ r.goal = at_head (on (r.low ∷ r.high ∷ []) _ a) in
      rw (at_head a, high, goal) (go (leb x r.high) (leb r.low x) (found_goal rs (at + 3) post v.1 (on (range_words r) (each range_words rs ++ post) a)))
    where
      go : (b c : Bool) → given (Ok (found w x (length rs) (at + 3))) f (ok (other ∷ [])) o ≡ ok (goal_at other rs x ∷ [])
          → given (Ok (pick b (pick c (Some r.goal) None) (found w x (length rs) (at + 3)))) f (ok (other ∷ [])) o
          ≡ ok (pick b (pick c r.goal other) (goal_at other rs x) ∷ [])
      go true true e = v.0
      go true false e = refl
      go false c e = e

  search_goal : (rs : List Range) (e p : ℕ) → e ≤ length w → Within w e p (counted range_words rs) → All (λ r. f r.goal ≡ ok (r.goal ∷ [])) rs
      → given (searched w p e x) f (ok (other ∷ [])) o ≡ ok (goal_at other rs x ∷ [])
  search_goal rs e p k z v =
      let n : get_or w p 0 ≡ length rs = at_head z.stands in
      let l : get_or w p 0 * 3 + p < e = omega (arith, n, z.ends, threes range_words (λ r. refl) rs) in
      let q : p < e = omega (arith, z.ends) in
      rw (row-searched w p e x k q l, n) (found_goal rs (p + 1) z.post v (on (length rs ∷ []) (each range_words rs ++ z.post) z.stands))

-- a start that its field allows
start-said : (x : ℕ) → Start x → started x ≡ start_of x
start-said x (inl h) = let e : eqb x NONE ≡ false = ne_eqb x NONE (λ z. omega arith) in rw (le-leb x 65535 h, e)
start-said x (inr e) = rw e

module _ (t : Table) (h : Fields t) (r : Rules t) (w : List ℕ) (k : Held t w) where
  -- States

  -- the four numbers of a state
  pub state_place : (s : ℕ) → s < length t.states → Within w (get_or w RUNS-START 0) (s * 4 + get_or w STATES-START 0 + 1) (state_words (state_of t s))
  state_place s l =
      let n : length (each state_words (take s t.states)) ≡ s * 4 =
      sized state_words 4 (take s t.states) (all_of (λ x. length (state_words x) ≡ 4) (λ x. refl) (take s t.states))
      ∙ ap (λ m. m * 4) (length-take-le s t.states (omega arith)) in
      let p : get_or w STATES-START 0 + 1 + length (each state_words (take s t.states)) ≡ s * 4 + get_or w STATES-START 0 + 1 = omega (arith, n) in
      subst (λ m. Within w (get_or w RUNS-START 0) m (state_words (state_of t s))) p (recorded k.states s absent l)

  pub state_at_lem : (s : ℕ) → s < length t.states → state_at w s ≡ Ok (s * 4 + get_or w STATES-START 0 + 1)
  state_at_lem s l =
      state_there w k.long (opens k.states) (inside k.states) s (omega (arith, counts k.states)) (omega (arith, (state_place s l).ends))

  pub state_none : (s : ℕ) → length t.states ≤ s → state_at w s ≡ Err Absent
  state_none s l = state_absent w k.long (opens k.states) (inside k.states) s (omega (arith, counts k.states))

  -- what is said of a state that is there, and STATE of one that is not
  pub of_state_lem : (s : ℕ) (f : ℕ → Said) (y : Said) → ((p : ℕ) → s < length t.states → Within w (get_or w RUNS-START 0) p (state_words (state_of t s)) → f p ≡ y)
      → rooms.of_state w s f ≡ pick (ltb s (length t.states)) y (no STATE 0)
  unfolding follow
  of_state_lem s f y g = go (ltb s (length t.states)) refl
    where
      go : (b : Bool) → ltb s (length t.states) ≡ b → rooms.of_state w s f ≡ pick b y (no STATE 0)
      go true u = let l = ltb-true _ _ u in rw (state_at_lem s l) (g _ l (state_place s l))
      go false u = rw (state_none s (ltb-false _ _ u))

  module _ (s : ℕ) {p : ℕ} (z : Within w (get_or w RUNS-START 0) p (state_words (state_of t s))) where
    abbrev st : State
    st = state_of t s

    number_ascii : get_or w p 0 ≡ st.ascii
    number_ascii = at_head z.stands

    pub number_wide : get_or w (p + 1) 0 ≡ st.wide
    number_wide = at_head (on (st.ascii ∷ []) (st.wide ∷ st.eof ∷ st.accept ∷ z.post) z.stands)

    number_eof : get_or w (p + 2) 0 ≡ st.eof
    number_eof = at_head (on (st.ascii ∷ st.wide ∷ []) (st.eof ∷ st.accept ∷ z.post) z.stands)

    number-accept : get_or w (p + 3) 0 ≡ st.accept
    number-accept = at_head (on (st.ascii ∷ st.wide ∷ st.eof ∷ []) (st.accept ∷ z.post) z.stands)

  pub accept_is : (s : ℕ) → accept_of w s ≡ of_state t s (state_of t s).accept
  accept_is s = of_state_lem s (λ p. ok (get_or w (p + 3) 0 ∷ [])) (ok ((state_of t s).accept ∷ [])) (λ p l z. ap (λ n. ok (n ∷ [])) (number-accept s z))

  target_is : (n : ℕ) → n ≤ 65535 → target n ≡ ok (n ∷ [])
  target_is n l = rw (le-leb n 65535 l)

  pub eof_is : (s : ℕ) → eof_target w s ≡ of_state t s (state_of t s).eof
  eof_is s =
      of_state_lem s (λ p. target (get_or w (p + 2) 0)) (ok ((state_of t s).eof ∷ []))
      (λ p l z. ap target (number_eof s z) ∙ target_is (state_of t s).eof (all_nth StateFields t.states s absent h.states l))

  pub count_is : state_count w ≡ ok (length t.states ∷ [])
  unfolding state_count
  count_is = simp (lt-ltb _ _ k.long, lt-ltb _ _ (opens k.states), le-leb _ _ (inside k.states), counts k.states)

  -- Modes

  -- a mode's start
  mode_number : (m : ℕ) → m < length t.modes → Within w (get_or w STATES-START 0) (m * 1 + get_or w MODES-START 0 + 1) (mode_words (get_or t.modes m NONE))
  mode_number m l =
      let n : length (each mode_words (take m t.modes)) ≡ m * 1 =
      sized mode_words 1 (take m t.modes) (all_of (λ x. length (mode_words x) ≡ 1) (λ x. refl) (take m t.modes))
      ∙ ap (λ i. i * 1) (length-take-le m t.modes (omega arith)) in
      let p : get_or w MODES-START 0 + 1 + length (each mode_words (take m t.modes)) ≡ m * 1 + get_or w MODES-START 0 + 1 = omega (arith, n) in
      subst (λ i. Within w (get_or w STATES-START 0) i (mode_words (get_or t.modes m NONE))) p (recorded k.modes m NONE l)

  mode_at_lem : (m : ℕ) → m < length t.modes → mode_at w m ≡ Ok (m * 1 + get_or w MODES-START 0 + 1)
  unfolding mode_at
  mode_at_lem m l =
      let z = k.modes in
      let small : m < 2147483648 = omega (arith, k.few_modes) in
      let e = record_there w (get_or w MODES-START 0) (get_or w STATES-START 0) (opens z) (inside z) m 1 (omega (arith, counts z))
      (omega (arith, (mode_number m l).ends)) in
      simp (lt-ltb _ _ k.long, lt-ltb _ _ (opens z), le-leb _ _ (inside z), lt-ltb _ _ small, e)

  mode_none : (m : ℕ) → length t.modes ≤ m → mode_at w m ≡ Err Absent
  unfolding mode_at
  mode_none m l =
      let z = k.modes in
      let e = record_absent w (get_or w MODES-START 0) (get_or w STATES-START 0) (opens z) (inside z) m 1 (omega (arith, counts z)) in
      rw (lt-ltb _ _ k.long, lt-ltb _ _ (opens z), le-leb _ _ (inside z), e) (go (ltb m 2147483648))
    where
      go : (b : Bool) → ◌≡◌ {A = Result ℕ Missing} (pick b (Err Absent) (Err Absent)) (Err Absent)
      go true = refl
      go false = refl

  pub start_is : (m : ℕ) → mode_start w m ≡ mode_start_of t m
  unfolding follow
  start_is m = go (ltb m (length t.modes)) refl
    where
      go : (b : Bool) → ltb m (length t.modes) ≡ b → mode_start w m ≡ mode_start_of t m
      go true u =
          let l = ltb-true _ _ u in
          rw (mode_at_lem m l, at_head (mode_number m l).stands) (start-said (get_or t.modes m NONE) (all_nth Start t.modes m NONE h.modes l))
      go false u = let l = ltb-false _ _ u in rw (mode_none m l, get_or-eq_default t.modes NONE l)

  -- Ascii rows

  module _ (row : ℕ) (l : row < length t.ascii) where
    abbrev words : List ℕ
    words = get_or t.ascii row []

    -- 64 words
    row-length : length words ≡ 64
    row-length = all_nth AsciiFields t.ascii row [] h.ascii l

    row_place : Within w (get_or w WIDE-START 0) (row * 64 + get_or w ASCII-START 0 + 1) words
    row_place =
        let n : length (each ascii_words (take row t.ascii)) ≡ row * 64 =
        sized ascii_words 64 (take row t.ascii) (all_take AsciiFields t.ascii row h.ascii)
        ∙ ap (λ i. i * 64) (length-take-le row t.ascii (omega arith)) in
        let p : get_or w ASCII-START 0 + 1 + length (each ascii_words (take row t.ascii)) ≡ row * 64 + get_or w ASCII-START 0 + 1 = omega (arith, n) in
        subst (λ i. Within w (get_or w WIDE-START 0) i words) p (recorded k.ascii row [] l)

    row_at : ascii_row_at w row ≡ Ok (row * 64 + get_or w ASCII-START 0 + 1)
    unfolding ascii_row_at
    row_at =
        let z = k.ascii in
        let e = record_there w (get_or w ASCII-START 0) (get_or w WIDE-START 0) (opens z) (inside z) row 64 (omega (arith, counts z))
        (omega (arith, row_place.ends, row-length)) in
        rw (lt-ltb _ _ k.long) e

    row_target_lem : (x : ℕ) → x < 128 → row_target w row x ≡ ok (get_or (targets words) x 0 ∷ [])
    unfolding row_target follow
    row_target_lem x b =
        let i : x / 2 < length words = omega (arith, row-length) in
        let e : get_or w (row * 64 + get_or w ASCII-START 0 + 1 + x / 2) 0 ≡ get_or words (x / 2) 0 =
        at_number words row_place.post (x / 2) row_place.stands i in
        rw (row_at, lt-ltb x 128 b, e) (ap (λ n. ok (n ∷ [])) (half_is words x))

    row_past : (x : ℕ) → 128 ≤ x → row_target w row x ≡ no STATE 0
    unfolding row_target follow
    row_past x b = rw (row_at, le-ltb x 128 b)

  -- the rows of a state are there
  pub has_rows : (s : ℕ) → s < length t.states → ((state_of t s).ascii < length t.ascii) × ((state_of t s).wide < length t.wide)
  has_rows s l =
      let q = all_nth (λ x. (x.ascii < length t.ascii) × (x.wide < length t.wide) × Good t x.eof × NoneOr (length t.accepts) x.accept)
      t.states s absent r.rule2 l in
      (q.0, q.1)

  -- STATE either way
  same_refusal : (b : Bool) → pick b (no STATE 0) (no STATE 0) ≡ no STATE 0
  same_refusal true = refl
  same_refusal false = refl

  pub ascii_is : (s x : ℕ) → ascii_target w s x ≡ ascii_target_of t s x
  ascii_is s x = go (ltb x 128) refl
    where
      go : (b : Bool) → ltb x 128 ≡ b → ascii_target w s x ≡ pick b (of_state t s (get_or (row_of t s) x 0)) (no STATE 0)
      go true u =
          of_state_lem s (λ p. row_target w (get_or w p 0) x) (ok (get_or (row_of t s) x 0 ∷ []))
          (λ p l z. ap (λ n. row_target w n x) (number_ascii s z) ∙ row_target_lem (state_of t s).ascii (has_rows s l).0 x (ltb-true _ _ u))
      go false u =
          of_state_lem s (λ p. row_target w (get_or w p 0) x) (no STATE 0)
          (λ p l z. ap (λ n. row_target w n x) (number_ascii s z) ∙ row_past (state_of t s).ascii (has_rows s l).0 x (ltb-false _ _ u))
          ∙ same_refusal (ltb s (length t.states))

  -- Wide rows

  -- the list of places leads to a wide row
  pub wide_row_lem : (row : ℕ) → row < length t.wide
      → (p : ℕ) × (wide_row_at w row ≡ Ok p) × Within w (get_or w ACCEPTS-START 0) p (wide_words (get_or t.wide row []))
  wide_row_lem row l = let q = listed_is k.wide k.wide_places row [] l (omega arith) in (q.0, wide_listed t w k row ∙ q.1, q.2)

  wide_target_lem : (row : ℕ) → row < length t.wide → (x : ℕ) → wide_target w row x ≡ ok (goal_at DEAD-STATE (get_or t.wide row []) x ∷ [])
  unfolding follow
  wide_target_lem row l x =
      let q = wide_row_lem row l in
      let rs = get_or t.wide row [] in
      let v = all_map RangeFields (λ y. target y.goal ≡ ok (y.goal ∷ [])) (λ y b. target_is y.goal b) rs
      (all_nth (All RangeFields) t.wide row [] h.wide l) in
      rw q.1 (search_goal w x target DEAD-STATE (no NOT-TABLE 0) rs (get_or w ACCEPTS-START 0) q.0 (inside k.wide) q.2 v)

  pub char_is : (s x : ℕ) → char_target w s x ≡ char_target_of t s x
  char_is s x = go (ltb x 128) refl
    where
      go : (b : Bool) → ltb x 128 ≡ b
          → rooms.of_state w s (λ p. pick b (row_target w (get_or w p 0) x) (wide_target w (get_or w (p + 1) 0) x))
          ≡ of_state t s (pick b (get_or (row_of t s) x 0) (goal_at DEAD-STATE (get_or t.wide (state_of t s).wide []) x))
      go true u =
          of_state_lem s (λ p. row_target w (get_or w p 0) x) (ok (get_or (row_of t s) x 0 ∷ []))
          (λ p l z. ap (λ n. row_target w n x) (number_ascii s z) ∙ row_target_lem (state_of t s).ascii (has_rows s l).0 x (ltb-true _ _ u))
      go false u =
          of_state_lem s (λ p. wide_target w (get_or w (p + 1) 0) x) (ok (goal_at DEAD-STATE (get_or t.wide (state_of t s).wide []) x ∷ []))
          (λ p l z. ap (λ n. wide_target w n x) (number_wide s z) ∙ wide_target_lem (state_of t s).wide (has_rows s l).1 x)

  -- Escape rows

  -- and to the escape row of a state
  escape_row : (s : ℕ) → s < length t.states
      → (p : ℕ) × (listed_at w ESCAPES-START s ≡ Ok p) × Within w (get_or w CONTINUATIONS-START 0) p (escape_words (escape_of t s))
  escape_row s l =
      let q = listed_is k.escapes k.escape_places s (record { eof = NONE; ranges = [] }) (omega (arith, r.rule7)) (omega arith) in
      (q.0, escapes_listed t w k s ∙ q.1, q.2)

  pub eof_continues : (s : ℕ) → eof_continuation w s ≡ of_state t s (escape_of t s).eof
  unfolding follow
  eof_continues s = of_state_lem s _ (ok ((escape_of t s).eof ∷ [])) (λ p l z. let q = escape_row s l in rw (q.1, at_head q.2.stands))

  pub char_continues : (s x : ℕ) → char_continuation w s x ≡ char_continuation_of t s x
  unfolding follow search_row
  char_continues s x = of_state_lem s _ (ok (goal_at NONE (escape_of t s).ranges x ∷ [])) (λ p l z.
      let q = escape_row s l in
      let e = escape_of t s in
      let a = q.2 in
      let v = all_of (λ y. ok (y.goal ∷ []) ≡ ok (y.goal ∷ [])) (λ y. refl) e.ranges in
      let i : Within w (get_or w CONTINUATIONS-START 0) (q.0 + 1) (counted range_words e.ranges) =
      record { post = a.post; stands = on (e.eof ∷ []) (counted range_words e.ranges ++ a.post) a.stands; ends = omega (arith, a.ends) } in
      rw q.1 (search_goal w x (λ c. ok (c ∷ [])) NONE (no NOT-TABLE 0) e.ranges (get_or w CONTINUATIONS-START 0) (q.0 + 1) (inside k.escapes) i v))
