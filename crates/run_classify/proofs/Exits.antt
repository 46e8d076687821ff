-- The exits of a row, found from left to right, and the classification that they give. Assumes nothing.
use Prim.Native.Nat.{ℕ, suc, ◌+◌, ◌≤◌, ◌<◌}
use native.Mathlib.Numerals.{add-one}
use native.Mathlib.Omega.{arith}
use mathlib.Core.Path.{◌≡◌, refl, sym, ◌∙◌}
use mathlib.Core.Bool.{true, false}
use mathlib.Core.List.{List, [], ◌∷◌}
use lib.ListN.{length, get_or, drop, drop_of_length-le}
use lib.Seq.{drop-cons, drop-drop}
use borrow.Author.Rules.{rules}
use borrow.Author.Tests.{eq-eqb, ne_eqb, lt-leb}
use Rattle.refusal.specs.Said.{FIELD}
use Rattle.refusal.specs.Lists.{before}
use Rattle.refusal.proofs.Lists.{before-next, before_here, search_first}
use Rattle.run_ranges.specs.Ranges.{exits_at, ranges_from, loop_ranges}
use Rattle.std.specs.Prelude.{Ok}
use Rattle.run_shape.specs.declared.AsciiRun.{AsciiRun}
use Rattle.run_shape.specs.declared.AsciiRun.TheVariants.{Any, Until1, Until2, Until3}
use Rattle.run_shape.specs.Shape.{held, refused}
use Rattle.run_shape.specs.Classify.{exits_from, by_ranges, by_exits, classified}

module _ (state : ℕ) where
  exits_nil : (k : ℕ) → exits_from state k [] ≡ []
  unfolding exits_from
  exits_nil k = refl

  exits_here : (k t : ℕ) (ts : List ℕ) → exits_at state t ≡ true → exits_from state k (t ∷ ts) ≡ k ∷ exits_from state (suc k) ts
  unfolding exits_from
  exits_here k t ts e = rw e

  exits_past : (k t : ℕ) (ts : List ℕ) → exits_at state t ≡ false → exits_from state k (t ∷ ts) ≡ exits_from state (suc k) ts
  unfolding exits_from
  exits_past k t ts e = rw e

  -- symbols that loop are passed over
  exits_skip : (k n : ℕ) (ts : List ℕ) → n ≡ before (exits_at state) ts → exits_from state k ts ≡ exits_from state (k + n) (drop n ts)
  exits_skip = search_first (exits_at state) (exits_from state) (λ k. exits_nil k ∙ sym (exits_nil 0)) exits_past

  module _ (row : List ℕ) (i : ℕ) {e : ℕ} (h : e ≡ i + before (exits_at state) (drop i row)) where
    moved : exits_from state i (drop i row) ≡ exits_from state e (drop e row)
    moved = exits_skip i (before (exits_at state) (drop i row)) (drop i row) refl ∙ (rw (drop-drop (before (exits_at state) (drop i row)) i row, ← h))

    -- no exit is left
    pub exits_end : length row ≤ e → exits_from state i (drop i row) ≡ []
    exits_end l = moved ∙ (rw (drop_of_length-le row l, exits_nil))

    -- the next exit
    pub exits_next : e < length row → exits_from state i (drop i row) ≡ e ∷ exits_from state (e + 1) (drop (e + 1) row)
    exits_next l = moved ∙ (rw (add-one, drop-cons row e 0)
        (exits_here e (get_or row e 0) (drop (suc e) row) (before_here (exits_at state) row e l (before-next (exits_at state) row i h))))

-- three exits, and the exits behind them
three : (state : ℕ) (row : List ℕ) {a b c : ℕ} → a ≡ 0 + before (exits_at state) row → a < length row →
    b ≡ a + 1 + before (exits_at state) (drop (a + 1) row) → b < length row →
    c ≡ b + 1 + before (exits_at state) (drop (b + 1) row) → c < length row → exits_from state 0 row ≡ a ∷ b ∷ c ∷ exits_from state (c + 1) (drop (c + 1) row)
three state row {a} {b} ea la eb lb ec lc = exits_next state row 0 ea la ∙ (rw (exits_next state row (a + 1) eb lb, exits_next state row (b + 1) ec lc))

-- What the code answers once it has found up to four exits.
module _ (state : ℕ) (row : List ℕ) where
  by_exits_lem : (es : List ℕ) {r : AsciiRun} → length row ≡ 128 → exits_from state 0 row ≡ es → r ≡ held (by_exits es (ranges_from state 0 row))
      → Ok r ≡ classified state row
  unfolding classified
  by_exits_lem es w e h = rw (w, e, h)

  pub no_row : (length row ≡ 128 → ⊥) → refused FIELD 0 ≡ classified state row
  unfolding classified
  no_row w = rw (ne_eqb (length row) 128 w)

  pub is_any : {a : ℕ} → length row ≡ 128 → a ≡ 0 + before (exits_at state) row → length row ≤ a → Ok Any ≡ classified state row
  unfolding by_exits held
  is_any w ea l = by_exits_lem [] w (exits_end state row 0 ea l) refl

  pub is_until1 : {a b : ℕ} → length row ≡ 128 → a ≡ 0 + before (exits_at state) row → a < length row →
      b ≡ a + 1 + before (exits_at state) (drop (a + 1) row) → length row ≤ b → Ok (Until1 a) ≡ classified state row
  unfolding by_exits held
  is_until1 {a} w ea la eb l = by_exits_lem (a ∷ []) w (exits_next state row 0 ea la ∙ (rw (exits_end state row (a + 1) eb l))) refl

  pub is_until2 : {a b c : ℕ} → length row ≡ 128 → a ≡ 0 + before (exits_at state) row → a < length row →
      b ≡ a + 1 + before (exits_at state) (drop (a + 1) row) → b < length row → c ≡ b + 1 + before (exits_at state) (drop (b + 1) row) → length row ≤ c →
      Ok (Until2 a b) ≡ classified state row
  unfolding by_exits held
  is_until2 {a} {b} w ea la eb lb ec l =
      by_exits_lem (a ∷ b ∷ []) w (exits_next state row 0 ea la ∙ (rw (exits_next state row (a + 1) eb lb, exits_end state row (b + 1) ec l))) refl

  pub is_until3 : {a b c d : ℕ} → length row ≡ 128 → a ≡ 0 + before (exits_at state) row → a < length row →
      b ≡ a + 1 + before (exits_at state) (drop (a + 1) row) → b < length row → c ≡ b + 1 + before (exits_at state) (drop (b + 1) row) → c < length row →
      d ≡ c + 1 + before (exits_at state) (drop (c + 1) row) → length row ≤ d → Ok (Until3 a b c) ≡ classified state row
  unfolding by_exits held
  is_until3 {a} {b} {c} w ea la eb lb ec lc ed l = by_exits_lem (a ∷ b ∷ c ∷ []) w (three state row ea la eb lb ec lc ∙ (rw (exits_end state row (c + 1) ed l))) refl

  pub is_ranges : {a b c d : ℕ} {r : AsciiRun} → r ≡ held (by_ranges (loop_ranges state row)) → length row ≡ 128 →
      a ≡ 0 + before (exits_at state) row → a < length row →
      b ≡ a + 1 + before (exits_at state) (drop (a + 1) row) → b < length row → c ≡ b + 1 + before (exits_at state) (drop (b + 1) row) → c < length row →
      d ≡ c + 1 + before (exits_at state) (drop (c + 1) row) → d < length row → Ok r ≡ classified state row
  unfolding by_exits loop_ranges
  is_ranges {a} {b} {c} {d} {r} h w ea la eb lb ec lc ed l =
      let es = exits_from state (d + 1) (drop (d + 1) row) in
      let n = suc (suc (suc (suc (length es)))) in
      let k : r ≡ held (by_ranges (ranges_from state 0 row)) = rw (eq-eqb (length row) 128 w) at h in
      let z : n ≡ 0 → ⊥ = λ e. omega arith in
      by_exits_lem (a ∷ b ∷ c ∷ d ∷ es) w (three state row ea la eb lb ec lc ∙ (rw (exits_next state row (c + 1) ed l)))
      (k ∙ (rw (ne_eqb n 0 z, lt-leb n 3 (omega arith))))

pub ruleset classifying = (rules, no_row, is_any, is_until1, is_until2, is_until3, is_ranges)
