-- Rule 4: the run that stands in the words for a state is the classification of the state's row. The classification of a row of 128 targets is
-- a run that its fields allow, so its words tell it from every other run; and the row of a state is read where it stands. Assumes nothing.
use mathlib.Core.Path.{◌≡◌, refl, sym, ap, subst, ◌∙◌}
use mathlib.Core.List.{List, [], ◌∷◌, ◌++◌, append_assoc}
use mathlib.Core.Bool.{Bool, true, false, ◌&&◌}
use mathlib.Core.Logic.{◌⊎◌, inl, inr}
use Prim.Native.Nat.{ℕ, zero, suc, ◌+◌, ◌*◌, ◌≤◌, ◌<◌, ◌%◌}
use native.Mathlib.Nat.{suc-mul, zero-mul}
use native.Mathlib.Omega.{arith}
use lib.Dec.{leb, eqb}
use lib.ListN.{length, get_or}
use borrow.Author.Tests.{leb-true, eqb-false}
use Rattle.refusal.specs.Lists.{pick, each}
use Rattle.run_ranges.specs.declared.AsciiRange.{AsciiRange}
use Rattle.run_ranges.specs.Ranges.{exits_at, ranges_from, up_to_four}
use Rattle.run_ranges.proofs.Maximal.{ranges_ordered}
use Rattle.run_shape.specs.declared.RunWords.{RunWords}
use Rattle.run_shape.specs.Words.{words_of_run}
use Rattle.run_shape.specs.Shape.{Shape, none, any, until, ranges, held}
use Rattle.run_shape.specs.Classify.{exits_from, by_ranges, by_exits, classification}
use Rattle.word_reader.specs.Records.{run_at}
use Rattle.std.specs.Prelude.{Ok}
use Rattle.rule_words.specs.Rules as words
use Rattle.rule_words.specs.Rules.{stands, classified_words, run_good, row_number}
use Rattle.law_tables.specs.Table.{Table, State, Fields, All, RunFields, packed, bytes, words_of, state_words, run_words, ascii_words}
use Rattle.law_tables.specs.Places.{states_place, runs_place, ascii_place}
use Rattle.law_tables.specs.Rules.{targets, absent, row_of, ValidState, Classified, Rule2, Rule3, of_numbered}
use Rattle.law_tables.proofs.Codec.{At, start, same, on, to, at_head}
use Rattle.law_tables.proofs.Runs.{list1, list3, ordered_in, shape_reads, held-shape, read_shape, run_codec}
use Rattle.law_tables.proofs.Placed.{states_stand, runs_stand, ascii_stand, from_runs, from_ascii, from_wide}
use Rattle.law_tables.proofs.Judged.{Judges, JudgesBy, Handed, said_as, always, both_hold, all_three, le, eq, numbered_handed, walk_judges}
use Rattle.law_tables.proofs.Judged.{first_found, found_only, not_all, at_nth}

-- The classification of a row is a run that its fields allow

exits_below : (state k end : ℕ) (ts : List ℕ) → k + length ts ≤ end → All (λ e. e < end) (exits_from state k ts)
unfolding exits_from All
exits_below state k end [] h = tt
exits_below state k end (t ∷ ts) h = cases (exits_at state t) (exits_below state (suc k) end ts (omega arith))
  where
    cases : (b : Bool) → All (λ e. e < end) (exits_from state (suc k) ts)
        → All (λ e. e < end) (pick b (k ∷ exits_from state (suc k) ts) (exits_from state (suc k) ts))
    cases true v = (omega arith, v)
    cases false v = v

pub classification_fits : (state : ℕ) (row : List ℕ) → length row ≡ 128 → RunFields (classification state row)
unfolding by_exits by_ranges RunFields
classification_fits state row h = cases (eqb (length es) 0) refl (leb (length es) 3) refl (leb 1 (length rs)) refl (leb (length rs) 4) refl
  where
    es : List ℕ
    es = exits_from state 0 row

    rs : List AsciiRange
    rs = ranges_from state 0 row

    cases : (a : Bool) → eqb (length es) 0 ≡ a → (b : Bool) → leb (length es) 3 ≡ b → (c : Bool) → leb 1 (length rs) ≡ c → (d : Bool) → leb (length rs) 4 ≡ d
        → RunFields (pick a any (pick b (until es) (pick (c && d) (ranges rs) none)))
    cases true e b f c g d i = tt
    cases false e true f c g d i = (omega (arith, eqb-false (length es) 0 e), leb-true (length es) 3 f, exits_below state 0 128 row (omega arith))
    cases false e false f true g true i = (leb-true 1 (length rs) g, leb-true (length rs) 4 i, ordered_in 0 rs (ranges_ordered state row h))
    cases false e false f true g false i = tt
    cases false e false f false g d i = tt

-- The words of a run tell it from every other

-- the words that are written for a run are those of its shape: one, or three of which the first has kind 5
abbrev written : Shape → RunWords
written s = words_of_run (held s)

abbrev One : Shape → Type 0
One s = ((written s).length ≡ 1) × (run_words s ≡ (written s).first ∷ []) × ((written s).first % 256 < 5)

abbrev Three : Shape → Type 0
Three s = ((written s).length ≡ 3) × (run_words s ≡ (written s).first ∷ (written s).second ∷ (written s).third ∷ []) × ((written s).first % 256 ≡ 5)

written_words : (s : Shape) → RunFields s → One s ⊎ Three s
unfolding RunFields run_words held up_to_four packed bytes
written_words none v = inl (refl, refl, omega arith)
written_words any v = inl (refl, refl, omega arith)
written_words (until []) v = absurd (omega (arith, v.0))
written_words (until (a ∷ [])) v = inl (refl, list1 (omega arith), omega arith)
written_words (until (a ∷ b ∷ [])) v = inl (refl, list1 (omega arith), omega arith)
written_words (until (a ∷ b ∷ c ∷ [])) v = inl (refl, list1 (omega arith), omega arith)
written_words (until (a ∷ b ∷ c ∷ d ∷ es)) v = absurd (omega (arith, v.1))
written_words (ranges []) v = absurd (omega (arith, v.0))
written_words (ranges (a ∷ [])) v = inr (refl, list3 (omega arith) (omega arith) (omega arith), omega arith)
written_words (ranges (a ∷ b ∷ [])) v = inr (refl, list3 (omega arith) (omega arith) (omega arith), omega arith)
written_words (ranges (a ∷ b ∷ c ∷ [])) v = inr (refl, list3 (omega arith) (omega arith) (omega arith), omega arith)
written_words (ranges (a ∷ b ∷ c ∷ d ∷ [])) v = inr (refl, list3 (omega arith) (omega arith) (omega arith), omega arith)
written_words (ranges (a ∷ b ∷ c ∷ d ∷ e ∷ rs)) v = absurd (omega (arith, v.1))

-- runs of the same words are the same
same_run : (r s : Shape) → RunFields r → RunFields s → run_words r ≡ run_words s → r ≡ s
same_run r s v u e =
    let a = start (run_words r ++ []) in
    sym (held-shape r v) ∙ read_shape s [] u (same a (ap (λ l. l ++ []) e)) (shape_reads r [] v a)

-- what the test for the words of a run asks, by how many they are
module _ (w : List ℕ) (at : ℕ) (q : RunWords) where
  one_judged : q.length ≡ 1 → Judges (stands w at q) (get_or w at 0 ≡ q.first)
  unfolding stands
  one_judged e = rw e (said_as (λ p. p.0) (λ p. (p, tt)) (both_hold (eq (get_or w at 0) q.first) always))

  three_judged : q.length ≡ 3 → Judges (stands w at q) ((get_or w at 0 ≡ q.first) × (get_or w (at + 1) 0 ≡ q.second) × (get_or w (at + 2) 0 ≡ q.third))
  unfolding stands
  three_judged e = rw e (all_three (eq (get_or w at 0) q.first) (eq (get_or w (at + 1) 0) q.second) (eq (get_or w (at + 2) 0) q.third))

-- the words of a run that stands at a place
module _ (w : List ℕ) (at : ℕ) (post : List ℕ) (s : Shape) (a : At w at (run_words s ++ post)) where
  one_stands : One s → get_or w at 0 ≡ (written s).first
  one_stands o = at_head (same a (ap (λ l. l ++ post) o.1))

  three_stand : Three s → (get_or w at 0 ≡ (written s).first) × (get_or w (at + 1) 0 ≡ (written s).second) × (get_or w (at + 2) 0 ≡ (written s).third)
  three_stand o =
      let b = same a (ap (λ l. l ++ post) o.1) in
      (at_head b, at_nth ((written s).first ∷ []) _ _ b, at_nth ((written s).first ∷ (written s).second ∷ []) _ _ b)

-- the words of s are found where r stands exactly when r is s
stands_judges : (r s : Shape) (w : List ℕ) (at : ℕ) (post : List ℕ) → RunFields r → RunFields s → At w at (run_words r ++ post)
    → Judges (stands w at (written s)) (r ≡ s)
stands_judges r s w at post v u a = record {
  says = λ e. same_run r s v u (says (written_words r v) (written_words s u) e);
  told = λ e. told (same a (ap (λ x. run_words x ++ post) e)) (written_words s u);
}
  where
    says : One r ⊎ Three r → One s ⊎ Three s → stands w at (written s) ≡ true → run_words r ≡ run_words s
    says (inl o) (inl k) e = let f = (one_judged w at (written s) k.0).says e in o.1 ∙ list1 (sym (one_stands w at post r a o) ∙ f) ∙ sym k.1
    says (inl o) (inr k) e =
        let f = (three_judged w at (written s) k.0).says e in
        let i = sym (one_stands w at post r a o) ∙ f.0 in
        let j : (written r).first % 256 ≡ (written s).first % 256 = ap (λ x. x % 256) i in
        absurd (omega (arith, o.2, k.2))
    says (inr o) (inl k) e =
        let f = (one_judged w at (written s) k.0).says e in
        let i = sym (three_stand w at post r a o).0 ∙ f in
        let j : (written r).first % 256 ≡ (written s).first % 256 = ap (λ x. x % 256) i in
        absurd (omega (arith, o.2, k.2))
    says (inr o) (inr k) e =
        let f = (three_judged w at (written s) k.0).says e in
        let i = three_stand w at post r a o in
        o.1 ∙ list3 (sym i.0 ∙ f.0) (sym i.1 ∙ f.1) (sym i.2 ∙ f.2) ∙ sym k.1

    told : At w at (run_words s ++ post) → One s ⊎ Three s → stands w at (written s) ≡ true
    told b (inl k) = (one_judged w at (written s) k.0).told (one_stands w at post s b k)
    told b (inr k) = (three_judged w at (written s) k.0).told (three_stand w at post s b k)

-- The row of a state

-- a record of so many words, by its number
nth_stands : {A : Type 0} (f : A → List ℕ) (n : ℕ) (d : A) (xs : List A) (w : List ℕ) (at : ℕ) (post : List ℕ) → All (λ x. length (f x) ≡ n) xs
    → (k : ℕ) → k < length xs
    → At w at (each f xs ++ post) → (rest : List ℕ) × At w (at + k * n) (f (get_or xs k d) ++ rest)
unfolding each All
nth_stands f n d [] w at post v k h a = absurd (omega arith)
nth_stands f n d (x ∷ xs) w at post v zero h a =
    let e : at ≡ at + 0 * n = omega (arith, zero-mul n) in
    (each f xs ++ post, to (same a (append_assoc (f x) (each f xs) post)) e)
nth_stands f n d (x ∷ xs) w at post v (suc k) h a =
    let b = same a (append_assoc (f x) (each f xs) post) in
    let i = nth_stands f n d xs w (at + length (f x)) post v.1 k (omega arith) (on (f x) (each f xs ++ post) b) in
    let e : at + length (f x) + k * n ≡ at + suc k * n = omega (arith, suc-mul k n, v.0) in
    (i.0, to i.1 e)

all_nth : {A : Type 0} (P : A → Type 0) (d : A) (xs : List A) (k : ℕ) → k < length xs → All P xs → P (get_or xs k d)
unfolding All
all_nth P d [] k h v = absurd (omega arith)
all_nth P d (x ∷ xs) zero h v = v.0
all_nth P d (x ∷ xs) (suc k) h v = all_nth P d xs k (omega arith) v.1

all_four_words : (xs : List State) → All (λ s. length (state_words s) ≡ 4) xs
unfolding All
all_four_words [] = tt
all_four_words (x ∷ xs) = (refl, all_four_words xs)

targets_read : (l w : List ℕ) (at : ℕ) (post : List ℕ) → At w at (l ++ post) → words.targets w (length l) at ≡ targets l
unfolding words.targets targets
targets_read [] w at post a = refl
targets_read (x ∷ l) w at post a = rw (at_head a, targets_read l w (at + 1) post (on (x ∷ []) (l ++ post) a))

targets_size : (l : List ℕ) → length (targets l) ≡ length l + length l
unfolding targets
targets_size [] = refl
targets_size (x ∷ l) = omega (arith, targets_size l)

-- runs from number n on, of so many states
counted_up : (count n : ℕ) (rs : List Shape) → n + length rs ≤ count → All RunFields rs → Handed (λ n r. RunFields r × (n < count)) (λ n r. n + 1) n rs
unfolding All
counted_up count n [] h v = tt
counted_up count n (r ∷ rs) h v = ((v.0, omega arith), counted_up count (n + 1) rs (omega arith) v.1)

module _ (t : Table) (h : Fields t) (r2 : Rule2 t) where
  row_number_lem : (i : ℕ) → i < length t.states → row_number (words_of t) (states_place t) i ≡ (get_or t.states i absent).ascii
  row_number_lem i l =
      let b = on (length t.states ∷ []) (each state_words t.states ++ from_runs t) (states_stand t) in
      let s = nth_stands state_words 4 absent t.states (words_of t) (states_place t + 1) (from_runs t) (all_four_words t.states) i l b in
      let e : states_place t + 1 + i * 4 ≡ states_place t + (1 + 4 * i) = omega arith in
      at_head (to s.1 e)

  row-there : (i : ℕ) → i < length t.states → (get_or t.states i absent).ascii < length t.ascii
  row-there i l = (all_nth (ValidState t) absent t.states i l r2).0

  row_long : (k : ℕ) → k < length t.ascii → length (get_or t.ascii k []) ≡ 64
  row_long k l = all_nth (λ row. length row ≡ 64) [] t.ascii k l h.ascii

  -- a state's row has 128 targets
  pub state_row_long : (i : ℕ) → i < length t.states → length (row_of t i) ≡ 128
  state_row_long i l =
      let k = (get_or t.states i absent).ascii in
      omega (arith, targets_size (get_or t.ascii k []), row_long k (row-there i l))

  row_read : (k : ℕ) → k < length t.ascii → words.row_of (words_of t) (ascii_place t) k ≡ targets (get_or t.ascii k [])
  row_read k l =
      let b = on (length t.ascii ∷ []) (each ascii_words t.ascii ++ from_wide t) (ascii_stand t) in
      let s = nth_stands ascii_words 64 [] t.ascii (words_of t) (ascii_place t + 1) (from_wide t) h.ascii k l b in
      let e : ascii_place t + 1 + k * 64 ≡ ascii_place t + (1 + 64 * k) = omega arith in
      ap (λ n. words.targets (words_of t) n (ascii_place t + (1 + 64 * k))) (sym (row_long k l))
      ∙ targets_read (get_or t.ascii k []) (words_of t) (ascii_place t + (1 + 64 * k)) s.0 (to s.1 e)

  -- the run of state i
  run_judges : (i : ℕ) (r : Shape) (at : ℕ) (post : List ℕ) → i < length t.states → i ≤ 65535 → RunFields r → At (words_of t) at (run_words r ++ post)
      → Judges (run_good (words_of t) (states_place t) (ascii_place t) i at) (r ≡ classification i (row_of t i))
  unfolding run_good classified_words
  run_judges i r at post l m v a =
      let k = (get_or t.states i absent).ascii in
      rw (row_number_lem i l, row_read k (row-there i l))
      (said_as (λ p. p.1) (λ p. (m, p)) (both_hold (le i 65535)
      (stands_judges r (classification i (row_of t i)) (words_of t) at post v (classification_fits i (row_of t i) (state_row_long i l)) a)))

  -- a state's number has 16 bits
  pub rule4-judged : Rule3 t → length t.states ≤ 65536
      → JudgesBy (words.rule4 (words_of t) (states_place t) (runs_place t) (ascii_place t)) (words.item4 (words_of t) (states_place t) (runs_place t) (ascii_place t))
      (of_numbered (Classified t) t.runs)
  rule4-judged r3 few =
      let w = words_of t in
      let G : ℕ → Shape → Type 0 = λ n r. RunFields r × (n < length t.states) in
      let test = run_good w (states_place t) (ascii_place t) in
      let judges : (n : ℕ) (r : Shape) (p : ℕ) (q : List ℕ) → G n r → At w p (run_words r ++ q) → Judges (test n p) (Classified t n r)
      = λ n r p q g b. run_judges n r p q g.1 (omega (arith, g.1)) g.0 b in
      let reads : (n : ℕ) (r : Shape) (p : ℕ) (q : List ℕ) → G n r → At w p (run_words r ++ q) → run_at w p ≡ Ok (p + length (run_words r))
      = λ n r p q g b. run_codec.complete r w p q g.0 b in
      let b = on (length t.runs ∷ []) (each run_words t.runs ++ from_ascii t) (runs_stand t) in
      let v = counted_up (length t.states) 0 t.runs (omega arith) h.runs in
      let g = subst (λ T. T) (numbered_handed G 0 t.runs) v in
      rw (at_head (runs_stand t))
      (record {
        judges = subst (Judges (words.runs_good w (states_place t) (ascii_place t) 0 (length t.runs) (runs_place t + 1)))
            (numbered_handed (Classified t) 0 t.runs)
            (walk_judges run_words G (Classified t) (λ n r. n + 1) w test (λ n p. n + 1) (run_at w)
            (λ n r p q g b. record { judges = judges n r p q g b; hands = refl; reads = reads n r p q g b })
            t.runs 0 (runs_place t + 1) (from_ascii t) v b);
        first = first_found run_words G (Classified t) w test (run_at w) judges reads t.runs 0 (runs_place t + 1) (from_ascii t) g b;
        only = found_only run_words G (Classified t) w test (run_at w) judges reads t.runs 0 (runs_place t + 1) (from_ascii t) g b;
        breaks = not_all (Classified t) 0 t.runs;
      })
