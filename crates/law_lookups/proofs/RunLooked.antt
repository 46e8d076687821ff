-- The run of a state, on a room that holds a table, is the classification of its row. Assumes nothing.
use Prim.Native.Nat.{ℕ, zero, suc, ◌+◌, ◌-◌, ◌<◌}
use native.Mathlib.Nat.{not-suc-le-zero, le_of_suc-le-suc, add-zero}
use native.Mathlib.Omega.{arith}
use mathlib.Core.Path.{◌≡◌, refl, sym, ap, subst, ◌∙◌}
use mathlib.Core.Bool.{Bool, true, false}
use mathlib.Core.List.{List, [], ◌∷◌, ◌++◌}
use lib.Dec.{ltb}
use lib.ListN.{length, get_or, take}
use lib.Seq.{take-append-add}
use borrow.Author.Tests.{ltb-true, ltb-false}
use Rattle.refusal.specs.Header.{ASCII-START}
use Rattle.refusal.specs.Said.{STATE}
use Rattle.refusal.specs.Lists.{pick}
use Rattle.run_shape.specs.Shape.{Shape, none, any, until, ranges, Got, refused, shape, held}
use Rattle.run_shape.specs.Words.{read_at}
use Rattle.run_shape.specs.Scan.{skipped, scan_said, scanned_by}
use Rattle.run_shape.specs.Classify.{classification}
use Rattle.std.specs.Prelude.{Ok}
use Rattle.room_find.specs.Room.{follow}
use Rattle.look_runs.specs.RunPlaces.{run_place}
use Rattle.look_runs.specs.StateRun.{run_in, run_of, ascii_run, skipped_by}
use Rattle.law_tables.specs.Table.{Table, Fields, RunFields, run_words}
use Rattle.law_tables.specs.Rules.{Rules, Numbered, row_of}
use Rattle.law_tables.proofs.Codec.{At}
use Rattle.law_tables.proofs.Runs.{shape_reads, held-shape}
use Rattle.law_lookups.specs.Looks.{ascii_run_of, scan_of, skipped_of}
use Rattle.law_lookups.proofs.Stands.{Within, all_nth}
use Rattle.law_lookups.proofs.Held.{Held}
use Rattle.law_lookups.proofs.Lists.{listed_is, runs_listed}
use Rattle.law_lookups.proofs.Looked.{state_at_lem, state_none}

-- what fits each number fits number i
numbered_nth : {A : Type 0} (P : ℕ → A → Type 0) (n : ℕ) (xs : List A) (i : ℕ) (d : A) → Numbered P n xs → i < length xs → P (n + i) (get_or xs i d)
unfolding Numbered
numbered_nth P n [] i d h l = absurd (not-suc-le-zero l)
numbered_nth P n (x ∷ xs) zero d h l = subst (λ m. P m x) (sym (add-zero n)) h.0
numbered_nth P n (x ∷ xs) (suc i) d h l =
    let e : n + 1 + i ≡ n + suc i = omega arith in
    subst (λ m. P m (get_or xs i d)) e (numbered_nth P (n + 1) xs i d h.1 (le_of_suc-le-suc l))

-- a run has a word
run_word : (s : Shape) → 0 < length (run_words s)
unfolding run_words
run_word none = omega arith
run_word any = omega arith
run_word (until es) = omega arith
run_word (ranges rs) = omega arith

-- what stands in a section stands in the section alone
cut : {w : List ℕ} {e p : ℕ} (l : List ℕ) (z : Within w e p l) → At (take e w) p (l ++ take (e - (p + length l)) z.post)
cut {w} {e} {p} l z =
    let a = z.stands in
    let k = e - (p + length l) in
    let n : e ≡ length a.pre + (length l + k) = omega (arith, a.here, z.ends) in
    record {
      pre = a.pre;
      whole = ap (λ v. take e v) a.whole ∙ ap (λ v. take v (a.pre ++ (l ++ z.post))) n ∙ take-append-add a.pre (l ++ z.post) (length l + k)
          ∙ ap (λ v. a.pre ++ v) (take-append-add l z.post k);
      here = a.here;
    }

module _ (t : Table) (h : Fields t) (r : Rules t) (w : List ℕ) (k : Held t w) where
  module _ (s : ℕ) (l : s < length t.states) where
    there : s < length t.runs
    there = omega (arith, r.rule3)

    abbrev shaped : Shape
    shaped = get_or t.runs s none

    -- the list of places leads to the run
    run_at : (p : ℕ) × (run_place w s ≡ Ok p) × Within w (get_or w ASCII-START 0) p (run_words shaped)
    run_at = let q = listed_is k.runs k.run_places s none there (run_word shaped) in (q.0, runs_listed t w k s ∙ q.1, q.2)

    -- rule 4
    classified : shaped ≡ classification s (row_of t s)
    classified =
        let e : 0 + s ≡ s = omega arith in
        subst (λ i. shaped ≡ classification i (row_of t i)) e (numbered_nth (λ i x. x ≡ classification i (row_of t i)) 0 t.runs s none r.rule4 there)

    run_read : run_of w s ≡ Ok (held (classification s (row_of t s)))
    unfolding run_of follow run_in
    run_read =
        let q = run_at in
        let e : read_at (take (get_or w ASCII-START 0) w) q.0 ≡ Ok (held shaped) =
        shape_reads shaped _ (all_nth RunFields t.runs s none h.runs there) (cut (run_words shaped) q.2) in
        rw (q.1, e) (ap (λ x. Ok (held x)) classified)

  pub run_is : (s : ℕ) → ascii_run w s ≡ ascii_run_of t s
  unfolding ascii_run follow
  run_is s = go (ltb s (length t.states)) refl
    where
      go : (b : Bool) → ltb s (length t.states) ≡ b → ascii_run w s ≡ pick b (Ok (held (classification s (row_of t s)))) (refused STATE 0)
      go true u = let l = ltb-true _ _ u in rw (state_at_lem t h r w k s l) (run_read s l)
      go false u = rw (state_none t h r w k s (ltb-false _ _ u))

  -- the run that is held stands for the classification
  stands_for : (s : ℕ) → s < length t.states → shape (held (classification s (row_of t s))) ≡ classification s (row_of t s)
  stands_for s l =
      let f = all_nth RunFields t.runs s none h.runs (there s l) in
      subst (λ x. shape (held x) ≡ x) (classified s l) (held-shape (shaped s l) f)

  -- what is done with a run
  by_run : {A : Type 0} (f : Got → A) (g : Shape → A) → ((x : _) → f (Ok x) ≡ g (shape x)) → (s : ℕ) →
      f (ascii_run w s) ≡ pick (ltb s (length t.states)) (g (classification s (row_of t s))) (f (refused STATE 0))
  by_run f g e s = ap f (run_is s) ∙ go (ltb s (length t.states)) refl
    where
      go : (b : Bool) → ltb s (length t.states) ≡ b
          → f (pick b (Ok (held (classification s (row_of t s)))) (refused STATE 0)) ≡ pick b (g (classification s (row_of t s))) (f (refused STATE 0))
      go true u = e (held (classification s (row_of t s))) ∙ ap g (stands_for s (ltb-true _ _ u))
      go false u = refl

  pub scan_is : (s : ℕ) (bs : List ℕ) → scanned_by (ascii_run w s) bs ≡ scan_of t s bs
  scan_is s bs = by_run (λ g. scanned_by g bs) (λ x. scan_said x bs) (λ x. refl) s

  pub skipped_is : (s : ℕ) (bs : List ℕ) → skipped_by (ascii_run w s) bs ≡ skipped_of t s bs
  skipped_is s bs = by_run (λ g. skipped_by g bs) (λ x. skipped x bs) (λ x. refl) s
