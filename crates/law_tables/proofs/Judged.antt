-- What decoding judges over words is what the index rules say of the table. A walk over the words of a list of records asks of each record what
-- its test judges there, for the walk stands at the record's words; so each rule is judged as its records are. Rule 4 is in `Classified`.
-- Assumes nothing.
use mathlib.Core.Path.{◌≡◌, refl, sym, ap, subst, ◌∙◌}
use mathlib.Core.List.{List, [], ◌∷◌, ◌++◌, append_assoc}
use mathlib.Core.Bool.{Bool, true, false, ◌&&◌, ◌||◌}
use mathlib.Core.Logic.{◌⊎◌, inl, inr}
use Prim.Native.Nat.{ℕ, ◌+◌, ◌*◌, ◌≤◌, ◌<◌, ◌%◌, ◌/◌}
use native.Mathlib.Nat.{suc-mul, zero-mul}
use native.Mathlib.Omega.{arith}
use lib.Dec.{ltb, leb, eqb}
use lib.ListN.{length, get_or}
use borrow.Author.Tests.{lt-ltb, le-leb, ltb-true, leb-true, eqb-true, eq-eqb}
use Rattle.refusal.specs.Fixed.{NONE, ESCAPE-STATE, DEAD-STATE}
use Rattle.word_reader.specs.Parse.{Place}
use Rattle.std.specs.Prelude.{Ok}
use Rattle.word_reader.specs.Records.{state_at}
use Rattle.rule_words.specs.Rules as words
use Rattle.rule_words.specs.Rules.{every_from, walk, every, every_in, read_or, passing, passing_in, sized, good, none_or, present, follows, next_from}
use Rattle.rule_words.specs.Rules.{searchable, thirds, each_word, refers_below}
use Rattle.rule_words.specs.Rules.{below, state_good, both_good, wide_good, escape_good, config_good, continuation_with, continuation_good}
use Rattle.law_tables.specs.Table.{Table, State, Range, Escape, Context, Config, Continuation, Fields, All, counted, words_of, mode_words}
use Rattle.law_tables.specs.Table.{state_words, range_words, wide_words, escape_words, context_words, config_words, continuation_words}
use Rattle.law_tables.specs.Places.{states_place, runs_place, ascii_place, wide_place, accepts_place, escapes_place, continuations_place}
use Rattle.law_tables.specs.Rules.{Numbered, FirstNot, NoneOr, Good, Searchable, targets, RefersBelow, ValidState, GoodRow, GoodWide}
use Rattle.law_tables.specs.Rules.{ValidEscape, ValidContinuation, Rule3, Rule7, Rule, of_each, of_all}
use Rattle.law_tables.proofs.Codec.{At, Codec, same, on, to, at_head, Always}
use Rattle.law_tables.proofs.Records.{mode, state, ascii, wide_row_lem, escape, config, continuation, all_always, or_split, or_right}
use Rattle.refusal.proofs.Lists.{and_split}
use Rattle.refusal.specs.Lists.{each, pick}
use Rattle.law_tables.proofs.Placed.{modes_stand, states_stand, runs_stand, ascii_stand, wide_stand, accepts_stand, escapes_stand}
use Rattle.law_tables.proofs.Placed.{continuations_stand, from_states, from_runs, from_wide, from_accepts, from_continuations}

-- A test tells whether a fact holds

pub record Judges (b : Bool) (P : Type 0) : Type 0 where
  pub says : b ≡ true → P
  pub told : P → b ≡ true

pub by_equal : {a b : Bool} {P : Type 0} → a ≡ b → Judges b P → Judges a P
by_equal {P = P} e j = subst (λ x. Judges x P) (sym e) j

pub fails : {P : Type 0} → Judges false P → P → ⊥
fails j p = let e = j.told p in let z : ◌≡◌ {A = ℕ} 0 1 = cc in omega arith

-- and an item, where it does not
pub record JudgesBy (b : Bool) (i : ℕ) (R : Rule) : Type 0 where
  pub judges : Judges b R.holds
  pub first : (R.holds → ⊥) → R.fails i
  pub only : (j : ℕ) → R.fails j → i ≡ j
  pub breaks : (j : ℕ) → R.fails j → R.holds → ⊥

-- the same fact, said otherwise
pub said_as : {b : Bool} {P Q : Type 0} → (P → Q) → (Q → P) → Judges b P → Judges b Q
said_as f g j = record { says = λ e. f (j.says e); told = λ q. j.told (g q) }

pub always : Judges true (Unit {0})
always = record { says = λ _. tt; told = λ _. refl }

pub both_hold : {a b : Bool} {P Q : Type 0} → Judges a P → Judges b Q → Judges (a && b) (P × Q)
both_hold {a} {b} j k = record {
  says = λ e. let s = and_split a b e in (j.says s.0, k.says s.1);
  told = λ p. ap (λ x. x && b) (j.told p.0) ∙ k.told p.1;
}

pub all_three : {a b c : Bool} {P Q R : Type 0} → Judges a P → Judges b Q → Judges c R → Judges (a && (b && c)) (P × Q × R)
all_three j k l = said_as (λ p. (p.0, p.1.0, p.1.1)) (λ p. (p.0, (p.1, p.2))) (both_hold j (both_hold k l))

all_four : {a b c d : Bool} {P Q R S : Type 0} → Judges a P → Judges b Q → Judges c R → Judges d S → Judges (a && (b && (c && d))) (P × Q × R × S)
all_four j k l m = said_as (λ p. (p.0, p.1.0, p.1.1, p.1.2)) (λ p. (p.0, (p.1, p.2, p.3))) (both_hold j (all_three k l m))

pub either_holds : {a b : Bool} {P Q : Type 0} → Judges a P → Judges b Q → Judges (a || b) (P ⊎ Q)
either_holds {a} {b} {P} {Q} j k = record { says = λ e. split (or_split a b e); told = join }
  where
    split : (a ≡ true) ⊎ (b ≡ true) → P ⊎ Q
    split (inl e) = inl (j.says e)
    split (inr e) = inr (k.says e)

    join : P ⊎ Q → (a || b) ≡ true
    join (inl p) = ap (λ x. x || b) (j.told p)
    join (inr q) = ap (λ x. a || x) (k.told q) ∙ or_right a

pub lt : (a b : ℕ) → Judges (ltb a b) (a < b)
lt a b = record { says = ltb-true a b; told = lt-ltb a b }

pub le : (a b : ℕ) → Judges (leb a b) (a ≤ b)
le a b = record { says = leb-true a b; told = le-leb a b }

pub eq : (a b : ℕ) → Judges (eqb a b) (a ≡ b)
eq a b = record { says = eqb-true a b; told = eq-eqb a b }

is_good : (t : Table) (x : ℕ) → Judges (good (length t.states) x) (Good t x)
unfolding good
is_good t x = either_holds (lt x (length t.states)) (either_holds (eq x ESCAPE-STATE) (eq x DEAD-STATE))

is_none_or : (n x : ℕ) → Judges (none_or n x) (NoneOr n x)
unfolding none_or
is_none_or n x = either_holds (eq x NONE) (lt x n)

is_present : (n x : ℕ) → Judges (present n x) (x < n)
unfolding present
is_present n x = lt x n

-- Walks

-- each of a list by what is handed to it; it hands the next on
abbrev pub Handed : {A : Type 0} → (ℕ → A → Type 0) → (ℕ → A → ℕ) → ℕ → List A → Type 0
Handed P next n [] = Unit {0}
Handed P next n (x ∷ xs) = P n x × Handed P next (next n x) xs

pub all_handed : {A : Type 0} (P : A → Type 0) (xs : List A) → Handed (λ n x. P x) (λ n x. n) 0 xs ≡ All P xs
unfolding All
all_handed P [] = refl
all_handed P (x ∷ xs) = ap (λ T. P x × T) (all_handed P xs)

pub numbered_handed : {A : Type 0} (P : ℕ → A → Type 0) (n : ℕ) (xs : List A) → Handed P (λ n x. n + 1) n xs ≡ Numbered P n xs
unfolding Numbered
numbered_handed P n [] = refl
numbered_handed P n (x ∷ xs) = ap (λ T. P n x × T) (numbered_handed P (n + 1) xs)

-- what a walk finds at the words of a record: its test judges the record, it hands on what the record does, and it goes on behind the record
pub record Step {A : Type 0} (f : A → List ℕ) (P : ℕ → A → Type 0) (next : ℕ → A → ℕ) (test : ℕ → ℕ → Bool) (hand : ℕ → ℕ → ℕ) (read : ℕ → Place)
    (n : ℕ) (x : A) (at : ℕ) : Type 0 where
  pub judges : Judges (test n at) (P n x)
  pub hands : hand n at ≡ next n x
  pub reads : read at ≡ Ok (at + length (f x))

module _ {A : Type 0} (f : A → List ℕ) (G P : ℕ → A → Type 0) (next : ℕ → A → ℕ) (w : List ℕ) (test : ℕ → ℕ → Bool) (hand : ℕ → ℕ → ℕ) (read : ℕ → Place)
    (step : (n : ℕ) (x : A) (at : ℕ) (post : List ℕ) → G n x → At w at (f x ++ post) → Step f P next test hand read n x at) where
  pub walk_judges : (xs : List A) (n at : ℕ) (post : List ℕ) → Handed G next n xs → At w at (each f xs ++ post)
      → Judges (walk test hand read n (length xs) at) (Handed P next n xs)
  unfolding walk every_from each
  walk_judges [] n at post v a = always
  walk_judges (x ∷ xs) n at post v a =
      let b = same a (append_assoc (f x) (each f xs) post) in
      let s = step n x at (each f xs ++ post) v.0 b in
      let i = walk_judges xs (next n x) (at + length (f x)) post v.1 (on (f x) (each f xs ++ post) b) in
      let e : every_from (read at) (walk test hand read (hand n at) (length xs)) ≡ walk test hand read (next n x) (length xs) (at + length (f x)) =
      rw (s.reads, s.hands) in
      both_hold s.judges (by_equal e i)

-- how many records pass before the first that does not is the number of the first that does not fit
module _ {A : Type 0} (f : A → List ℕ) (G P : ℕ → A → Type 0) (w : List ℕ) (test : ℕ → ℕ → Bool) (read : ℕ → Place)
    (judges : (n : ℕ) (x : A) (at : ℕ) (post : List ℕ) → G n x → At w at (f x ++ post) → Judges (test n at) (P n x))
    (reads : (n : ℕ) (x : A) (at : ℕ) (post : List ℕ) → G n x → At w at (f x ++ post) → read at ≡ Ok (at + length (f x))) where
  pub first_found : (xs : List A) (n at : ℕ) (post : List ℕ) → Numbered G n xs → At w at (each f xs ++ post) → (Numbered P n xs → ⊥)
      → FirstNot P n xs (passing test read n (length xs) at)
  unfolding passing read_or each Numbered FirstNot
  first_found [] n at post v a not = absurd (not tt)
  first_found (x ∷ xs) n at post v a not =
      let b = same a (append_assoc (f x) (each f xs) post) in
      rw (reads n x at (each f xs ++ post) v.0 b)
      (go (test n at) (judges n x at (each f xs ++ post) v.0 b)
      (first_found xs (n + 1) (at + length (f x)) post v.1 (on (f x) (each f xs ++ post) b)))
    where
      go : (t : Bool) → Judges t (P n x)
          → ((Numbered P (n + 1) xs → ⊥) → FirstNot P (n + 1) xs (passing test read (n + 1) (length xs) (at + length (f x))))
          → FirstNot P n (x ∷ xs) (pick t (passing test read (n + 1) (length xs) (at + length (f x))) n)
      go true j k = let p = j.says refl in inr (p, k (λ ps. not (p, ps)))
      go false j k = inl (refl, fails j)

  pub found_only : (xs : List A) (n at : ℕ) (post : List ℕ) → Numbered G n xs → At w at (each f xs ++ post) → (i : ℕ) → FirstNot P n xs i
      → passing test read n (length xs) at ≡ i
  unfolding passing read_or each Numbered FirstNot
  found_only [] n at post v a i e = absurd e
  found_only (x ∷ xs) n at post v a i e =
      let b = same a (append_assoc (f x) (each f xs) post) in
      rw (reads n x at (each f xs ++ post) v.0 b)
      (go (test n at) (judges n x at (each f xs ++ post) v.0 b)
      (found_only xs (n + 1) (at + length (f x)) post v.1 (on (f x) (each f xs ++ post) b) i) e)
    where
      go : (t : Bool) → Judges t (P n x) → (FirstNot P (n + 1) xs i → passing test read (n + 1) (length xs) (at + length (f x)) ≡ i)
          → ((n ≡ i) × (P n x → ⊥)) ⊎ (P n x × FirstNot P (n + 1) xs i)
          → pick t (passing test read (n + 1) (length xs) (at + length (f x))) n ≡ i
      go true j k (inl (e, not)) = absurd (not (j.says refl))
      go false j k (inl (e, not)) = e
      go true j k (inr (p, e)) = k e
      go false j k (inr (p, e)) = absurd (fails j p)

-- where one does not fit, not all do
pub not_all : {A : Type 0} (P : ℕ → A → Type 0) (n : ℕ) (xs : List A) (i : ℕ) → FirstNot P n xs i → Numbered P n xs → ⊥
unfolding FirstNot Numbered
not_all P n [] i e v = e
not_all P n (x ∷ xs) i (inl (e, not)) v = not v.0
not_all P n (x ∷ xs) i (inr (p, e)) v = not_all P (n + 1) xs i e v.1

all_numbered : {A : Type 0} (P : A → Type 0) (n : ℕ) (xs : List A) → All P xs → Numbered (λ n. P) n xs
unfolding All Numbered
all_numbered P n [] v = tt
all_numbered P n (x ∷ xs) v = (v.0, all_numbered P (n + 1) xs v.1)

numbered_all : {A : Type 0} (P : A → Type 0) (n : ℕ) (xs : List A) → Numbered (λ n. P) n xs → All P xs
unfolding All Numbered
numbered_all P n [] v = tt
numbered_all P n (x ∷ xs) v = (v.0, numbered_all P (n + 1) xs v.1)

-- a walk that hands nothing on, over records that `read` reads
module _ {A : Type 0} (f : A → List ℕ) (G P : A → Type 0) (w : List ℕ) (test : ℕ → Bool) (read : ℕ → Place)
    (judges : (x : A) (at : ℕ) (post : List ℕ) → G x → At w at (f x ++ post) → Judges (test at) (P x))
    (reads : (x : A) (at : ℕ) (post : List ℕ) → G x → At w at (f x ++ post) → read at ≡ Ok (at + length (f x))) where
  pub each_judges : (xs : List A) (at : ℕ) (post : List ℕ) → All G xs → At w at (each f xs ++ post)
      → Judges (walk (λ n p. test p) (λ n p. n) read 0 (length xs) at) (All P xs)
  each_judges xs at post v a =
      subst (Judges (walk (λ n p. test p) (λ n p. n) read 0 (length xs) at)) (all_handed P xs)
      (walk_judges f (λ n. G) (λ n. P) (λ n x. n) w (λ n p. test p) (λ n p. n) read
      (λ n x p q g b. record { judges = judges x p q g b; hands = refl; reads = reads x p q g b })
      xs 0 at post (subst (λ T. T) (sym (all_handed G xs)) v) a)

-- each record of a section
module _ {A : Type 0} {r : List ℕ → ℕ → Place} {f : A → List ℕ} {G : A → Type 0} (c : Codec A r f G) (P : A → Type 0) (w : List ℕ) (test : ℕ → Bool)
    (judges : (x : A) (at : ℕ) (post : List ℕ) → G x → At w at (f x ++ post) → Judges (test at) (P x)) where
  pub section_judges : (xs : List A) (at : ℕ) (post : List ℕ) → All G xs → At w at (counted f xs ++ post) → Judges (every_in r test w at) (All P xs)
  unfolding every_in every
  section_judges xs at post v a =
      by_equal (ap (λ n. walk (λ x p. test p) (λ x p. x) (r w) 0 n (at + 1)) (at_head a))
      (each_judges f G P w test (r w) judges (λ x p q g b. c.complete x w p q g b) xs (at + 1) post v (on (length xs ∷ []) (each f xs ++ post) a))

  -- and the first that does not fit
  pub section_rule : (xs : List A) (at : ℕ) (post : List ℕ) → All G xs → At w at (counted f xs ++ post)
      → JudgesBy (every_in r test w at) (passing_in r (λ i. test) w at) (of_each P xs)
  section_rule xs at post v a =
      let b = on (length xs ∷ []) (each f xs ++ post) a in
      let g = all_numbered G 0 xs v in
      record {
        judges = section_judges xs at post v a;
        first = λ not. rw (at_head a)
            (first_found f (λ n. G) (λ n. P) w (λ i. test) (r w) (λ n. judges) (λ n x p q g b. c.complete x w p q g b)
            xs 0 (at + 1) post g b (λ ps. not (numbered_all P 0 xs ps)));
        only = λ i e. rw (at_head a)
            (found_only f (λ n. G) (λ n. P) w (λ i. test) (r w) (λ n. judges) (λ n x p q g b. c.complete x w p q g b)
            xs 0 (at + 1) post g b i e);
        breaks = λ i e v. not_all (λ n. P) 0 xs i e (all_numbered P 0 xs v);
      }

-- a rule of the whole table
pub whole : {b : Bool} {R : Type 0} → Judges b R → JudgesBy b 0 (of_all R)
whole j = record { judges = j; first = λ not. (refl, not); only = λ i e. sym e.0; breaks = λ i e r. e.1 r }

-- the word k places on
pub at_nth : {w : List ℕ} {at : ℕ} (front : List ℕ) (x : ℕ) (r : List ℕ) → At w at (front ++ (x ∷ r)) → get_or w (at + length front) 0 ≡ x
at_nth front x r a = at_head (on front (x ∷ r) a)

-- Lists of ranges, words, contexts

-- ranges of which each is handed where it may start
abbrev Follows : ℕ → Range → Type 0
Follows from r = (from ≤ r.low) × (r.low ≤ r.high)

abbrev InTurn : ℕ → List Range → Type 0
InTurn = Handed Follows (λ from r. r.high + 1)

turn_searchable : (from : ℕ) (rs : List Range) → InTurn from rs → Searchable rs
unfolding Searchable
turn_searchable from [] h = tt
turn_searchable from (r ∷ []) h = h.0.1
turn_searchable from (r ∷ s ∷ rs) h = (h.0.1, omega (arith, h.1.0.0), turn_searchable (r.high + 1) (s ∷ rs) h.1)

searchable_turn : (from : ℕ) (r : Range) (rs : List Range) → from ≤ r.low → Searchable (r ∷ rs) → InTurn from (r ∷ rs)
unfolding Searchable
searchable_turn from r [] f h = ((f, h), tt)
searchable_turn from r (s ∷ rs) f h = ((f, h.0), searchable_turn (r.high + 1) s rs (omega (arith, h.1)) h.2)

searchable_all : (rs : List Range) → Searchable rs → InTurn 0 rs
searchable_all [] h = tt
searchable_all (r ∷ rs) h = searchable_turn 0 r rs (omega arith) h

free : {A : Type 0} (next : ℕ → A → ℕ) (n : ℕ) (xs : List A) → Handed (λ n x. Unit {0}) next n xs
free next n [] = tt
free next n (x ∷ xs) = (tt, free next (next n x) xs)

follow : (w : List ℕ) (from : ℕ) (x : Range) (p : ℕ) → get_or w p 0 ≡ x.low → get_or w (p + 1) 0 ≡ x.high → Judges (follows w from p) (Follows from x)
unfolding follows
follow w from x p low high = rw (low, high) (both_hold (le from x.low) (le x.low x.high))

searchable_judges : (rs : List Range) (w : List ℕ) (at : ℕ) (post : List ℕ) → At w at (each range_words rs ++ post)
    → Judges (searchable w 0 (length rs) at) (Searchable rs)
searchable_judges rs w at post a =
    said_as (turn_searchable 0 rs) (searchable_all rs)
    (walk_judges range_words (λ n x. Unit {0}) Follows (λ from r. r.high + 1) w (follows w) (λ from p. next_from w p) (sized 3) step rs 0 at post
    (free _ 0 rs) a)
  where
    step : (from : ℕ) (x : Range) (p : ℕ) (q : List ℕ) → Unit {0} → At w p (range_words x ++ q)
        → Step range_words Follows (λ from r. r.high + 1) (follows w) (λ from p. next_from w p) (sized 3) from x p
    step from x p q _ b =
        let high : get_or w (p + 1) 0 ≡ x.high = at_nth (x.low ∷ []) _ _ b in
        record { judges = follow w from x p (at_head b) high; hands = ap (λ n. n + 1) high; reads = refl }

thirds_judge : (P : ℕ → Type 0) (test : ℕ → Bool) → ((x : ℕ) → Judges (test x) (P x)) → (rs : List Range) (w : List ℕ) (at : ℕ) (post : List ℕ)
    → At w at (each range_words rs ++ post)
    → Judges (thirds test w (length rs) at) (All (λ r. P r.goal) rs)
thirds_judge P test k rs w at post a =
    each_judges range_words Always (λ r. P r.goal) w (λ p. test (get_or w (p + 2) 0)) (sized 3)
    (λ x p q _ b. let e : get_or w (p + 2) 0 ≡ x.goal = at_nth (x.low ∷ x.high ∷ []) _ _ b in rw e (k x.goal))
    (λ x p q _ b. refl) rs at post (all_always rs) a

pub each_word_lem : (l : List ℕ) → each mode_words l ≡ l
unfolding each
each_word_lem [] = refl
each_word_lem (x ∷ l) = ap (λ m. x ∷ m) (each_word_lem l)

words_judge : (P : ℕ → Type 0) (test : ℕ → Bool) → ((x : ℕ) → Judges (test x) (P x)) → (l w : List ℕ) (at : ℕ) (post : List ℕ) → At w at (l ++ post)
    → Judges (each_word test w (length l) at) (All P l)
words_judge P test k l w at post a =
    each_judges mode_words Always P w (λ p. test (get_or w p 0)) (sized 1) (λ x p q _ b. rw (at_head b) (k x)) (λ x p q _ b. refl) l at post (all_always l)
    (same a (ap (λ m. m ++ post) (sym (each_word_lem l))))

refers : (w : List ℕ) (i : ℕ) (x : Context) (p : ℕ) (q : List ℕ) → At w p (context_words x ++ q) → Judges (refers_below w i p) (RefersBelow i x)
unfolding refers_below
refers w i x p q b =
    let e1 : get_or w (p + 1) 0 ≡ x.a = at_nth (x.kind ∷ []) _ _ b in
    let e2 : get_or w (p + 2) 0 ≡ x.b = at_nth (x.kind ∷ x.a ∷ []) _ _ b in
    rw (at_head b, e1, e2) (both_hold (lt x.a i) (either_holds (eq x.kind 0) (lt x.b i)))

below_judges : (cs : List Context) (w : List ℕ) (i at : ℕ) (post : List ℕ) → At w at (each context_words cs ++ post)
    → Judges (below w i (length cs) at) (Numbered RefersBelow i cs)
below_judges cs w i at post a =
    subst (Judges (below w i (length cs) at)) (numbered_handed RefersBelow i cs)
    (walk_judges context_words (λ n x. Unit {0}) RefersBelow (λ n x. n + 1) w (refers_below w) (λ n p. n + 1) (sized 3)
    (λ n x p q _ b. record { judges = refers w n x p q b; hands = refl; reads = refl }) cs i at post (free _ i cs) a)

-- Records

state_judges : (t : Table) (w : List ℕ) (x : State) (at : ℕ) (post : List ℕ) → At w at (state_words x ++ post)
    → Judges (state_good (length t.states) (length t.ascii) (length t.wide) (length t.accepts) w at)
    ((x.ascii < length t.ascii) × (x.wide < length t.wide) × Good t x.eof × NoneOr (length t.accepts) x.accept)
unfolding state_good
state_judges t w x at post a =
    let e1 : get_or w (at + 1) 0 ≡ x.wide = at_nth (x.ascii ∷ []) _ _ a in
    let e2 : get_or w (at + 2) 0 ≡ x.eof = at_nth (x.ascii ∷ x.wide ∷ []) _ _ a in
    let e3 : get_or w (at + 3) 0 ≡ x.accept = at_nth (x.ascii ∷ x.wide ∷ x.eof ∷ []) _ _ a in
    rw (at_head a, e1, e2, e3)
    (all_four (is_present (length t.ascii) x.ascii) (is_present (length t.wide) x.wide) (is_good t x.eof)
    (is_none_or (length t.accepts) x.accept))

wide_judges : (t : Table) (w : List ℕ) (xs : List Range) (at : ℕ) (post : List ℕ) → At w at (wide_words xs ++ post)
    → Judges (wide_good (length t.states) w at) (Searchable xs × All (λ r. Good t r.goal) xs)
unfolding wide_good
wide_judges t w xs at post a =
    let b = on (length xs ∷ []) (each range_words xs ++ post) a in
    rw (at_head a) (both_hold (searchable_judges xs w (at + 1) post b) (thirds_judge (Good t) (good (length t.states)) (is_good t) xs w (at + 1) post b))

escape_judges : (n : ℕ) (w : List ℕ) (x : Escape) (at : ℕ) (post : List ℕ) → At w at (escape_words x ++ post)
    → Judges (escape_good n w at) (NoneOr n x.eof × Searchable x.ranges × All (λ r. r.goal < n) x.ranges)
unfolding escape_good
escape_judges n w x at post a =
    let k : get_or w (at + 1) 0 ≡ length x.ranges = at_nth (x.eof ∷ []) _ _ a in
    let b = on (x.eof ∷ length x.ranges ∷ []) (each range_words x.ranges ++ post) a in
    rw (at_head a, k)
    (all_three (is_none_or n x.eof) (searchable_judges x.ranges w (at + 2) post b)
    (thirds_judge (λ g. g < n) (present n) (is_present n) x.ranges w (at + 2) post b))

-- both targets of each word of a row
both_judge : (t : Table) (x : ℕ) → Judges (both_good (length t.states) x) (Good t (x % 65536) × Good t (x / 65536))
unfolding both_good
both_judge t x = both_hold (is_good t (x % 65536)) (is_good t (x / 65536))

module _ (P : ℕ → Type 0) where
  in_targets : (l : List ℕ) → All (λ x. P (x % 65536) × P (x / 65536)) l → All P (targets l)
  unfolding All targets
  in_targets [] v = tt
  in_targets (x ∷ l) v = (v.0.0, (v.0.1, in_targets l v.1))

  of_targets : (l : List ℕ) → All P (targets l) → All (λ x. P (x % 65536) × P (x / 65536)) l
  unfolding All targets
  of_targets [] v = tt
  of_targets (x ∷ l) v = ((v.0, v.1.0), of_targets l v.1.1)

ascii_judges : (t : Table) (w l : List ℕ) (at : ℕ) (post : List ℕ) → length l ≡ 64 → At w at (l ++ post)
    → Judges (each_word (both_good (length t.states)) w 64 at) (All (Good t) (targets l))
ascii_judges t w l at post n a =
    said_as (in_targets (Good t) l) (of_targets (Good t) l)
    (by_equal (ap (λ m. each_word (both_good (length t.states)) w m at) (sym n)) (words_judge _ (both_good (length t.states)) (both_judge t) l w at post a))

contexts_size : (xs : List Context) → length (each context_words xs) ≡ length xs * 3
unfolding each
contexts_size [] = sym (zero-mul 3)
contexts_size (x ∷ xs) = omega (arith, contexts_size xs, suc-mul (length xs) 3)

config_judges : (n : ℕ) (w : List ℕ) (x : Config) (at : ℕ) (post : List ℕ) → At w at (config_words x ++ post) → Judges (config_good n w at) (x.context ≤ n)
unfolding config_good
config_judges n w x at post a =
    let e : get_or w (at + 4) 0 ≡ x.context = at_nth (x.state ∷ x.rule ∷ x.flag ∷ x.other ∷ []) _ _ a in
    rw e (le x.context n)

continuation_judges : (w : List ℕ) (x : Continuation) (at : ℕ) (post : List ℕ) → At w at (continuation_words x ++ post)
    → Judges (continuation_good w at) (Numbered RefersBelow 1 x.contexts × All (λ y. y.context ≤ length x.contexts) x.configs)
unfolding continuation_with
continuation_judges w x at post a =
    let n = length x.contexts in
    let cs = counted context_words x.contexts in
    let ds = counted config_words x.configs in
    let b = same a (append_assoc cs ds post) in
    let z : length cs ≡ n * 3 + 1 = omega (arith, contexts_size x.contexts) in
    let d = to (on cs (ds ++ post) b) (ap (λ m. at + m) z) in
    rw (at_head a)
    (both_hold (below_judges x.contexts w 1 (at + 1) (ds ++ post) (on (n ∷ []) (each context_words x.contexts ++ (ds ++ post)) b))
    (section_judges config (λ y. y.context ≤ n) w (config_good n w) (λ y p q _ c. config_judges n w y p q c) x.configs (at + (n * 3 + 1)) post
    (all_always x.configs) d))

-- Rules

module _ (t : Table) (h : Fields t) where
  pub rule1-judged : JudgesBy (words.rule1 (words_of t) 1 (states_place t)) (words.item1 (words_of t) 1 (states_place t))
      (of_each (NoneOr (length t.states)) t.modes)
  rule1-judged =
      rw (at_head (states_stand t))
      (section_rule mode (NoneOr (length t.states)) (words_of t) (λ p. none_or (length t.states) (get_or (words_of t) p 0))
      (λ x at post _ a. rw (at_head a) (is_none_or (length t.states) x)) t.modes 1 (from_states t) h.modes (modes_stand t))

  pub rule2-judged : JudgesBy (words.rule2 (words_of t) (states_place t) (ascii_place t) (wide_place t) (accepts_place t))
      (words.item2 (words_of t) (states_place t) (ascii_place t) (wide_place t) (accepts_place t))
      (of_each (ValidState t) t.states)
  rule2-judged =
      let w = words_of t in
      let good : ℕ → ℕ → Bool = λ count. state_good count (length t.ascii) (length t.wide) (length t.accepts) w in
      rw (at_head (ascii_stand t), at_head (wide_stand t), at_head (accepts_stand t))
      (subst (λ count. JudgesBy (every_in state_at (good count) w (states_place t))
      (passing_in state_at (λ i. good count) w (states_place t)) (of_each (ValidState t) t.states))
      (sym (at_head (states_stand t)))
      (section_rule state (ValidState t) w (good (length t.states)) (λ x at post _ a. state_judges t w x at post a) t.states (states_place t)
      (from_runs t) h.states (states_stand t)))

  pub rule3-judged : JudgesBy (words.rule3 (words_of t) (states_place t) (runs_place t)) 0 (of_all (Rule3 t))
  rule3-judged = rw (at_head (runs_stand t), at_head (states_stand t)) (whole (eq _ _))

  pub rule5-judged : JudgesBy (words.rule5 (words_of t) (states_place t) (ascii_place t)) (words.item5 (words_of t) (states_place t) (ascii_place t))
      (of_each (GoodRow t) t.ascii)
  rule5-judged =
      rw (at_head (states_stand t))
      (section_rule ascii _ (words_of t) _ (λ l at post v a. ascii_judges t (words_of t) l at post v a) t.ascii (ascii_place t) (from_wide t)
      h.ascii (ascii_stand t))

  pub rule6-judged : JudgesBy (words.rule6 (words_of t) (states_place t) (wide_place t)) (words.item6 (words_of t) (states_place t) (wide_place t))
      (of_each (GoodWide t) t.wide)
  rule6-judged =
      rw (at_head (states_stand t))
      (section_rule wide_row_lem _ (words_of t) _ (λ x at post _ a. wide_judges t (words_of t) x at post a) t.wide (wide_place t) (from_accepts t)
      h.wide (wide_stand t))

  pub rule7-judged : JudgesBy (words.rule7 (words_of t) (states_place t) (escapes_place t)) 0 (of_all (Rule7 t))
  rule7-judged = rw (at_head (escapes_stand t), at_head (states_stand t)) (whole (eq _ _))

  pub rule8-judged : JudgesBy (words.rule8 (words_of t) (escapes_place t) (continuations_place t))
      (words.item8 (words_of t) (escapes_place t) (continuations_place t))
      (of_each (ValidEscape (length t.continuations)) t.escapes)
  rule8-judged =
      rw (at_head (continuations_stand t))
      (section_rule escape _ (words_of t) _ (λ x at post _ a. escape_judges (length t.continuations) (words_of t) x at post a) t.escapes
      (escapes_place t) (from_continuations t)
      (all_always t.escapes) (escapes_stand t))

  pub rule9-judged : JudgesBy (words.rule9 (words_of t) (continuations_place t)) (words.item9 (words_of t) (continuations_place t))
      (of_each ValidContinuation t.continuations)
  rule9-judged =
      section_rule continuation _ (words_of t) _ (λ x at post _ a. continuation_judges (words_of t) x at post a) t.continuations
      (continuations_place t) [] h.continuations
      (continuations_stand t)
