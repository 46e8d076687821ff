-- A table is given by its words: no two tables with good fields have the same. Records of so many numbers are given by them, a counted list by
-- its count and its records, a run since reading gives it back. Assumes nothing.
use mathlib.Core.Path.{◌≡◌, refl, sym, ap, ◌∙◌}
use mathlib.Core.List.{List, [], ◌∷◌, ◌++◌, append_assoc}
use Prim.Native.Nat.{ℕ, ◌≤◌}
use native.Mathlib.Omega.{arith}
use lib.ListN.{length, get_or}
use Rattle.refusal.specs.Lists.{each}
use Rattle.run_shape.specs.Shape.{Shape}
use Rattle.law_tables.specs.Table.{Table, State, Range, Action, Accept, Escape, Context, Config, Continuation, All, Fields, counted, Start}
use Rattle.law_tables.specs.Table.{StateFields, RunFields, AsciiFields, ContinuationFields, mode_words, state_words, run_words, ascii_words, range_words}
use Rattle.law_tables.specs.Table.{action_words, accept_words, escape_words, context_words, config_words, continuation_words, section_words, words_of}
use Rattle.law_tables.proofs.Codec.{start, same, Always}
use Rattle.law_tables.proofs.Records.{all_always}
use Rattle.law_tables.proofs.Runs.{shape_reads, held-shape, read_shape}

-- where two lists open with the words of a record each and are equal, the records are, and what stands behind them
pub record Tells (A : Type 0) (words : A → List ℕ) (Valid : A → Type 0) : Type 0 where
  pub tells : (x y : A) (p q : List ℕ) → Valid x → Valid y → words x ++ p ≡ words y ++ q → (x ≡ y) × (p ≡ q)

-- Closed under pairs, counted lists, and seeing the same words as another record

equally_long : (x y p q : List ℕ) → length x ≡ length y → x ++ p ≡ y ++ q → (x ≡ y) × (p ≡ q)
equally_long [] [] p q l e = (refl, e)
equally_long [] (b ∷ y) p q l e = absurd (omega arith)
equally_long (a ∷ x) [] p q l e = absurd (omega arith)
equally_long (a ∷ x) (b ∷ y) p q l e =
    let f : x ++ p ≡ y ++ q = cc in
    let h : a ≡ b = cc in
    let r = equally_long x y p q (omega arith) f in
    let s = r.0 in
    (cc, r.1)

-- so many numbers
numbers : (n : ℕ) → Tells (List ℕ) (λ l. l) (λ l. length l ≡ n)
numbers n = record { tells = λ x y p q u v e. equally_long x y p q (u ∙ sym v) e }

pair : {A B : Type 0} {a c : A} {b d : B} → a ≡ c → b ≡ d → ◌≡◌ {A = A × B} (a, b) (c, d)
pair e f = rw (e, f)

paired : {A B : Type 0} {f : A → List ℕ} {g : B → List ℕ} {G : A → Type 0} {U : B → Type 0} → Tells A f G → Tells B g U
    → Tells (A × B) (λ x. f x.0 ++ g x.1) (λ x. G x.0 × U x.1)
paired {f = f} {g = g} c d = record {
  tells = λ x y p q u v e.
      let i = c.tells x.0 y.0 (g x.1 ++ p) (g y.1 ++ q) u.0 v.0
      (sym (append_assoc (f x.0) (g x.1) p) ∙ e ∙ append_assoc (f y.0) (g y.1) q) in
      let j = d.tells x.1 y.1 p q u.1 v.1 i.1 in
      (pair i.0 j.0, j.1);
}

seen : {A B : Type 0} {f : A → List ℕ} {g : B → List ℕ} {G : A → Type 0} {U : B → Type 0} (to : B → A) (from : A → B)
    → ((x : B) → from (to x) ≡ x) → ((x : B) → f (to x) ≡ g x) → ((x : B) → U x → G (to x)) → Tells A f G → Tells B g U
seen {f = f} {g = g} to from back words good c = record {
  tells = λ x y p q u v e.
      let i = c.tells (to x) (to y) p q (good x u) (good y v) (ap (λ l. l ++ p) (words x) ∙ e ∙ ap (λ l. l ++ q) (sym (words y))) in
      (sym (back x) ∙ ap from i.0 ∙ back y, i.1);
}

module _ {A : Type 0} {f : A → List ℕ} {G : A → Type 0} (c : Tells A f G) where
  each_tells : (xs ys : List A) (p q : List ℕ) → length xs ≡ length ys → All G xs → All G ys → each f xs ++ p ≡ each f ys ++ q → (xs ≡ ys) × (p ≡ q)
  unfolding each All
  each_tells [] [] p q l u v e = (refl, e)
  each_tells [] (y ∷ ys) p q l u v e = absurd (omega arith)
  each_tells (x ∷ xs) [] p q l u v e = absurd (omega arith)
  each_tells (x ∷ xs) (y ∷ ys) p q l u v e =
      let i = c.tells x y (each f xs ++ p) (each f ys ++ q) u.0 v.0 (sym (append_assoc (f x) (each f xs) p) ∙ e ∙ append_assoc (f y) (each f ys) q) in
      let j = each_tells xs ys p q (omega arith) u.1 v.1 i.1 in
      let a = i.0 in
      let b = j.0 in
      (cc, j.1)

  listed : Tells (List A) (counted f) (All G)
  listed = record { tells = λ xs ys p q u v e. each_tells xs ys p q (cc) u v (cc) }

-- The records

mode : Tells ℕ mode_words Start
mode = seen (λ m. m ∷ []) (λ l. get_or l 0 0) (λ x. refl) (λ x. refl) (λ x _. refl) (numbers 1)

state : Tells State state_words StateFields
state = seen state_words (λ l. record { ascii = get_or l 0 0; wide = get_or l 1 0; eof = get_or l 2 0; accept = get_or l 3 0 }) (λ x. refl) (λ x. refl)
    (λ x _. refl) (numbers 4)

run_tells_lem : Tells Shape run_words RunFields
run_tells_lem = record {
  tells = λ x y p q u v e.
      let a = start (run_words x ++ p) in
      let s : x ≡ y = sym (held-shape x u) ∙ read_shape y q v (same a e) (shape_reads x p u a) in
      (s, (equally_long (run_words x) (run_words y) p q (ap (λ r. length (run_words r)) s) e).1);
}

ascii : Tells (List ℕ) ascii_words AsciiFields
ascii = numbers 64

range : {G : Range → Type 0} → Tells Range range_words G
range = seen range_words (λ l. record { low = get_or l 0 0; high = get_or l 1 0; goal = get_or l 2 0 }) (λ x. refl) (λ x. refl) (λ x _. refl) (numbers 3)

action : Tells Action action_words Always
action = seen action_words (λ l. record { a = get_or l 0 0; b = get_or l 1 0; c = get_or l 2 0 }) (λ x. refl) (λ x. refl) (λ x _. refl) (numbers 3)

accept : Tells Accept accept_words Always
accept = seen
    (λ x. (x.rule ∷ x.consumed ∷ [], x.actions))
    (λ v. record { rule = get_or v.0 0 0; consumed = get_or v.0 1 0; actions = v.1 })
    (λ x. refl) (λ x. refl) (λ x _. (refl, all_always x.actions))
    (paired (numbers 2) (listed action))

escape : Tells Escape escape_words Always
escape = seen
    (λ x. (x.eof ∷ [], x.ranges))
    (λ v. record { eof = get_or v.0 0 0; ranges = v.1 })
    (λ x. refl) (λ x. refl) (λ x _. (refl, all_always x.ranges))
    (paired (numbers 1) (listed range))

context : Tells Context context_words (λ c. c.kind ≤ 1)
context = seen context_words (λ l. record { kind = get_or l 0 0; a = get_or l 1 0; b = get_or l 2 0 }) (λ x. refl) (λ x. refl) (λ x _. refl) (numbers 3)

config : Tells Config config_words Always
config = seen
    (λ x. (x.state ∷ x.rule ∷ x.flag ∷ x.other ∷ x.context ∷ [], x.actions))
    (λ v.
    record { state = get_or v.0 0 0; rule = get_or v.0 1 0; flag = get_or v.0 2 0; other = get_or v.0 3 0; context = get_or v.0 4 0; actions = v.1 })
    (λ x. refl) (λ x. refl) (λ x _. (refl, all_always x.actions))
    (paired (numbers 5) (listed action))

continuation : Tells Continuation continuation_words ContinuationFields
continuation = seen
    (λ x. (x.contexts, x.configs))
    (λ v. record { contexts = v.0; configs = v.1 })
    (λ x. refl) (λ x. refl) (λ x h. (h, all_always x.configs))
    (paired (listed context) (listed config))

-- The whole

sections : Tells Table section_words Fields
unfolding section_words
sections = seen
    (λ t. (t.modes, (t.states, (t.runs, (t.ascii, (t.wide, (t.accepts, (t.escapes, t.continuations))))))))
    (λ v. record {
      modes = v.0;
      states = v.1.0;
      runs = v.1.1.0;
      ascii = v.1.1.1.0;
      wide = v.1.1.1.1.0;
      accepts = v.1.1.1.1.1.0;
      escapes = v.1.1.1.1.1.1.0;
      continuations = v.1.1.1.1.1.1.1;
    })
    (λ t. refl) (λ t. refl)
    (λ t h. (h.modes, (h.states, (h.runs, (h.ascii, (h.wide, (all_always t.accepts, (all_always t.escapes, h.continuations))))))))
    (paired (listed mode)
    (paired (listed state)
    (paired (listed run_tells_lem)
    (paired (listed ascii)
    (paired (listed (listed range))
    (paired (listed accept)
    (paired (listed escape)
    (listed continuation))))))))

-- no two tables have the same words
pub words_tell : (t u : Table) → Fields t → Fields u → words_of t ≡ words_of u → t ≡ u
words_tell t u h k e =
    let f : section_words t ≡ section_words u = cc in
    (sections.tells t u [] [] h k (ap (λ l. l ++ []) f)).0
