-- Making flags 0 or 1 changes nothing else: the sections stay where they are, and so does every record. Assumes nothing.
use mathlib.Core.Path.{◌≡◌, refl, sym, ap, ◌∙◌}
use mathlib.Core.List.{List, [], ◌∷◌, ◌++◌, map, append_assoc, append-nil}
use mathlib.Core.Bool.{Bool, true, false}
use Prim.Native.Nat.{ℕ, suc, ◌+◌, ◌*◌, ◌-◌}
use native.Mathlib.Omega.{arith}
use lib.Dec.{eqb}
use lib.ListN.{length, get_or, take, length-append, length-map}
use lib.Seq.{take_at}
use Rattle.refusal.specs.Fixed.{tag}
use Rattle.refusal.specs.Lists.{pick, each}
use Rattle.refusal.specs.Header.{HEADER-NUMBERS}
use Rattle.word_reader.specs.Parse.{Place}
use Rattle.room_fill.specs.Room.{starts_from, starts, copied, flag, renewed, accept_made, config_made}
use Rattle.room_fill.specs.Room.{continuation_made, made, in_room, shifted, placed, header, numbers}
use Rattle.law_tables.specs.Table.{Table, Accept, Config, Continuation, Fields, ContinuationFields, All, counted, section_words, words_of, mode_words}
use Rattle.law_tables.specs.Table.{state_words, run_words, ascii_words, wide_words, action_words, accept_words, escape_words, context_words, config_words}
use Rattle.law_tables.specs.Table.{continuation_words}
use Rattle.law_tables.specs.Places.{section_end, states_place, runs_place, ascii_place, wide_place, accepts_place, escapes_place, continuations_place, sections_of}
use Rattle.law_tables.proofs.Codec.{At, Codec, start, same, on, to, at_length, at_head, at_drop}
use Rattle.law_tables.proofs.Sizes.{counted-map, same_length, threes}
use Rattle.law_tables.proofs.Runs.{run_codec}
use Rattle.law_tables.proofs.Records.{wide_row_lem, accept, escape, config, continuation, all_always}
use Rattle.law_tables.proofs.Placed.{from_continuations, from_escapes, from_accepts, from_ascii, runs_stand, wide_stand, accepts_stand, escapes_stand}
use Rattle.law_tables.proofs.Placed.{continuations_stand}
use Rattle.law_tables.specs.Normal.{normal_accept, normal_config, normal_continuation, normal}

-- Lengths

module _ {A : Type 0} (f : A → List ℕ) (g : A → A) (h : (x : A) → length (f (g x)) ≡ length (f x)) where
  pub counted_size : (xs : List A) → length (counted f (map g xs)) ≡ length (counted f xs)
  counted_size xs = ap length (counted-map f g xs) ∙ ap suc (same_length (λ x. f (g x)) f h xs)

pub accept_size : (x : Accept) → length (accept_words (normal_accept x)) ≡ length (accept_words x)
accept_size x = refl

config_size : (x : Config) → length (config_words (normal_config x)) ≡ length (config_words x)
config_size x = refl

pub continuation_size : (x : Continuation) → length (continuation_words (normal_continuation x)) ≡ length (continuation_words x)
continuation_size x =
    let a = counted context_words x.contexts in
    omega (
      arith,
      length-append a (counted config_words (map normal_config x.configs)),
      length-append a (counted config_words x.configs),
      counted_size config_words normal_config config_size x.configs,
    )

-- what holds of all holds of those that they become
pub all_to : {A : Type 0} (P Q : A → Type 0) (g : A → A) → ((x : A) → P x → Q (g x)) → (xs : List A) → All P xs → All Q (map g xs)
unfolding All
all_to P Q g k [] v = tt
all_to P Q g k (x ∷ xs) v = (k x v.0, all_to P Q g k xs v.1)

pub normal-fields : (t : Table) → Fields t → Fields (normal t)
unfolding normal
normal-fields t h = record {
  modes = h.modes;
  states = h.states;
  runs = h.runs;
  ascii = h.ascii;
  wide = h.wide;
  continuations = all_to ContinuationFields ContinuationFields normal_continuation (λ x v. v) t.continuations h.continuations;
}

-- Twice is once

flag_twice : (x : ℕ) → flag (flag x) ≡ flag x
unfolding flag
flag_twice x = go (eqb x 0)
  where
    go : (b : Bool) → ◌≡◌ {A = ℕ} (pick (eqb (pick b 0 1) 0) 0 1) (pick b 0 1)
    go true = refl
    go false = refl

map_twice : {A : Type 0} (g : A → A) → ((x : A) → g (g x) ≡ g x) → (xs : List A) → map g (map g xs) ≡ map g xs
map_twice g k [] = refl
map_twice g k (x ∷ xs) = let e = k x in let r = map_twice g k xs in cc

accept_twice : (x : Accept) → normal_accept (normal_accept x) ≡ normal_accept x
accept_twice x = ap (λ n. record { rule = x.rule; consumed = n; actions = x.actions }) (flag_twice x.consumed)

config_twice : (x : Config) → normal_config (normal_config x) ≡ normal_config x
config_twice x =
    λ i. record { state = x.state; rule = x.rule; flag = flag_twice x.flag i; other = flag_twice x.other i; context = x.context; actions = x.actions }

continuation_twice : (x : Continuation) → normal_continuation (normal_continuation x) ≡ normal_continuation x
continuation_twice x = λ i. record { contexts = x.contexts; configs = map_twice normal_config config_twice x.configs i }

pub normal_twice : (t : Table) → normal (normal t) ≡ normal t
unfolding normal
normal_twice t = λ i. record {
  modes = t.modes;
  states = t.states;
  runs = t.runs;
  ascii = t.ascii;
  wide = t.wide;
  accepts = map_twice normal_accept accept_twice t.accepts i;
  escapes = t.escapes;
  continuations = map_twice normal_continuation continuation_twice t.continuations i;
}

-- Where records start

-- where records that stand one behind the other start in the room
abbrev pub offsets : {A : Type 0} → (A → List ℕ) → List A → ℕ → List ℕ
offsets f [] at = []
offsets f (x ∷ xs) at = (at + HEADER-NUMBERS) ∷ offsets f xs (at + length (f x))

module _ {A : Type 0} {r : List ℕ → ℕ → Place} {f : A → List ℕ} {G : A → Type 0} (c : Codec A r f G) where
  pub starts_are : (xs : List A) (w : List ℕ) (at : ℕ) (post : List ℕ) → All G xs → At w at (each f xs ++ post)
      → each shifted (starts (r w) (length xs) at) ≡ offsets f xs at
  unfolding starts starts_from each All
  starts_are [] w at post v a = refl
  starts_are (x ∷ xs) w at post v a =
      let b = same a (append_assoc (f x) (each f xs) post) in
      rw (c.complete x w at (each f xs ++ post) v.0 b)
      (ap (λ l. (at + HEADER-NUMBERS) ∷ l) (starts_are xs w (at + length (f x)) post v.1 (on (f x) (each f xs ++ post) b)))

  -- what is written for each record is that record changed: so for all of them
  module _ (norm : List ℕ → ℕ → List ℕ) (g : A → A)
      (k : (x : A) (w : List ℕ) (at : ℕ) (post : List ℕ) → G x → At w at (f x ++ post) → norm w at ≡ f (g x)) where
    pub each_anew : (xs : List A) (w : List ℕ) (at : ℕ) (post : List ℕ) → All G xs → At w at (each f xs ++ post)
        → each (norm w) (starts (r w) (length xs) at) ≡ each f (map g xs)
    unfolding starts starts_from each All
    each_anew [] w at post v a = refl
    each_anew (x ∷ xs) w at post v a =
        let b = same a (append_assoc (f x) (each f xs) post) in
        let e = k x w at (each f xs ++ post) v.0 b in
        let i = each_anew xs w (at + length (f x)) post v.1 (on (f x) (each f xs ++ post) b) in
        rw (c.complete x w at (each f xs ++ post) v.0 b, e, i)

    pub section_anew : (xs : List A) (w : List ℕ) (at : ℕ) (post : List ℕ) → All G xs → At w at (counted f xs ++ post)
        → renewed r norm w at ≡ counted f (map g xs)
    unfolding renewed
    section_anew xs w at post v a =
        let i = each_anew xs w (at + 1) post v (on (length xs ∷ []) (each f xs ++ post) a) in
        rw (at_head a, i) (ap (λ n. n ∷ each f (map g xs)) (sym (length-map xs g)))

-- Records anew

pub copied_is : {w : List ℕ} {at : ℕ} (l post : List ℕ) (n : ℕ) → At w at (l ++ post) → length l ≡ n → copied w at n ≡ l
unfolding copied
copied_is l post n a e = ap (take n) (at_drop a) ∙ take_at l post n e

-- the word k places on
pub at_nth : {w : List ℕ} {at : ℕ} (front : List ℕ) (x : ℕ) (r : List ℕ) → At w at (front ++ (x ∷ r)) → get_or w (at + length front) 0 ≡ x
at_nth front x r a = at_head (on front (x ∷ r) a)

pub accept_anew : (x : Accept) (w : List ℕ) (at : ℕ) (post : List ℕ) → At w at (accept_words x ++ post) → accept_made w at ≡ accept_words (normal_accept x)
unfolding accept_made
accept_anew x w at post a =
    let n = length x.actions in
    let body = n ∷ each action_words x.actions in
    let e0 = at_head a in
    let e1 : get_or w (at + 1) 0 ≡ x.consumed = at_nth (x.rule ∷ []) x.consumed (body ++ post) a in
    let e2 : get_or w (at + 2) 0 ≡ n = at_nth (x.rule ∷ x.consumed ∷ []) n (each action_words x.actions ++ post) a in
    let s : length body ≡ n * 3 + 1 = omega (arith, threes action_words (λ y. refl) x.actions) in
    let t : copied w (at + 2) (n * 3 + 1) ≡ body = copied_is body post (n * 3 + 1) (on (x.rule ∷ x.consumed ∷ []) (body ++ post) a) s in
    rw (e0, e1, e2, t)

pub config_anew : (x : Config) (w : List ℕ) (at : ℕ) (post : List ℕ) → At w at (config_words x ++ post) → config_made w at ≡ config_words (normal_config x)
unfolding config_made
config_anew x w at post a =
    let n = length x.actions in
    let rest = each action_words x.actions ++ post in
    let body = x.context ∷ n ∷ each action_words x.actions in
    let e0 = at_head a in
    let e1 : get_or w (at + 1) 0 ≡ x.rule = at_nth (x.state ∷ []) _ _ a in
    let e2 : get_or w (at + 2) 0 ≡ x.flag = at_nth (x.state ∷ x.rule ∷ []) _ _ a in
    let e3 : get_or w (at + 3) 0 ≡ x.other = at_nth (x.state ∷ x.rule ∷ x.flag ∷ []) _ _ a in
    let e5 : get_or w (at + 5) 0 ≡ n = at_nth (x.state ∷ x.rule ∷ x.flag ∷ x.other ∷ x.context ∷ []) n rest a in
    let s : length body ≡ n * 3 + 2 = omega (arith, threes action_words (λ y. refl) x.actions) in
    let t : copied w (at + 4) (n * 3 + 2) ≡ body = copied_is body post (n * 3 + 2) (on (x.state ∷ x.rule ∷ x.flag ∷ x.other ∷ []) (body ++ post) a) s in
    rw (e0, e1, e2, e3, e5, t)

pub continuation_anew : (x : Continuation) (w : List ℕ) (at : ℕ) (post : List ℕ) → At w at (continuation_words x ++ post)
    → continuation_made w at ≡ continuation_words (normal_continuation x)
unfolding continuation_made
continuation_anew x w at post a =
    let n = length x.contexts in
    let cs = counted context_words x.contexts in
    let ds = counted config_words x.configs in
    let b = same a (append_assoc cs ds post) in
    let s : length cs ≡ n * 3 + 1 = omega (arith, threes context_words (λ y. refl) x.contexts) in
    let t : copied w at (n * 3 + 1) ≡ cs = copied_is cs (ds ++ post) (n * 3 + 1) b s in
    let d = to (on cs (ds ++ post) b) (ap (λ m. at + m) s) in
    let u = section_anew config config_made normal_config (λ y v q p _. config_anew y v q p) x.configs w (at + (n * 3 + 1)) post (all_always x.configs) d in
    rw (at_head a, t, u)

-- The whole

-- what stands before the accepts
abbrev front : Table → List ℕ
front t = tag ∷ (counted mode_words t.modes
    ++ (counted state_words t.states ++ (counted run_words t.runs ++ (counted ascii_words t.ascii ++ counted wide_words t.wide))))

five : (a b c d e r : List ℕ) → (a ++ (b ++ (c ++ (d ++ e)))) ++ r ≡ a ++ (b ++ (c ++ (d ++ (e ++ r))))
five a b c d e r =
    append_assoc a (b ++ (c ++ (d ++ e))) r
    ∙ ap (λ l. a ++ l) (append_assoc b (c ++ (d ++ e)) r ∙ ap (λ l. b ++ l) (append_assoc c (d ++ e) r ∙ ap (λ l. c ++ l) (append_assoc d e r)))

front_words : (t : Table) → front t ++ from_accepts t ≡ words_of t
unfolding section_words
front_words t =
    let k = counted continuation_words t.continuations in
    let e = five (counted mode_words t.modes) (counted state_words t.states) (counted run_words t.runs) (counted ascii_words t.ascii)
    (counted wide_words t.wide) (from_accepts t) in
    ap (λ l. tag ∷ l) (e ∙ (rw (append-nil k)))

front_size : (t : Table) → length (front t) ≡ accepts_place t
front_size t = simp length-append (omega arith)

-- the words written for a table are its normal form's
pub made_is : (t : Table) → Fields t → made (words_of t) (sections_of t) ≡ words_of (normal t)
unfolding normal
made_is t h =
    let w = words_of t in
    let f : copied w 0 (accepts_place t) ≡ front t =
    copied_is (front t) (from_accepts t) (accepts_place t) (same (start w) (sym (front_words t))) (front_size t) in
    let x = section_anew accept accept_made normal_accept (λ y v q p _. accept_anew y v q p) t.accepts w (accepts_place t) (from_escapes t)
    (all_always t.accepts) (accepts_stand t) in
    let n : length (counted escape_words t.escapes) ≡ continuations_place t - escapes_place t = omega arith in
    let e = copied_is (counted escape_words t.escapes) (from_continuations t) (continuations_place t - escapes_place t) (escapes_stand t) n in
    let c = section_anew continuation continuation_made normal_continuation (λ y v q p _. continuation_anew y v q p) t.continuations w (continuations_place t)
    [] h.continuations (continuations_stand t) in
    let z = append-nil (counted continuation_words (map normal_continuation t.continuations)) in
    rw (f, x, e, c, ← z) (front_words (normal t))

-- Where the records of a section start, by the table

module _ {A : Type 0} {r : List ℕ → ℕ → Place} {f : A → List ℕ} {G : A → Type 0} (c : Codec A r f G) where
  pub section-starts : (xs : List A) (w : List ℕ) (at : ℕ) (post : List ℕ) → All G xs → At w at (counted f xs ++ post) → placed r w at ≡ offsets f xs (at + 1)
  unfolding placed
  section-starts xs w at post v a = rw (at_head a) (starts_are c xs w (at + 1) post v (on (length xs ∷ []) (each f xs ++ post) a))

offsets_same : {A : Type 0} (f : A → List ℕ) (g : A → A) → ((x : A) → length (f (g x)) ≡ length (f x)) → (xs : List A) (at : ℕ)
    → offsets f (map g xs) at ≡ offsets f xs at
offsets_same f g k [] at = refl
offsets_same f g k (x ∷ xs) at = rw (k x) (ap (λ l. (at + HEADER-NUMBERS) ∷ l) (offsets_same f g k xs (at + length (f x))))

-- the numbers that a table fills a room with
unfoldable pub numbers_of : Table → List ℕ
numbers_of t =
    (length (words_of t) ∷ map in_room (1 ∷ states_place t ∷ runs_place t ∷ ascii_place t ∷ wide_place t ∷ accepts_place t ∷ escapes_place t ∷ continuations_place t ∷ []))
    ++ (words_of (normal t)
    ++ (offsets run_words t.runs (runs_place t + 1) ++ (offsets wide_words t.wide (wide_place t + 1) ++ (offsets accept_words t.accepts (accepts_place t + 1)
    ++ (offsets escape_words t.escapes (escapes_place t + 1) ++ offsets continuation_words t.continuations (continuations_place t + 1))))))

-- by the places of the sections
pub numbers_are : (t : Table) → Fields t → numbers (words_of t) (sections_of t) ≡ numbers_of t
unfolding header numbers_of
numbers_are t h =
    let w = words_of t in
    rw (
      made_is t h,
      section-starts run_codec t.runs w (runs_place t) (from_ascii t) h.runs (runs_stand t),
      section-starts wide_row_lem t.wide w (wide_place t) (from_accepts t) h.wide (wide_stand t),
      section-starts accept t.accepts w (accepts_place t) (from_escapes t) (all_always t.accepts) (accepts_stand t),
      section-starts escape t.escapes w (escapes_place t) (from_continuations t) (all_always t.escapes) (escapes_stand t),
      section-starts continuation t.continuations w (continuations_place t) [] h.continuations (continuations_stand t),
    )

pub words_size : (t : Table) → length (words_of t) ≡ section_end (continuations_place t) continuation_words t.continuations
words_size t = omega (arith, at_length (continuations_stand t), length-append (counted continuation_words t.continuations) [])

pub normal_size : (t : Table) → length (words_of (normal t)) ≡ length (words_of t)
unfolding normal
normal_size t =
    let x = counted_size accept_words normal_accept accept_size t.accepts in
    let c = counted_size continuation_words normal_continuation continuation_size t.continuations in
    omega (arith, words_size (normal t), words_size t, x, c)

-- the normal form fills a room with the same numbers
pub same_numbers : (t : Table) → numbers_of (normal t) ≡ numbers_of t
unfolding numbers_of normal
same_numbers t =
    let x = counted_size accept_words normal_accept accept_size t.accepts in
    let n = normal_size t in
    rw (n, normal_twice t, x, offsets_same accept_words normal_accept accept_size, offsets_same continuation_words normal_continuation continuation_size)
