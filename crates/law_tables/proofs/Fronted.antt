-- Reading each record of a table, and so its sections, ends as Ends.antt says: a line for each, but for runs and contexts, of which three words are
-- judged together. What stands before these is records of a table. Assumes nothing.
use mathlib.Core.Path.{◌≡◌, refl, sym, ap, subst, ◌∙◌}
use mathlib.Core.List.{List, [], ◌∷◌, ◌++◌, append_assoc, append-nil}
use mathlib.Core.Bool.{Bool, true, false, ◌&&◌}
use mathlib.Core.Logic.{◌⊎◌, inl, inr}
use Prim.Native.Nat.{ℕ, suc, ◌+◌, ◌-◌, ◌≤◌, ◌<◌, ◌%◌}
use native.Mathlib.Omega.{arith}
use lib.Dec.{leb, eqb}
use lib.ListN.{length, take, drop}
use borrow.Author.Tests.{eqb-true, eqb-false, le-leb}
use Rattle.refusal.specs.Said.{FIELD}
use Rattle.refusal.specs.Lists.{pick, every, each}
use Rattle.run_ranges.specs.Ranges.{ranges_of_run}
use Rattle.run_shape.specs.declared.AsciiRun.{AsciiRun}
use Rattle.run_shape.specs.declared.AsciiRun.TheVariants as runs
use Rattle.run_ranges.specs.declared.AsciiRanges.{AsciiRanges}
use Rattle.run_shape.specs.Shape as shape
use Rattle.run_shape.specs.Shape.{Shape, none, until, held, Got, refused}
use Rattle.run_shape.specs.Words.{is_zero, is_ascii, or_field, short_run, kind_of, bytes_of, ranges_run, read_at, size_of}
use Rattle.std.specs.Prelude.{Option, Some, None, Ok}
use Rattle.word_reader.specs.Parse.{short, block, many, section, both}
use Rattle.word_reader.specs.Records.{any, target, start, after_run, mode_at, state_at, run_at, ascii_at, wide_at, accept_at, escape_at}
use Rattle.word_reader.specs.Records.{context_at, good_context, triple_at, range_at, config_at, continuation_at}
use Rattle.law_tables.specs.Table.{State, Range, Accept, Escape, Context, Continuation, counted, mode_words, state_words, run_words}
use Rattle.law_tables.specs.Table.{ascii_words, wide_words, accept_words, escape_words, context_words, continuation_words, All, Start}
use Rattle.law_tables.specs.Table.{StateFields, RunFields, AsciiFields, RangeFields, ContinuationFields}
use Rattle.law_tables.specs.Whole.{Fit}
use Rattle.law_tables.proofs.Whole.{sections_at}
use Rattle.law_tables.proofs.Codec as codec
use Rattle.law_tables.proofs.Codec.{At, Codec, Always, same, to, past, at_length, at_drop, block_complete}
use Rattle.law_tables.proofs.Records.{mode, state, ascii, wide_row_lem, accept, escape, context, continuation}
use Rattle.law_tables.proofs.Accepted.{none_left}
use Rattle.law_tables.proofs.Runs.{read_nothing, read_short, read_cut, read_long, run_codec}
use Rattle.law_tables.proofs.Ends.{Reader, Marks, no_marks, zeros, ReadsAt, Fails, over, inside, fault, Ends, taken, Fronted, stops}
use Rattle.law_tables.proofs.Ends.{paired, of_fields, of_many, of_section, pair, list, of_row, block-short}

-- A run

-- what is read at any place from the same words: a run of so many words, or FIELD at the place
pub data Sorts (n : ℕ) (got : ℕ → Got) : Type 0 where
  good : (q : AsciiRun) → size_of q ≡ n → ((at : ℕ) → got at ≡ Ok q) → Sorts n got
  bad : ((at : ℕ) → got at ≡ refused FIELD at) → Sorts n got

tried : {n : ℕ} (b : Bool) (q : AsciiRun) → size_of q ≡ n → Sorts n (λ at. or_field at b q)
unfolding or_field
tried true q e = good q e (λ at. refl)
tried false q e = bad (λ at. refl)

either : {n : ℕ} {f g : ℕ → Got} (b : Bool) → Sorts n f → Sorts n g → Sorts n (λ at. pick b (f at) (g at))
either true s t = s
either false s t = t

until_size : (es : List ℕ) → size_of (held (until es)) ≡ 1
unfolding held
until_size [] = refl
until_size (a ∷ []) = refl
until_size (a ∷ b ∷ []) = refl
until_size (a ∷ b ∷ c ∷ []) = refl
until_size (a ∷ b ∷ c ∷ d ∷ es) = refl

short_sorts : (k : ℕ) (bytes : List ℕ) → Sorts 1 (λ at. short_run at k bytes)
unfolding short_run held
short_sorts k bytes =
    either (eqb k 0) (tried (every is_zero bytes) (held none) refl)
    (either (eqb k 1) (tried (every is_zero bytes) (held shape.any) refl)
    (either (leb k 4)
    (tried (every is_ascii (take (k - 1) bytes) && every is_zero (drop (k - 1) bytes)) (held (until (take (k - 1) bytes))) (until_size (take (k - 1) bytes)))
    (bad (λ at. refl))))

ranged : (r : Option AsciiRanges) → Sorts 3 (λ at. ranges_run at r)
ranged (Some r) = good (runs.Ranges r) refl (λ at. refl)
ranged None = bad (λ at. refl)

long_sorts : (x y z : ℕ) → Sorts 3 (λ at. ranges_run at (ranges_of_run x (record { first = y; second = z })))
long_sorts x y z = ranged (ranges_of_run x (record { first = y; second = z }))

sorted : (x : ℕ) (r : List ℕ) {got : ℕ → Got} → Sorts (length (x ∷ r)) got
    → ((w : List ℕ) (at : ℕ) (post : List ℕ) → At w at (x ∷ (r ++ post)) → read_at w at ≡ got at) → ReadsAt run_at (x ∷ r) ⊎ Fails run_at (x ∷ r)
sorted x r (good q n g) f = inl (λ w at post a. ap (after_run at) (f w at post a ∙ g at) ∙ ap (λ k. Ok (at + k)) n)
sorted x r (bad g) f = inr (λ w at post a. ap (after_run at) (f w at post a ∙ g at))

-- Three words that are judged together: read, or refused at the first; short, where one or two of them stand

-- a reader that judges three words together, where x is the first
abbrev pub Three : Reader → ℕ → Type 0
Three read x = ((read ≡ run_at) × (x % 256 ≡ 5)) ⊎ (read ≡ context_at)

context_three : (x y z : ℕ) (b : Bool) → good_context (x ∷ y ∷ z ∷ []) ≡ b → ReadsAt context_at (x ∷ y ∷ z ∷ []) ⊎ Fails context_at (x ∷ y ∷ z ∷ [])
unfolding block
context_three x y z true u = inl (λ w at post a. block_complete 3 good_context (x ∷ y ∷ z ∷ []) w at post (refl, u) a)
context_three x y z false u = inr (λ w at post a.
    let h : at + 3 ≤ length w = omega (arith, at_length a) in
    let t : good_context (take 3 (drop at w)) ≡ false = ap (λ k. good_context (take 3 k)) (at_drop a) ∙ u in
    rw (le-leb (at + 3) (length w) h, t))

pub three_judged : (part : Reader) (x y z : ℕ) → Three part x → ReadsAt part (x ∷ y ∷ z ∷ []) ⊎ Fails part (x ∷ y ∷ z ∷ [])
three_judged part x y z (inl k) =
    subst (λ r. ReadsAt r (x ∷ y ∷ z ∷ []) ⊎ Fails r (x ∷ y ∷ z ∷ [])) (sym k.0)
    (sorted x (y ∷ z ∷ []) (long_sorts x y z) (λ v p post d. read_long d k.1))
three_judged part x y z (inr k) =
    subst (λ r. ReadsAt r (x ∷ y ∷ z ∷ []) ⊎ Fails r (x ∷ y ∷ z ∷ [])) (sym k) (context_three x y z (good_context (x ∷ y ∷ z ∷ [])) refl)

pub three_short : (part : Reader) (x : ℕ) → Three part x → (w : List ℕ) (at : ℕ) (r : List ℕ) → At w at (x ∷ r) → length r < 2 → part w at ≡ short w
three_short part x (inl k) w at r a h = subst (λ g. g w at ≡ short w) (sym k.0) (ap (after_run at) (read_cut a h k.1))
three_short part x (inr k) w at r a h = subst (λ g. g w at ≡ short w) (sym k) (block-short 3 good_context a (omega arith))

of_three : {part : Reader} {M : Marks} (n : ℕ) → ReadsAt part (zeros n) → (x : ℕ) → Three part x → M [] x → (r : List ℕ) → Ends part M (x ∷ r)
of_three n spare x long m [] = stops n spare (inside m (omega arith) (omega arith))
of_three n spare x long m (y ∷ []) = stops n spare (inside m (omega arith) (omega arith))
of_three {part} {M} n spare x long m (y ∷ z ∷ post) = go (three_judged part x y z long)
  where
    go : ReadsAt part (x ∷ y ∷ z ∷ []) ⊎ Fails part (x ∷ y ∷ z ∷ []) → Ends part M (x ∷ y ∷ z ∷ post)
    go (inl f) = taken (x ∷ y ∷ z ∷ []) post refl f
    go (inr f) = stops n spare (fault (x ∷ y ∷ z ∷ []) post refl (inr (m, refl)) f)

-- The readers

run_spare : ReadsAt run_at (0 ∷ [])
unfolding run_words RunFields
run_spare w at post a = run_codec.complete none w at post tt a

abbrev pub RunMarks : Marks
RunMarks l x = (l ≡ []) × (x % 256 ≡ 5)

pub run_fronted : Fronted run_at RunMarks
run_fronted = record { least = 1; spare = run_spare; ends = λ rest _. go rest }
  where
    one : (x : ℕ) (r : List ℕ) → ReadsAt run_at (x ∷ []) ⊎ Fails run_at (x ∷ []) → Ends run_at RunMarks (x ∷ r)
    one x r (inl f) = taken (x ∷ []) r refl f
    one x r (inr f) = stops 1 run_spare (fault (x ∷ []) r refl (inl refl) f)

    by : (x : ℕ) (r : List ℕ) (b : Bool) → eqb (kind_of x) 5 ≡ b → Ends run_at RunMarks (x ∷ r)
    by x r false u = one x r (sorted x [] (short_sorts (kind_of x) (bytes_of x)) (λ v p post d. read_short d (eqb-false _ _ u)))
    by x r true u = let k = eqb-true (kind_of x) 5 u in of_three 1 run_spare x (inl (refl, k)) (refl, k) r

    go : (rest : List ℕ) → Ends run_at RunMarks rest
    go [] = stops 1 run_spare (over refl (λ w at a. ap (after_run at) (read_nothing a)))
    go (x ∷ r) = by x r (eqb (kind_of x) 5) refl

context_spare : ReadsAt context_at (0 ∷ 0 ∷ 0 ∷ [])
unfolding good_context
context_spare w at post a = block_complete 3 good_context (0 ∷ 0 ∷ 0 ∷ []) w at post (refl, refl) a

abbrev pub ContextMarks : Marks
ContextMarks l x = l ≡ []

pub context_fronted : Fronted context_at ContextMarks
context_fronted = record { least = 3; spare = context_spare; ends = λ rest _. go rest }
  where
    go : (rest : List ℕ) → Ends context_at ContextMarks rest
    go [] = stops 3 context_spare (over refl (λ w at a. block-short 3 good_context a (omega arith)))
    go (x ∷ r) = of_three 3 context_spare x (inr refl) refl r

-- What stands before such words in records of a table

cons : {n k : ℕ} {l m : List ℕ} → n ≡ k → l ≡ m → n ∷ l ≡ k ∷ m
cons e f = cc

-- a record, and then marks
abbrev pub Behind : (A : Type 0) → (A → List ℕ) → (A → Type 0) → Marks → Marks
Behind A f G N l x = (a : A) × (m : List ℕ) × G a × (l ≡ f a ++ m) × N m x

-- of n records: some, then marks of the next, and j more behind that
abbrev pub Among : (A : Type 0) → (A → List ℕ) → (A → Type 0) → Marks → ℕ → Marks
Among A f G N n l x = (xs : List A) × (j : ℕ) × (m : List ℕ) × All G xs × (n ≡ length xs + suc j) × (l ≡ each f xs ++ m) × N m x

-- of a section: their count stands before them
abbrev pub Within : (A : Type 0) → (A → List ℕ) → (A → Type 0) → Marks → Marks
Within A f G N l x = (xs : List A) × (j : ℕ) × (m : List ℕ) × All G xs × (l ≡ (length xs + suc j) ∷ (each f xs ++ m)) × N m x

module _ {A : Type 0} {r : Reader} {f : A → List ℕ} {G : A → Type 0} (c : Codec A r f G) where
  -- words that are read to their end are those of a record
  read_item : (k : List ℕ) → Fit k → ReadsAt r k → (a : A) × G a × (k ≡ f a)
  read_item k fit g =
      let a = codec.start k in
      let s = c.sound k 0 (0 + length k) k fit a (g k 0 [] (same a (sym (append-nil k)))) in
      let e : 0 + length k ≡ length k = omega arith in
      (s.item, s.valid, s.opens ∙ ap (λ l. f s.item ++ l) (none_left (to (past a s) e)) ∙ append-nil (f s.item))

  pub many_fronted : {N : Marks} → Fronted r N → (n : ℕ) → Fronted (λ w. many (r w) n) (Among A f G N n)
  unfolding each All
  many_fronted {N} d = of_many (Among A f G N) (λ n l x m. ([], n, l, tt, omega arith, refl, m)) (λ n k m x fit g o.
      let i = read_item k fit g in (
        i.0 ∷ o.0,
        o.1,
        o.2,
        (i.1, o.3),
        omega (arith, o.4),
        ap (λ v. v ++ m) i.2 ∙ ap (λ v. f i.0 ++ v) o.5 ∙ sym (append_assoc (f i.0) (each f o.0) o.2),
        o.6,
      )) d

  pub section_fronted : {N : Marks} → Fronted r N → Fronted (section r) (Within A f G N)
  section_fronted d = of_section r (λ n m x k. (k.0, k.1, k.2, k.3, cons k.4 k.5, k.6)) (many_fronted d)

  stands_behind : (N : Marks) (k m : List ℕ) (x : ℕ) → Fit k → ReadsAt r k → N m x → Behind A f G N (k ++ m) x
  stands_behind N k m x fit g o = let i = read_item k fit g in (i.0, m, i.1, ap (λ v. v ++ m) i.2, o)

  -- behind a record without such words
  after : {s : Reader} {N : Marks} → Fronted r no_marks → Fronted s N → Fronted (both r s) (Behind A f G N)
  after {N = N} d e = paired e (λ l x k. absurd k) (stands_behind N) d

-- The sections

triples : Fronted (section triple_at) no_marks
unfolding any
triples = list triple_at (of_fields (any ∷ any ∷ any ∷ []) (refl, (refl, (refl, tt))))

pub config_list : Fronted (section config_at) no_marks
unfolding any
config_list = list config_at (pair (of_fields (any ∷ any ∷ any ∷ any ∷ any ∷ []) (refl, (refl, (refl, (refl, (refl, tt)))))) triples)

abbrev pub ContinuationMarks : Marks
ContinuationMarks = Within Context context_words (λ c. c.kind ≤ 1) ContextMarks

pub continuation_fronted : Fronted continuation_at ContinuationMarks
continuation_fronted = paired config_list (λ l x k. k) (λ k m x f g o. absurd o) (section_fronted context context_fronted)

-- those behind the runs
abbrev last_at : Reader
last_at = both (section ascii_at) (both (section wide_at) (both (section accept_at) (both (section escape_at) (section continuation_at))))

abbrev LastMarks : Marks
LastMarks =
    Behind (List (List ℕ)) (counted ascii_words) (All AsciiFields)
    (Behind (List (List Range)) (counted wide_words) (All (All RangeFields))
    (Behind (List Accept) (counted accept_words) (All Always)
    (Behind (List Escape) (counted escape_words) (All Always)
    (Within Continuation continuation_words ContinuationFields ContinuationMarks))))

pub last_fronted : Fronted last_at LastMarks
unfolding any target
last_fronted =
    after (codec.of_section ascii) (list ascii_at (of_row 64))
    (after (codec.of_section wide_row_lem) (list wide_at (list range_at (of_fields (any ∷ any ∷ target ∷ []) (refl, (refl, (refl, tt))))))
    (after (codec.of_section accept) (list accept_at (pair (of_fields (any ∷ any ∷ []) (refl, (refl, tt))) triples))
    (after (codec.of_section escape) (list escape_at (pair (of_fields (any ∷ []) (refl, tt)) triples))
    (section_fronted continuation continuation_fronted))))

abbrev RunsMarks : Marks
RunsMarks l x = Within Shape run_words RunFields RunMarks l x ⊎ Behind (List Shape) (counted run_words) (All RunFields) LastMarks l x

runs_fronted : Fronted (both (section run_at) last_at) RunsMarks
runs_fronted = paired last_fronted (λ l x k. inl k) (λ k m x fit g o. inr (stands_behind (codec.of_section run_codec) LastMarks k m x fit g o))
    (section_fronted run_codec run_fronted)

abbrev pub SectionMarks : Marks
SectionMarks = Behind (List ℕ) (counted mode_words) (All Start) (Behind (List State) (counted state_words) (All StateFields) RunsMarks)

pub sections_fronted : Fronted sections_at SectionMarks
unfolding sections_at any target start
sections_fronted =
    after (codec.of_section mode) (list mode_at (of_fields (start ∷ []) (refl, tt)))
    (after (codec.of_section state) (list state_at (of_fields (any ∷ any ∷ target ∷ any ∷ []) (refl, (refl, (refl, (refl, tt)))))) runs_fronted)
