-- How reading ends: a record is read, or one of its parts refuses; and then zeros behind the words before that part would complete the record. Where
-- the part judges three words together, it is known what stands before them. Closed under the readers' combinators, so that a record needs a line.
-- Assumes nothing.
use mathlib.Core.Path.{◌≡◌, refl, sym, ap, subst, ◌∙◌}
use mathlib.Core.List.{List, [], ◌∷◌, ◌++◌, append_assoc, append-nil}
use mathlib.Core.Bool.{Bool, true, false}
use mathlib.Core.Logic.{◌⊎◌, inl, inr}
use Prim.Native.Nat.{ℕ, zero, suc, ◌+◌, ◌-◌, ◌≤◌, ◌<◌}
use native.Mathlib.Omega.{arith}
use lib.Dec.{leb}
use lib.ListN.{length, get_or, take, drop, replicate, length-append, length-replicate, replicate-append-replicate, take-append-drop, get_or-append}
use lib.Seq.{length-take-le, get_or-append-add}
use borrow.Author.Tests.{le-ltb, lt-leb, leb-true, leb-false}
use Rattle.refusal.specs.declared.Refusal.{Refusal}
use Rattle.refusal.specs.Said.{FIELD}
use Rattle.refusal.specs.Lists.{pick}
use Rattle.word_reader.specs.Parse.{Place}
use Rattle.std.specs.Prelude.{Ok, Err}
use Rattle.word_reader.specs.Parse.{refused, short, and_then, word, fields, block, many, section, both}
use Rattle.law_tables.specs.Whole.{Fit}
use Rattle.law_tables.proofs.Codec.{At, start, same, on, at_length, word_reads, Tests, block_complete, block-sound}

abbrev pub Reader : Type 0
Reader = List ℕ → ℕ → Place

-- what stands in a record before three words that are judged together, and the first of them
abbrev pub Marks : Type 1
Marks = List ℕ → ℕ → Type 0

-- a record that has no such words
abbrev pub no_marks : Marks
no_marks l x = ⊥

abbrev pub zeros : ℕ → List ℕ
zeros n = replicate n 0

-- the words l are read to their end, wherever they stand
abbrev pub ReadsAt : Reader → List ℕ → Type 0
ReadsAt read l = (w : List ℕ) (at : ℕ) (post : List ℕ) → At w at (l ++ post) → read w at ≡ Ok (at + length l)

-- l is refused at its first word, wherever it stands
abbrev pub Fails : Reader → List ℕ → Type 0
Fails read l = (w : List ℕ) (at : ℕ) (post : List ℕ) → At w at (l ++ post) → read w at ≡ refused FIELD at

-- behind l, reading goes on with a part: what refuses the part refuses all, and zeros complete what the part reads
pub record Leads (read : Reader) (l : List ℕ) (part : Reader) : Type 0 where
  pub refuses : (w : List ℕ) (at : ℕ) (post : List ℕ) (r : Refusal) → At w at (l ++ post) → part w (at + length l) ≡ Err r → read w at ≡ Err r
  pub completes : (m : List ℕ) → ReadsAt part m → (n : ℕ) × ReadsAt read (l ++ m ++ zeros n)

-- a part refuses what is left: nothing; one or two words of three; or a word that it forbids, or three
pub data Refuses (First : ℕ → Type 0) (part : Reader) (rest : List ℕ) : Type 0 where
  over : rest ≡ [] → ((w : List ℕ) (at : ℕ) → At w at [] → part w at ≡ short w) → Refuses First part rest
  inside : First (get_or rest 0 0) → 1 ≤ length rest → length rest ≤ 2 → Refuses First part rest
  fault : (l post : List ℕ) → rest ≡ l ++ post → (length l ≡ 1) ⊎ (First (get_or rest 0 0) × (length l ≡ 3)) → Fails part l → Refuses First part rest

pub data Ends (read : Reader) (marks : Marks) (rest : List ℕ) : Type 0 where
  taken : (l post : List ℕ) → rest ≡ l ++ post → ReadsAt read l → Ends read marks rest
  stopped : (l post : List ℕ) (n : ℕ) → rest ≡ l ++ post → ReadsAt read (l ++ zeros n) → (part : Reader) → Leads read l part
      → Refuses (marks l) part post → Ends read marks rest

-- every reading ends so, and some zeros are read
pub record Fronted (read : Reader) (marks : Marks) : Type 0 where
  pub least : ℕ
  pub spare : ReadsAt read (zeros least)
  pub ends : (rest : List ℕ) → Fit rest → Ends read marks rest

-- the first of three words, told in another way
pub marked : {F G : ℕ → Type 0} {part : Reader} {rest : List ℕ} → ((x : ℕ) → F x → G x) → Refuses F part rest → Refuses G part rest
marked k (over e s) = over e s
marked {rest = rest} k (inside m h i) = inside (k (get_or rest 0 0) m) h i
marked k (fault l post e (inl i) f) = fault l post e (inl i) f
marked {rest = rest} k (fault l post e (inr i) f) = fault l post e (inr (k (get_or rest 0 0) i.0, i.1)) f

-- Parts of words of 32 bits

pub fit_front : (l m : List ℕ) → Fit (l ++ m) → Fit l
fit_front l m f i h = subst (λ x. x < 4294967296) (get_or-append l m 0 i h) (f i (omega (arith, length-append l m)))

pub fit_back : (l m : List ℕ) → Fit (l ++ m) → Fit m
fit_back l m f i h = subst (λ x. x < 4294967296) (get_or-append-add l m i 0) (f (length l + i) (omega (arith, length-append l m)))

-- No word

no_words : ReadsAt (λ w at. Ok at) []
no_words w at post a = ap Ok (omega arith)

nothing : {M : Marks} → Fronted (λ w at. Ok at) M
nothing = record { least = 0; spare = no_words; ends = λ rest _. taken [] rest refl no_words }

-- A reader that refuses by itself

pub leads-itself : (read : Reader) → Leads read [] read
leads-itself read = record {
  refuses = λ w at post r a e. let i : at ≡ at + 0 = omega arith in ap (read w) i ∙ e;
  completes = λ m f. (0, subst (ReadsAt read) (sym (append-nil m)) f);
}

pub stops : {read : Reader} {M : Marks} {rest : List ℕ} (n : ℕ) → ReadsAt read (zeros n) → Refuses (M []) read rest → Ends read M rest
stops {read} {M} {rest} n f x = stopped [] rest n refl f read (leads-itself read) x

-- Going on: behind l, a record is read as what stands there

module _ (r s : Reader) (l : List ℕ) (goes : (w : List ℕ) (at : ℕ) (post : List ℕ) → At w at (l ++ post) → r w at ≡ s w (at + length l)) where
  joined : (m : List ℕ) (at : ℕ) → at + length l + length m ≡ at + length (l ++ m)
  joined m at = omega (arith, length-append l m)

  reads_on : (m : List ℕ) → ReadsAt s m → ReadsAt r (l ++ m)
  reads_on m g w at post a =
      let b = same a (append_assoc l m post) in
      goes w at (m ++ post) b ∙ g w (at + length l) post (on l (m ++ post) b) ∙ ap Ok (joined m at)

  pub leads_on : (m : List ℕ) (part : Reader) → Leads s m part → Leads r (l ++ m) part
  leads_on m part g = record {
    refuses = λ w at post o a e.
        let b = same a (append_assoc l m post) in
        goes w at (m ++ post) b ∙ g.refuses w (at + length l) post o (on l (m ++ post) b) (ap (part w) (joined m at) ∙ e);
    completes = λ k f.
        let h = g.completes k f in (
          h.0,
          subst (ReadsAt r) (sym (append_assoc l (m ++ k) (zeros h.0)) ∙ ap (λ v. v ++ zeros h.0) (sym (append_assoc l m k)))
              (reads_on (m ++ k ++ zeros h.0) h.1),
        );
  }

  ends_on : {M N : Marks} → ((m : List ℕ) (x : ℕ) → N m x → M (l ++ m) x) → (rest : List ℕ) → Ends s N rest → Ends r M (l ++ rest)
  ends_on k rest (taken m post e f) = taken (l ++ m) post (ap (λ k. l ++ k) e ∙ sym (append_assoc l m post)) (reads_on m f)
  ends_on k rest (stopped m post n e f part g x) =
      stopped (l ++ m) post n (ap (λ k. l ++ k) e ∙ sym (append_assoc l m post))
      (subst (ReadsAt r) (sym (append_assoc l m (zeros n))) (reads_on (m ++ zeros n) f)) part (leads_on m part g) (marked (k m) x)

-- A word that its field allows, and what it opens

word-short : (w : List ℕ) (at : ℕ) (k : ℕ → Place) → At w at [] → word w at k ≡ short w
unfolding word
word-short w at k a = let h : length w ≤ at = omega (arith, at_length a) in rw (le-ltb at (length w) h)

module _ (t : ℕ → Bool) (zero-allowed : t 0 ≡ true) (g : ℕ → Reader) {N : ℕ → Marks} (c : (x : ℕ) → Fronted (g x) (N x)) where
  abbrev opening : List ℕ → ℕ → ℕ → Place
  opening w at x = pick (t x) (g x w (at + 1)) (refused FIELD at)

  abbrev opened : Reader
  opened w at = word w at (opening w at)

  allowed : (x : ℕ) → t x ≡ true → (w : List ℕ) (at : ℕ) (post : List ℕ) → At w at (x ∷ post) → opened w at ≡ g x w (at + 1)
  allowed x u w at post a = word_reads (opening w at) a ∙ (rw u)

  opened_spare : ReadsAt opened (zeros (suc (c 0).least))
  opened_spare = reads_on opened (g 0) (0 ∷ []) (allowed 0 zero-allowed) (zeros (c 0).least) (c 0).spare

  of_word : {M : Marks} → ((n : ℕ) (m : List ℕ) (x : ℕ) → N n m x → M (n ∷ m) x) → Fronted opened M
  of_word {M} k = record { least = suc (c 0).least; spare = opened_spare; ends = go }
    where
      judged : (x : ℕ) (r : List ℕ) → Fit (x ∷ r) → (b : Bool) → t x ≡ b → Ends opened M (x ∷ r)
      judged x r f true u = ends_on opened (g x) (x ∷ []) (allowed x u) (k x) r ((c x).ends r (fit_back (x ∷ []) r f))
      judged x r f false u = stops (suc (c 0).least) opened_spare (fault (x ∷ []) r refl (inl refl) (λ w at post a. word_reads (opening w at) a ∙ (rw u)))

      go : (rest : List ℕ) → Fit rest → Ends opened M rest
      go [] f = stops (suc (c 0).least) opened_spare (over refl (λ w at a. word-short w at (opening w at) a))
      go (x ∷ r) f = judged x r f (t x) refl

-- One record behind another

pub then_second : (r s : Reader) (l : List ℕ) → ReadsAt r l → (w : List ℕ) (at : ℕ) (post : List ℕ) → At w at (l ++ post) → both r s w at ≡ s w (at + length l)
unfolding both and_then
then_second r s l f w at post a = rw (f w at post a)

module _ {r s : Reader} {O : Marks} (d : Fronted s O) where
  -- where zeros complete the first, more of them are the second
  completed : (l : List ℕ) (n : ℕ) → ReadsAt r (l ++ zeros n) → ReadsAt (both r s) (l ++ zeros (n + d.least))
  completed l n f =
      let e = append_assoc l (zeros n) (zeros d.least) ∙ ap (λ k. l ++ k) (replicate-append-replicate n d.least 0) in
      subst (ReadsAt (both r s)) e (reads_on (both r s) s (l ++ zeros n) (then_second r s (l ++ zeros n) f) (zeros d.least) d.spare)

  pub first_leads : (l : List ℕ) (part : Reader) → Leads r l part → Leads (both r s) l part
  unfolding both and_then
  first_leads l part g = record {
    refuses = λ w at post o a e. rw (g.refuses w at post o a e);
    completes = λ k f. let h = g.completes k f in (h.0 + d.least, completed (l ++ k) h.0 h.1);
  }

  pub paired : {M N : Marks} → ((l : List ℕ) (x : ℕ) → N l x → M l x) → ((k m : List ℕ) (x : ℕ) → Fit k → ReadsAt r k → O m x → M (k ++ m) x)
      → Fronted r N → Fronted (both r s) M
  paired {M} {N} one two c = record { least = c.least + d.least; spare = completed [] c.least c.spare; ends = λ rest f. first rest f (c.ends rest f) }
    where
      first : (rest : List ℕ) → Fit rest → Ends r N rest → Ends (both r s) M rest
      first rest fit (taken l post e f) =
          let i = subst Fit e fit in
          subst (Ends (both r s) M) (sym e)
          (ends_on (both r s) s l (then_second r s l f) (λ m x. two l m x (fit_front l post i) f) post (d.ends post (fit_back l post i)))
      first rest fit (stopped l post n e f part g x) = stopped l post (n + d.least) e (completed l n f) part (first_leads l part g) (marked (one l) x)

-- Fields; a count, and so many records

-- 0 is allowed by each field
abbrev pub Zeros : Tests → Type 0
Zeros [] = Unit {0}
Zeros (t ∷ ts) = (t 0 ≡ true) × Zeros ts

pub of_fields : (ts : Tests) → Zeros ts → Fronted (fields ts) no_marks
unfolding fields
of_fields [] z = nothing
of_fields (t ∷ ts) z = of_word t z.0 (λ x. fields ts) (λ x. of_fields ts z.1) (λ n m x k. k)

pub of_many : {r : Reader} {N : Marks} (M : ℕ → Marks) → ((n : ℕ) (l : List ℕ) (x : ℕ) → N l x → M (suc n) l x)
    → ((n : ℕ) (k m : List ℕ) (x : ℕ) → Fit k → ReadsAt r k → M n m x → M (suc n) (k ++ m) x) → Fronted r N → (n : ℕ) → Fronted (λ w. many (r w) n) (M n)
unfolding many both
of_many M one two c zero = nothing
of_many M one two c (suc n) = paired (of_many M one two c n) (one n) (two n) c

pub of_section : (r : Reader) {M : ℕ → Marks} {O : Marks} → ((n : ℕ) (m : List ℕ) (x : ℕ) → M n m x → O (n ∷ m) x)
    → ((n : ℕ) → Fronted (λ w. many (r w) n) (M n)) → Fronted (section r) O
unfolding section
of_section r k c = of_word (λ x. true) refl (λ n w. many (r w) n) c k

-- of records that have no three words judged together
pub pair : {r s : Reader} → Fronted r no_marks → Fronted s no_marks → Fronted (both r s) no_marks
pair c d = paired d (λ l x k. k) (λ k m x f g i. i) c

pub list : (r : Reader) → Fronted r no_marks → Fronted (section r) no_marks
list r c = of_section r (λ n m x k. k) (of_many (λ n. no_marks) (λ n l x k. k) (λ n k m x f g i. i) c)

-- So many words, whatever they are

pub block-short : (n : ℕ) (good : List ℕ → Bool) {w rest : List ℕ} {at : ℕ} → At w at rest → length rest < n → block n good w at ≡ short w
unfolding block
block-short n good {w} {rest} {at} a h = let i : length w < at + n = omega (arith, at_length a) in rw (lt-leb (at + n) (length w) i)

abbrev row : ℕ → Reader
row n = block n (λ l. true)

row_reads : (n : ℕ) (l : List ℕ) → length l ≡ n → ReadsAt (row n) l
row_reads n l e w at post a = block_complete n (λ l. true) l w at post (e, refl) a

row-leads : (l : List ℕ) (m : ℕ) → Leads (row (length l + m)) l (row m)
unfolding block
row-leads l m = record {
  refuses = λ w at post r a e. let i : at + (length l + m) ≡ at + length l + m = omega arith in ap (λ k. pick (leb k (length w)) (Ok k) (short w)) i ∙ e;
  completes = λ k f.
      let s = block-sound m (λ l. true) k 0 (0 + length k) k (start k) (f k 0 [] (same (start k) (sym (append-nil k)))) in
      let e : length (l ++ k) ≡ length l + m = omega (arith, length-append l k, s.ends, s.valid.0) in
      (0, subst (ReadsAt (row (length l + m))) (sym (append-nil (l ++ k))) (row_reads (length l + m) (l ++ k) e));
}

pub of_row : (n : ℕ) → Fronted (row n) no_marks
of_row n = record { least = n; spare = row_reads n (zeros n) (length-replicate n 0); ends = λ rest _. go rest (leb n (length rest)) refl }
  where
    go : (rest : List ℕ) (b : Bool) → leb n (length rest) ≡ b → Ends (row n) no_marks rest
    go rest true u =
        taken (take n rest) (drop n rest) (sym (take-append-drop n rest)) (row_reads n (take n rest) (length-take-le n rest (leb-true n (length rest) u)))
    go rest false u =
        let m = n - length rest in
        let h : 0 < m = omega (arith, leb-false n (length rest) u) in
        let i : length rest + m ≡ n = omega (arith, leb-false n (length rest) u) in
        let e : length (rest ++ zeros m) ≡ n = length-append rest (zeros m) ∙ ap (λ k. length rest + k) (length-replicate m 0) ∙ i in
        let g = subst (λ k. Leads (row k) rest (row m)) i (row-leads rest m) in
        stopped rest [] m (sym (append-nil rest)) (row_reads n (rest ++ zeros m) e) (row m) g (over refl (λ w at a. block-short m (λ l. true) a h))
