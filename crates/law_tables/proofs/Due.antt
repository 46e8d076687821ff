-- Where a run or a context of a table is due, readers are led to it; and where they stop at three words that are judged together, one of them is due.
-- Assumes nothing.
use mathlib.Core.Path.{◌≡◌, refl, sym, ap, subst, ◌∙◌}
use mathlib.Core.List.{List, [], ◌∷◌, ◌++◌, append_assoc, append-nil}
use mathlib.Core.Logic.{◌⊎◌, inl, inr}
use Prim.Native.Nat.{ℕ, zero, suc, ◌+◌, ◌≤◌, ◌%◌}
use native.Mathlib.Omega.{arith}
use lib.ListN.{length, take, replicate, length-append, length-replicate}
use lib.Seq.{take-append_seam}
use Rattle.refusal.specs.Fixed.{tag}
use Rattle.refusal.specs.Lists.{each}
use Rattle.run_shape.specs.Shape.{none}
use Rattle.word_reader.specs.Parse.{many, section, both}
use Rattle.word_reader.specs.Records.{run_at, context_at}
use Rattle.law_tables.specs.Table.{Table, Context, Continuation, counted, mode_words, state_words, run_words, ascii_words, wide_words, accept_words}
use Rattle.law_tables.specs.Table.{escape_words, context_words, config_words, continuation_words, section_words, All, RunFields, ContinuationFields, Fields}
use Rattle.law_tables.specs.Fronts.{One, RunDue, ContextDue}
use Rattle.law_tables.proofs.Whole.{sections_at}
use Rattle.law_tables.proofs.Codec as codec
use Rattle.law_tables.proofs.Codec.{Codec, word_reads}
use Rattle.law_tables.proofs.Records.{mode, state, ascii, wide_row_lem, accept, escape, context, continuation, all_always}
use Rattle.law_tables.proofs.Runs.{run_codec}
use Rattle.law_tables.proofs.Ends.{Reader, Marks, Leads, Fronted, leads-itself, leads_on, then_second, first_leads}
use Rattle.law_tables.proofs.Fronted.{run_fronted, context_fronted, config_list, continuation_fronted, last_fronted, many_fronted, SectionMarks}

-- three words that are judged together are due behind u, and x is the first of them
abbrev pub ThreeDue : List ℕ → ℕ → Type 0
ThreeDue u x = (RunDue u × (x % 256 ≡ 5)) ⊎ ContextDue u

-- Lists

each_append : {A : Type 0} (f : A → List ℕ) (xs ys : List A) → each f (xs ++ ys) ≡ each f xs ++ each f ys
unfolding each
each_append f [] ys = refl
each_append f (x ∷ xs) ys = ap (λ l. f x ++ l) (each_append f xs ys) ∙ sym (append_assoc (f x) (each f xs) (each f ys))

module _ {A : Type 0} (P : A → Type 0) where
  all_parts : (xs ys : List A) → All P (xs ++ ys) → All P xs × All P ys
  unfolding All
  all_parts [] ys h = (tt, h)
  all_parts (x ∷ xs) ys h = let r = all_parts xs ys h.1 in ((h.0, r.0), r.1)

  all_joined : (xs ys : List A) → All P xs → All P ys → All P (xs ++ ys)
  unfolding All
  all_joined [] ys h k = k
  all_joined (x ∷ xs) ys h k = (h.0, all_joined xs ys h.1 k)

  all_same : (n : ℕ) (x : A) → P x → All P (replicate n x)
  unfolding All
  all_same zero x h = tt
  all_same (suc n) x h = (h, all_same n x h)

counts : {A : Type 0} {xs : List A} (o : One xs) → length xs ≡ length o.before + suc (length o.after)
counts o = ap length o.all ∙ length-append o.before (o.it ∷ o.after)

ends_same : (u v l : List ℕ) → u ++ l ≡ v ++ l → u ≡ v
ends_same u v l e =
    let n : length u ≡ length v = omega (arith, ap length e, length-append u l, length-append v l) in
    sym (take-append_seam u l) ∙ ap (take (length u)) e ∙ ap (λ n. take n (v ++ l)) n ∙ take-append_seam v l

-- Readers are led past records, and on to what stands behind them

module _ {A : Type 0} {r : Reader} {f : A → List ℕ} {G : A → Type 0} (c : Codec A r f G) where
  leads_behind : (s : Reader) (x : A) → G x → (m : List ℕ) (part : Reader) → Leads s m part → Leads (both r s) (f x ++ m) part
  leads_behind s x v m part g = leads_on (both r s) s (f x) (then_second r s (f x) (λ w at post a. c.complete x w at post v a)) m part g

  leads-many : {N : Marks} → Fronted r N → (xs : List A) → All G xs → (j : ℕ) (m : List ℕ) (part : Reader) → Leads r m part
      → (n : ℕ) → n ≡ length xs + suc j → Leads (λ w. many (r w) n) (each f xs ++ m) part
  unfolding each All many both
  leads-many d [] v j m part g n e =
      let i : suc j ≡ n = omega arith in
      subst (λ k. Leads (λ w. many (r w) k) m part) i (first_leads (many_fronted c d j) m part g)
  leads-many d (x ∷ xs) v j m part g n e =
      let i : suc (length xs + suc j) ≡ n = omega arith in
      let h = leads_behind (λ w. many (r w) (length xs + suc j)) x v.0 (each f xs ++ m) part (leads-many d xs v.1 j m part g (length xs + suc j) refl) in
      subst (λ k. Leads (λ w. many (r w) k) (f x ++ each f xs ++ m) part) i
      (subst (λ l. Leads (λ w. many (r w) (suc (length xs + suc j))) l part) (sym (append_assoc (f x) (each f xs) m)) h)

  leads-section : {N : Marks} → Fronted r N → {xs : List A} (o : One xs) → All G xs → (m : List ℕ) (part : Reader) → Leads r m part
      → Leads (section r) (length xs ∷ (each f o.before ++ m)) part
  unfolding section
  leads-section d {xs} o v m part g =
      let h = (all_parts G o.before (o.it ∷ o.after) (subst (All G) o.all v)).0 in
      leads_on (section r) (λ w. many (r w) (length xs)) (length xs ∷ []) (λ w at post a. word_reads (λ n. many (r w) n (at + 1)) a)
      (each f o.before ++ m) part
      (leads-many d o.before h (length o.after) m part g (length xs) (counts o))

  -- and to a record itself
  leads_to : {N : Marks} → Fronted r N → {xs : List A} (o : One xs) → All G xs → Leads (section r) (length xs ∷ each f o.before) r
  leads_to d {xs} o v = subst (λ l. Leads (section r) (length xs ∷ l) r) (append-nil (each f o.before)) (leads-section d o v [] r (leads-itself r))

-- A run

pub run_leads : (u : List ℕ) → RunDue u → (l : List ℕ) × (u ≡ tag ∷ l) × Leads sections_at l run_at
unfolding sections_at
run_leads u (t, h, run, e) =
    let g = leads_to run_codec run_fronted run h.runs in (
      _,
      e,
      leads_behind (codec.of_section mode) _ t.modes h.modes _ run_at
          (leads_behind (codec.of_section state) _ t.states h.states _ run_at (first_leads last_fronted _ run_at g)),
    )

-- A context

-- lists, one behind the other
abbrev joined : List (List ℕ) → List ℕ → List ℕ
joined [] m = m
joined (k ∷ ks) m = k ++ joined ks m

joined-append : (ks : List (List ℕ)) (m l : List ℕ) → joined ks m ++ l ≡ joined ks (m ++ l)
joined-append [] m l = refl
joined-append (k ∷ ks) m l = append_assoc k (joined ks m) l ∙ ap (λ v. k ++ v) (joined-append ks m l)

-- the sections before the continuations
abbrev seven : Table → List (List ℕ)
seven t =
    counted mode_words t.modes
    ∷ counted state_words t.states
    ∷ counted run_words t.runs
    ∷ counted ascii_words t.ascii
    ∷ counted wide_words t.wide
    ∷ counted accept_words t.accepts
    ∷ counted escape_words t.escapes
    ∷ []

module _ (t : Table) (c : One t.continuations) (x : One c.it.contexts) where
  -- what stands before the context, in its section and in its continuation
  abbrev front : List ℕ
  front = joined (seven t) (length t.continuations ∷ (each continuation_words c.before ++ (length c.it.contexts ∷ each context_words x.before)))

  abbrev missing : List ℕ
  missing = each context_words (x.it ∷ x.after) ++ (counted config_words c.it.configs ++ each continuation_words c.after)

  from_its : (length c.it.contexts ∷ each context_words x.before) ++ missing ≡ each continuation_words (c.it ∷ c.after)
  unfolding each
  from_its =
      let n = length c.it.contexts in
      let more = counted config_words c.it.configs ++ each continuation_words c.after in
      let e = sym (each_append context_words x.before (x.it ∷ x.after)) ∙ ap (each context_words) (sym x.all) in
      sym (append_assoc (n ∷ each context_words x.before) (each context_words (x.it ∷ x.after)) more)
      ∙ ap (λ l. (n ∷ l) ++ more) e
      ∙ sym (append_assoc (counted context_words c.it.contexts) (counted config_words c.it.configs) (each continuation_words c.after))

  whole : front ++ missing ≡ section_words t
  unfolding section_words
  whole =
      let n = length t.continuations in
      let m = length c.it.contexts ∷ each context_words x.before in
      let k = each continuation_words c.before in
      let e = append_assoc k m missing ∙ ap (λ l. k ++ l) from_its ∙ sym (each_append continuation_words c.before (c.it ∷ c.after))
      ∙ ap (each continuation_words) (sym c.all) in
      joined-append (seven t) (n ∷ (k ++ m)) missing ∙ ap (λ l. joined (seven t) (n ∷ l)) e

  front-leads : Fields t → Leads sections_at front context_at
  unfolding sections_at All
  front-leads h =
      let v = (all_parts ContinuationFields c.before (c.it ∷ c.after) (subst (All ContinuationFields) c.all h.continuations)).1.0 in
      let g = first_leads config_list _ context_at (leads_to context context_fronted x v) in
      leads_behind (codec.of_section mode) _ t.modes h.modes _ context_at
      (leads_behind (codec.of_section state) _ t.states h.states _ context_at
      (leads_behind (codec.of_section run_codec) _ t.runs h.runs _ context_at
      (leads_behind (codec.of_section ascii) _ t.ascii h.ascii _ context_at
      (leads_behind (codec.of_section wide_row_lem) _ t.wide h.wide _ context_at
      (leads_behind (codec.of_section accept) _ t.accepts (all_always t.accepts) _ context_at
      (leads_behind (codec.of_section escape) _ t.escapes (all_always t.escapes) _ context_at
      (leads-section continuation continuation_fronted c h.continuations _ context_at g)))))))

pub context_leads : (u : List ℕ) → ContextDue u → (l : List ℕ) × (u ≡ tag ∷ l) × Leads sections_at l context_at
context_leads u (t, h, c, x, e) =
    (front t c x, ends_same u (tag ∷ front t c x) (missing t c x) (e ∙ ap (λ l. tag ∷ l) (sym (whole t c x))), front-leads t c x h)

-- The other way: what is missing of a table is filled in

-- y behind xs, and j more
abbrev next : {A : Type 0} (xs : List A) (y : A) (j : ℕ) (z : A) → One (xs ++ (y ∷ replicate j z))
next xs y j z = record { before = xs; it = y; after = replicate j z; all = refl }

next_counts : {A : Type 0} (xs : List A) (y : A) (j : ℕ) (z : A) {l m : List ℕ} → l ≡ (length xs + suc j) ∷ m → l ≡ length (xs ++ (y ∷ replicate j z)) ∷ m
next_counts xs y j z {l} {m} e =
    let n : length xs + suc j ≡ length (xs ++ (y ∷ replicate j z)) = omega (arith, counts (next xs y j z), length-replicate j z) in e ∙ ap (λ k. k ∷ m) n

-- no words stand behind the records
closed : {A : Type 0} (f : A → List ℕ) (xs : List A) {l m : List ℕ} {n : ℕ} → l ≡ n ∷ (each f xs ++ m) → m ≡ [] → l ≡ n ∷ each f xs
closed f xs {n = n} e i = e ∙ ap (λ k. n ∷ (each f xs ++ k)) i ∙ ap (λ k. n ∷ k) (append-nil (each f xs))

pub marked_due : (l : List ℕ) (x : ℕ) → SectionMarks l x → ThreeDue (tag ∷ l) x
unfolding All RunFields
marked_due l x (modes, _, h1, e1, (states, _, h2, e2, inl (before, j, _, h, e, (i, five)))) =
    let t : Table = record {
      modes = modes;
      states = states;
      runs = before ++ (none ∷ replicate j none);
      ascii = [];
      wide = [];
      accepts = [];
      escapes = [];
      continuations = [];
    } in
    let v : Fields t = record {
      modes = h1;
      states = h2;
      runs = all_joined RunFields before (none ∷ replicate j none) h (tt, all_same RunFields j none tt);
      ascii = tt;
      wide = tt;
      continuations = tt;
    } in
    let same = e1 ∙ ap (λ k. counted mode_words modes ++ k)
    (e2 ∙ ap (λ k. counted state_words states ++ k) (closed run_words before (next_counts before none j none e) i)) in
    inl ((t, v, next before none j none, ap (λ k. tag ∷ k) same), five)
marked_due l x (
  modes,
  _,
  h1,
  e1,
  (
    states,
    _,
    h2,
    e2,
    inr (runs, _, h3, e3, (rows, _, h4, e4, (wide, _, h5, e5, (accepts, _, _, e6, (escapes, _, _, e7, (before, j, _, h, e, (earlier, k, _, g, d, i))))))),
  ),
) =
    inr (t, v, c, y, ap (λ l. tag ∷ l) (ap (λ l. l ++ missing t c y) same ∙ whole t c y))
  where
    zeros : Context
    zeros = record { kind = 0; a = 0; b = 0 }

    its : Continuation
    its = record { contexts = earlier ++ (zeros ∷ replicate k zeros); configs = [] }

    empty : Continuation
    empty = record { contexts = []; configs = [] }

    t : Table
    t = record {
      modes = modes;
      states = states;
      runs = runs;
      ascii = rows;
      wide = wide;
      accepts = accepts;
      escapes = escapes;
      continuations = before ++ (its ∷ replicate j empty);
    }

    kinds : ContinuationFields its
    kinds = all_joined (λ x. x.kind ≤ 1) earlier (zeros ∷ replicate k zeros) g (omega arith, all_same (λ x. x.kind ≤ 1) k zeros (omega arith))

    v : Fields t
    v = record {
      modes = h1;
      states = h2;
      runs = h3;
      ascii = h4;
      wide = h5;
      continuations = all_joined ContinuationFields before (its ∷ replicate j empty) h (kinds, all_same ContinuationFields j empty tt);
    }

    c : One t.continuations
    c = next before its j empty

    y : One c.it.contexts
    y = next earlier zeros k zeros

    same : l ≡ front t c y
    same =
        e1 ∙ ap (λ l. counted mode_words modes ++ l)
        (e2 ∙ ap (λ l. counted state_words states ++ l)
        (e3 ∙ ap (λ l. counted run_words runs ++ l)
        (e4 ∙ ap (λ l. counted ascii_words rows ++ l)
        (e5 ∙ ap (λ l. counted wide_words wide ++ l)
        (e6 ∙ ap (λ l. counted accept_words accepts ++ l)
        (e7 ∙ ap (λ l. counted escape_words escapes ++ l)
        (next_counts before its j empty e ∙ ap (λ l. length t.continuations ∷ (each continuation_words before ++ l))
        (closed context_words earlier (next_counts earlier zeros k zeros d) i))))))))
