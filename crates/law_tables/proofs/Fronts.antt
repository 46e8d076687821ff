-- When reading a whole table refuses SHORT, TAG and FIELD, and where it ends otherwise, in terms of tables. Reading the sections ends as Ends.antt
-- says; zeros complete the words before a refusal, and what is complete is accepted, so it is the words of a table. Assumes nothing.
use mathlib.Core.Path.{◌≡◌, refl, sym, ap, subst, ◌∙◌}
use mathlib.Core.List.{List, [], ◌∷◌, ◌++◌, append_assoc, append-nil}
use mathlib.Core.Bool.{Bool, true, false}
use mathlib.Core.Logic.{◌⊎◌, inl, inr}
use Prim.Native.Nat.{ℕ, zero, suc, ◌+◌, ◌-◌, ◌≤◌, ◌<◌}
use native.Mathlib.Omega.{arith}
use lib.Dec.{leb, eqb}
use lib.ListN.{length, get_or, take, drop, length-append, length-drop, length-replicate, get_or-replicate, take-append-drop}
use lib.Seq.{length-take-le, take-append_seam, take-append-add, take_at, take-take, take-add, drop-cons, get_or-append-add, get_or-take}
use borrow.Author.Tests.{leb-true, leb-false, eqb-true, eqb-false, ne_eqb}
use Rattle.refusal.specs.declared.Refusal.{Refusal}
use Rattle.refusal.specs.Said.{refusal_at, SHORT, TAG, FIELD}
use Rattle.refusal.specs.Fixed.{tag}
use Rattle.refusal.specs.Lists.{pick}
use Rattle.word_reader.specs.Parse.{Place}
use Rattle.std.specs.Prelude.{Ok, Err}
use Rattle.word_reader.specs.Parse.{refused, short, word}
use Rattle.word_reader.specs.Records.{run_at, context_at}
use Rattle.law_tables.specs.Table.{Table, section_words, words_of, Fields}
use Rattle.law_tables.specs.Whole.{Fit}
use Rattle.law_tables.specs.Fronts.{Begins, Unfinished, ThreeAt, EndsInside, Differs, WordForbidden, ThreeForbidden, Forbids, Opens}
use Rattle.law_tables.proofs.Whole.{sections_at, whole_at}
use Rattle.law_tables.proofs.Codec.{At, start, here, same, on, word_reads}
use Rattle.law_tables.proofs.Accepted.{sections, words_accepted, accepted_words}
use Rattle.law_tables.proofs.Ends.{Reader, zeros, ReadsAt, Leads, Fails, Refuses, over, inside, fault, Ends, taken, stopped, marked, fit_front, fit_back}
use Rattle.law_tables.proofs.Fronted.{Three, three_judged, three_short, SectionMarks, sections_fronted}
use Rattle.law_tables.proofs.Due.{ThreeDue, run_leads, context_leads, marked_due}

-- The tag

whole-empty : whole_at [] ≡ short []
unfolding whole_at word
whole-empty = refl

whole-differs : (x : ℕ) (r : List ℕ) → (x ≡ tag → ⊥) → whole_at (x ∷ r) ≡ refused TAG 0
unfolding whole_at
whole-differs x r n = word_reads (λ y. pick (eqb y tag) (sections_at (x ∷ r) 1) (refused TAG 0)) (start (x ∷ r)) ∙ (rw (ne_eqb x tag n))

whole-tag : (r : List ℕ) → whole_at (tag ∷ r) ≡ sections_at (tag ∷ r) 1
unfolding whole_at
whole-tag r = word_reads (λ y. pick (eqb y tag) (sections_at (tag ∷ r) 1) (refused TAG 0)) (start (tag ∷ r))

behind_tag : (r : List ℕ) → At (tag ∷ r) 1 r
behind_tag r = on (tag ∷ []) r (start (tag ∷ r))

-- reading goes on, or is refused
pub one_way : {x : Place} {r : Refusal} {q : ℕ} → x ≡ Err r → x ≡ Ok q → ⊥
one_way e f = let z : ◌≡◌ {A = ℕ} 0 1 = cc in omega arith

-- and refused in one way
pub one_refusal : {x : Place} {n p m q : ℕ} → x ≡ refused n p → x ≡ refused m q → (n ≡ m) × (p ≡ q)
one_refusal {n = n} {p} {m} {q} e f =
    let i : ◌≡◌ {A = Refusal} (refusal_at n p) (refusal_at m q) = cc in
    (ap (λ (r : Refusal). r.number) i, ap (λ (r : Refusal). r.place) i)

-- Tables: their words are read to the end, whatever is behind them, and open no other's

table_read : (t : Table) (more : List ℕ) → Fields t → whole_at (words_of t ++ more) ≡ Ok (length (words_of t))
table_read t more h =
    let e : 1 + length (section_words t) ≡ suc (length (section_words t)) = omega arith in
    whole-tag (section_words t ++ more) ∙ sections.complete t (words_of t ++ more) 1 more h (behind_tag (section_words t ++ more)) ∙ ap Ok e

only_whole : (t u : Table) (more : List ℕ) → Fields t → Fields u → words_of t ++ more ≡ words_of u → length more ≡ 0
only_whole t u more h k e =
    let a = table_read t more h in
    let b = ap whole_at e ∙ words_accepted u k in
    let c : length (words_of t) ≡ length (words_of u) = cc in
    omega (arith, ap length e, length-append (words_of t) more)

-- What begins a table

fit_take : (n : ℕ) (w : List ℕ) → Fit w → Fit (take n w)
fit_take n w f = fit_front (take n w) (drop n w) (subst Fit (sym (take-append-drop n w)) f)

fit_zeros : (l : List ℕ) (n : ℕ) → Fit l → Fit (l ++ zeros n)
fit_zeros [] n f i h = let e : get_or (zeros n) i 0 ≡ 0 = get_or-replicate n i 0 0 (omega (arith, length-replicate {A = ℕ} n 0)) in omega arith
fit_zeros (x ∷ l) n f zero h = f 0 (omega arith)
fit_zeros (x ∷ l) n f (suc i) h = fit_zeros l n (λ j k. f (suc j) (omega arith)) i (omega arith)

-- what zeros complete
completed : (l : List ℕ) (n : ℕ) → Fit (tag ∷ l) → ReadsAt sections_at (l ++ zeros n) → Begins (tag ∷ l)
completed l n f r =
    let v = l ++ zeros n in
    let a = same (behind_tag v) (sym (append-nil v)) in
    let e : 1 + length v ≡ suc (length v) = omega arith in
    let t = accepted_words (tag ∷ v) (fit_zeros (tag ∷ l) n f) (whole-tag v ∙ r (tag ∷ v) 1 [] a ∙ ap Ok e) in
    (t.0, zeros n, t.1, t.2)

begins_front : (u v : List ℕ) → Begins (u ++ v) → Begins u
begins_front u v b = (b.0, v ++ b.1, b.2, sym (append_assoc u v b.1) ∙ b.3)

begins_take : (n : ℕ) (w : List ℕ) → Begins w → Begins (take n w)
begins_take n w b = begins_front (take n w) (drop n w) (subst Begins (sym (take-append-drop n w)) b)

-- n words begin a table and m do not: they are more
begins_upto : (w : List ℕ) (m n : ℕ) → (Begins (take m w) → ⊥) → Begins (take n w) → n < m
begins_upto w m n k b = go (leb m n) refl
  where
    go : (t : Bool) → leb m n ≡ t → n < m
    go false u = leb-false m n u
    go true u = absurd (k (subst Begins (take-take m n w (leb-true m n u)) (begins_take m (take n w) b)))

begins_nothing : Begins []
begins_nothing = begins_front [] (tag ∷ []) (completed [] sections_fronted.least one sections_fronted.spare)
  where
    one : Fit (tag ∷ [])
    one zero h = omega arith
    one (suc i) h = absurd (omega arith)

-- where what goes on behind a front is refused, the front is no whole table
not_yet : (u post : List ℕ) {n p : ℕ} → whole_at (u ++ post) ≡ refused n p → Begins u → Unfinished u
not_yet u post e (t, [], h, q) = absurd (one_way e (ap (λ k. whole_at (k ++ post)) (sym (append-nil u) ∙ q) ∙ table_read t post h))
not_yet u post e (t, x ∷ more, h, q) = (t, x ∷ more, h, q, omega arith)

-- A record that is due

stands : (u post : List ℕ) → At (u ++ post) (length u) post
stands u post = record { pre = u; whole = refl; here = refl }

-- behind u, reading goes on with a part: what refuses the part refuses the whole, and with what it reads behind it u still begins a table
record Due (part : Reader) (u : List ℕ) : Type 0 where
  refused : (post : List ℕ) (r : Refusal) → part (u ++ post) (length u) ≡ Err r → whole_at (u ++ post) ≡ Err r
  allowed : (m : List ℕ) → Fit (u ++ m) → ReadsAt part m → Begins (u ++ m)

due : (l : List ℕ) (part : Reader) → Leads sections_at l part → Due part (tag ∷ l)
due l part g = record { refused = turned; allowed = λ m f r. let h = g.completes m r in completed (l ++ m) h.0 f h.1 }
  where
    turned : (post : List ℕ) (r : Refusal) → part (tag ∷ (l ++ post)) (suc (length l)) ≡ Err r → whole_at (tag ∷ (l ++ post)) ≡ Err r
    turned post r e =
        let i : 1 + length l ≡ suc (length l) = omega arith in
        whole-tag (l ++ post) ∙ g.refuses (tag ∷ (l ++ post)) 1 post r (behind_tag (l ++ post)) (ap (part (tag ∷ (l ++ post))) i ∙ e)

due_here : (part : Reader) (w : List ℕ) (p : ℕ) {r : Refusal} → p ≤ length w → Due part (take p w) → part w p ≡ Err r → whole_at w ≡ Err r
due_here part w p {r} h d e =
    let o = take-append-drop p w in
    ap whole_at (sym o) ∙ d.refused (drop p w) r (ap (λ k. part k (length (take p w))) o ∙ ap (part w) (length-take-le p w h) ∙ e)

-- Three words that are judged together

three_due : (u : List ℕ) (x : ℕ) → ThreeDue u x → (part : Reader) × Three part x × Due part u
three_due u x (inl (d, k)) = let i = run_leads u d in (run_at, inl (refl, k), subst (Due run_at) (sym i.1) (due i.0 run_at i.2))
three_due u x (inr d) = let i = context_leads u d in (context_at, inr refl, subst (Due context_at) (sym i.1) (due i.0 context_at i.2))

-- one or two of them are SHORT
pub three_cut : (w : List ℕ) (p : ℕ) → p < length w → length w < p + 3 → ThreeAt w p → whole_at w ≡ short w
three_cut w p h i t =
    let d = three_due (take p w) (get_or w p 0) t in
    let a = same (here w p (omega arith)) (drop-cons w p 0 h) in
    due_here d.0 w p (omega arith) d.2 (three_short d.0 (get_or w p 0) d.1 w p (drop (suc p) w) a (omega (arith, length-drop (suc p) w)))

-- all of them are FIELD, or begin a table
three_all : (w : List ℕ) (p : ℕ) → Fit w → p + 3 ≤ length w → ThreeAt w p → (whole_at w ≡ refused FIELD p) ⊎ Begins (take (p + 3) w)
three_all w p f h t =
    let d = three_due (take p w) (get_or w p 0) t in
    go d.0 d.2 (three_judged d.0 (get_or w p 0) (get_or w (suc p) 0) (get_or w (suc (suc p)) 0) d.1)
  where
    m : List ℕ
    m = get_or w p 0 ∷ get_or w (suc p) 0 ∷ get_or w (suc (suc p)) 0 ∷ []

    opened : drop p w ≡ m ++ drop (suc (suc (suc p))) w
    opened =
        drop-cons w p 0 (omega arith)
        ∙ ap (λ l. get_or w p 0 ∷ l) (drop-cons w (suc p) 0 (omega arith) ∙ ap (λ l. get_or w (suc p) 0 ∷ l) (drop-cons w (suc (suc p)) 0 (omega arith)))

    front : take p w ++ m ≡ take (p + 3) w
    front = sym (take-add p 3 w ∙ ap (λ l. take p w ++ l) (ap (take 3) opened))

    go : (part : Reader) → Due part (take p w) → ReadsAt part m ⊎ Fails part m → (whole_at w ≡ refused FIELD p) ⊎ Begins (take (p + 3) w)
    go part d (inl g) = inr (subst Begins front (d.allowed m (subst Fit (sym front) (fit_take (p + 3) w f)) g))
    go part d (inr g) = inl (due_here part w p (omega arith) d (g w p (drop (suc (suc (suc p))) w) (same (here w p (omega arith)) opened)))

three_take : (w : List ℕ) (q n : ℕ) → q < n → ThreeAt w q → ThreeAt (take n w) q
three_take w q n h t =
    subst (λ u. ThreeDue u (get_or (take n w) q 0)) (sym (take-take q n w (omega arith))) (subst (ThreeDue (take q w)) (sym (get_or-take n w q 0 h)) t)

-- a word at which a front is refused is none of them
alone : (w : List ℕ) (p q : ℕ) → Fit w → p < length w → whole_at (take (p + 1) w) ≡ refused FIELD p → (Begins (take (p + 1) w) → ⊥) → q ≤ p
    → p < q + 3 → ThreeAt w q → ⊥
alone w p q f h e n i j t = go (leb (q + 3) (p + 1)) refl
  where
    v : List ℕ
    v = take (p + 1) w

    long : length v ≡ p + 1
    long = length-take-le (p + 1) w (omega arith)

    all : q + 3 ≡ p + 1 → (whole_at v ≡ refused FIELD q) ⊎ Begins (take (q + 3) v) → ⊥
    all o (inl g) = omega (arith, (one_refusal g e).1)
    all o (inr g) = n (subst Begins (take-take (q + 3) (p + 1) w (omega arith) ∙ ap (λ k. take k w) o) g)

    go : (b : Bool) → leb (q + 3) (p + 1) ≡ b → ⊥
    go true u =
        let o : q + 3 ≡ p + 1 = omega (arith, leb-true (q + 3) (p + 1) u) in
        all o (three_all v q (fit_take (p + 1) w f) (omega (arith, long)) (three_take w q (p + 1) (omega arith) t))
    go false u =
        let g = three_cut v q (omega (arith, long)) (omega (arith, long, leb-false (q + 3) (p + 1) u)) (three_take w q (p + 1) (omega arith) t) in
        omega (arith, (one_refusal g e).0)

-- Every list of words is judged so: it opens with a table, or is refused for one of three reasons

pub data Reason (w : List ℕ) (r : Refusal) : Type 0 where
  ends : r ≡ refusal_at SHORT (length w) → EndsInside w → Reason w r
  differs : r ≡ refusal_at TAG 0 → Differs w → Reason w r
  forbids : r ≡ refusal_at FIELD r.place → Forbids w r.place → Reason w r

abbrev pub Judged : List ℕ → Place → Type 0
Judged w (Ok p) = Opens w p
Judged w (Err r) = Reason w r

module _ (u post : List ℕ) (fit : Fit (u ++ post)) (some : 1 ≤ length u) (b : Begins u) (part : Reader) (d : Due part u) where
  front : take (length u) (u ++ post) ≡ u
  front = take-append_seam u post

  three_at : ThreeDue u (get_or post 0 0) → ThreeAt (u ++ post) (length u)
  three_at k =
      let i : length u ≡ length u + 0 = omega arith in
      let head = ap (λ n. get_or (u ++ post) n 0) i ∙ get_or-append-add u post 0 0 in
      subst (λ v. ThreeDue v (get_or (u ++ post) (length u) 0)) (sym front) (subst (ThreeDue u) (sym head) k)

  refuses : Refuses (ThreeDue u) part post → Judged (u ++ post) (whole_at (u ++ post))
  refuses (over e s) =
      let q = d.refused post _ (s (u ++ post) (length u) (same (stands u post) e)) in
      let o : u ≡ u ++ post = sym (append-nil u) ∙ ap (λ k. u ++ k) (sym e) in
      subst (Judged (u ++ post)) (sym q) (ends refl (inl (subst Unfinished o (not_yet u post q b))))
  refuses (inside k h i) =
      let long = length-append u post in
      let q = three_cut (u ++ post) (length u) (omega arith) (omega arith) (three_at k) in
      subst (Judged (u ++ post)) (sym q) (ends refl (inr (length u, omega arith, omega arith, subst Begins (sym front) b, three_at k)))
  refuses (fault l more e s f) = subst (Judged (u ++ post)) (sym whole) (forbids refl (some, subst Unfinished (sym front) (not_yet u post whole b), why s))
    where
      long : length (u ++ post) ≡ length u + (length l + length more)
      long = length-append u post ∙ ap (λ k. length u + k) (ap length e ∙ length-append l more)

      fails : (m : List ℕ) → whole_at (u ++ (l ++ m)) ≡ refused FIELD (length u)
      fails m = d.refused (l ++ m) _ (f (u ++ (l ++ m)) (length u) m (stands u (l ++ m)))

      whole : whole_at (u ++ post) ≡ refused FIELD (length u)
      whole = ap (λ k. whole_at (u ++ k)) e ∙ fails more

      cut : (n : ℕ) → length l ≡ n → take (length u + n) (u ++ post) ≡ u ++ l
      cut n i = take-append-add u post n ∙ ap (λ k. u ++ k) (ap (take n) e ∙ take_at l more n i)

      begins_none : (n : ℕ) → length l ≡ n → Begins (take (length u + n) (u ++ post)) → ⊥
      begins_none n i h =
          let v = subst Begins (cut n i) h in
          one_way (fails v.1) (ap whole_at (sym (append_assoc u l v.1) ∙ v.3) ∙ words_accepted v.0 v.2)

      why : (length l ≡ 1) ⊎ (ThreeDue u (get_or post 0 0) × (length l ≡ 3)) → WordForbidden (u ++ post) (length u) ⊎ ThreeForbidden (u ++ post) (length u)
      why (inl i) =
          let g : whole_at (take (length u + 1) (u ++ post)) ≡ refused FIELD (length u) =
          ap whole_at (cut 1 i ∙ ap (λ k. u ++ k) (sym (append-nil l))) ∙ fails [] in
          inl (omega (arith, long), begins_none 1 i, λ q. alone (u ++ post) (length u) q fit (omega (arith, long)) g (begins_none 1 i))
      why (inr k) = inr (omega (arith, long, k.1), begins_none 3 k.1, three_at k.0)

pub judged : (w : List ℕ) → Fit w → Judged w (whole_at w)
judged [] f = subst (Judged []) (sym whole-empty) (ends refl (inl (not_yet [] [] whole-empty begins_nothing)))
judged (x ∷ r) f = tagged (eqb x tag) refl
  where
    ended : Fit (tag ∷ r) → Ends sections_at SectionMarks r → Judged (tag ∷ r) (whole_at (tag ∷ r))
    ended g (taken l post e m) =
        let s = sections.sound (tag ∷ r) 1 (1 + length l) r g (behind_tag r) (m (tag ∷ r) 1 post (same (behind_tag r) e)) in
        let o : tag ∷ r ≡ words_of s.item ++ s.post = ap (λ k. tag ∷ k) s.opens in
        subst (Judged (tag ∷ r)) (sym (ap whole_at o ∙ table_read s.item s.post s.valid)) (s.item, s.post, s.valid, o, refl)
    ended g (stopped l post n e m part h x) =
        let o : tag ∷ r ≡ (tag ∷ l) ++ post = ap (λ k. tag ∷ k) e in
        let i = subst Fit o g in
        subst (λ k. Judged k (whole_at k)) (sym o)
        (refuses (tag ∷ l) post i (omega arith) (completed l n (fit_front (tag ∷ l) post i) m) part (due l part h) (marked (marked_due l) x))

    tagged : (b : Bool) → eqb x tag ≡ b → Judged (x ∷ r) (whole_at (x ∷ r))
    tagged false u = let n = eqb-false x tag u in subst (Judged (x ∷ r)) (sym (whole-differs x r n)) (differs refl (x, r, refl, n))
    tagged true u =
        let e : x ∷ r ≡ tag ∷ r = ap (λ k. k ∷ r) (eqb-true x tag u) in
        subst (λ k. Judged k (whole_at k)) (sym e) (ended (subst Fit e f) (sections_fronted.ends r (fit_back (x ∷ []) r f)))

-- The other way

pub opens_read : (w : List ℕ) (p : ℕ) → Opens w p → whole_at w ≡ Ok p
opens_read w p (t, more, h, o, e) = ap whole_at o ∙ table_read t more h ∙ ap Ok e

pub differs-tag : (w : List ℕ) → Differs w → whole_at w ≡ refused TAG 0
differs-tag w (x, more, o, n) = ap whole_at o ∙ whole-differs x more n

-- a front of a table that is not all of it is SHORT
pub front-short : (w : List ℕ) → Fit w → Unfinished w → whole_at w ≡ short w
front-short w f (t, more, h, e, n) = go (whole_at w) (judged w f)
  where
    go : (x : Place) → Judged w x → x ≡ short w
    go (Ok p) (u, post, k, o, l) =
        let i = sym (append_assoc (words_of u) post more) ∙ ap (λ k. k ++ more) (sym o) ∙ e in
        absurd (omega (arith, only_whole u t (post ++ more) k h i, length-append post more))
    go (Err r) (ends i _) = ap Err i
    go (Err r) (differs _ (x, post, o, k)) = let i : (x ∷ post) ++ more ≡ words_of t = ap (λ k. k ++ more) (sym o) ∙ e in absurd (k (cc))
    go (Err r) (forbids _ (_, _, inl k)) = absurd (k.1 (begins_take (r.place + 1) w (t, more, h, e)))
    go (Err r) (forbids _ (_, _, inr k)) = absurd (k.1 (begins_take (r.place + 3) w (t, more, h, e)))

-- what begins no table any more is FIELD
pub forbids_field : (w : List ℕ) (p : ℕ) → Fit w → Forbids w p → whole_at w ≡ refused FIELD p
forbids_field w p f (_, _, inr (h, n, t)) = go (three_all w p f h t)
  where
    go : (whole_at w ≡ refused FIELD p) ⊎ Begins (take (p + 3) w) → whole_at w ≡ refused FIELD p
    go (inl e) = e
    go (inr b) = absurd (n b)
forbids_field w p f (some, (t, more, k, e, m), inl (h, n, single)) = go (whole_at w) (judged w f)
  where
    before : (q : ℕ) → Begins (take q w) → q ≤ p
    before q b = omega (arith, begins_upto w (p + 1) q n b)

    here_too : (q : ℕ) → (Begins (take q w) → ⊥) → p < q
    here_too q g = begins_upto w q p g (t, more, k, e)

    go : (x : Place) → Judged w x → x ≡ refused FIELD p
    go (Ok q) (v, post, i, o, l) =
        let g = before q (v, [], i, append-nil (take q w) ∙ ap (take q) o ∙ take_at (words_of v) post q l) in
        let j : length (words_of v) + (p - q) ≡ p = omega arith in
        let s = ap (λ n. take n w) (sym j) ∙ ap (take (length (words_of v) + (p - q))) o ∙ take-append-add (words_of v) post (p - q) in
        let c = sym (append_assoc (words_of v) (take (p - q) post) more) ∙ ap (λ l. l ++ more) (sym s) ∙ e in
        absurd (omega (arith, only_whole v t (take (p - q) post ++ more) i k c, length-append (take (p - q) post) more))
    go (Err r) (ends _ (inl b)) = absurd (n (begins_take (p + 1) w (b.0, b.1, b.2, b.3)))
    go (Err r) (ends _ (inr (q, i, j, b, x))) = absurd (single q (before q b) (omega arith) x)
    go (Err r) (differs _ (x, post, o, i)) = absurd (i (first p some (subst (λ l. take p l ++ more ≡ words_of t) o e)))
      where
        first : (p : ℕ) → 1 ≤ p → take p (x ∷ post) ++ more ≡ words_of t → x ≡ tag
        first zero h c = absurd (omega arith)
        first (suc p) h c = cc
    go (Err r) (forbids i (_, (t, more, k, e, _), why)) = ap Err i ∙ ap (refused FIELD) (exact why)
      where
        exact : WordForbidden w r.place ⊎ ThreeForbidden w r.place → r.place ≡ p
        exact (inl g) = omega (arith, before r.place (t, more, k, e), here_too (r.place + 1) g.1)
        exact (inr g) = absurd (single r.place (before r.place (t, more, k, e)) (here_too (r.place + 3) g.1) g.2)
