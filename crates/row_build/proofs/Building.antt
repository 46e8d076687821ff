-- The laws of the row call: what the segments and places that stand give is the row of the list. w is the list's bytes. Assumes nothing.
use Prim.Native.Nat.{ℕ, suc, ◌+◌, ◌*◌, ◌-◌, ◌≤◌}
use mathlib.Core.Path.{◌≡◌, refl, sym, ap, ap₂, subst, ◌∙◌}
use mathlib.Core.Bool.{Bool, true, false}
use mathlib.Core.List.{List, [], ◌∷◌, ◌++◌}
use native.Mathlib.Omega.{arith}
use borrow.Author.Rules.{rules}
use lib.Dec.{eqb}
use Rattle.std.specs.Prelude.{Result, Ok, Err}
use lib.ListN.{length, get_or, take, length-append, length-replicate, get_or-eq_default}
use lib.Seq.{length-take-le}
use Rattle.refusal.specs.declared.Refusal.{Refusal}
use Rattle.refusal.specs.Said.{Said, ok, no_by}
use Rattle.refusal.specs.Lists.{pick}
use Rattle.refusal.specs.Fixed.{NONE, DEAD-STATE}
use Rattle.law_tables.proofs.Codec.{At, start, on, at_head}
use Rattle.buffer.specs.Over.{lay, zeros, padded}
use Rattle.buffer.proofs.Overs.{lay-zeros}
use Rattle.list_transitions.specs.Transition.{Transition}
use Rattle.list_transitions.specs.Read.{Parsed, parsed, refused, accepted}
use Rattle.list_segments.specs.Segments.{Asc, cuts_of, starts, starts_from, segments, segments_from}
use Rattle.list_segments.specs.Answer.{segments_in}
use Rattle.list_segments.proofs.Answers.{length-starts}
use Rattle.list_distinct.specs.declared.Places.{Places}
use Rattle.list_masks.specs.Masks.{mask_of, masks_at, matrix, flat, is_zero, distinct_of, place_of, places_in, places_of}
use Rattle.list_masks.specs.Answer.{masks_in}
use Rattle.list_distinct.specs.Answer.{told, parse_places, found_in, placed_in}
use Rattle.list_masks.proofs.Keeps.{place_some, place_none}
use Rattle.list_masks.proofs.Packs.{length_masks}
use Rattle.list_distinct.proofs.Distincts.{length-places, few_distinct}
use Rattle.list_distinct.proofs.PlaceAnswers.{roomy_places}
use Rattle.law_rows.specs.Row.{Row, Sorted, numbers, row_from, row_over, join_to, join, part_from, ascii_part}
use Rattle.law_rows.specs.Build.{given, target_of, cont_of, row_of, ascii_of, escape_of}
use Rattle.law_rows.proofs.Built as built_rows
use Rattle.law_rows.proofs.Searches.{sorted_weaken}
use Rattle.law_rows.proofs.Parts.{length-values}
use Rattle.law_lookups.specs.Looks.{goal_at}
use Rattle.row_goals.specs.Goals.{target_at, goal_of}
use Rattle.row_goals.specs.Edges.{no_goal, first_of}
use Rattle.row_build.specs.declared.Rows.{Rows}
use Rattle.row_build.specs.Answer.{built, said, Lent, lent, with_rows, parse_rows, counted, ascii_in, wide_in, escape_in, Builds}
use Rattle.row_build.specs.Aimed.{range_of, aimed, living, seen, joined, Spaced, Ready, Filled}
use Rattle.row_build.specs.Asked.{Cleared, Asked, Fillable, Prepared}
use Rattle.row_build.proofs.Aiming.{aimed_taken}
use Rattle.row_build.proofs.Asking.{long, rows_asked}
use Rattle.row_build.proofs.Living.{living-joined, look_living, part-joined, part_all}
use Rattle.row_build.proofs.Joining.{few_joined}
use Rattle.row_build.proofs.Parting.{values_same}

-- What was given a mask is what was given its place

given_place : (other : ℕ) (ds : List (List ℕ)) (vs m : List ℕ) → length vs ≤ NONE → get_or vs (place_of ds m) other ≡ given other ds vs m
given_place other ds vs m h = go (is_zero m) refl
  where
    go : (t : Bool) → is_zero m ≡ t → get_or vs (place_of ds m) other ≡ given other ds vs m
    go true e = ap (λ (k : ℕ). get_or vs k other) (place_none ds m e) ∙ get_or-eq_default vs other h ∙ sym (built_rows.given-none other ds vs m e)
    go false e = ap (λ (k : ℕ). get_or vs k other) (place_some ds m e) ∙ sym (built_rows.given_at other ds vs m e)

-- The segments of a list, with the places of their masks: those that are not left out are the list's row, and all of them ascend

module _ (goal : ℕ → ℕ) (ts : List Transition) (segs ps : List ℕ) where
  abbrev row : ℕ → ℕ → Row
  row n k = aimed goal segs ps n k

  next-two : (k : ℕ) (xs : List ℕ) → At segs (2 * k + 2) xs → At segs (2 * (k + 1)) xs
  next-two k xs a = let e : 2 * k + 2 ≡ 2 * (k + 1) = omega arith in subst (λ (x : ℕ). At segs x xs) e a

  module _ (d : ℕ) (f : ℕ → ℕ) (g : (c : ℕ) → goal (place_of (distinct_of ts) (mask_of ts c)) ≡ f c) where
    row_from_lem : (c : ℕ) (cs : List ℕ) (k : ℕ) (post posts : List ℕ) → At segs (2 * k) (segments_from c cs ++ post) →
        At ps k (places_in (distinct_of ts) (masks_at ts (starts_from c cs)) ++ posts) →
        living d (row (length (starts_from c cs)) k) ≡ row_from d f c cs
    unfolding aimed living row_from segments_from starts_from masks_at places_in
    row_from_lem c [] k post posts a b = refl
    row_from_lem c (n ∷ ns) k post posts a b =
        let low : get_or segs (2 * k) 0 ≡ c = at_head a in
        let high : get_or segs (2 * k + 1) 0 ≡ n - 1 = at_head (on (c ∷ []) _ a) in
        let aim : goal (get_or ps k 0) ≡ f c = ap goal (at_head b) ∙ g c in
        let rest : living d (row (length (starts_from n ns)) (k + 1)) ≡ row_from d f n ns =
        row_from_lem n ns (k + 1) post posts (next-two k _ (on (c ∷ (n - 1) ∷ []) _ a)) (on (place_of (distinct_of ts) (mask_of ts c) ∷ []) _ b) in
        rw (low, high, aim, rest)

    row-over : (cs : List ℕ) (post posts : List ℕ) → segs ≡ segments cs ++ post → ps ≡ places_in (distinct_of ts) (masks_at ts (starts cs)) ++ posts →
        living d (row (length (starts cs)) 0) ≡ row_over d f cs
    unfolding aimed living row_over segments starts
    row-over [] post posts a b = refl
    row-over (c ∷ cs) post posts a b = row_from_lem c cs 0 post posts (subst (At segs 0) a (start segs)) (subst (At ps 0) b (start ps))

  sorted_from : (c : ℕ) (cs : List ℕ) (k : ℕ) (post : List ℕ) → At segs (2 * k) (segments_from c cs ++ post) → Asc (suc c) cs →
      Sorted c (row (length (starts_from c cs)) k)
  unfolding aimed segments_from starts_from
  sorted_from c [] k post a o = tt
  sorted_from c (n ∷ ns) k post a o =
      let low : get_or segs (2 * k) 0 ≡ c = at_head a in
      let high : get_or segs (2 * k + 1) 0 ≡ n - 1 = at_head (on (c ∷ []) _ a) in (
        omega arith,
        omega arith,
        sorted_weaken n (suc (get_or segs (2 * k + 1) 0)) (row (length (starts_from n ns)) (k + 1)) (omega arith)
            (sorted_from n ns (k + 1) post (next-two k _ (on (c ∷ (n - 1) ∷ []) _ a)) o.1),
      )

  sorted_over : (cs : List ℕ) (post : List ℕ) → segs ≡ segments cs ++ post → Asc 0 cs → Sorted 0 (row (length (starts cs)) 0)
  unfolding aimed segments starts
  sorted_over [] post a o = tt
  sorted_over (c ∷ cs) post a o =
      sorted_weaken c 0 (row (length (starts_from c cs)) 0) (omega arith) (sorted_from c cs 0 post (subst (At segs 0) a (start segs)) o.1)

-- .. so that the row that is written is the list's, joined and parted, and the ascii targets are the list's

joined_is : (e : Bool) (all rs : Row) → Sorted 0 rs → Sorted 0 all → living (no_goal e) all ≡ rs →
    seen e (join_to (range_of 0 0 (no_goal e)) all) ≡ join (part_from (first_of e) rs)
joined_is e all rs o s i =
    ap (part_from (first_of e)) (living-joined (no_goal e) 0 (range_of 0 0 (no_goal e)) all refl s ∙ ap join i) ∙ part-joined (first_of e) 0 rs o

ascii_is : (all rs : Row) → Sorted 0 all → living DEAD-STATE all ≡ rs → ascii_part all ≡ ascii_part rs
ascii_is all rs s e =
    values_same (goal_at DEAD-STATE all) (goal_at DEAD-STATE rs) 0 128
    (λ p l h. sym (look_living DEAD-STATE 0 all p s) ∙ ap (λ (x : Row). goal_at DEAD-STATE x p) e)

-- What the call below leaves, where it finds something

record Parts (t c : ℕ) (short : Bool) (s n d : ℕ) (count : ℕ) (ns ms ds : List ℕ) (p : ℕ) (ps : List ℕ) (y : Parsed) : Type 0 where
  ts : List Transition
  is : with_rows t c short y ≡ parsed ts
  a_target_each : t ≡ length (distinct_of ts)
  a_cont_each : c ≡ length (distinct_of ts)
  long_enough : short ≡ false
  count_is : count ≡ length (starts (cuts_of ts))
  few : count ≤ 2047
  low_high : ns ≡ padded s (segments (cuts_of ts))
  each : ms ≡ padded n (flat (matrix ts))
  once : ds ≡ padded d (flat (distinct_of ts))
  places : ps ≡ padded p (places_of ts)

zeros-length : (n : ℕ) {l : List ℕ} → l ≡ zeros n → length l ≡ n
zeros-length n e = ap length e ∙ length-replicate n 0

module _ {t c : ℕ} {short : Bool} {s n d p : ℕ} {ns ms ds ps : List ℕ} {y : Parsed} {got : Result Places Refusal} (h : Asked t c short got s ns n ms d ds p ps y)
    {pl : Places}
    (i : got ≡ Ok pl) where
  abbrev count : ℕ
  count = pl.segments

  parts_of : (x : Parsed) → with_rows t c short y ≡ x → Parts t c short s n d count ns ms ds p ps y
  unfolding found_in segments_in masks_in placed_in accepted
  parts_of (parsed ts) e =
      let says = ap told (sym i) ∙ h.says ∙ ap found_in e in
      let a : count ≡ length (starts (cuts_of ts)) = cc in
      let q = rows_asked t c short y e in
      let few : length (starts (cuts_of ts)) ≤ 2047 = subst (λ (x : Parsed). length (starts (cuts_of (accepted x))) ≤ 2047) q.0 h.few in
      record {
        ts = ts;
        is = e;
        a_target_each = q.1;
        a_cont_each = q.2;
        long_enough = q.3;
        count_is = a;
        few = omega arith;
        low_high = h.low_high ∙ ap (segments_in s) e;
        each = h.each ∙ ap (masks_in matrix n) e;
        once = h.once ∙ ap (masks_in distinct_of d) e;
        places = h.leaves ∙ ap (placed_in p) q.0;
      }
  parts_of (refused j q) e = let says = ap told (sym i) ∙ h.says ∙ ap found_in e in let z : ◌≡◌ {A = ℕ} 0 1 = cc in absurd (omega arith)

  parts : Parts t c short s n d count ns ms ds p ps y
  parts = parts_of (with_rows t c short y) refl

  abbrev us : List Transition
  us = parts.ts

  points : 2 * count ≤ length ns
  unfolding padded
  points =
      omega (
        arith,
        parts.count_is,
        length-starts (cuts_of us),
        ap length parts.low_high,
        length-append (segments (cuts_of us))
            (zeros (s - length (segments (cuts_of us)))),
      )

  a_place_each : count ≤ length ps
  unfolding padded
  a_place_each =
      omega (
        arith,
        parts.count_is,
        ap length parts.places,
        length-append (places_of us) (zeros (p - length (places_of us))),
        length-places (distinct_of us) (matrix us),
        length_masks us (starts (cuts_of us)),
      )

  sorted : (goal : ℕ → ℕ) → Sorted 0 (aimed goal ns ps count 0)
  unfolding padded
  sorted goal =
      subst (λ (j : ℕ). Sorted 0 (aimed goal ns ps j 0)) (sym parts.count_is)
      (sorted_over goal us ns ps (cuts_of us) (zeros (s - length (segments (cuts_of us)))) parts.low_high (built_rows.asc_cuts us))

  -- a buffer that was cleared takes three numbers for each segment, and three more
  spaced : (j : ℕ) {out : List ℕ} → 6144 ≤ j → out ≡ zeros j → Spaced ns ps count out
  spaced j r e = record { points = points; each = a_place_each; room = omega (arith, parts.few, zeros-length j e) }

  module _ {ai ai₁ ws ws₁ es es₁ : List ℕ} (z : Cleared short ai ai₁ ws ws₁ es es₁) where
    roomy : (128 ≤ length ai) × (6144 ≤ length ws) × (6144 ≤ length es)
    roomy = long (length ai) (length ws) (length es) (sym z.says ∙ parts.long_enough)

    ready : Ready ns ps count ai₁ ws₁ es₁
    ready =
        record {
          narrow = record {
            points = points;
            each = a_place_each;
            room = omega (arith, roomy.0, zeros-length (length ai) z.empty.first);
            order = sorted;
          };
          broad = spaced (length ws) roomy.1 z.empty.second;
          escapes = spaced (length es) roomy.2 z.empty.third;
        }

-- numbers that stand in front of a buffer that was cleared
stands : (n : ℕ) {xs ys old new : List ℕ} → new ≡ lay 0 xs old → old ≡ zeros n → xs ≡ ys → length xs ≤ n → new ≡ padded n ys
stands n {xs} {ys} e o s h = e ∙ ap (lay 0 xs) o ∙ lay-zeros n xs h ∙ ap (padded n) s

none : (l : Lent) (targets conts : List ℕ) (x : Parsed) (r : Refusal) {ns ms ds ai ws es : List ℕ} → told (Err r) ≡ found_in x →
    ns ≡ segments_in l.segments x → ms ≡ masks_in matrix l.masks x → ds ≡ masks_in distinct_of l.distinct x →
    ai ≡ zeros l.ascii → ws ≡ zeros l.wide → es ≡ zeros l.escape → Builds (Err r) l ns ms ds ai ws es targets conts x
unfolding found_in counted ascii_in wide_in escape_in
none l targets conts (parsed ts) r says q m o a b c = let f : ◌≡◌ {A = ℕ} 0 1 = cc in absurd (omega arith)
none l targets conts (refused k p) r says q m o a b c = record { says = says; low_high = q; each = m; once = o; narrow = a; broad = b; escapes = c }

-- The call: the buffers for rows were cleared first

pub prepared : (w : List ℕ) (t c : ℕ) {short : Bool} {r : Result Places Refusal} (sg mk ds : List ℕ) {sg₁ mk₁ ds₁ ps ai ai₁ ws ws₁ es es₁ : List ℕ} {p : ℕ} →
    Cleared short ai ai₁ ws ws₁ es es₁ →
    Asked t c short r (length sg) sg₁ (length mk) mk₁ (length ds) ds₁ p ps (parse_places (length sg) (length mk) (length ds) p w) →
    Prepared w t c r sg sg₁ mk mk₁ ds ds₁ p ps ai ai₁ ws ws₁ es es₁
prepared w t c {short} sg mk ds z h = record { short = short; cleared = z; asked = h; next = record { found = λ pl i. ready h i z } }

pub ruleset preparing = (rules, prepared)

-- .. and the rows are made of the first segments and places, as many as were found

module _ (sg ps : List ℕ) (count : ℕ) where
  abbrev sg₀ : List ℕ
  sg₀ = take (2 * count) sg

  abbrev ps₀ : List ℕ
  ps₀ = take count ps

  same_taken : (goal : ℕ → ℕ) → count ≤ length ps → aimed goal sg₀ ps₀ (length ps₀) 0 ≡ aimed goal sg ps count 0
  same_taken goal h =
      ap (λ (n : ℕ). aimed goal sg₀ ps₀ n 0) (length-take-le count ps h) ∙ aimed_taken goal sg ps count count 0 (omega arith)

  ready_taken : {ai ws es : List ℕ} → Ready sg ps count ai ws es → Ready sg₀ ps₀ (length ps₀) ai ws es
  ready_taken r =
      let b : length ps₀ ≡ count = length-take-le count ps r.narrow.each in
      let a : length sg₀ ≡ 2 * count = length-take-le (2 * count) sg r.narrow.points in
      record {
        narrow = record {
          points = omega arith;
          each = omega arith;
          room = r.narrow.room;
          order = λ goal. subst (Sorted 0) (sym (same_taken goal r.narrow.each)) (r.narrow.order goal);
        };
        broad = record { points = omega arith; each = omega arith; room = omega (arith, r.broad.room) };
        escapes = record { points = omega arith; each = omega arith; room = omega (arith, r.escapes.room) };
      }

  filled_taken : {ts cs ai ai' ws ws' es es' : List ℕ} {r : Rows} → count ≤ length ps → Filled r ts cs sg₀ ps₀ (length ps₀) ai ai' ws ws' es es' →
      Filled r ts cs sg ps count ai ai' ws ws' es es'
  filled_taken {ts} {cs} {ai} {ai'} {ws} {ws'} {es} {es'} h f =
      let row : (e : Bool) → joined e ts cs sg₀ ps₀ (length ps₀) ≡ joined e ts cs sg ps count =
      λ e. ap (λ (rs : Row). seen e (join_to (range_of 0 0 (no_goal e)) rs)) (same_taken (goal_of e ts cs) h) in
      record {
        says = f.says ∙ ap₂ {C = Said} (λ x y. ok (length (numbers x) ∷ length (numbers y) ∷ [])) (row false) (row true);
        narrow = f.narrow ∙ ap (λ (rs : Row). lay 0 (ascii_part rs) ai) (same_taken (target_at ts) h);
        broad = f.broad ∙ ap (λ (rs : Row). lay 0 (numbers rs) ws) (row false);
        escapes = f.escapes ∙ ap (λ (rs : Row). lay 0 (numbers rs) es) (row true);
      }

pub build_ready : {got : Result Places Refusal} {pl : Places} {sg ps ai ws es : List ℕ} → got ≡ Ok pl → Fillable got sg ps ai ws es →
    Ready (take (2 * pl.segments) sg) (take pl.segments ps) (length (take pl.segments ps)) ai ws es
build_ready {pl = pl} {sg = sg} {ps = ps} i h = ready_taken sg ps pl.segments (h.found pl i)

module _ (w targets conts sg mk ds ai ws es : List ℕ) {got : Result Places Refusal} {sg₁ mk₁ ds₁ ps ai₁ ws₁ es₁ : List ℕ}
    (g : Prepared w (length targets) (length conts) got sg sg₁ mk mk₁ ds ds₁ 2048 ps ai ai₁ ws ws₁ es es₁) where
  abbrev short : Bool
  short = g.short

  abbrev z : Cleared short ai ai₁ ws ws₁ es es₁
  z = g.cleared

  abbrev h : Asked (length targets) (length conts) short got (length sg) sg₁ (length mk) mk₁ (length ds) ds₁ 2048 ps
      (parse_places (length sg) (length mk) (length ds) 2048 w)
  h = g.asked

  abbrev l : Lent
  l = lent sg mk ds ai ws es

  abbrev x : Parsed
  x = parse_rows l w targets conts

  abbrev y : Parsed
  y = parse_places (length sg) (length mk) (length ds) 2048 w

  x_is : with_rows (length targets) (length conts) short y ≡ x
  x_is = ap₂ (with_rows (length targets) (length conts)) z.says (roomy_places (length sg) (length mk) (length ds) w)

  pub build_refused : {r : Refusal} → got ≡ Err r →
      Builds (Err r) (lent sg mk ds ai ws es) sg₁ mk₁ ds₁ ai₁ ws₁ es₁ targets conts (parse_rows (lent sg mk ds ai ws es) w targets conts)
  build_refused {r} i =
      none l targets conts x r (ap told (sym i) ∙ h.says ∙ ap found_in x_is) (h.low_high ∙ ap (segments_in (length sg)) x_is)
      (h.each ∙ ap (masks_in matrix (length mk)) x_is)
      (h.once ∙ ap (masks_in distinct_of (length ds)) x_is) z.empty.first z.empty.second z.empty.third

  module _ {pl : Places} (i : got ≡ Ok pl) where
    abbrev c : ℕ
    c = pl.segments

    p : Parts (length targets) (length conts) short (length sg) (length mk) (length ds) c sg₁ mk₁ ds₁ 2048 ps y
    p = parts h i

    abbrev ts : List Transition
    ts = p.ts

    room : (128 ≤ length ai) × (6144 ≤ length ws) × (6144 ≤ length es)
    room = roomy h i z

    few_masks : length (distinct_of ts) ≤ 2047
    few_masks = omega (arith, few_distinct [] (matrix ts), length_masks ts (starts (cuts_of ts)), p.count_is, p.few)

    -- what each place was given is what its mask was given
    target_is : (c : ℕ) → target_at targets (place_of (distinct_of ts) (mask_of ts c)) ≡ target_of ts targets (mask_of ts c)
    target_is c = given_place DEAD-STATE (distinct_of ts) targets (mask_of ts c) (omega (arith, p.a_target_each, few_masks))

    abbrev goal : Bool → List ℕ → ℕ
    goal e m = pick e (cont_of ts targets conts m) (target_of ts targets m)

    goal_is : (e : Bool) (q : ℕ) → goal_of e targets conts (place_of (distinct_of ts) (mask_of ts q)) ≡ goal e (mask_of ts q)
    goal_is false q = target_is q
    goal_is true q =
        ap₂ (λ (t v : ℕ). pick (eqb t DEAD-STATE) NONE v) (target_is q)
        (given_place NONE (distinct_of ts) conts (mask_of ts q) (omega (arith, p.a_cont_each, few_masks)))

    -- either row of the list, and what of it is written
    abbrev row_of_lem : Bool → Row
    row_of_lem e = row_of (no_goal e) (goal e) ts

    row_is : (e : Bool) → living (no_goal e) (aimed (goal_of e targets conts) sg₁ ps c 0) ≡ row_of_lem e
    unfolding padded row_of
    row_is e =
        ap (λ (n : ℕ). living (no_goal e) (aimed (goal_of e targets conts) sg₁ ps n 0)) p.count_is
        ∙ row-over (goal_of e targets conts) ts sg₁ ps (no_goal e) (λ q. goal e (mask_of ts q)) (goal_is e) (cuts_of ts)
        (zeros (length sg - length (segments (cuts_of ts)))) (zeros (2048 - length (places_of ts))) p.low_high p.places

    joined-row : (e : Bool) → joined e targets conts sg₁ ps c ≡ join (part_from (first_of e) (row_of_lem e))
    joined-row e =
        joined_is e (aimed (goal_of e targets conts) sg₁ ps c 0) (row_of_lem e) (built_rows.sorted_row ts (no_goal e) (goal e))
        (sorted h i (goal_of e targets conts)) (row_is e)

    asciis : ascii_part (aimed (target_at targets) sg₁ ps c 0) ≡ ascii_of ts targets
    asciis = ascii_is (aimed (target_at targets) sg₁ ps c 0) (row_of_lem false) (sorted h i (target_at targets)) (row_is false)

    escapes : joined true targets conts sg₁ ps c ≡ escape_of ts targets conts
    escapes = joined-row true ∙ ap join (part_all (row_of_lem true))

    pub build_done : {r : Rows} {ai₂ ws₂ es₂ : List ℕ} →
        Filled r targets conts (take (2 * c) sg₁) (take c ps) (length (take c ps)) ai₁ ai₂ ws₁ ws₂ es₁ es₂ →
        Builds (Ok r) (lent sg mk ds ai ws es) sg₁ mk₁ ds₁ ai₂ ws₂ es₂ targets conts (parse_rows (lent sg mk ds ai ws es) w targets conts)
    unfolding segments_in masks_in counted ascii_in wide_in escape_in
    build_done filled =
        let f = filled_taken sg₁ ps c (a_place_each h i) filled in
        let fit-a : length (ascii_part (aimed (target_at targets) sg₁ ps c 0)) ≤ length ai =
        omega (arith, length-values (goal_at DEAD-STATE (aimed (target_at targets) sg₁ ps c 0)) 0 128, room.0) in
        let fit-w : length (numbers (joined false targets conts sg₁ ps c)) ≤ length ws =
        omega (arith, few_joined false targets conts sg₁ ps c, p.few, room.1) in
        let fit-e : length (numbers (joined true targets conts sg₁ ps c)) ≤ length es =
        omega (arith, few_joined true targets conts sg₁ ps c, p.few, room.2) in
        rw (sym x_is ∙ p.is)
        (record {
          says = f.says ∙ ap₂ {C = Said} (λ x y. ok (length (numbers x) ∷ length (numbers y) ∷ [])) (joined-row false) escapes;
          low_high = p.low_high;
          each = p.each;
          once = p.once;
          narrow = stands (length ai) f.narrow z.empty.first asciis fit-a;
          broad = stands (length ws) f.broad z.empty.second (ap numbers (joined-row false)) fit-w;
          escapes = stands (length es) f.escapes z.empty.third (ap numbers escapes) fit-e;
        })

pub ruleset building = (rules, build_refused, build_ready, build_done)

-- `said` takes no two answers to one: what it says gives the answer back

abbrev back : Said → Result Rows Refusal
back (ok l) = built (get_or l 0 0) (get_or l 1 0)
back (no_by r) = Err r

back-said : (x : Result Rows Refusal) → back (said x) ≡ x
back-said (Ok rows) = refl
back-said (Err r) = refl

pub said_one : (x y : Result Rows Refusal) → said x ≡ said y → x ≡ y
said_one x y e = sym (back-said x) ∙ ap back e ∙ back-said y
