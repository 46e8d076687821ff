-- The laws of the call: from the ends of all intervals to cuts, and from cuts to segments. w is the list's bytes. Assumes nothing.
use mathlib.Core.Path.{◌≡◌, refl, sym, ap, ◌∙◌}
use mathlib.Core.List.{List, [], ◌∷◌, ◌++◌}
use mathlib.Core.Bool.{true}
use Prim.Native.Nat.{ℕ, ◌*◌, ◌-◌, ◌/◌, ◌<◌, ◌≤◌}
use native.Mathlib.Omega.{arith}
use borrow.Author.Rules.{rules}
use borrow.Author.Tests.{lt-ltb, le-ltb}
use mir.Val.{Fits}
use mir.Syntax.{w64}
use lib.ListN.{length, get_or, take, length-replicate, length-append, length-take}
use lib.Seq.{take_at}
use Rattle.std.specs.Prelude.{Result, Ok, Err}
use Rattle.refusal.specs.declared.Refusal.{Refusal}
use Rattle.refusal.specs.Said.{Said, ok, refusal_at, no_by, ROOM}
use Rattle.buffer.specs.Over.{lay, Put, zeros, padded}
use Rattle.buffer.proofs.Overs.{lay-zeros}
use Rattle.list_transitions.specs.declared.Transitions.{Transitions}
use Rattle.list_transitions.specs.Transition.{Transition}
use Rattle.list_transitions.specs.Intervals.{intervals, all_intervals, total, ends, ends_all}
use Rattle.list_transitions.specs.Read.{Parsed, parsed, refused, parse, is_parsed, accepted}
use Rattle.list_transitions.specs.Read as list
use Rattle.list_transitions.specs.Ends.{parse_into, ends_in}
use Rattle.list_transitions.specs.Ends as into
use Rattle.list_transitions.proofs.Accepted.{length-ends, most_ends}
use Rattle.list_segments.specs.Segments.{cut_all, cuts_of, starts, starts_from, segments}
use Rattle.list_segments.specs.Sort.{insert_all, Sorted}
use Rattle.list_segments.specs.Answer.{said, parse_for, counted, segments_in, Writes, cuts_counted, Cuts}
use Rattle.list_segments.proofs.Inserts.{length-insert_all}
use Rattle.list_segments.proofs.Puts.{length_from, cut_all_lem}

length-ends_all : (ts : List Transition) → length (ends_all ts) ≡ 2 * total ts
unfolding ends_all total
length-ends_all [] = refl
length-ends_all (t ∷ ts) = omega (arith, length-append (ends (intervals t)) (ends_all ts), length-ends (intervals t), length-ends_all ts)

-- The cuts: what an answer says of the list

record Known (x : Parsed) (k : ℕ) : Type 0 where
  good : is_parsed x ≡ true
  size : length (ends_all (accepted x)) ≡ 2 * k

read_ok : (x : Parsed) {t : Transitions} → list.said (Ok t) ≡ list.counted x → Known x t.intervals
unfolding list.counted accepted is_parsed
read_ok (parsed ts) {t} e = let h : t.intervals ≡ total ts = cc in record { good = refl; size = omega (arith, length-ends_all ts) }
read_ok (refused n p) e = let z : ◌≡◌ {A = ℕ} 0 1 = cc in absurd (omega arith)

padded_is : (n : ℕ) (x : Parsed) → is_parsed x ≡ true → ends_in n x ≡ ends_all (accepted x) ++ zeros (n - length (ends_all (accepted x)))
unfolding ends_in padded is_parsed accepted
padded_is n (parsed ts) h = refl
padded_is n (refused k p) h = let z : ◌≡◌ {A = ℕ} 0 1 = cc in absurd (omega arith)

pub length-padded : (n : ℕ) (xs : List ℕ) → length xs ≤ n → length (padded n xs) ≡ n
unfolding padded
length-padded n xs h =
    let z : length (zeros (n - length xs)) ≡ n - length xs = length-replicate (n - length xs) 0 in
    omega (arith, length-append xs (zeros (n - length xs)))

length-ends_in : (n : ℕ) (x : Parsed) → length (ends_all (accepted x)) ≤ n → length (ends_in n x) ≡ n
unfolding ends_in accepted
length-ends_in n (parsed ts) h = length-padded n (ends_all ts) h
length-ends_in n (refused k p) h = length-replicate n 0

few_ends : (w : List ℕ) → length (ends_all (accepted (parse w))) ≤ 2048
unfolding is_parsed accepted ends_all
few_ends w = go (parse w) refl
  where
    go : (x : Parsed) → parse w ≡ x → length (ends_all (accepted (parse w))) ≤ 2048
    go (parsed ts) e = most_ends w (ap is_parsed e)
    go (refused n p) e = rw e (omega arith)

pub few_cuts : (w : List ℕ) → length (cuts_of (accepted (parse w))) ≤ 2048
unfolding cuts_of
few_cuts w = omega (arith, ap length (cut_all_lem (accepted (parse w)) []), length-insert_all (ends_all (accepted (parse w))) [], few_ends w)

says_cuts : (x : Parsed) (m : ℕ) → is_parsed x ≡ true → m ≡ length (cuts_of (accepted x)) → said (Ok m) ≡ cuts_counted x
unfolding is_parsed accepted cuts_counted
says_cuts (parsed ts) m h e = ap (λ (k : ℕ). ok (k ∷ [])) e
says_cuts (refused n p) m h e = let z : ◌≡◌ {A = ℕ} 0 1 = cc in absurd (omega arith)

no_cuts : (x : Parsed) (r : Refusal) (out : List ℕ) → list.said (Err r) ≡ list.counted x → length out ≡ 2048 → Cuts (Err r) out x
unfolding list.counted cuts_counted accepted cuts_of cut_all all_intervals
no_cuts (parsed ts) r out e s = let z : ◌≡◌ {A = ℕ} 0 1 = cc in absurd (omega arith)
no_cuts (refused n p) r out e s = record { says = e; front = refl; size = s }

module _ (w : List ℕ) (n : ℕ) {got : Result Transitions Refusal} {one : List ℕ} (s : n ≡ 2048) (h : into.Writes got n one (parse_into n w)) where
  roomy : parse_into n w ≡ parse w
  unfolding parse_into
  roomy = rw (le-ltb n 2048 (omega arith))

  told_is : list.said got ≡ list.counted (parse w)
  told_is = h.says ∙ ap list.counted roomy

  one_is : one ≡ ends_in n (parse w)
  one_is = h.leaves ∙ ap (ends_in n) roomy

  one_size : length one ≡ 2048
  one_size = ap length one_is ∙ length-ends_in n (parse w) (omega (arith, few_ends w)) ∙ s

  module _ {t : Transitions} (e : got ≡ Ok t) where
    abbrev k : ℕ
    k = t.intervals

    read : Known (parse w) k
    read = read_ok (parse w) (ap list.said (sym e) ∙ told_is)

    pub cut-room : 2 * k ≤ length one
    cut-room = omega (arith, one_size, read.size, few_ends w)

    pub cut_fits : Fits w64 (2 * k)
    cut_fits = omega (arith, cut-room, one_size)

    front : take (2 * k) one ≡ ends_all (accepted (parse w))
    front =
        ap (take (2 * k)) (one_is ∙ padded_is n (parse w) read.good)
        ∙ take_at (ends_all (accepted (parse w))) (zeros (n - length (ends_all (accepted (parse w))))) (2 * k) read.size

    pub cut_read : {m : ℕ} {two : List ℕ} → Sorted one (2 * k) m two → Cuts (Ok m) two (parse w)
    unfolding cuts_of
    cut_read {m} {two} q =
        let all : insert_all (take (2 * k) one) [] ≡ cuts_of (accepted (parse w)) =
        ap (λ (d : List ℕ). insert_all d []) front ∙ cut_all_lem (accepted (parse w)) [] in
        let size : m ≡ length (cuts_of (accepted (parse w))) = q.size ∙ ap length all in
        record {
          says = says_cuts (parse w) m read.good size;
          front = ap (λ (a : ℕ). take a two) (sym size) ∙ q.is ∙ all;
          size = q.len ∙ one_size;
        }

  pub cut-refused : {r : Refusal} → got ≡ Err r → Cuts (Err r) one (parse w)
  cut-refused {r} e = no_cuts (parse w) r one (ap list.said (sym e) ∙ told_is) one_size

pub ruleset cutting = (rules, cut_fits, cut-room, cut_read, cut-refused)

-- The segments: two numbers for each start

each_start : (c : ℕ) (cs : List ℕ) → length (starts_from c cs) ≡ length cs
unfolding starts_from
each_start c [] = refl
each_start c (n ∷ ns) = omega (arith, each_start n ns)

pub length-starts : (cs : List ℕ) → length (segments cs) ≡ 2 * length (starts cs)
unfolding segments starts
length-starts [] = refl
length-starts (c ∷ cs) = omega (arith, length_from c cs, each_start c cs)

few_starts : (cs : List ℕ) → length (starts cs) ≤ length cs - 1
unfolding starts
few_starts [] = omega arith
few_starts (c ∷ cs) = omega (arith, each_start c cs)

pub few_segments : (w : List ℕ) → length (starts (cuts_of (accepted (parse w)))) ≤ 2047
few_segments w = omega (arith, few_starts (cuts_of (accepted (parse w))), few_cuts w)

record Many (x : Parsed) (m : ℕ) : Type 0 where
  good : is_parsed x ≡ true
  size : m ≡ length (cuts_of (accepted x))

many : (x : Parsed) {m : ℕ} → said (Ok m) ≡ cuts_counted x → Many x m
unfolding cuts_counted accepted is_parsed
many (parsed ts) e = record { good = refl; size = cc }
many (refused a b) e = let z : ◌≡◌ {A = ℕ} 0 1 = cc in absurd (omega arith)

is_written : (n k : ℕ) (x : Parsed) (out : List ℕ) → is_parsed x ≡ true → k ≡ length (starts (cuts_of (accepted x))) →
    out ≡ padded n (segments (cuts_of (accepted x))) → Writes (Ok k) n out x
unfolding is_parsed accepted counted segments_in
is_written n k (parsed ts) out h s o = record { says = ap (λ (k : ℕ). ok (k ∷ [])) s; leaves = o }
is_written n k (refused a b) out h s o = let z : ◌≡◌ {A = ℕ} 0 1 = cc in absurd (omega arith)

is_refused : (n : ℕ) (x : Parsed) (r : Refusal) (out : List ℕ) → said (Err r) ≡ cuts_counted x → out ≡ zeros n → Writes (Err r) n out x
unfolding cuts_counted counted segments_in
is_refused n (parsed ts) r out e o = let z : ◌≡◌ {A = ℕ} 0 1 = cc in absurd (omega arith)
is_refused n (refused a b) r out e o = record { says = e; leaves = o }

-- The call: the buffer was cleared first

module _ (w old : List ℕ) {d : List ℕ} (z : d ≡ zeros (length old)) where
  size : length d ≡ length old
  size = ap length z ∙ length-replicate (length old) 0

  pub no_room : length d < 4096 → Writes (Err (refusal_at ROOM 0)) (length old) d (parse_for (length old) w)
  unfolding parse_for counted segments_in
  no_room l = let h : length old < 4096 = omega (arith, size) in rw (lt-ltb (length old) 4096 h) (record { says = refl; leaves = z })

  module _ (l : 4096 ≤ length d) {got : Result ℕ Refusal} {cs : List ℕ} (c : Cuts got cs (parse w)) where
    for_room : parse_for (length old) w ≡ parse w
    unfolding parse_for
    for_room = let h : 4096 ≤ length old = omega (arith, size) in rw (le-ltb (length old) 4096 h)

    module _ {m : ℕ} (e : got ≡ Ok m) where
      found : Many (parse w) m
      found = many (parse w) (ap said (sym e) ∙ c.says)

      first : take m cs ≡ cuts_of (accepted (parse w))
      first = ap (λ (a : ℕ). take a cs) found.size ∙ c.front

      pub seg_few : m ≤ length cs
      seg_few = omega (arith, ap length first, length-take m cs, found.size)

      pub seg_room : 2 * m ≤ length d
      seg_room = omega (arith, seg_few, c.size)

      pub seg_found : {k : ℕ} {out : List ℕ} → Put (segments (take m cs)) 0 d k out → Writes (Ok (k / 2)) (length old) out (parse_for (length old) w)
      seg_found {k} {out} p =
          let all : segments (take m cs) ≡ segments (cuts_of (accepted (parse w))) = ap segments first in
          let half : k / 2 ≡ length (starts (cuts_of (accepted (parse w)))) =
          omega (arith, p.next, ap length all, length-starts (cuts_of (accepted (parse w)))) in
          let fits : length (segments (take m cs)) ≤ length old =
          omega (arith, ap length all, length-starts (cuts_of (accepted (parse w))), few_segments w, size) in
          rw for_room
          (is_written (length old) (k / 2) (parse w) out found.good half
          (p.is ∙ ap (lay 0 (segments (take m cs))) z ∙ lay-zeros (length old) (segments (take m cs)) fits ∙ ap (padded (length old)) all))

    pub seg_refused : {r : Refusal} → got ≡ Err r → Writes (Err r) (length old) d (parse_for (length old) w)
    seg_refused {r} e = rw for_room (is_refused (length old) (parse w) r d (ap said (sym e) ∙ c.says) z)

pub ruleset answering = (rules, length-replicate, no_room, seg_few, seg_room, seg_found, seg_refused)

-- `said` takes no two answers to one: what it says gives the answer back

abbrev back : Said → Result ℕ Refusal
back (ok l) = Ok (get_or l 0 0)
back (no_by r) = Err r

back-said : (x : Result ℕ Refusal) → back (said x) ≡ x
back-said (Ok n) = refl
back-said (Err r) = refl

pub said_one : (x y : Result ℕ Refusal) → said x ≡ said y → x ≡ y
said_one x y e = sym (back-said x) ∙ ap back e ∙ back-said y
