-- The laws of writing the words section by section, each into its own part of the output. Assumes nothing.
use Prim.Native.Nat.{ℕ, ◌+◌, ◌-◌, ◌<◌, ◌≤◌}
use native.Mathlib.Numerals.{add-one}
use native.Mathlib.Omega.{arith}
use mathlib.Core.Path.{◌≡◌, refl, sym, ap, ◌∙◌}
use mathlib.Core.List.{List, [], ◌∷◌, ◌++◌, append-nil}
use borrow.Author.Rules.{rules}
use borrow.Author.Tests.{lt-ltb, le-ltb}
use borrow.Rule.Slice.PartMut.{mid_of, put_mid}
use lib.ListN.{length, get_or, take, drop, set, length-take, length-drop, drop_of_length-le, length-replicate}
use lib.Seq.{drop-cons, drop-drop, take_all, take-add, take-length, length-take-le}
use Rattle.refusal.specs.declared.Refusal.{Refusal}
use Rattle.refusal.specs.Said.{NOT-TABLE, ROOM}
use Rattle.word_reader.specs.declared.Sections.{Sections}
use Rattle.word_layout.specs.Layout.{Layout, layout_of}
use Rattle.std.specs.Prelude.{Ok, Err}
use Rattle.word_layout.proofs.Found.{order, continuations_there}
use Rattle.buffer.specs.Written.{refused}
use Rattle.buffer.specs.Over.{over, lay, zeros, padded}
use Rattle.buffer.proofs.Overs.{lay-none, lay_put, lay-lay, lay-zeros}
use Rattle.word_layout.proofs.Laws.{kept}
use Rattle.room_judge.specs.Judge.{words_part, table_in}
use Rattle.room_judge.proofs.Tables.{table_laid, found_table, unfound_table}
use Rattle.room_encode.specs.Encode.{encode_of, out_of}
use Rattle.std.specs.Prelude.{Result}

-- The loop that copies a section: what is left of it, laid from here, gives what all of it gives

module _ (w : List ℕ) where
  pub copy_holds : (d : List ℕ) → lay 0 (drop 0 w) d ≡ over w d
  unfolding lay
  copy_holds d = refl

  pub copy_turn : {i : ℕ} (out old : List ℕ) {x : ℕ} {all : List ℕ} → lay i (drop i w) out ≡ all → i < length w → length out ≡ length old → length w ≤ length old
      → x ≡ get_or w i 0 → lay (i + 1) (drop (i + 1) w) (set out i x) ≡ all
  copy_turn {i} out old e h k l g = rw g (lay_put i _ _ out (omega arith) ∙ (rw add-one (rw (← drop-cons w i 0 h) e)))

  pub copy_done : {i : ℕ} (out : List ℕ) {all : List ℕ} → length w ≤ i → lay i (drop i w) out ≡ all → out ≡ all
  copy_done {i} out h e = sym (lay-none i out) ∙ (rw (drop_of_length-le w h) at e)

pub ruleset copying = (rules, copy_holds, copy_turn, copy_done)

-- what was written over the part from a on, said of the whole
pub lent : (a : ℕ) (xs d : List ℕ) {e : List ℕ} → a ≤ length d → e ≡ over xs (mid_of a (length d - a) d) → put_mid a (length d - a) d e ≡ lay a xs d
unfolding lay
lent a xs d {e} h g =
    let long : length (drop a d) ≤ length d - a = omega (arith, length-drop a d) in
    let none : drop (length d - a) (drop a d) ≡ [] = drop_of_length-le (drop a d) long in
    rw (g, take_all (length d - a) (drop a d) long, none, append-nil)

-- The sections, one behind the other

-- the words from a to before b
abbrev part : List ℕ → ℕ → ℕ → List ℕ
part w a b = take (b - a) (drop a w)

parts_join : (w : List ℕ) (a b c : ℕ) → a ≤ b → b ≤ c → part w a b ++ part w b c ≡ part w a c
parts_join w a b c h k =
    let i : b - a + (c - b) ≡ c - a = omega arith in
    let j : a + (b - a) ≡ b = omega arith in
    let d : drop (b - a) (drop a w) ≡ drop b w = drop-drop (b - a) a w ∙ ap (λ (n : ℕ). drop n w) j in
    ap (λ (l : List ℕ). part w a b ++ take (c - b) l) (sym d) ∙ sym (take-add (b - a) (c - b) (drop a w)) ∙ ap (λ (n : ℕ). take n (drop a w)) i

-- the places xs follow a, each behind or at the one before it, and the last is n
pub Rising : ℕ → List ℕ → ℕ → Type 0
Rising a [] n = a ≡ n
Rising a (x ∷ xs) n = (a ≤ x) × Rising x xs n

rising-within : (a : ℕ) (xs : List ℕ) (n : ℕ) → Rising a xs n → a ≤ n
unfolding Rising
rising-within a [] n r = omega arith
rising-within a (x ∷ xs) n r = let i : a ≤ x = r.0 in omega (arith, rising-within x xs n r.1)

-- the place that comes next, at i
module _ (a n i : ℕ) (xs : List ℕ) (h : i < length xs) (r : Rising a (drop i xs) n) where
  opened : (a ≤ get_or xs i 0) × Rising (get_or xs i 0) (drop (i + 1) xs) n
  unfolding Rising
  opened = let q = rw (drop-cons xs i 0 h) at r in (q.0, rw add-one q.1)

  pub next_order : a ≤ get_or xs i 0
  next_order = opened.0

  pub next_within : get_or xs i 0 ≤ n
  next_within = rising-within (get_or xs i 0) (drop (i + 1) xs) n opened.1

  pub next_rises : Rising (get_or xs i 0) (drop (i + 1) xs) n
  next_rises = opened.1

  pub next_start : a ≤ n
  next_start = omega (arith, next_order, next_within)

-- where the next section starts and ends
pub ruleset following = (rules, next_order, next_within, next_start)

pub at_last : (a n i : ℕ) (xs : List ℕ) → length xs ≤ i → Rising a (drop i xs) n → a ≡ n
unfolding Rising
at_last a n i xs h r = rw (drop_of_length-le xs h) at r

-- the words before a were written, and then those from a to before b
pub part_turn : (w old : List ℕ) (a b : ℕ) {mid new : List ℕ} → a ≤ b → b ≤ length w → length w ≤ length old → mid ≡ lay 0 (take a w) old
    → new ≡ lay a (part w a b) mid → new ≡ lay 0 (take b w) old
part_turn w old a b {mid} {new} i j l h k =
    let m : 0 + length (take a w) ≡ a = omega (arith, length-take-le a w (omega arith)) in
    let n : a - 0 ≡ a = omega arith in
    let o : b - 0 ≡ b = omega arith in
    let q : take a w ++ part w a b ≡ take b w = rw (n, o) at (parts_join w 0 a b (omega arith) i) in
    k ∙ ap (lay a (part w a b)) h ∙ ap (λ (p : ℕ). lay p (part w a b) (lay 0 (take a w) old)) (sym m)
    ∙ lay-lay 0 (take a w) (part w a b) old (omega (arith, m)) ∙ ap (λ (p : List ℕ). lay 0 p old) q

pub part_start : (w old : List ℕ) → old ≡ lay 0 (take 0 w) old
part_start w old = sym (lay-none 0 old)

pub part_done : (w old : List ℕ) (a : ℕ) {new : List ℕ} → a ≡ length w → new ≡ lay 0 (take a w) old → new ≡ lay 0 w old
part_done w old a e k = k ∙ ap (λ (n : ℕ). lay 0 (take n w) old) e ∙ ap (λ (p : List ℕ). lay 0 p old) (take-length w)

-- the nine ends of a table
abbrev pub ends : List ℕ → Sections → List ℕ
ends w s = s.modes ∷ s.states ∷ s.runs ∷ s.ascii ∷ s.wide ∷ s.accepts ∷ s.escapes ∷ s.continuations ∷ length w ∷ []

pub ends_rise : (w : List ℕ) {s : Sections} → layout_of w ≡ Ok s → Rising 0 (ends w s) (length w)
unfolding Rising
ends_rise w h =
    let o = order w h in (
      omega arith,
      (
        omega (arith, o.states),
        (
          omega (arith, o.runs),
          (
            omega (arith, o.ascii),
            (
              omega (arith, o.wide),
              (
                omega (arith, o.accepts),
                (omega (arith, o.escapes), (omega (arith, o.continuations), (omega (arith, continuations_there w h), refl))),
              ),
            ),
          ),
        ),
      ),
    )

-- What encoding is left with

module _ (d : List ℕ) where
  -- the room of a table, and its word count
  table_kept : {s : Sections} → table_in d ≡ Ok s → (16384 ≤ length d) × (length (words_part d) ≤ 8192)
  table_kept h = let t = table_laid d (found_table d h).0 in let k = kept (words_part d) (length d) t.1 in (k.room, k.limit)

  count_is : {s : Sections} → table_in d ≡ Ok s → get_or d 0 0 ≡ length (words_part d)
  unfolding words_part
  count_is h = let k = table_kept h in omega (arith, k.0, k.1, length-take (get_or d 0 0) (drop 9 d), length-drop 9 d)

  pub first_there : {s : Sections} → table_in d ≡ Ok s → 0 < length d
  first_there h = let k = table_kept h in omega (arith, k.0)

module _ (d : List ℕ) (k : ℕ) where
  -- the words, as `&room[9..9 + words]` reads them
  abbrev read : List ℕ
  read = take (9 + k - 9) (drop 9 d)

  read_is : k ≡ get_or d 0 0 → read ≡ words_part d
  unfolding words_part
  read_is e = let i : 9 + k - 9 ≡ get_or d 0 0 = omega arith in rw i

  module _ {s : Sections} where
    pub read_within : k ≡ get_or d 0 0 → table_in d ≡ Ok s → 9 + k ≤ length d
    read_within e h = let t = table_kept d h in omega (arith, t.0, t.1, count_is d h)

    pub read_laid : k ≡ get_or d 0 0 → table_in d ≡ Ok s → layout_of read ≡ Ok s
    read_laid e h = ap layout_of (read_is e) ∙ (found_table d h).1

    pub read_fits : (n : ℕ) → k ≡ get_or d 0 0 → table_in d ≡ Ok s → k ≤ n → length read ≤ n
    read_fits n e h l = omega (arith, ap length (read_is e), count_is d h)

    module _ (n : ℕ) where
      pub no_room : k ≡ get_or d 0 0 → table_in d ≡ Ok s → n < k → refused ROOM 0 ≡ encode_of d n
      unfolding encode_of
      no_room e h l = let i : n < length (words_part d) = omega (arith, count_is d h) in rw ((found_table d h).0, lt-ltb n (length (words_part d)) i)

      pub no-room_out : {out : List ℕ} → k ≡ get_or d 0 0 → table_in d ≡ Ok s → n < k → out ≡ zeros n → out ≡ out_of d n
      unfolding out_of
      no-room_out e h l z = let i : n < length (words_part d) = omega (arith, count_is d h) in z ∙ (rw ((found_table d h).0, lt-ltb n (length (words_part d)) i))

      pub all_words : k ≡ get_or d 0 0 → table_in d ≡ Ok s → k ≤ n → Ok k ≡ encode_of d n
      unfolding encode_of
      all_words e h l =
          let j : k ≡ length (words_part d) = omega (arith, count_is d h) in
          let i : length (words_part d) ≤ n = omega arith in
          ap Ok j ∙ (rw ((found_table d h).0, le-ltb n (length (words_part d)) i))

      pub all_out : {out new : List ℕ} → k ≡ get_or d 0 0 → table_in d ≡ Ok s → k ≤ n → out ≡ zeros n → new ≡ lay 0 read out → new ≡ out_of d n
      unfolding out_of
      all_out {out} {new} e h l z p =
          let i : length (words_part d) ≤ n = omega (arith, count_is d h) in
          let q : new ≡ padded n (words_part d) = p ∙ ap (λ (o : List ℕ). lay 0 o out) (read_is e) ∙ ap (lay 0 (words_part d)) z ∙ lay-zeros n (words_part d) i in
          q ∙ (rw ((found_table d h).0, le-ltb n (length (words_part d)) i))

pub ruleset encoding = (rules, read_within, read_laid, read_fits, no_room, no-room_out, all_words, all_out)

-- the room is judged first
module _ (d : List ℕ) {got : Layout} where
  pub is_held : {x : Layout} → got ≡ table_in d → got ≡ x → table_in d ≡ x
  is_held g i = sym g ∙ i

  pub first_read : {s : Sections} → got ≡ table_in d → got ≡ Ok s → 0 < length d
  first_read g i = first_there d (sym g ∙ i)

  module _ (n : ℕ) {o : Refusal} where
    pub no_table : got ≡ table_in d → got ≡ Err o → refused NOT-TABLE 0 ≡ encode_of d n
    unfolding encode_of
    no_table g i = rw (unfound_table d (sym g ∙ i))

    pub no_table_out : {out : List ℕ} → got ≡ table_in d → got ≡ Err o → out ≡ zeros n → out ≡ out_of d n
    unfolding out_of
    no_table_out g i z = z ∙ (rw (unfound_table d (sym g ∙ i)))

-- zeros of one length are zeros of another that is the same
pub zeros_again : (n : ℕ) {out : List ℕ} → out ≡ zeros n → out ≡ zeros (length out)
zeros_again n {out} z = let l : length out ≡ n = ap length z ∙ length-replicate n 0 in z ∙ ap zeros (sym l)

-- an output that was cleared is as long as before
module _ (d : List ℕ) (k n : ℕ) where
  pub as_long : {r : Result ℕ Refusal} → r ≡ encode_of d k → k ≡ n → r ≡ encode_of d n
  as_long h e = h ∙ ap (encode_of d) e

  pub as_long_out : {out : List ℕ} → out ≡ out_of d k → k ≡ n → out ≡ out_of d n
  as_long_out h e = h ∙ ap (out_of d) e

pub ruleset judged = (rules, as_long, as_long_out, is_held, first_read, no_table, no_table_out, zeros_again)
