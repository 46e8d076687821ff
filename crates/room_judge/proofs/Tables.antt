-- A room that is a table, decoding, and the tables of document 01: what is accepted is the words of a table that obeys the rules, and a room is a table
-- exactly where its sections are found. Assumes nothing.
use Prim.Native.Nat.{ℕ, ◌≤◌}
use native.Mathlib.Omega.{arith}
use mathlib.Core.Path.{◌≡◌, refl, sym}
use mathlib.Core.List.{List}
use mathlib.Core.Bool.{Bool, true, false, ◌&&◌}
use lib.Dec.{eqb}
use lib.ListN.{length}
use borrow.Author.Tests.{le-ltb, eqb-true}
use Rattle.refusal.specs.declared.Refusal.{Refusal}
use Rattle.refusal.specs.Said.{broken_by, NOT-TABLE}
use Rattle.refusal.specs.Lists.{pick, same_list}
use Rattle.refusal.proofs.Lists.{and_split, same_equal}
use Rattle.word_reader.specs.declared.Sections.{Sections}
use Rattle.word_layout.specs.Layout.{Layout}
use Rattle.std.specs.Prelude.{Ok, Err}
use Rattle.word_layout.specs.Layout.{unfound, layout_of}
use Rattle.word_layout.specs.Limits.{laid_out}
use Rattle.word_layout.proofs.Laws.{kept}
use Rattle.rule_words.specs.Rules.{broken, broken_item}
use Rattle.room_decode.specs.Decode.{counts, judged, decoded_from, decode_of, room_of}
use Rattle.law_tables.specs.Table.{Table, Fields, words_of}
use Rattle.law_tables.specs.Rules.{Rules}
use Rattle.law_tables.specs.Whole.{Fit}
use Rattle.law_tables.specs.Places.{sections_of}
use Rattle.law_tables.proofs.Obeyed.{obeys_accepted, accepted_obeys}
use Rattle.room_judge.specs.Judge.{words_part, accepted, is_table, table_in}

-- the sections of a table that obeys the rules
pub laid : (t : Table) → Fields t → Rules t → length (words_of t) ≤ 8192 → (n : ℕ) → 16384 ≤ n → laid_out (words_of t) n ≡ Ok (sections_of t)
unfolding laid_out
laid t h r l n room = rw (le-ltb n 16384 room, le-ltb 8192 (length (words_of t)) l) (obeys_accepted t h l r).0

-- what is accepted is the words of a table that obeys the rules, within the limits
pub accepted_table : (w : List ℕ) (n : ℕ) → Fit w → accepted (decode_of w n) ≡ true
    → (t : Table) × Fields t × Rules t × (w ≡ words_of t) × (length w ≤ 8192) × (16384 ≤ n)
unfolding decoded_from judged
accepted_table w n f h = go (laid_out w n) refl h
  where
    go : (o : Layout) → laid_out w n ≡ o → accepted (decoded_from w o) ≡ true
        → (t : Table) × Fields t × Rules t × (w ≡ words_of t) × (length w ≤ 8192) × (16384 ≤ n)
    go (Err o) i e = let z : ◌≡◌ {A = ℕ} 0 1 = cc in absurd (omega arith)
    go (Ok s) i e = unbroken (eqb (broken w s) 0) refl e
      where
        unbroken : (b : Bool) → eqb (broken w s) 0 ≡ b → accepted (pick b (Ok (counts w s))
            (Err (broken_by (broken w s) (broken_item w s)))) ≡ true
            → (t : Table) × Fields t × Rules t × (w ≡ words_of t) × (length w ≤ 8192) × (16384 ≤ n)
        unbroken false u e = let z : ◌≡◌ {A = ℕ} 0 1 = cc in absurd (omega arith)
        unbroken true u e =
            let k = kept w n i in
            let t = accepted_obeys w s f k.limit k.laid (eqb-true (broken w s) 0 u) in
            (t.0, t.1, t.2, t.3, k.limit, k.room)

-- a room that is a table is what decoding leaves for accepted words: its own
pub own_words : (d : List ℕ) → is_table d ≡ true → (accepted (decode_of (words_part d) (length d)) ≡ true) × (d ≡ room_of (words_part d) (length d))
unfolding is_table
own_words d h =
    let s = and_split (accepted (decode_of (words_part d) (length d))) (same_list (room_of (words_part d) (length d)) d) h in
    (s.0, sym (same_equal (room_of (words_part d) (length d)) d s.1))

-- a room that is a table has sections
pub table_laid : (d : List ℕ) → is_table d ≡ true → (s : Sections) × (laid_out (words_part d) (length d) ≡ Ok s)
unfolding is_table decoded_from
table_laid d h = go (laid_out (words_part d) (length d)) refl h
  where
    go : (o : Layout) → laid_out (words_part d) (length d) ≡ o → (accepted (decoded_from (words_part d) o) && same_list (room_of (words_part d) (length d)) d) ≡ true
        → (s : Sections) × (laid_out (words_part d) (length d) ≡ Ok s)
    go (Ok s) i k = (s, i)
    go (Err o) i k = let z : ◌≡◌ {A = ℕ} 0 1 = cc in absurd (omega arith)

-- the sections of a room are found exactly where it is a table
module _ (d : List ℕ) where
  pub found_table : {s : Sections} → table_in d ≡ Ok s → (is_table d ≡ true) × (layout_of (words_part d) ≡ Ok s)
  unfolding table_in
  found_table {s} h = go (is_table d) refl h
    where
      go : (b : Bool) → is_table d ≡ b → pick b (layout_of (words_part d)) (unfound NOT-TABLE 0) ≡ Ok s
          → (is_table d ≡ true) × (layout_of (words_part d) ≡ Ok s)
      go true i k = (i, k)
      go false i k = let z : ◌≡◌ {A = ℕ} 0 1 = cc in absurd (omega arith)

  pub unfound_table : {o : Refusal} → table_in d ≡ Err o → is_table d ≡ false
  unfolding table_in
  unfound_table {o} h = go (is_table d) refl h
    where
      go : (b : Bool) → is_table d ≡ b → pick b (layout_of (words_part d)) (unfound NOT-TABLE 0) ≡ Err o → is_table d ≡ false
      go true i k =
          let t = table_laid d i in
          let l = (kept (words_part d) (length d) t.1).laid in
          let z : ◌≡◌ {A = ℕ} 0 1 = cc in
          absurd (omega arith)
      go false i k = i
