-- A list of places leads to the records of its section. Assumes nothing.
use Prim.Native.Nat.{ℕ, ◌+◌, ◌<◌}
use native.Mathlib.Omega.{arith}
use mathlib.Core.Path.{◌≡◌, ap, ◌∙◌}
use mathlib.Core.List.{List}
use lib.ListN.{length, get_or, take}
use borrow.Author.Tests.{lt-ltb}
use Rattle.room_find.specs.declared.Missing.{Missing}
use Rattle.std.specs.Prelude.{Ok, Result}
use Rattle.refusal.specs.Header.{RUNS-START, WIDE-START, ACCEPTS-START, ESCAPES-START, CONTINUATIONS-START}
use Rattle.refusal.specs.Lists.{each}
use Rattle.room_find.specs.Room.{listed_in, words_end, end_of, past_lists, listed_at}
use Rattle.room_find.proofs.There.{listed-there}
use Rattle.law_tables.specs.Table.{Table}
use Rattle.law_lookups.proofs.Stands.{Within, Section, Listed, counts, opens, inside, recorded}
use Rattle.law_lookups.proofs.Held.{Held}

-- a record that a list of places leads to
pub listed_is : {A : Type 0} {w : List ℕ} {s e list : ℕ} {f : A → List ℕ} {xs : List A} (z : Section w s e f xs) (l : Listed w s list f xs) (i : ℕ) (d : A)
    → i < length xs → 0 < length (f (get_or xs i d))
    → (p : ℕ) × (listed_in w s e i list ≡ Ok p) × Within w e p (f (get_or xs i d))
listed_is {w = w} {s} {e} {list} {f} {xs} z l i d h m =
    let r = recorded z i d h in
    let p = s + 1 + length (each f (take i xs)) in
    let q : get_or w (list + i) 0 ≡ p = l.leads i h in
    let c : i < get_or w s 0 = omega (arith, counts z) in
    (p, listed-there w s e (opens z) (inside z) i list c (omega (arith, l.there)) (omega arith) (omega (arith, r.ends)) ∙ ap Ok q, r)

-- Where each list stands in the room of a table

module _ (t : Table) (w : List ℕ) (k : Held t w) (i : ℕ) where
  abbrev from : ℕ → ℕ → Result ℕ Missing
  from s list = listed_in w (get_or w s 0) (end_of w s) i list

  -- the counts that are read on the way lie in the room
  counted_in : {A : Type 0} {s e : ℕ} {f : A → List ℕ} {xs : List A} → Section w s e f xs → s < length w
  counted_in z = omega (arith, opens z, inside z)

  pub runs_listed : listed_at w RUNS-START i ≡ from RUNS-START (words_end w)
  unfolding listed_at past_lists
  runs_listed = rw (lt-ltb _ _ k.long)

  pub wide_listed : listed_at w WIDE-START i ≡ from WIDE-START (words_end w + length t.runs)
  unfolding listed_at past_lists
  wide_listed = rw (lt-ltb _ _ k.long, lt-ltb _ _ (counted_in k.runs), counts k.runs)

  pub accepts_listed : listed_at w ACCEPTS-START i ≡ from ACCEPTS-START (words_end w + length t.runs + length t.wide)
  unfolding listed_at past_lists
  accepts_listed = rw (lt-ltb _ _ k.long, lt-ltb _ _ (counted_in k.runs), lt-ltb _ _ (counted_in k.wide), counts k.runs, counts k.wide)

  pub escapes_listed : listed_at w ESCAPES-START i ≡ from ESCAPES-START (words_end w + length t.runs + length t.wide + length t.accepts)
  unfolding listed_at past_lists
  escapes_listed =
      rw (
        lt-ltb _ _ k.long,
        lt-ltb _ _ (counted_in k.runs),
        lt-ltb _ _ (counted_in k.wide),
        lt-ltb _ _ (counted_in k.accepts),
        counts k.runs,
        counts k.wide,
        counts k.accepts,
      )

  pub continuations_listed :
      listed_at w CONTINUATIONS-START i ≡ from CONTINUATIONS-START (words_end w + length t.runs + length t.wide + length t.accepts + length t.escapes)
  unfolding listed_at past_lists
  continuations_listed =
      rw (
        lt-ltb _ _ k.long,
        lt-ltb _ _ (counted_in k.runs),
        lt-ltb _ _ (counted_in k.wide),
        lt-ltb _ _ (counted_in k.accepts),
        lt-ltb _ _ (counted_in k.escapes),
        counts k.runs,
        counts k.wide,
        counts k.accepts,
        counts k.escapes,
      )
