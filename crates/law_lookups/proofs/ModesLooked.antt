-- The modes of a room that holds a table are the table's modes. Assumes nothing.
use Prim.Native.Nat.{ℕ, ◌+◌, ◌≤◌, ◌<◌}
use native.Mathlib.Omega.{arith}
use mathlib.Core.Path.{◌≡◌, refl, ap, ◌∙◌}
use mathlib.Core.Bool.{Bool, true, ◌||◌}
use mathlib.Core.List.{List, [], ◌∷◌, ◌++◌}
use mathlib.Core.Logic.{inl, inr}
use lib.Dec.{leb}
use lib.ListN.{length, get_or}
use borrow.Author.Tests.{le-leb, lt-ltb, eq-eqb}
use Rattle.refusal.specs.Header.{MODES-START, STATES-START}
use Rattle.refusal.specs.Said.{ok, NOT-TABLE}
use Rattle.refusal.specs.Fixed.{NONE}
use Rattle.refusal.specs.Lists.{pick, some, every, each}
use Rattle.look_modes.specs.Start.{compiled}
use Rattle.look_modes.specs.Modes.{numbers, up_to, modes_up_to, of_modes, has_compiled_modes}
use Rattle.look_mode_lists.specs.Written.{refused}
use Rattle.look_mode_lists.specs.Flags.{flags_for, mode_flags}
use Rattle.look_mode_lists.specs.Counts.{counts_for, counts_with, asked, mode_state_counts}
use Rattle.law_tables.specs.Table.{Table, Fields, All, Start, mode_words}
use Rattle.law_tables.specs.Rules.{Rules, NoneOr}
use Rattle.law_tables.proofs.Codec.{At, same, on, at_head}
use Rattle.law_tables.proofs.Sizes.{sized, all_of}
use Rattle.law_tables.proofs.Records.{or_right}
use Rattle.law_tables.proofs.Judged.{each_word_lem}
use Rattle.law_lookups.proofs.Stands.{counts, opens, inside}
use Rattle.law_lookups.proofs.Held.{Held}
use Rattle.law_lookups.proofs.Looked.{count_is}

-- numbers that are read one after the other
numbers_are : (l : List ℕ) {w : List ℕ} {at : ℕ} (post : List ℕ) → At w at (l ++ post) → numbers w (length l) at ≡ l
unfolding numbers
numbers_are [] post a = refl
numbers_are (x ∷ l) post a = rw (at_head a) (ap (λ m. x ∷ m) (numbers_are l post (on (x ∷ []) (l ++ post) a)))

every_holds : (P : ℕ → Type 0) (p : ℕ → Bool) → ((x : ℕ) → P x → p x ≡ true) → (l : List ℕ) → All P l → every p l ≡ true
unfolding every All
every_holds P p f [] h = refl
every_holds P p f (x ∷ l) h = rw (f x h.0) (every_holds P p f l h.1)

-- a start that its field allows, and one that is a state, is at most its limit or NONE
start_up_to : (x : ℕ) → Start x → up_to 65535 x ≡ true
start_up_to x (inl h) = rw (le-leb x 65535 h)
start_up_to x (inr h) = ap (λ b. leb x 65535 || b) (eq-eqb x NONE h) ∙ or_right (leb x 65535)

none_or_up_to : (n x : ℕ) → NoneOr n x → up_to n x ≡ true
none_or_up_to n x (inl h) = ap (λ b. leb x n || b) (eq-eqb x NONE h) ∙ or_right (leb x n)
none_or_up_to n x (inr h) = let l : x ≤ n = omega arith in rw (le-leb x n l)

module _ (t : Table) (h : Fields t) (r : Rules t) (w : List ℕ) (k : Held t w) where
  starts : numbers w (length t.modes) (get_or w MODES-START 0 + 1) ≡ t.modes
  starts =
      let z = k.modes in
      let a = on (length t.modes ∷ []) (each mode_words t.modes ++ z.post) z.stands in
      numbers_are t.modes z.post (same a (ap (λ l. l ++ z.post) (each_word_lem t.modes)))

  -- what is done with the modes of the room is done with the table's
  of_modes_lem : {A : Type 0} (limit : ℕ) (f : List ℕ → A) (o : A) → every (up_to limit) t.modes ≡ true → of_modes w (modes_up_to w limit) f o ≡ f t.modes
  unfolding of_modes modes_up_to
  of_modes_lem limit f o e =
      let z = k.modes in
      let b : length t.modes + get_or w MODES-START 0 < get_or w STATES-START 0 =
      omega (arith, z.ends, sized mode_words 1 t.modes (all_of (λ x. length (mode_words x) ≡ 1) (λ x. refl) t.modes)) in
      let i : every (up_to limit) (numbers w (length t.modes) (get_or w MODES-START 0 + 1)) ≡ true = ap (every (up_to limit)) starts ∙ e in
      rw (lt-ltb _ _ k.long, lt-ltb _ _ (opens z), le-leb _ _ (inside z), counts z, lt-ltb _ _ b, i) (ap f starts)

  allowed : every (up_to 65535) t.modes ≡ true
  allowed = every_holds Start (up_to 65535) start_up_to t.modes h.modes

  pub compiled_is : has_compiled_modes w ≡ ok (pick (some compiled t.modes) 1 0 ∷ [])
  compiled_is = of_modes_lem 65535 _ _ allowed

  pub flags_are : (n : ℕ) → mode_flags w n ≡ flags_for n t.modes
  flags_are n = of_modes_lem 65535 (flags_for n) _ allowed

  pub counts_are : (n : ℕ) → mode_state_counts w n ≡ counts_for n (length t.states) t.modes
  unfolding asked counts_with
  counts_are n =
      let c = length t.states in
      let l : c ≤ 65535 = omega (arith, k.few_states) in
      rw (count_is t h r w k, le-leb c 65535 l)
      (of_modes_lem c (counts_for n c) (refused NOT-TABLE 0) (every_holds (NoneOr c) (up_to c) (none_or_up_to c) t.modes r.rule1))
