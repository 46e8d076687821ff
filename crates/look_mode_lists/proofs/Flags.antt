-- The flags: the loop that writes them, and what the call answers and leaves in the buffer. Assumes nothing.
use Prim.Native.Nat.{ℕ, ◌+◌, ◌-◌, ◌<◌, ◌≤◌}
use native.Mathlib.Omega.{arith}
use mathlib.Core.Path.{◌≡◌, sym, ◌∙◌}
use mathlib.Core.List.{List, [], ◌∷◌, map}
use lib.ListN.{length, get_or, set, take, drop, length-map}
use borrow.Author.Rules.{rules}
use borrow.Author.Tests.{le-leb, lt-leb, lt-ltb, le-ltb}
use Rattle.refusal.specs.Said.{ROOM, NOT-TABLE}
use Rattle.buffer.specs.Over.{Put, zeros}
use Rattle.buffer.proofs.Going.{Going, going_start, going_done, going_place, going_put}
use Rattle.std.specs.Prelude.{Result, Ok, Err}
use Rattle.room_find.specs.declared.Missing.{Missing}
use Rattle.room_find.specs.declared.Span.{Span}
use Rattle.look_modes.specs.Modes.{modes_up_to, of_modes}
use Rattle.look_modes.proofs.Numbers.{part_is}
use Rattle.look_mode_lists.proofs.Lists.{opens, closes}
use Rattle.look_modes.proofs.AllModesLaws.{modes_lie}
use Rattle.look_mode_lists.specs.Written.{refused, Writes}
use Rattle.look_mode_lists.specs.Flags.{flag, flags_for, mode_flags}
use Rattle.look_mode_lists.proofs.Lists.{written, unwritten, cleared_length, cleared}
use Rattle.refusal.specs.declared.Refusal.{Refusal}

-- by the tests on the way
pub ruleset cases = (rules, le-leb, lt-leb)

-- Flags that are written

flags_open : (ys : List ℕ) (j : ℕ) → j < length ys → map flag (drop j ys) ≡ flag (get_or ys j 0) ∷ map flag (drop (j + 1) ys)
flags_open ys j h = rw (opens ys j h)

flags-none : (ys : List ℕ) (j : ℕ) → length ys ≤ j → map flag (drop j ys) ≡ []
flags-none ys j h = rw (closes ys j h)

module _ (ys : List ℕ) (j : ℕ) {xs : List ℕ} {n : ℕ} {old : List ℕ} {m : ℕ} {out : List ℕ}
    (g : Going xs n old (map flag (drop j ys)) m out) where
  pub flag_place : j < length ys → m < length out
  flag_place h = going_place xs n old (map flag (drop (j + 1) ys)) m out (flag (get_or ys j 0)) (rw (flags_open ys j h) at g)

  pub flag_turn : {f : ℕ} → j < length ys → f ≡ flag (get_or ys j 0) → Going xs n old (map flag (drop (j + 1) ys)) (m + 1) (set out m f)
  flag_turn h e = rw e (going_put xs n old (map flag (drop (j + 1) ys)) m out (flag (get_or ys j 0)) (rw (flags_open ys j h) at g))

  pub flag_done : length ys ≤ j → Put xs n old m out
  flag_done h = going_done xs n old (rw (flags-none ys j h) at g)

pub ruleset flagging = (rules, going_start, flag_place, flag_turn, flag_done)

-- There is room for all flags, or none is written

module _ (l : List ℕ) where
  pub flags_fit : {n : ℕ} → length l ≤ n → 0 + length (map flag l) ≤ n
  flags_fit h = omega (arith, length-map l flag)

  pub flags-room : (n : ℕ) {r : Result ℕ Refusal} {new : List ℕ} → n < length l → Writes r n new (refused ROOM 0) → Writes r n new (flags_for n l)
  flags-room n h k = rw (lt-ltb n (length l) h) k

  pub flags-written : (d : List ℕ) {r : ℕ} {new : List ℕ} → length l ≤ length d → d ≡ zeros (length d) → Put (map flag l) 0 d r new
      → Writes (Ok r) (length d) new (flags_for (length d) l)
  flags-written d h z p =
      let f : length (map flag l) ≤ length d = omega (arith, length-map l flag) in
      rw (le-ltb (length d) (length l) h) (written (map flag l) d f z p)

pub ruleset listing = (rules, unwritten, flags_fit, flags-room, flags-written)

-- The modes are found, or outside

module _ (old : List ℕ) {d : List ℕ} (z : d ≡ zeros (length old)) (w : List ℕ) {r : Result ℕ Refusal} {new : List ℕ} {got : Result Span Missing} (g : got ≡ modes_up_to w 65535) where
  pub flags-there : {t : Span} → got ≡ Ok t → Writes r (length d) new (flags_for (length d) (take (t.from + t.length - t.from) (drop t.from w)))
      → Writes r (length old) new (mode_flags w (length old))
  unfolding of_modes
  flags-there {t} e l = rw (sym g ∙ e, ← cleared_length old z) (rw (part_is w t.length t.from (modes_lie w 65535 g e)) at l)

  pub flags-outside : {m : Missing} → got ≡ Err m → Writes r (length d) new (refused NOT-TABLE 0) → Writes r (length old) new (mode_flags w (length old))
  unfolding of_modes
  flags-outside e l = rw (sym g ∙ e, ← cleared_length old z) l

pub ruleset answers = (rules, modes_lie, unwritten, cleared, flags-there, flags-outside)
