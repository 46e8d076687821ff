-- What a table says is never NOT-TABLE. Assumes nothing.
use Prim.Native.Nat.{ℕ}
use native.Mathlib.Omega.{arith}
use mathlib.Core.Path.{◌≡◌, sym, ap, ◌∙◌}
use mathlib.Core.Bool.{Bool, true, false}
use mathlib.Core.List.{List, [], ◌∷◌}
use lib.Dec.{ltb, eqb}
use lib.ListN.{length, get_or}
use Rattle.std.specs.Prelude.{Ok, Err}
use Rattle.refusal.specs.Said.{Said, ok, no, ROOM, STATE, NOT-TABLE, ORDER}
use Rattle.refusal.proofs.Apart.{one_number}
use Rattle.refusal.specs.Fixed.{NONE}
use Rattle.refusal.specs.Lists.{pick}
use Rattle.run_shape.specs.Shape as run
use Rattle.run_shape.specs.Classify.{classification}
use Rattle.run_shape.specs.Scan.{scan_of, scan_said}
use Rattle.look_mode_lists.specs.Written as list
use Rattle.look_mode_lists.specs.Counts.{counts_for, descent, compiled_of}
use Rattle.law_tables.specs.Table.{Table}
use Rattle.law_tables.specs.Rules.{row_of}
use Rattle.law_lookups.specs.Looks.{Looks}
use Rattle.law_lookups.specs.Never.{Known, Never}

-- an answer, STATE, and either of two
known_ok : (l : List ℕ) → Known (ok l)
known_ok l p e = let z : ◌≡◌ {A = ℕ} 0 1 = cc in omega arith

known_state : Known (no STATE 0)
known_state p e = let z : STATE ≡ NOT-TABLE = one_number e in omega arith

known_pick : (b : Bool) (x y : Said) → Known x → Known y → Known (pick b x y)
known_pick true x y f g = f
known_pick false x y f g = g

known_as : {x y : Said} → x ≡ y → Known y → Known x
known_as e f p g = f p (sym e ∙ g)

-- a scan
known_scan : (s : run.Shape) (bs : List ℕ) → Known (scan_said s bs)
unfolding scan_of
known_scan run.none bs = known_ok _
known_scan run.any bs = known_ok _
known_scan (run.until es) bs = known_ok _
known_scan (run.ranges rs) bs = known_ok _

-- a list that is written
flags_known : (b : Bool) (l : List ℕ) (p : ℕ) → pick b (list.refused ROOM 0) (list.wrote l) ≡ list.refused NOT-TABLE p → ⊥
flags_known true l p e = let z : ROOM ≡ NOT-TABLE = cc in omega arith
flags_known false l p e = let z : ◌≡◌ {A = ℕ} 0 1 = cc in omega arith

counts_known : (b c : Bool) (q : ℕ) (l : List ℕ) (p : ℕ)
    → pick b (list.refused ROOM 0) (pick c (list.refused ORDER q) (list.wrote l)) ≡ list.refused NOT-TABLE p → ⊥
counts_known true c q l p e = let z : ROOM ≡ NOT-TABLE = cc in omega arith
counts_known false true q l p e = let z : ORDER ≡ NOT-TABLE = cc in omega arith
counts_known false false q l p e = let z : ◌≡◌ {A = ℕ} 0 1 = cc in omega arith

-- a run
abbrev number_in : run.Got → ℕ
number_in (Ok x) = 0
number_in (Err r) = r.number

run_known : (b : Bool) (x : _) (p : ℕ) → pick b (Ok x) (run.refused STATE 0) ≡ run.refused NOT-TABLE p → ⊥
run_known true x p e = let z : 0 ≡ NOT-TABLE = ap number_in e in omega arith
run_known false x p e = let z : STATE ≡ NOT-TABLE = ap number_in e in omega arith

-- so a room that gives what a table says never gives it
pub looks_never : (t : Table) (w : List ℕ) → Looks t w → Never w
unfolding counts_for
looks_never t w k =
    let c = length t.states in
    let of_state_lem : (s n : ℕ) → Known (pick (ltb s c) (ok (n ∷ [])) (no STATE 0)) =
    λ s n. known_pick (ltb s c) (ok (n ∷ [])) (no STATE 0) (known_ok _) known_state in
    record {
      has_compiled_modes_lem = known_as k.has_compiled_modes_lem (known_ok _);
      mode_flags_lem = λ n p e. flags_known (ltb n (length t.modes)) _ p (sym (k.mode_flags_lem n) ∙ e);
      mode_counts = λ n p e.
          counts_known (ltb n (length (compiled_of t.modes))) (ltb (descent 0 t.modes) (length t.modes)) _ _ p (sym (k.mode_counts n) ∙ e);
      state_count_lem = known_as k.state_count_lem (known_ok _);
      mode_start_lem = λ m. known_as (k.mode_start_lem m) (known_pick (eqb (get_or t.modes m NONE) NONE) _ _ (known_ok _) (known_ok _));
      accepted = λ s. known_as (k.accepted s) (of_state_lem s _);
      ascii_target_lem = λ s x. known_as (k.ascii_target_lem s x) (known_pick (ltb x 128) _ _ (of_state_lem s _) known_state);
      char_target_lem = λ s x. known_as (k.char_target_lem s x) (of_state_lem s _);
      eof_target_lem = λ s. known_as (k.eof_target_lem s) (of_state_lem s _);
      char_continuation_lem = λ s x. known_as (k.char_continuation_lem s x) (of_state_lem s _);
      eof_continuation_lem = λ s. known_as (k.eof_continuation_lem s) (of_state_lem s _);
      ascii_run_lem = λ s p e. run_known (ltb s c) _ p (sym (k.ascii_run_lem s) ∙ e);
      scan = λ s bs. known_as (k.scan s bs) (known_pick (ltb s c) _ _ (known_scan (classification s (row_of t s)) bs) known_state);
      accept_record = λ i. known_as (k.accept_record i) (known_pick (ltb i (length t.accepts)) _ _ (known_ok _) (known_ok _));
      continuation_record = λ i. known_as (k.continuation_record i) (known_pick (ltb i (length t.continuations)) _ _ (known_ok _) (known_ok _));
    }
