-- The laws of the loop that writes the ends of all intervals of an accepted list, and of the call around it. w is the list's bytes.
-- Assumes nothing.
use mathlib.Core.Path.{◌≡◌, refl, sym, ap, ◌∙◌}
use mathlib.Core.List.{List, ◌++◌}
use mathlib.Core.Bool.{true}
use Prim.Native.Nat.{ℕ, ◌+◌, ◌-◌, ◌<◌, ◌≤◌}
use native.Mathlib.Omega.{arith}
use borrow.Author.Rules.{rules}
use borrow.Author.Tests.{lt-ltb, le-ltb}
use lib.ListN.{length, get_or, take, drop, length-replicate}
use Rattle.std.specs.Prelude.{Ok, Err, Option, Some, None, IsSome}
use mathlib.Core.Bool.{true≢false}
use Rattle.refusal.specs.declared.Refusal.{Refusal}
use Rattle.refusal.specs.Said.{no_by, refusal_at, ROOM}
use Rattle.buffer.specs.Over.{lay, Put, zeros, padded}
use Rattle.buffer.proofs.Overs.{lay-zeros}
use Rattle.buffer.proofs.Going.{Going, going_start, going_done, going_room, going_turn}
use Rattle.list_transitions.specs.Intervals.{intervals, ends, ends_all}
use Rattle.list_transitions.specs.Bytes.{size_at, shape_of}
use Rattle.list_transitions.specs.declared.Value.{Value}
use Rattle.list_transitions.specs.Values.{transition_of, Says, IsRead}
use Rattle.list_transitions.proofs.Values.{part-shape, part-says}
use Rattle.list_transitions.specs.Read.{said, Parsed, parsed, refused, parse_from, parse, is_parsed, accepted, counted}
use Rattle.list_transitions.specs.Walk.{trans_at, next_at}
use Rattle.list_transitions.specs.Ends.{parse_into, ends_in, Writes}
use Rattle.list_transitions.specs.declared.Transitions.{Transitions}
use Rattle.list_transitions.proofs.Accepted.{Turn, turn, ended, most_ends}

-- The loop: the records from `at` on are accepted, and their ends are still to be written

pub record Gather (w old : List ℕ) (at n : ℕ) (out : List ℕ) : Type 0 where
  pub left : ℕ
  pub used : ℕ
  pub good : is_parsed (parse_from w left at used) ≡ true
  pub going : Going (ends_all (accepted (parse w))) 0 old (ends_all (accepted (parse_from w left at used))) n out

pub gather_start : (w old : List ℕ) → is_parsed (parse w) ≡ true → 2048 ≤ length old → Gather w old 0 0 old
gather_start w old h r =
    record { left = 256; used = 0; good = h; going = going_start (ends_all (accepted (parse w))) 0 old (omega (arith, most_ends w h)) }

module _ (w old : List ℕ) (at n : ℕ) (out : List ℕ) (g : Gather w old at n out) where
  module _ (l : at < length w) where
    here : Turn w g.left at g.used
    here = turn w g.left at g.used l g.good

    pub gather_size : at + 1 + 2 ≤ length w
    gather_size = omega (arith, here.fine.there)

    abbrev rest : List ℕ
    rest = ends_all (accepted (parse_from w (g.left - 1) (next_at w at) (g.used + length (intervals (trans_at w at)))))

    going_here : Going (ends_all (accepted (parse w))) 0 old (ends (intervals (trans_at w at)) ++ rest) n out
    unfolding ends_all
    going_here = rw here.is at g.going

    module _ {s n' : ℕ} (e : s ≡ size_at w (at + 1)) (f : n' ≡ at + 3 + s) where
      pub gather_next : n' ≤ length w
      gather_next = omega (arith, here.fine.there, e, f)

      there : at + 3 + s ≤ length w
      there = omega (arith, here.fine.there, e)

      abbrev value : List ℕ
      value = take (n' - (at + 3)) (drop (at + 3) w)

      -- the record's value is there, since its shape was judged
      fits : shape_of (get_or w at 0) (length value) ≡ true
      fits = part-shape w (at + 3) s n' there f (get_or w at 0) ∙ (rw e here.fine.shape)

      pub gather_some : (o : Option Value) → IsRead (get_or w at 0) value o → IsSome o
      gather_some (Some v) r = search rules
      gather_some None r = absurd (true≢false (sym fits ∙ r))

      pub gather_says : (o : Option Value) → IsRead (get_or w at 0) value o → {v : Value} → o ≡ Some v → Says (get_or w at 0) value v
      gather_says o r {v} h = rw h at r

      module _ {v : Value} (r : Says (get_or w at 0) value v) where
        is_trans : transition_of v ≡ trans_at w at
        is_trans = (part-says w (at + 3) s n' there f r).1 ∙ (rw e refl)

        pub gather_room : n + length (ends (intervals (transition_of v))) ≤ length out
        gather_room = rw is_trans (going_room (ends_all (accepted (parse w))) 0 old rest n out (ends (intervals (trans_at w at))) going_here)

        pub gather_again : {r : ℕ} {new : List ℕ} → Put (ends (intervals (transition_of v))) n out r new → Gather w old n' r new
        gather_again p =
            rw (f, e)
            (record {
              left = g.left - 1;
              used = g.used + length (intervals (trans_at w at));
              good = here.rest;
              going = going_turn (ends_all (accepted (parse w))) 0 old rest n out (ends (intervals (trans_at w at))) (rw is_trans at p) going_here;
            })

  pub gather_done : length w ≤ at → Put (ends_all (accepted (parse w))) 0 old n out
  unfolding ends_all
  gather_done l = going_done (ends_all (accepted (parse w))) 0 old (rw (ended w g.left at g.used l) at g.going)

pub ruleset gathering = (rules, gather_start, gather_size, gather_next, gather_done)

-- What an answer says of the list, and what the buffer then holds

pub read_is : (x : Parsed) (t : Transitions) → said (Ok t) ≡ counted x → is_parsed x ≡ true
unfolding counted is_parsed
read_is (parsed ts) t h = refl
read_is (refused n p) t h = let z : ◌≡◌ {A = ℕ} 0 1 = cc in absurd (omega arith)

left_in_lem : (m : ℕ) (x : Parsed) → is_parsed x ≡ true → padded m (ends_all (accepted x)) ≡ ends_in m x
unfolding is_parsed accepted ends_in
left_in_lem m (parsed ts) h = refl
left_in_lem m (refused n p) h = let z : ◌≡◌ {A = ℕ} 0 1 = cc in absurd (omega arith)

none_in : (m : ℕ) (x : Parsed) (r : Refusal) → said (Err r) ≡ counted x → zeros m ≡ ends_in m x
unfolding counted ends_in
none_in m (parsed ts) r h = let z : ◌≡◌ {A = ℕ} 0 1 = cc in absurd (omega arith)
none_in m (refused n p) r h = refl

-- The call: the buffer was cleared first

module _ (w old : List ℕ) {d : List ℕ} (z : d ≡ zeros (length old)) where
  size : length d ≡ length old
  size = ap length z ∙ length-replicate (length old) 0

  pub no_room : {r : Refusal} → r ≡ refusal_at ROOM 0 → length d < 2048 → Writes (Err r) (length old) d (parse_into (length old) w)
  unfolding parse_into counted ends_in
  no_room e l = let h : length old < 2048 = omega (arith, size) in rw (lt-ltb (length old) 2048 h) (record { says = ap no_by e; leaves = z })

  roomy : 2048 ≤ length d → parse_into (length old) w ≡ parse w
  unfolding parse_into
  roomy l = let h : 2048 ≤ length old = omega (arith, size) in rw (le-ltb (length old) 2048 h)

  module _ (l : 2048 ≤ length d) where
    pub is_read : {t : Transitions} {m : ℕ} {out : List ℕ} → said (Ok t) ≡ counted (parse w) → Put (ends_all (accepted (parse w))) 0 d m out →
        Writes (Ok t) (length old) out (parse_into (length old) w)
    is_read {t} g p =
        let h : is_parsed (parse w) ≡ true = read_is (parse w) t g in
        let f : length (ends_all (accepted (parse w))) ≤ length old = omega (arith, size, most_ends w h) in
        rw (roomy l)
        (record {
          says = g;
          leaves =
              p.is ∙ ap (lay 0 (ends_all (accepted (parse w)))) z ∙ lay-zeros (length old) (ends_all (accepted (parse w))) f
              ∙ left_in_lem (length old) (parse w) h;
        })

    pub is_refused : {r : Refusal} → said (Err r) ≡ counted (parse w) → Writes (Err r) (length old) d (parse_into (length old) w)
    is_refused {r} g = rw (roomy l) (record { says = g; leaves = z ∙ none_in (length old) (parse w) r g })

pub ruleset reading = (rules, length-replicate, read_is, no_room, is_read, is_refused)
