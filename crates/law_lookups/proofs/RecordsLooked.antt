-- The records of accepts and continuations, on a room that holds a table, are the table's, with flags made 0 or 1. Assumes nothing.
use Prim.Native.Nat.{ℕ, ◌+◌, ◌-◌, ◌*◌, ◌≤◌, ◌<◌}
use native.Mathlib.Omega.{arith}
use mathlib.Core.Path.{◌≡◌, refl, ap, ◌∙◌}
use mathlib.Core.Bool.{Bool, true, false, not}
use mathlib.Core.List.{List, [], ◌∷◌, ◌++◌, map, append_assoc}
use lib.Dec.{ltb, eqb}
use lib.ListN.{length, get_or, take, length-append, length-map, get_or-eq_default}
use lib.Seq.{take_at}
use borrow.Author.Tests.{le-leb, lt-ltb, ltb-true, ltb-false}
use Rattle.refusal.specs.Said.{ok, no, NOT-TABLE}
use Rattle.refusal.specs.Lists.{pick, each}
use Rattle.room_fill.specs.Room.{flag}
use Rattle.std.specs.Prelude.{Ok, Err}
use Rattle.room_find.specs.declared.Missing.TheVariants.{Absent}
use Rattle.refusal.specs.Header.{ACCEPTS-START, ESCAPES-START, CONTINUATIONS-START}
use Rattle.room_find.specs.Room.{words_end, listed_at, follow}
use Rattle.room_find.proofs.There.{listed-absent}
use Rattle.look_accepts.specs.Record as accepts
use Rattle.look_continuation_records.specs.Configs as configs
use Rattle.law_tables.specs.Table.{Table, Config, Continuation, counted, action_words, context_words, config_words}
use Rattle.law_tables.specs.Normal.{normal_config}
use Rattle.law_tables.proofs.Sizes.{threes}
use Rattle.law_tables.proofs.Codec.{At, same, on, to, at_head, at_drop}
use Rattle.law_lookups.specs.Looks.{accept, accept_record_of, continuation, continuation_record_of, part}
use Rattle.law_lookups.proofs.Stands.{Within, counts, opens, inside}
use Rattle.law_lookups.proofs.Held.{Held, accept_kept, continuation_kept}
use Rattle.law_lookups.proofs.Lists.{listed_is, accepts_listed, continuations_listed}

-- a part of the room
part_is : {w : List ℕ} {p : ℕ} (l post : List ℕ) (n : ℕ) → At w p (l ++ post) → length l ≡ n → part w p n ≡ l
part_is l post n a e = ap (take n) (at_drop a) ∙ take_at l post n e

-- a flag that is 0 or 1 is told as it is
flag-told : (x : ℕ) → ◌≡◌ {A = ℕ} (pick (not (eqb (flag x) 0)) 1 0) (flag x)
unfolding flag
flag-told x = go (eqb x 0)
  where
    go : (b : Bool) → ◌≡◌ {A = ℕ} (pick (not (eqb (pick b 0 1) 0)) 1 0) (pick b 0 1)
    go true = refl
    go false = refl

-- where n configs end, which stand one behind the other
past_configs_lem : (w : List ℕ) (e : ℕ) (xs : List Config) (p : ℕ) (post : List ℕ) → At w p (each config_words xs ++ post) → p + length (each config_words xs) ≤ e
    → configs.past_configs w e (length xs) p ≡ Ok (p + length (each config_words xs))
unfolding configs.past_configs configs.past_config follow each
past_configs_lem w e [] p post a l = ap Ok (omega arith)
past_configs_lem w e (x ∷ xs) p post a l =
    let here = config_words x in
    let rest = each config_words xs in
    let b = same a (append_assoc here rest post) in
    let n : get_or w (p + 5) 0 ≡ length x.actions =
    at_head (on (x.state ∷ x.rule ∷ x.flag ∷ x.other ∷ x.context ∷ []) (counted action_words x.actions ++ (rest ++ post)) b) in
    let m : length here ≡ length x.actions * 3 + 6 = omega (arith, threes action_words (λ y. refl) x.actions) in
    let s : length (here ++ rest) ≡ length here + length rest = length-append here rest in
    let i : p + 5 < e = omega arith in
    let j : length x.actions * 3 + (p + 6) ≤ e = omega arith in
    let q : p + length here ≡ length x.actions * 3 + (p + 6) = omega arith in
    let c = to (on here (rest ++ post) b) q in
    let g : length x.actions * 3 + (p + 6) + length rest ≡ p + length (here ++ rest) = omega arith in
    rw (lt-ltb _ _ i, n, le-leb _ _ j) (past_configs_lem w e xs (length x.actions * 3 + (p + 6)) post c (omega arith) ∙ ap Ok g)

module _ (t : Table) (w : List ℕ) (k : Held t w) where
  -- Accepts

  module _ (i : ℕ) where
    accept-there : i < length t.accepts → (p : ℕ) × (accepts.record_at w i ≡ Ok p) × Within w (get_or w ESCAPES-START 0) p (accept_kept (accept t i))
    unfolding accepts.record_at accepts.whole_to follow
    accept-there l =
        let q = listed_is k.accepts k.accept-places i (record { rule = 0; consumed = 0; actions = [] }) l (omega arith) in
        let p = q.0 in
        let z = q.2 in
        let x = accept t i in
        let n : get_or w (p + 2) 0 ≡ length x.actions =
        at_head (on (x.rule ∷ flag x.consumed ∷ []) (counted action_words x.actions ++ z.post) z.stands) in
        let m = threes action_words (λ y. refl) x.actions in
        let a : p + 2 < get_or w ESCAPES-START 0 = omega (arith, z.ends) in
        let b : length x.actions * 3 + (p + 2) < get_or w ESCAPES-START 0 = omega (arith, z.ends, m) in
        (p, (rw (accepts_listed t w k i ∙ q.1, lt-ltb _ _ a, n, lt-ltb _ _ b)), z)

    accept-absent : length t.accepts ≤ i → accepts.record_at w i ≡ Err Absent
    unfolding accepts.record_at follow
    accept-absent l =
        let z = k.accepts in
        let e = listed-absent w (get_or w ACCEPTS-START 0) (get_or w ESCAPES-START 0) (opens z) (inside z) i
        (words_end w + length t.runs + length t.wide) (omega (arith, counts z)) in
        rw (accepts_listed t w k i ∙ e)

    pub accept_record : accepts.record_of w i ≡ accept_record_of t i
    unfolding follow
    accept_record = go (ltb i (length t.accepts)) refl
      where
        go : (b : Bool) → ltb i (length t.accepts) ≡ b
            → accepts.record_of w i ≡ pick b (ok ((accept t i).rule ∷ flag (accept t i).consumed ∷ length (accept t i).actions ∷ [])) (ok [])
        go true u =
            let q = accept-there (ltb-true _ _ u) in
            let x = accept t i in
            let z = q.2 in
            let one : get_or w (q.0 + 1) 0 ≡ flag x.consumed =
            at_head (on (x.rule ∷ []) (flag x.consumed ∷ (counted action_words x.actions ++ z.post)) z.stands) in
            let two : get_or w (q.0 + 2) 0 ≡ length x.actions =
            at_head (on (x.rule ∷ flag x.consumed ∷ []) (counted action_words x.actions ++ z.post) z.stands) in
            rw (q.1, at_head z.stands, one, two, flag-told x.consumed)
        go false u = rw (accept-absent (ltb-false _ _ u))

    pub accept_actions : part w (accepts.actions_from w i) (accepts.actions_length w i) ≡ each action_words (accept t i).actions
    unfolding follow each
    accept_actions = go (ltb i (length t.accepts)) refl
      where
        go : (b : Bool) → ltb i (length t.accepts) ≡ b
            → part w (accepts.actions_from w i) (accepts.actions_length w i) ≡ each action_words (accept t i).actions
        go true u =
            let q = accept-there (ltb-true _ _ u) in
            let x = accept t i in
            let z = q.2 in
            let two : get_or w (q.0 + 2) 0 ≡ length x.actions =
            at_head (on (x.rule ∷ flag x.consumed ∷ []) (counted action_words x.actions ++ z.post) z.stands) in
            let a : At w (q.0 + 3) (each action_words x.actions ++ z.post) =
            on (x.rule ∷ flag x.consumed ∷ length x.actions ∷ []) (each action_words x.actions ++ z.post) z.stands in
            rw (q.1, two) (part_is (each action_words x.actions) z.post (length x.actions * 3) a (threes action_words (λ y. refl) x.actions))
        go false u = let l = ltb-false _ _ u in rw (accept-absent l, get_or-eq_default t.accepts (record { rule = 0; consumed = 0; actions = [] }) l)

  -- Continuations

  module _ (i : ℕ) where
    abbrev cs : List ℕ
    cs = each context_words (continuation t i).contexts

    abbrev ds : List ℕ
    ds = each config_words (map normal_config (continuation t i).configs)

    module _ (l : i < length t.continuations) where
      abbrev x : Continuation
      x = continuation t i

      listed-there : (p : ℕ) × (listed_at w CONTINUATIONS-START i ≡ Ok p) × Within w (words_end w) p (continuation_kept x)
      listed-there =
          let q = listed_is k.continuations k.continuation-places i (record { contexts = []; configs = [] }) l
          (omega (arith, length-append (counted context_words x.contexts) (counted config_words (map normal_config x.configs)))) in
          (q.0, continuations_listed t w k i ∙ q.1, q.2)

      -- where the context count and the config count stand, and where it ends
      abbrev p : ℕ
      p = listed-there.0

      abbrev q : ℕ
      q = length x.contexts * 3 + (p + 1)

      abbrev z : ℕ
      z = q + 1 + length ds

      abbrev post : List ℕ
      post = listed-there.2.post

      context_numbers : length cs ≡ length x.contexts * 3
      context_numbers = threes context_words (λ y. refl) x.contexts

      at_front : At w p (counted context_words x.contexts ++ (counted config_words (map normal_config x.configs) ++ post))
      at_front = same listed-there.2.stands (append_assoc (counted context_words x.contexts) (counted config_words (map normal_config x.configs)) post)

      at_back : At w q (counted config_words (map normal_config x.configs) ++ post)
      at_back =
          let j : p + length (counted context_words x.contexts) ≡ q = omega (arith, context_numbers) in
          to (on (counted context_words x.contexts) (counted config_words (map normal_config x.configs) ++ post) at_front) j

      at_contexts : At w (p + 1) (cs ++ (counted config_words (map normal_config x.configs) ++ post))
      at_contexts = on (length x.contexts ∷ []) (cs ++ (counted config_words (map normal_config x.configs) ++ post)) at_front

      at_configs : At w (q + 1) (ds ++ post)
      at_configs = on (length (map normal_config x.configs) ∷ []) (ds ++ post) at_back

      ends : z ≤ words_end w
      ends =
          omega (
            arith,
            context_numbers,
            listed-there.2.ends,
            length-append (counted context_words x.contexts) (counted config_words (map normal_config x.configs)),
          )

      -- the record is whole
      continuation-there : {A : Type 0} (f : ℕ → ℕ → ℕ → A) (a o : A) → configs.of_whole (configs.whole_at w i) f a o ≡ f p q z
      unfolding configs.whole_at configs.whole_from configs.whole_behind configs.past_contexts configs.of_whole follow
      continuation-there f a o =
          let e = words_end w in
          let g : q < e = omega (arith, ends) in
          let c = past_configs_lem w e (map normal_config x.configs) (q + 1) post at_configs ends in
          rw (listed-there.1, at_head at_front, lt-ltb _ _ g, at_head at_back, c)

    -- or it is not there
    continuation-absent : length t.continuations ≤ i → {A : Type 0} (f : ℕ → ℕ → ℕ → A) (a o : A) → configs.of_whole (configs.whole_at w i) f a o ≡ a
    unfolding configs.whole_at configs.of_whole follow
    continuation-absent l f a o =
        let z = k.continuations in
        let list = words_end w + length t.runs + length t.wide + length t.accepts + length t.escapes in
        let e = listed-absent w (get_or w CONTINUATIONS-START 0) (words_end w) (opens z) (inside z) i list (omega (arith, counts z)) in
        rw (continuations_listed t w k i ∙ e)

    pub continuation_record : configs.record_of w i ≡ continuation_record_of t i
    continuation_record = go (ltb i (length t.continuations)) refl
      where
        go : (b : Bool) → ltb i (length t.continuations) ≡ b
            → configs.record_of w i ≡ pick b (ok (length (continuation t i).contexts ∷ length (continuation t i).configs ∷ [])) (ok [])
        go true u =
            let l = ltb-true _ _ u in
            continuation-there l (λ p q z. ok (get_or w p 0 ∷ get_or w q 0 ∷ [])) (ok []) (no NOT-TABLE 0)
            ∙ (rw (at_head (at_front l), at_head (at_back l), length-map (continuation t i).configs normal_config))
        go false u = continuation-absent (ltb-false _ _ u) (λ p q z. ok (get_or w p 0 ∷ get_or w q 0 ∷ [])) (ok []) (no NOT-TABLE 0)

    pub continuation_contexts : part w (configs.contexts_from w i) (configs.contexts_length w i) ≡ each context_words (continuation t i).contexts
    unfolding each
    continuation_contexts = go (ltb i (length t.continuations)) refl
      where
        go : (b : Bool) → ltb i (length t.continuations) ≡ b
            → part w (configs.contexts_from w i) (configs.contexts_length w i) ≡ each context_words (continuation t i).contexts
        go true u =
            let l = ltb-true _ _ u in
            let n : length cs ≡ q l - (p l + 1) = omega (arith, context_numbers l) in
            rw (continuation-there l (λ p q z. p + 1) 0 0, continuation-there l (λ p q z. q - (p + 1)) 0 0)
            (part_is cs (counted config_words (map normal_config (continuation t i).configs) ++ post l) (q l - (p l + 1)) (at_contexts l) n)
        go false u =
            let l = ltb-false _ _ u in
            rw (
              continuation-absent l (λ p q z. p + 1) 0 0,
              continuation-absent l (λ p q z. q - (p + 1)) 0 0,
              get_or-eq_default t.continuations (record { contexts = []; configs = [] }) l,
            )

    pub continuation_configs : part w (configs.configs_from w i) (configs.configs_length w i) ≡ each config_words (map normal_config (continuation t i).configs)
    unfolding each
    continuation_configs = go (ltb i (length t.continuations)) refl
      where
        go : (b : Bool) → ltb i (length t.continuations) ≡ b
            → part w (configs.configs_from w i) (configs.configs_length w i) ≡ each config_words (map normal_config (continuation t i).configs)
        go true u =
            let l = ltb-true _ _ u in
            let n : length ds ≡ z l - (q l + 1) = omega arith in
            rw (continuation-there l (λ p q z. q + 1) 0 0, continuation-there l (λ p q z. z - (q + 1)) 0 0)
            (part_is ds (post l) (z l - (q l + 1)) (at_configs l) n)
        go false u =
            let l = ltb-false _ _ u in
            rw (
              continuation-absent l (λ p q z. q + 1) 0 0,
              continuation-absent l (λ p q z. z - (q + 1)) 0 0,
              get_or-eq_default t.continuations (record { contexts = []; configs = [] }) l,
            )
