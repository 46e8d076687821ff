-- The parts of a record are told apart by the call that answers the record itself, in rooms of any length and any numbers. Assumes nothing.
use Prim.Native.Nat.{ℕ, zero, suc, ◌+◌, ◌*◌, ◌-◌, ◌≤◌, ◌<◌}
use native.Mathlib.Omega.{arith}
use mathlib.Core.Path.{◌≡◌, refl, sym, ap, subst, ◌∙◌}
use mathlib.Core.Bool.{Bool, false, not}
use mathlib.Core.List.{List, [], ◌∷◌, ◌++◌}
use lib.Dec.{eqb, leb, ltb}
use lib.ListN.{length, get_or, take, drop, take-append-drop, length-drop}
use lib.Seq.{drop-cons, drop-drop, take-add, length-take-le}
use Rattle.std.specs.Borrow.{Bor}
use borrow.Author.Tests.{ltb-true, leb-true}
use Rattle.refusal.specs.Said.{ok, no, NOT-TABLE}
use Rattle.refusal.specs.Lists.{pick, each}
use Rattle.room_find.specs.declared.Span.{Span}
use Rattle.room_find.specs.Room.{words_end, listed_at, follow}
use Rattle.room_find.proofs.Records.{held, listed_lies}
use Rattle.law_tables.specs.Table.{Action, Config, action_words, config_words}
use Rattle.look_accepts.specs.declared.AcceptRecord.{AcceptRecord}
use Rattle.look_accepts.specs.Record as accepts
use Rattle.look_accepts.proofs.AcceptLaws.{record_said_one}
use Rattle.look_accepts.proofs.RecordLaws.{whole}
use Rattle.look_continuation_records.specs.declared.Whole.{Whole}
use Rattle.look_continuation_records.specs.declared.ContinuationRecord.{ContinuationRecord}
use Rattle.look_continuation_records.specs.Configs as configs
use Rattle.look_continuation_records.proofs.WholeLaws.{lies, said_one}
use Rattle.look_parts.proofs.Laws.{actions_in, contexts_in, configs_in}
use Rattle.law_lookups.specs.Looks.{part}
use Rattle.lexer_dfa.specs.Parts.{AcceptRecordAnswers, AcceptActionsAnswers, ContinuationRecordAnswers, ContextsAnswers, ConfigsAnswers}
use Rattle.lexer_dfa.specs.Parts.{AcceptActionsSpanAnswers, ContextsSpanAnswers, ConfigsSpanAnswers, ActionsOf, PartsOf, Names}
use Rattle.std.specs.Prelude.{Result}
use Rattle.room_find.specs.declared.Missing.{Missing}
use Rattle.room_find.specs.declared.Missing.TheVariants.{Absent, Outside}
use Rattle.std.specs.Prelude.{Ok, Err}

-- The numbers of a list from a place on

module _ (w : List ℕ) where
  one : (a b : ℕ) → a < length w → b ≡ suc a → drop a w ≡ get_or w a 0 ∷ drop b w
  one a b h e = drop-cons w a 0 h ∙ ap (λ n. get_or w a 0 ∷ drop n w) (sym e)

  three : (a b c d : ℕ) → c < length w → b ≡ suc a → c ≡ suc b → d ≡ suc c → drop a w ≡ get_or w a 0 ∷ get_or w b 0 ∷ get_or w c 0 ∷ drop d w
  three a b c d h e f g =
      one a b (omega arith) e ∙ ap (λ l. get_or w a 0 ∷ l) (one b c (omega arith) f ∙ ap (λ l. get_or w b 0 ∷ l) (one c d h g))

  -- up to a place, and behind it
  cut : (a b : ℕ) → a ≤ b → drop a w ≡ take (b - a) (drop a w) ++ drop b w
  cut a b h =
      let e : a + (b - a) ≡ b = omega arith in
      sym (take-append-drop (b - a) (drop a w)) ∙ ap (λ l. take (b - a) (drop a w) ++ l) (drop-drop (b - a) a w ∙ ap (λ n. drop n w) e)

  part_length : (a b : ℕ) → a ≤ b → b ≤ length w → length (take (b - a) (drop a w)) ≡ b - a
  part_length a b h l = length-take-le (b - a) (drop a w) (omega (arith, length-drop a w))

-- Accepts

-- the parts of the record that is told, where one is
abbrev rule_in : Result AcceptRecord Missing → ℕ
rule_in (Ok a) = a.rule
rule_in (Err m) = 0

abbrev flag_in : Result AcceptRecord Missing → Bool
flag_in (Ok a) = a.consumed_eof
flag_in (Err m) = false

abbrev count_in : Result AcceptRecord Missing → ℕ
count_in (Ok a) = a.actions
count_in (Err m) = 0

module _ (w : List ℕ) (i : ℕ) where
  no_actions : {x : Result AcceptRecord Missing} {actions : List ℕ} → actions ≡ [] → ((rule k : ℕ) (flag : Bool) → x ≡ Ok (record { rule = rule; consumed_eof = flag; actions = k }) → ⊥) → ActionsOf x w actions
  no_actions q n = record { not_table_lem = λ z. q; no_record = λ z. q; of_record = λ rule k flag z. absurd (n rule k flag z) }

  -- by what is found
  actions_of : (x : Result AcceptRecord Missing) (actions : List ℕ) (y : Result ℕ Missing) → accepts.record_at w i ≡ y →
      accepts.said x ≡ follow y (λ p. ok (get_or w p 0 ∷ pick (not (eqb (get_or w (p + 1) 0) 0)) 1 0 ∷ get_or w (p + 2) 0 ∷ [])) (ok []) (no NOT-TABLE 0) →
      actions ≡ take (follow y (λ p. get_or w (p + 2) 0 * 3) 0 0) (drop (follow y (λ p. p + 3) 0 0) w) → ActionsOf x w actions
  unfolding follow
  actions_of x actions (Ok p) e s q =
      let k = get_or w (p + 2) 0 in
      let word = get_or w (p + 1) 0 in
      let after = drop (k * 3) (drop (p + 3) w) in
      let x_is : x ≡ Ok (record { rule = (get_or w p 0); consumed_eof = (not (eqb word 0)); actions = k }) = record_said_one x (Ok (record { rule = (get_or w p 0); consumed_eof = (not (eqb word 0)); actions = k })) s in
      let l = whole w i e in
      let n : length actions ≡ k * 3 = ap length q ∙ length-take-le (k * 3) (drop (p + 3) w) (omega (arith, l, length-drop (p + 3) w)) in
      let behind : drop (p + 3) w ≡ actions ++ after = sym (take-append-drop (k * 3) (drop (p + 3) w)) ∙ ap (λ m. m ++ after) (sym q) in
      let there : w ≡ take p w ++ (get_or w p 0 ∷ word ∷ k ∷ (actions ++ after)) =
      sym (take-append-drop p w) ∙ ap (λ m. take p w ++ m)
      (three w p (p + 1) (p + 2) (p + 3) (omega (arith, l)) (omega arith) (omega arith) (omega arith) ∙ ap (λ m. get_or w p 0 ∷ word ∷ k ∷ m) behind) in
      record {
        not_table_lem = λ z. let c = sym x_is ∙ z in let o : ◌≡◌ {A = ℕ} 0 1 = cc in absurd (omega arith);
        no_record = λ z. let c = sym x_is ∙ z in let o : ◌≡◌ {A = ℕ} 0 1 = cc in absurd (omega arith);
        of_record = λ rule j flag z.
            let c = sym x_is ∙ z in
            let is-rule : get_or w p 0 ≡ rule = ap rule_in c in
            let is-flag : not (eqb word 0) ≡ flag = ap flag_in c in
            let is-count : k ≡ j = ap count_in c in (
              n ∙ ap (λ m. m * 3) is-count,
              take p w,
              word,
              after,
              there ∙ ap (λ m. take p w ++ (m ∷ word ∷ k ∷ (actions ++ after))) is-rule ∙ ap (λ m. take p w ++ (rule ∷ word ∷ m ∷ (actions ++ after))) is-count,
              sym is-flag,
            );
      }
  actions_of x actions (Err Absent) e s q = no_actions q (λ rule k flag z. let c = sym s ∙ ap accepts.said z in let o : ◌≡◌ {A = ℕ} 0 1 = cc in omega arith)
  actions_of x actions (Err Outside) e s q = no_actions q (λ rule k flag z. let c = sym s ∙ ap accepts.said z in let o : ◌≡◌ {A = ℕ} 0 1 = cc in omega arith)

-- the part of an accept's actions: empty where the room is refused or has no such record, and else the record's
pub accept_parts : (room : Bor (List ℕ)) (number : ℕ) (x : Result AcceptRecord Missing) → AcceptRecordAnswers room number x →
    (actions : Bor (List ℕ)) → AcceptActionsAnswers room number actions → ActionsOf x room.now actions.now
accept_parts room number x a actions p = actions_of room.now number x actions.now (accepts.record_at room.now number) refl a.2 p.2.numbers

-- Continuations

-- where one step led on, and where it could not
onward : {A : Type 0} (x : Result ℕ Missing) (k : ℕ → A) (a o t : A) → (a ≡ t → ⊥) → (o ≡ t → ⊥) → follow x k a o ≡ t → (q : ℕ) × (x ≡ Ok q) × (k q ≡ t)
unfolding follow
onward (Ok q) k a o t f g h = (q, refl, h)
onward (Err Absent) k a o t f g h = absurd (f h)
onward (Err Outside) k a o t f g h = absurd (g h)

not_outside : {q : ℕ} → ◌≡◌ {A = Result ℕ Missing} (Err Outside) (Ok q) → ⊥
not_outside e = let z : ◌≡◌ {A = ℕ} 0 1 = cc in omega arith

no_span : {t : Whole} → ◌≡◌ {A = Result Whole Missing} (Err Outside) (Ok t) → ⊥
no_span e = let z : ◌≡◌ {A = ℕ} 0 1 = cc in omega arith

absent_span : {t : Whole} → ◌≡◌ {A = Result Whole Missing} (Err Absent) (Ok t) → ⊥
absent_span e = let z : ◌≡◌ {A = ℕ} 0 1 = cc in omega arith

config_end : (w : List ℕ) (e p : ℕ) {q : ℕ} → configs.past_config w e p ≡ Ok q → (get_or w (p + 5) 0 * 3 + (p + 6) ≡ q) × (q ≤ e)
unfolding configs.past_config
config_end w e p {q} h =
    let n = get_or w (p + 5) 0 in
    let h₁ = held (ltb (p + 5) e) h in
    let h₂ = held (leb (n * 3 + (p + 6)) e) h₁.1 in
    let s : n * 3 + (p + 6) ≡ q = cc in
    let b : n * 3 + (p + 6) ≤ e = leb-true (n * 3 + (p + 6)) e h₂.0 in
    (s, omega arith)

contexts_end : (e p n : ℕ) {q : ℕ} → configs.past_contexts e p n ≡ Ok q → (n * 3 + (p + 1) ≡ q) × (q < e)
unfolding configs.past_contexts
contexts_end e p n {q} h =
    let h₁ = held (ltb (n * 3 + (p + 1)) e) h in
    let s : n * 3 + (p + 1) ≡ q = cc in
    let b : n * 3 + (p + 1) < e = ltb-true (n * 3 + (p + 1)) e h₁.0 in
    (s, omega arith)

configs_end : (w : List ℕ) (e n p : ℕ) {z : ℕ} → configs.past_configs w e n p ≡ Ok z → p ≤ e → z ≤ e
unfolding configs.past_configs
configs_end w e zero p {z} h k = let q : p ≡ z = cc in omega arith
configs_end w e (suc n) p {z} h k =
    let o = onward (configs.past_config w e p) (configs.past_configs w e n) (Err Outside) (Err Outside) (Ok z) not_outside not_outside h in
    configs_end w e n o.0 o.2 (config_end w e p o.1).1

-- a record that is found whole has as many contexts as their count says, and as many configs
record Walked (w : List ℕ) (p q z : ℕ) : Type 0 where
  counted : get_or w p 0 * 3 + (p + 1) ≡ q
  walked : configs.past_configs w (words_end w) (get_or w q 0) (q + 1) ≡ Ok z
  ends : z ≤ words_end w
  words : words_end w ≤ length w

-- where the parts of a record stand that is found whole
abbrev contexts_at : Result Whole Missing → ℕ
contexts_at (Ok t) = t.contexts
contexts_at (Err m) = 0

abbrev configs_at : Result Whole Missing → ℕ
configs_at (Ok t) = t.configs
configs_at (Err m) = 0

abbrev end_at : Result Whole Missing → ℕ
end_at (Ok t) = t.end
end_at (Err m) = 0

walked_whole : (w : List ℕ) (i : ℕ) {p q z : ℕ} → configs.whole_at w i ≡ Ok (record { contexts = p; configs = q; end = z }) → Walked w p q z
unfolding configs.whole_at configs.whole_from configs.whole_behind
walked_whole w i {p} {q} {z} h =
    let e = words_end w in
    let t : Result Whole Missing = Ok (record { contexts = p; configs = q; end = z }) in
    let a = onward (listed_at w 8 i) (configs.whole_from w e) (Err Absent) (Err Outside) t absent_span no_span h in
    let b = onward (configs.past_contexts e a.0 (get_or w a.0 0)) (configs.whole_behind w e a.0) (Err Outside) (Err Outside) t no_span no_span a.2 in
    let c = onward (configs.past_configs w e (get_or w b.0 0) (b.0 + 1)) (λ z. Ok (record { contexts = a.0; configs = b.0; end = z })) (Err Outside) (Err Outside) t no_span no_span b.2 in
    let l = listed_lies w 8 i a.1 in
    let m = contexts_end e a.0 (get_or w a.0 0) b.1 in
    let n = configs_end w e (get_or w b.0 0) (b.0 + 1) {z = c.0} c.1 (omega (arith, m.1)) in
    let p₁ : a.0 ≡ p = ap contexts_at c.2 in
    let p₂ : b.0 ≡ q = ap configs_at c.2 in
    let p₃ : c.0 ≡ z = ap end_at c.2 in
    record {
      counted = subst (λ k. get_or w k 0 * 3 + (k + 1) ≡ q) p₁ (◌∙◌ {b = b.0} m.0 p₂);
      walked = subst (λ k. configs.past_configs w e (get_or w k 0) (k + 1) ≡ Ok z) p₂ (◌∙◌ {b = Ok c.0} c.1 (ap {B = Result ℕ Missing} (λ (k : ℕ). Ok k) p₃));
      ends = omega arith;
      words = l.inside;
    }

-- three numbers each
actions_are : (n : ℕ) (l : List ℕ) → length l ≡ n * 3 → (xs : List Action) × (length xs ≡ n) × (each action_words xs ≡ l)
unfolding each
actions_are zero [] e = ([], refl, refl)
actions_are zero (a ∷ l) e = absurd (omega arith)
actions_are (suc n) [] e = absurd (omega arith)
actions_are (suc n) (a ∷ []) e = absurd (omega arith)
actions_are (suc n) (a ∷ b ∷ []) e = absurd (omega arith)
actions_are (suc n) (a ∷ b ∷ c ∷ l) e =
    let r = actions_are n l (omega arith) in
    let x : Action = record { a = a; b = b; c = c } in
    (x ∷ r.0, ap suc r.1, ap (λ m. a ∷ b ∷ c ∷ m) r.2)

-- what is walked past as n configs is n configs
configs_are : (w : List ℕ) (e : ℕ) → e ≤ length w → (n p z : ℕ) → configs.past_configs w e n p ≡ Ok z → p ≤ e →
    (p ≤ z) × (xs : List Config) × (length xs ≡ n) × (take (z - p) (drop p w) ≡ each config_words xs)
unfolding configs.past_configs each
configs_are w e l zero p z h k =
    let i : p ≡ z = cc in
    let o : z - p ≡ 0 = omega arith in
    (omega arith, [], refl, ap (λ n. take n (drop p w)) o)
configs_are w e l (suc n) p z h k =
    let o = onward (configs.past_config w e p) (configs.past_configs w e n) (Err Outside) (Err Outside) (Ok z) not_outside not_outside h in
    let q = o.0 in
    let c = config_end w e p o.1 in
    let r = configs_are w e l n q z o.2 c.1 in
    let m = get_or w (p + 5) 0 in
    let rest = drop (p + 6) w in
    let acts = actions_are m (take (m * 3) rest) (length-take-le (m * 3) rest (omega (arith, c.0, c.1, length-drop (p + 6) w))) in
    let x : Config = record {
      state = get_or w p 0;
      rule = get_or w (p + 1) 0;
      flag = get_or w (p + 2) 0;
      other = get_or w (p + 3) 0;
      context = get_or w (p + 4) 0;
      actions = acts.0;
    } in
    let behind : List ℕ → List ℕ = λ v. get_or w p 0 ∷ get_or w (p + 1) 0 ∷ get_or w (p + 2) 0 ∷ get_or w (p + 3) 0 ∷ get_or w (p + 4) 0 ∷ v in
    let six : drop p w ≡ behind (m ∷ rest) =
    three w p (p + 1) (p + 2) (p + 3) (omega (arith, c.0, c.1)) (omega arith) (omega arith) (omega arith)
    ∙ ap (λ v. get_or w p 0 ∷ get_or w (p + 1) 0 ∷ get_or w (p + 2) 0 ∷ v)
    (three w (p + 3) (p + 4) (p + 5) (p + 6) (omega (arith, c.0, c.1)) (omega arith) (omega arith) (omega arith)) in
    let size : z - p ≡ suc (suc (suc (suc (suc (suc (m * 3 + (z - q))))))) = omega (arith, c.0, r.0) in
    let past : p + 6 + m * 3 ≡ q = omega (arith, c.0) in
    let tail : take (m * 3 + (z - q)) rest ≡ each action_words acts.0 ++ each config_words r.1 =
    take-add (m * 3) (z - q) rest ∙ ap (λ v. v ++ take (z - q) (drop (m * 3) rest)) (sym acts.2)
    ∙ ap (λ v. each action_words acts.0 ++ v) (ap (take (z - q)) (drop-drop (m * 3) (p + 6) w ∙ ap (λ j. drop j w) past) ∙ r.3) in (
      omega (arith, c.0, r.0),
      x ∷ r.1,
      ap suc r.2,
      ap (λ j. take j (drop p w)) size ∙ ap (take (suc (suc (suc (suc (suc (suc (m * 3 + (z - q))))))))) six ∙ ap (λ v. behind (m ∷ v)) tail
          ∙ ap (λ j. behind (j ∷ (each action_words acts.0 ++ each config_words r.1))) (sym acts.1),
    )

-- how many contexts and configs are told, where a record is
abbrev first_in : Result ContinuationRecord Missing → ℕ
first_in (Ok r) = r.contexts
first_in (Err m) = 0

abbrev second_in : Result ContinuationRecord Missing → ℕ
second_in (Ok r) = r.configs
second_in (Err m) = 0

module _ (w : List ℕ) (i : ℕ) where
  no_parts : {x : Result ContinuationRecord Missing} {cs ds : List ℕ} → cs ≡ [] → ds ≡ [] → ((n m : ℕ) → x ≡ Ok (record { contexts = n; configs = m }) → ⊥) → PartsOf x w cs ds
  no_parts c d f = record { not_table_lem = λ z. (c, d); no_record = λ z. (c, d); of_record = λ n m z. absurd (f n m z) }

  -- by what is found
  parts_of : (x : Result ContinuationRecord Missing) (cs ds : List ℕ) (y : Result Whole Missing) → configs.whole_at w i ≡ y →
      configs.said x ≡ configs.of_whole y (λ p q z. ok (get_or w p 0 ∷ get_or w q 0 ∷ [])) (ok []) (no NOT-TABLE 0) →
      cs ≡ take (configs.of_whole y (λ p q z. q - (p + 1)) 0 0) (drop (configs.of_whole y (λ p q z. p + 1) 0 0) w) →
      ds ≡ take (configs.of_whole y (λ p q z. z - (q + 1)) 0 0) (drop (configs.of_whole y (λ p q z. q + 1) 0 0) w) → PartsOf x w cs ds
  unfolding configs.of_whole
  parts_of x cs ds (Ok t) e s c d =
      let p = t.contexts in
      let q = t.configs in
      let z = t.end in
      let n = get_or w p 0 in
      let m = get_or w q 0 in
      let l = lies w i e in
      let k = walked_whole w i e in
      let x_is : x ≡ Ok (record { contexts = n; configs = m }) = said_one x (Ok (record { contexts = n; configs = m })) s in
      let size : length cs ≡ n * 3 = ap length c ∙ part_length w (p + 1) q l.contexts (omega (arith, l.configs, l.inside)) ∙ (omega (arith, k.counted)) in
      let walk = configs_are w (words_end w) k.words m (q + 1) z k.walked (omega (arith, l.configs, k.ends)) in
      let there : w ≡ take p w ++ (n ∷ (cs ++ (m ∷ (ds ++ drop z w)))) = sym (take-append-drop p w) ∙ ap (λ v. take p w ++ v) (
      one w p (p + 1) (omega (arith, l.contexts, l.configs, l.inside)) (omega arith) ∙ ap (λ v. n ∷ v) (
      cut w (p + 1) q l.contexts ∙ ap (λ v. v ++ drop q w) (sym c) ∙ ap (λ v. cs ++ v) (
      one w q (q + 1) (omega (arith, l.configs, l.inside)) (omega arith) ∙ ap (λ v. m ∷ v) (
      cut w (q + 1) z l.configs ∙ ap (λ v. v ++ drop z w) (sym d)
      )))) in
      record {
        not_table_lem = λ o. let t = sym x_is ∙ o in let u : ◌≡◌ {A = ℕ} 0 1 = cc in absurd (omega arith);
        no_record = λ o. let t = sym x_is ∙ o in let u : ◌≡◌ {A = ℕ} 0 1 = cc in absurd (omega arith);
        of_record = λ j k o.
            let u = sym x_is ∙ o in
            let is-n : n ≡ j = ap first_in u in
            let is_m : m ≡ k = ap second_in u in (
              size ∙ ap (λ v. v * 3) is-n,
              (walk.1, walk.2 ∙ is_m, d ∙ walk.3),
              take p w,
              drop z w,
              there ∙ ap (λ v. take p w ++ (v ∷ (cs ++ (m ∷ (ds ++ drop z w))))) is-n ∙ ap (λ v. take p w ++ (j ∷ (cs ++ (v ∷ (ds ++ drop z w))))) is_m,
            );
      }
  parts_of x cs ds (Err Absent) e s c d = no_parts c d (λ n m z. let t = sym s ∙ ap configs.said z in let o : ◌≡◌ {A = ℕ} 0 1 = cc in omega arith)
  parts_of x cs ds (Err Outside) e s c d = no_parts c d (λ n m z. let t = sym s ∙ ap configs.said z in let o : ◌≡◌ {A = ℕ} 0 1 = cc in omega arith)

-- the parts of a continuation: empty where the room is refused or has no such record, and else the record's
pub continuation_parts : (room : Bor (List ℕ)) (number : ℕ) (x : Result ContinuationRecord Missing) → ContinuationRecordAnswers room number x →
    (cs : Bor (List ℕ)) → ContextsAnswers room number cs → (ds : Bor (List ℕ)) → ConfigsAnswers room number ds →
    PartsOf x room.now cs.now ds.now
continuation_parts room number x a cs c ds d =
    parts_of room.now number x cs.now ds.now (configs.whole_at room.now number) refl a.2 c.2.numbers d.2.numbers

-- Spans

names : (s t : Span) (w numbers : List ℕ) → s ≡ t → numbers ≡ part w t.from t.length → s.from + s.length ≤ length w → Names s w numbers
names s t w numbers i e h =
    let f : numbers ≡ part w s.from s.length = e ∙ ap (λ (u : Span). part w u.from u.length) (sym i) in
    record { are = f; as_many = ap length f ∙ length-take-le s.length (drop s.from w) (omega (arith, h, length-drop s.from w)) }

-- a call that answers a span names the part that the other call hands back, so that what the record's call tells of the part it tells of the span
module _ (room : Bor (List ℕ)) (number : ℕ) (s : Span) (numbers : Bor (List ℕ)) where
  abbrev w : List ℕ
  w = room.now

  pub accept_actions_named : AcceptActionsSpanAnswers room number s → AcceptActionsAnswers room number numbers → Names s w numbers.now
  accept_actions_named a p = names s (accepts.actions_span w number) w numbers.now a.2 p.2.numbers (actions_in w number a.2)

  pub contexts_named : ContextsSpanAnswers room number s → ContextsAnswers room number numbers → Names s w numbers.now
  contexts_named a p = names s (configs.contexts_span w number) w numbers.now a.2 p.2.numbers (contexts_in w number a.2)

  pub configs_named : ConfigsSpanAnswers room number s → ConfigsAnswers room number numbers → Names s w numbers.now
  configs_named a p = names s (configs.configs_span w number) w numbers.now a.2 p.2.numbers (configs_in w number a.2)
