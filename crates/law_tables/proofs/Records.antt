-- Each kind of record has a codec: its fields, blocks and counted lists have one, and the record only names their numbers. Assumes nothing.
use mathlib.Core.Path.{◌≡◌, refl, ap, ◌∙◌}
use mathlib.Core.List.{List, [], ◌∷◌}
use mathlib.Core.Bool.{Bool, true, false, ◌||◌}
use mathlib.Core.Logic.{◌⊎◌, inl, inr}
use Prim.Native.Nat.{ℕ, ◌≤◌}
use native.Mathlib.Omega.{arith}
use lib.Dec.{leb, eqb}
use lib.ListN.{length, get_or}
use borrow.Author.Tests.{le-leb, leb-true, eqb-true, eq-eqb}
use Rattle.refusal.specs.Fixed.{NONE}
use Rattle.word_reader.specs.Records.{any, target, start, mode_at, state_at, ascii_at, range_at, wide_at, triple_at, accept_at}
use Rattle.word_reader.specs.Records.{escape_at, good_context, context_at, config_at, continuation_at}
use Rattle.law_tables.specs.Table.{State, Range, Action, Accept, Escape, Context, Config, Continuation, All, Start, StateFields, AsciiFields}
use Rattle.law_tables.specs.Table.{RangeFields, ContinuationFields, mode_words, state_words, ascii_words, range_words, wide_words, action_words}
use Rattle.law_tables.specs.Table.{accept_words, escape_words, context_words, config_words, continuation_words}
use Rattle.law_tables.proofs.Codec.{Codec, Always, of_fields, paired, mapped, of_section, of_block}

-- Modes

pub or_split : (a b : Bool) → (a || b) ≡ true → (a ≡ true) ⊎ (b ≡ true)
or_split true b e = inl refl
or_split false b e = inr e

start-made : (m : ℕ) → start m ≡ true → Start m
unfolding start
start-made m e = go (or_split (leb m 65535) (eqb m NONE) e)
  where
    go : (leb m 65535 ≡ true) ⊎ (eqb m NONE ≡ true) → Start m
    go (inl u) = inl (leb-true _ _ u)
    go (inr u) = inr (eqb-true _ _ u)

pub or_right : (a : Bool) → (a || true) ≡ true
or_right true = refl
or_right false = refl

start_seen : (m : ℕ) → Start m → start m ≡ true
unfolding start
start_seen m (inl h) = ap (λ b. b || eqb m NONE) (le-leb _ _ h)
start_seen m (inr h) = ap (λ b. leb m 65535 || b) (eq-eqb _ _ h) ∙ or_right (leb m 65535)

pub mode : Codec ℕ mode_at mode_words Start
mode = mapped (λ v _. (v.0, start-made v.0 v.1, refl)) (λ m h. ((m, start_seen m h, tt), tt, refl)) (of_fields (start ∷ []))

-- Records of a few fields

pub state : Codec State state_at state_words StateFields
unfolding any target
state = mapped
    (λ v _. (record { ascii = v.0; wide = v.2.0; eof = v.2.2.0; accept = v.2.2.2.0 }, leb-true _ _ v.2.2.1, refl))
    (λ s h. ((s.ascii, refl, (s.wide, refl, (s.eof, le-leb _ _ h, (s.accept, refl, tt)))), tt, refl))
    (of_fields (any ∷ any ∷ target ∷ any ∷ []))

pub wide_range : Codec Range range_at range_words RangeFields
unfolding any target
wide_range = mapped
    (λ v _. (record { low = v.0; high = v.2.0; goal = v.2.2.0 }, leb-true _ _ v.2.2.1, refl))
    (λ r h. ((r.low, refl, (r.high, refl, (r.goal, le-leb _ _ h, tt))), tt, refl))
    (of_fields (any ∷ any ∷ target ∷ []))

pub range : Codec Range triple_at range_words Always
unfolding any
range = mapped
    (λ v _. (record { low = v.0; high = v.2.0; goal = v.2.2.0 }, tt, refl))
    (λ r h. ((r.low, refl, (r.high, refl, (r.goal, refl, tt))), tt, refl))
    (of_fields (any ∷ any ∷ any ∷ []))

pub action : Codec Action triple_at action_words Always
unfolding any
action = mapped
    (λ v _. (record { a = v.0; b = v.2.0; c = v.2.2.0 }, tt, refl))
    (λ r h. ((r.a, refl, (r.b, refl, (r.c, refl, tt))), tt, refl))
    (of_fields (any ∷ any ∷ any ∷ []))

-- where every record is allowed, every list of them is
pub all_always : {A : Type 0} (xs : List A) → All Always xs
unfolding All
all_always [] = tt
all_always (x ∷ xs) = (tt, all_always xs)

-- Rows, accepts, configs: fields, and a counted list

pub wide_row_lem : Codec (List Range) wide_at wide_words (All RangeFields)
wide_row_lem = of_section wide_range

pub accept : Codec Accept accept_at accept_words Always
unfolding any
accept = mapped
    (λ v _. (record { rule = v.0.0; consumed = v.0.2.0; actions = v.1 }, tt, refl))
    (λ x _. (((x.rule, refl, (x.consumed, refl, tt)), x.actions), (tt, all_always x.actions), refl))
    (paired (of_fields (any ∷ any ∷ [])) (of_section action))

pub escape : Codec Escape escape_at escape_words Always
unfolding any
escape = mapped
    (λ v _. (record { eof = v.0.0; ranges = v.1 }, tt, refl))
    (λ x _. (((x.eof, refl, tt), x.ranges), (tt, all_always x.ranges), refl))
    (paired (of_fields (any ∷ [])) (of_section range))

pub config : Codec Config config_at config_words Always
unfolding any
config = mapped
    (λ v _. (
      record { state = v.0.0; rule = v.0.2.0; flag = v.0.2.2.0; other = v.0.2.2.2.0; context = v.0.2.2.2.2.0; actions = v.1 },
      tt,
      refl,
    ))
    (λ x _. (((x.state, refl, (x.rule, refl, (x.flag, refl, (x.other, refl, (x.context, refl, tt))))), x.actions), (tt, all_always x.actions), refl))
    (paired (of_fields (any ∷ any ∷ any ∷ any ∷ any ∷ [])) (of_section action))

-- Blocks

pub ascii : Codec (List ℕ) ascii_at ascii_words AsciiFields
ascii = mapped (λ l v. (l, v.0, refl)) (λ l v. (l, (v, refl), refl)) (of_block 64 (λ l. true))

three : (l : List ℕ) → length l ≡ 3 → get_or l 0 0 ∷ get_or l 1 0 ∷ get_or l 2 0 ∷ [] ≡ l
three [] e = absurd (omega arith)
three (x ∷ []) e = absurd (omega arith)
three (x ∷ y ∷ []) e = absurd (omega arith)
three (x ∷ y ∷ z ∷ []) e = refl
three (x ∷ y ∷ z ∷ u ∷ l) e = absurd (omega arith)

pub context : Codec Context context_at context_words (λ c. c.kind ≤ 1)
unfolding good_context
context = mapped
    (λ l v. (record { kind = get_or l 0 0; a = get_or l 1 0; b = get_or l 2 0 }, leb-true _ _ v.1, three l v.0))
    (λ c h. (c.kind ∷ c.a ∷ c.b ∷ [], (refl, le-leb _ _ h), refl))
    (of_block 3 good_context)

pub continuation : Codec Continuation continuation_at continuation_words ContinuationFields
continuation = mapped
    (λ v h. (record { contexts = v.0; configs = v.1 }, h.0, refl))
    (λ x h. ((x.contexts, x.configs), (h, all_always x.configs), refl))
    (paired (of_section context) (of_section config))
