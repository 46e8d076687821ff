-- The laws of the continuations' records: where a record lies that is found whole, and that what is said takes no two answers to one.
-- Assumes nothing.
use Prim.Native.Nat.{ℕ, zero, suc, ◌+◌, ◌*◌, ◌-◌, ◌<◌, ◌≤◌}
use native.Mathlib.Omega.{arith}
use mathlib.Core.Path.{◌≡◌, refl, sym, ap, ◌∙◌}
use mathlib.Core.Bool.{Bool, true, false}
use mathlib.Core.List.{List, [], ◌∷◌}
use lib.Dec.{ltb, leb}
use lib.ListN.{length, get_or}
use borrow.Author.Tests.{ltb-true, leb-true}
use Rattle.refusal.specs.Said.{Said, ok, no_by}
use Rattle.refusal.specs.Lists.{pick}
use Rattle.std.specs.Prelude.{Result, Ok, Err}
use Rattle.room_find.specs.declared.Missing.{Missing}
use Rattle.room_find.specs.declared.Missing.TheVariants.{Absent, Outside}
use Rattle.room_find.specs.Room.{listed_at, follow}
use Rattle.room_find.proofs.Records.{held, listed_lies}
use Rattle.look_continuation_records.specs.declared.Whole.{Whole}
use Rattle.look_continuation_records.specs.declared.ContinuationRecord.{ContinuationRecord}
use Rattle.look_continuation_records.specs.Configs.{said, whole_said, past_contexts, past_config, past_configs, whole_behind, whole_from, whole_at}

-- Configs, one behind the other

pub config_end : (w : List ℕ) (e p : ℕ) {q : ℕ} → past_config w e p ≡ Ok q → (p ≤ q) × (q ≤ e)
unfolding past_config
config_end w e p {q} h =
    let n = get_or w (p + 5) 0 in
    let h₁ = held (ltb (p + 5) e) h in
    let h₂ = held (leb (n * 3 + (p + 6)) e) h₁.1 in
    let s : n * 3 + (p + 6) ≡ q = cc in
    let b : n * 3 + (p + 6) ≤ e = leb-true (n * 3 + (p + 6)) e h₂.0 in
    (omega arith, omega arith)

-- what is refused leads outside: a config is never absent
outside_only : (b : Bool) {x : Result ℕ Missing} {m : Missing} → ((n : Missing) → x ≡ Err n → n ≡ Outside) → pick b x (Err Outside) ≡ Err m → m ≡ Outside
outside_only true f h = f _ h
outside_only false f h = cc

place_only : (p : ℕ) (n : Missing) → ◌≡◌ {A = Result ℕ Missing} (Ok p) (Err n) → n ≡ Outside
place_only p n h = cc

pub context_missed : (e p n : ℕ) {m : Missing} → past_contexts e p n ≡ Err m → m ≡ Outside
unfolding past_contexts
context_missed e p n h = outside_only (ltb (n * 3 + (p + 1)) e) (place_only (n * 3 + (p + 1))) h

pub config_missed : (w : List ℕ) (e p : ℕ) {m : Missing} → past_config w e p ≡ Err m → m ≡ Outside
unfolding past_config
config_missed w e p h =
    let n = get_or w (p + 5) 0 in
    outside_only (ltb (p + 5) e) (λ k. outside_only (leb (n * 3 + (p + 6)) e) (place_only (n * 3 + (p + 6)))) h

pub configs_missed : (w : List ℕ) (e n p : ℕ) {m : Missing} → past_configs w e n p ≡ Err m → m ≡ Outside
unfolding past_configs follow
configs_missed w e zero p h = cc
configs_missed w e (suc n) p {m} h = go (past_config w e p) (λ q k. configs_missed w e n q k) h
  where
    go : (x : Result ℕ Missing) → ((q : ℕ) → past_configs w e n q ≡ Err m → m ≡ Outside) → follow x (past_configs w e n) (Err Outside) (Err Outside) ≡ Err m → m ≡ Outside
    go (Ok q) f k = f q k
    go (Err Absent) f k = cc
    go (Err Outside) f k = cc

-- configs j and on end, from `here`, where all of them do
module _ (w : List ℕ) (e : ℕ) {all : Result ℕ Missing} (count j here : ℕ) (i : past_configs w e (count - j) here ≡ all) where
  one_less : j < count → count - j ≡ suc (count - (j + 1))
  one_less h = omega arith

  pub config_passed : {p : ℕ} → j < count → past_config w e here ≡ Ok p → (past_configs w e (count - (j + 1)) p ≡ all) × (p ≤ e)
  unfolding past_configs follow
  config_passed h k = (rw k at (rw (one_less h) at i), (config_end w e here k).1)

  pub config_refused : {m : Missing} → j < count → past_config w e here ≡ Err m → Err m ≡ all
  unfolding past_configs follow
  config_refused {m} h k =
      let o = config_missed w e here k in
      let k' : past_config w e here ≡ Err Outside = rw o at k in
      rw o (rw k' at (rw (one_less h) at i))

  pub configs_done : count ≤ j → Ok here ≡ all
  unfolding past_configs
  configs_done h = let d : count - j ≡ 0 = omega arith in rw d at i

-- Where a record lies that is found whole

-- where one step led on, since it is not refused
onward : {A : Type 0} (x : Result ℕ Missing) (k : ℕ → Result A Missing) (a o : Missing) {t : A} → follow x k (Err a) (Err o) ≡ Ok t → (q : ℕ) × (x ≡ Ok q) × (k q ≡ Ok t)
unfolding follow
onward (Ok q) k a o h = (q, refl, h)
onward (Err Absent) k a o h = cc
onward (Err Outside) k a o h = cc

configs_end : (w : List ℕ) (e n p : ℕ) {z : ℕ} → past_configs w e n p ≡ Ok z → p ≤ e → (p ≤ z) × (z ≤ e)
unfolding past_configs
configs_end w e zero p {z} h k = let q : p ≡ z = cc in (omega arith, omega arith)
configs_end w e (suc n) p {z} h k =
    let o = onward (past_config w e p) (past_configs w e n) Outside Outside h in
    let c = config_end w e p o.1 in
    let r = configs_end w e n o.0 o.2 c.1 in
    (omega arith, omega arith)

contexts_end : (e p n : ℕ) {q : ℕ} → past_contexts e p n ≡ Ok q → (p + 1 ≤ q) × (q < e)
unfolding past_contexts
contexts_end e p n {q} h =
    let h₁ = held (ltb (n * 3 + (p + 1)) e) h in
    let s : n * 3 + (p + 1) ≡ q = cc in
    let b : n * 3 + (p + 1) < e = ltb-true (n * 3 + (p + 1)) e h₁.0 in
    (omega arith, omega arith)

pub contexts_before : (e p n : ℕ) {q : ℕ} {got : Result ℕ Missing} → got ≡ past_contexts e p n → got ≡ Ok q → q < e
contexts_before e p n g k = (contexts_end e p n (sym g ∙ k)).1

-- its parts follow each other in the room
pub record Lies (w : List ℕ) (p q z : ℕ) : Type 0 where
  pub contexts : p + 1 ≤ q
  pub configs : q + 1 ≤ z
  pub inside : z ≤ length w

pub lies : (w : List ℕ) (i : ℕ) {t : Whole} → whole_at w i ≡ Ok t → Lies w t.contexts t.configs t.end
unfolding whole_at whole_from whole_behind
lies w i {t} h =
    let e = 9 + get_or w 0 0 in
    let a = onward (listed_at w 8 i) (whole_from w e) Absent Outside h in
    let b = onward (past_contexts e a.0 (get_or w a.0 0)) (whole_behind w e a.0) Outside Outside a.2 in
    let c = onward (past_configs w e (get_or w b.0 0) (b.0 + 1)) (λ z. Ok (record { contexts = a.0; configs = b.0; end = z })) Outside Outside b.2 in
    let l = listed_lies w 8 i a.1 in
    let m = contexts_end e a.0 (get_or w a.0 0) b.1 in
    let n = configs_end w e (get_or w b.0 0) (b.0 + 1) c.1 (omega arith) in
    let s : ◌≡◌ {A = Result Whole Missing} (Ok (record { contexts = a.0; configs = b.0; end = c.0 })) (Ok t) = c.2 in
    let p₁ : a.0 ≡ t.contexts = cc in
    let p₂ : b.0 ≡ t.configs = cc in
    let p₃ : c.0 ≡ t.end = cc in
    record { contexts = omega arith; configs = omega arith; inside = omega arith }

-- `said` takes no two answers to one: what it says gives the answer back
abbrev list_back : List ℕ → Result ContinuationRecord Missing
list_back [] = Err Absent
list_back (n ∷ l) = Ok (record { contexts = n; configs = get_or l 0 0 })

abbrev back : Said → Result ContinuationRecord Missing
back (ok l) = list_back l
back (no_by r) = Err Outside

back-said : (x : Result ContinuationRecord Missing) → back (said x) ≡ x
back-said (Ok c) = refl
back-said (Err Absent) = refl
back-said (Err Outside) = refl

pub said_one : (x y : Result ContinuationRecord Missing) → said x ≡ said y → x ≡ y
said_one x y e = sym (back-said x) ∙ ap back e ∙ back-said y

abbrev whole_list : List ℕ → Result Whole Missing
whole_list [] = Err Absent
whole_list (p ∷ l) = Ok (record { contexts = p; configs = get_or l 0 0; end = get_or l 1 0 })

abbrev whole_back : Said → Result Whole Missing
whole_back (ok l) = whole_list l
whole_back (no_by r) = Err Outside

whole-back-said : (x : Result Whole Missing) → whole_back (whole_said x) ≡ x
whole-back-said (Ok z) = refl
whole-back-said (Err Absent) = refl
whole-back-said (Err Outside) = refl

pub whole-said_one : (x y : Result Whole Missing) → whole_said x ≡ whole_said y → x ≡ y
whole-said_one x y e = sym (whole-back-said x) ∙ ap whole_back e ∙ whole-back-said y
