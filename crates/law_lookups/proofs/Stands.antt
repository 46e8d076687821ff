-- Where the records of a section stand in a list of numbers: behind its count, one behind the other. Assumes nothing.
use Prim.Native.Nat.{ℕ, zero, suc, ◌+◌, ◌≤◌, ◌<◌}
use native.Mathlib.Nat.{not-suc-le-zero, le_of_suc-le-suc}
use native.Mathlib.Omega.{arith}
use mathlib.Core.Path.{◌≡◌, refl, sym, ap, subst, ◌∙◌}
use mathlib.Core.List.{List, [], ◌∷◌, ◌++◌, append_assoc}
use lib.ListN.{length, get_or, take, drop, length-append, get_or-append}
use lib.Seq.{get_or-append-add}
use Rattle.refusal.specs.Lists.{each}
use Rattle.law_tables.specs.Table.{counted, All}
use Rattle.refusal.specs.Header.{HEADER-NUMBERS}
use Rattle.law_tables.proofs.Sizes.{same_length}
use Rattle.law_tables.proofs.Normal.{offsets}
use Rattle.law_tables.proofs.Codec.{At, same, on, to, at_length, at_head}

-- the words of record i stand between those of the records before it and those behind it
pub nth_each : {A : Type 0} (f : A → List ℕ) (xs : List A) (i : ℕ) (d : A) → i < length xs
    → each f xs ≡ each f (take i xs) ++ (f (get_or xs i d) ++ each f (drop (suc i) xs))
unfolding each
nth_each f [] i d h = absurd (not-suc-le-zero h)
nth_each f (x ∷ xs) zero d h = refl
nth_each f (x ∷ xs) (suc i) d h =
    ap (λ l. f x ++ l) (nth_each f xs i d (le_of_suc-le-suc h)) ∙ sym (append_assoc (f x) (each f (take i xs)) (f (get_or xs i d) ++ each f (drop (suc i) xs)))

-- number i of what stands at a place
pub at_number : {w : List ℕ} {at : ℕ} (l post : List ℕ) (i : ℕ) → At w at (l ++ post) → i < length l → get_or w (at + i) 0 ≡ get_or l i 0
at_number {w} {at} l post i a h =
    let p : at + i ≡ length a.pre + i = ap (λ n. n + i) (sym a.here) in
    ap (λ n. get_or w n 0) p ∙ ap (λ v. get_or v (length a.pre + i) 0) a.whole ∙ get_or-append-add a.pre (l ++ post) i 0 ∙ get_or-append l post 0 i h

-- l stands at p, and ends by e
pub record Within (w : List ℕ) (e p : ℕ) (l : List ℕ) : Type 0 where
  pub post : List ℕ
  pub stands : At w p (l ++ post)
  pub ends : p + length l ≤ e

-- a section from s to e: its count, and its records
pub record Section {A : Type 0} (w : List ℕ) (s e : ℕ) (f : A → List ℕ) (xs : List A) : Type 0 where
  pub post : List ℕ
  pub stands : At w s (counted f xs ++ post)
  pub ends : e ≡ s + length (counted f xs)

-- the same section, by other words for its ends
pub moved : {A : Type 0} {w : List ℕ} {s e p q : ℕ} {f : A → List ℕ} {xs : List A} → Section w s e f xs → s ≡ p → e ≡ q → Section w p q f xs
moved {w = w} {s = s} {q = q} {f = f} {xs = xs} z a b = subst (λ n. Section w n q f xs) a (subst (λ n. Section w s n f xs) b z)

module _ {A : Type 0} {w : List ℕ} {s e : ℕ} {f : A → List ℕ} {xs : List A} (z : Section w s e f xs) where
  -- it opens with its count, and lies in the room
  pub counts : get_or w s 0 ≡ length xs
  counts = at_head z.stands

  pub opens : s < e
  opens = omega (arith, z.ends)

  pub inside : e ≤ length w
  inside = omega (arith, z.ends, at_length z.stands, length-append (counted f xs) z.post)

  -- record i
  pub recorded : (i : ℕ) (d : A) → i < length xs → Within w e (s + 1 + length (each f (take i xs))) (f (get_or xs i d))
  recorded i d h =
      let x = f (get_or xs i d) in
      let before = each f (take i xs) in
      let behind = each f (drop (suc i) xs) in
      let a = on (length xs ∷ []) (each f xs ++ z.post) z.stands in
      let b = same a (ap (λ l. l ++ z.post) (nth_each f xs i d h) ∙ append_assoc before (x ++ behind) z.post) in
      let c = same (on before ((x ++ behind) ++ z.post) b) (append_assoc x behind z.post) in
      let n : length (each f xs) ≡ length before + (length x + length behind) =
      ap length (nth_each f xs i d h) ∙ length-append before (x ++ behind) ∙ ap (λ m. length before + m) (length-append x behind) in
      record { post = behind ++ z.post; stands = c; ends = omega (arith, z.ends, n) }

-- what holds of all holds of those in front, and of each
pub all_take : {A : Type 0} (P : A → Type 0) (xs : List A) (i : ℕ) → All P xs → All P (take i xs)
unfolding All
all_take P [] zero h = tt
all_take P [] (suc i) h = tt
all_take P (x ∷ xs) zero h = tt
all_take P (x ∷ xs) (suc i) h = (h.0, all_take P xs i h.1)

pub all_nth : {A : Type 0} (P : A → Type 0) (xs : List A) (i : ℕ) (d : A) → All P xs → i < length xs → P (get_or xs i d)
unfolding All
all_nth P [] i d h l = absurd (not-suc-le-zero l)
all_nth P (x ∷ xs) zero d h l = h.0
all_nth P (x ∷ xs) (suc i) d h l = all_nth P xs i d h.1 (le_of_suc-le-suc l)

-- a list of places: where each record of a section at s starts
pub record Listed {A : Type 0} (w : List ℕ) (s list : ℕ) (f : A → List ℕ) (xs : List A) : Type 0 where
  pub there : list + length xs ≤ length w
  pub leads : (i : ℕ) → i < length xs → get_or w (list + i) 0 ≡ s + 1 + length (each f (take i xs))

-- such a list stands in the room, where records that are each as long were written
module _ {A : Type 0} (f : A → List ℕ) where
  pub offsets-length : (xs : List A) (at : ℕ) → length (offsets f xs at) ≡ length xs
  offsets-length [] at = refl
  offsets-length (x ∷ xs) at = ap suc (offsets-length xs (at + length (f x)))

  offset_is : (xs : List A) (at i : ℕ) → i < length xs → get_or (offsets f xs at) i 0 ≡ at + HEADER-NUMBERS + length (each f (take i xs))
  unfolding each
  offset_is [] at i h = absurd (not-suc-le-zero h)
  offset_is (x ∷ xs) at zero h = omega arith
  offset_is (x ∷ xs) at (suc i) h = omega (arith, offset_is xs (at + length (f x)) i (le_of_suc-le-suc h), length-append (f x) (each f (take i xs)))

  pub listed : {w : List ℕ} {p : ℕ} (h : A → List ℕ) (xs : List A) (at : ℕ) (post : List ℕ) {s list : ℕ} → ((x : A) → length (h x) ≡ length (f x))
      → At w p (offsets f xs (at + 1) ++ post) → p ≡ list → at + HEADER-NUMBERS ≡ s → Listed w s list h xs
  listed {w = w} h xs at post {s} {list} e a q r =
      let b = to a q in
      let l = offsets f xs (at + 1) in
      let n = offsets-length xs (at + 1) in
      record {
        there = omega (arith, at_length b, length-append l post);
        leads = λ i k. at_number l post i b (omega arith) ∙ offset_is xs (at + 1) i k ∙ omega (arith, same_length h f e (take i xs));
      }

-- what stands in words that stand in the room
pub nested : {w words : List ℕ} {m p : ℕ} (l post rest : List ℕ) → At w m (words ++ rest) → At words p (l ++ post) → At w (p + m) (l ++ (post ++ rest))
nested l post rest a b =
    let c = same a (ap (λ v. v ++ rest) b.whole ∙ append_assoc b.pre (l ++ post) rest) in
    same (to (on b.pre ((l ++ post) ++ rest) c) (omega (arith, b.here))) (append_assoc l post rest)
