-- The laws of writing a whole table, part by part. Assumes nothing.
use Prim.Native.Nat.{ℕ, ◌+◌, ◌<◌, ◌≤◌}
use native.Mathlib.Omega.{arith}
use mathlib.Core.Path.{◌≡◌, sym, ap, ◌∙◌}
use mathlib.Core.List.{List, [], ◌∷◌}
use borrow.Author.Rules.{rules}
use lib.ListN.{length, set, length-replicate}
use Rattle.std.specs.Prelude.{map, Ok, Err}
use Rattle.word_reader.specs.declared.Sections.{Sections}
use Rattle.word_layout.specs.Layout.{Layout}
use Rattle.word_layout.specs.Layout.{layout_of}
use Rattle.word_layout.proofs.Found.{there}
use Rattle.word_layout.specs.Limits.{laid_out}
use Rattle.word_layout.proofs.Laws.{kept}
use Rattle.refusal.specs.declared.Refusal.{Refusal}
use Rattle.refusal.specs.Header.{WORD-COUNT, MODES-START, HEADER-NUMBERS}
use Rattle.buffer.specs.Over.{Put, zeros}
use Rattle.buffer.proofs.Overs.{lay-zeros}
use Rattle.buffer.proofs.Going.{put_one}
use Rattle.room_fill.specs.Room.{in_room, eight, header, made, places, numbers, room_for}
use Rattle.room_fill.proofs.Parts.{middle_room, three_room, three_put}
use Rattle.room_fill.proofs.Sizes.{numbers-length}

-- The header

-- the word count is stored, and eight places behind it
pub header_put : (w : List ℕ) (s : Sections) (d : List ℕ) {x₁ x₂ x₃ x₄ x₅ x₆ x₇ x₈ r : ℕ} {new : List ℕ}
    → x₁ ≡ in_room s.modes → x₂ ≡ in_room s.states → x₃ ≡ in_room s.runs → x₄ ≡ in_room s.ascii
    → x₅ ≡ in_room s.wide → x₆ ≡ in_room s.accepts → x₇ ≡ in_room s.escapes → x₈ ≡ in_room s.continuations
    → HEADER-NUMBERS ≤ length d → Put (x₁ ∷ x₂ ∷ x₃ ∷ x₄ ∷ x₅ ∷ x₆ ∷ x₇ ∷ x₈ ∷ []) MODES-START (set d WORD-COUNT (length w)) r new
    → Put (header w s) 0 d r new
unfolding header
header_put w s d {x₁} {x₂} {x₃} {x₄} {x₅} {x₆} {x₇} {x₈} e₁ e₂ e₃ e₄ e₅ e₆ e₇ e₈ h p =
    let e : (x₁ ∷ x₂ ∷ x₃ ∷ x₄ ∷ x₅ ∷ x₆ ∷ x₇ ∷ x₈ ∷ []) ≡ map in_room (eight s) = cc in
    put_one (length w) (map in_room (eight s)) WORD-COUNT d (rw e at p) (omega arith)

-- a count is one of few words
pub few : {p : ℕ} (n : ℕ) → p < n → n ≤ 8192 → p ≤ 8192
few n h k = omega arith

pub ruleset heading = (rules, there, few)

-- The whole table

module _ (w : List ℕ) {s : Sections} (d : List ℕ) (h : layout_of w ≡ Ok s) (k : length w ≤ 8192) (l : 16384 ≤ length d) where
  table_fits : 0 + length (numbers w s) ≤ length d
  table_fits = omega (arith, numbers-length w h)

  module _ {n₁ : ℕ} {d₁ : List ℕ} (p : Put (header w s) 0 d n₁ d₁) where
    pub words_fit : n₁ + length (made w s) ≤ length d₁
    words_fit = middle_room (header w s) (made w s) (places w s) 0 d p table_fits

    module _ {n₂ : ℕ} {d₂ : List ℕ} (q : Put (made w s) n₁ d₁ n₂ d₂) where
      pub places_fit : n₂ + length (places w s) ≤ length d₂
      places_fit = three_room (header w s) (made w s) (places w s) 0 d q p table_fits

      pub table_put : {n₃ : ℕ} {d₃ : List ℕ} → Put (places w s) n₂ d₂ n₃ d₃ → Put (numbers w s) 0 d n₃ d₃
      table_put t = three_put (header w s) (made w s) (places w s) 0 d t q p table_fits

pub ruleset whole = (rules, words_fit, places_fit, table_put)

-- Filling

module _ (w : List ℕ) (n : ℕ) {d : List ℕ} where
  cleared : d ≡ zeros n → length d ≡ n
  cleared z = ap length z ∙ length-replicate n 0

  -- what was found for a room of as many numbers
  pub same_laid : {got : Layout} → d ≡ zeros n → got ≡ laid_out w (length d) → got ≡ laid_out w n
  same_laid z g = rw (← cleared z) g

  pub none_left : (r : Refusal) → d ≡ zeros n → d ≡ room_for w n (Err r)
  unfolding room_for
  none_left r z = z

  pub all_there : {s : Sections} {k : ℕ} {new : List ℕ} {got : Layout} → Put (numbers w s) 0 d k new → got ≡ Ok s → got ≡ laid_out w (length d) → d ≡ zeros n
      → new ≡ room_for w n (Ok s)
  unfolding room_for
  all_there {s} p i g z =
      let o = kept w (length d) (sym g ∙ i) in
      let l : length (numbers w s) ≤ n = omega (arith, numbers-length w o.laid, o.limit, o.room, cleared z) in
      p.is ∙ (rw (z, lay-zeros n (numbers w s) l))

-- the sections that were found, within the limits
module _ (w d : List ℕ) {s : Sections} {got : Layout} (g : got ≡ laid_out w (length d)) (i : got ≡ Ok s) where
  pub is_laid : layout_of w ≡ Ok s
  is_laid = (kept w (length d) (sym g ∙ i)).laid

  pub within_limit : length w ≤ 8192
  within_limit = (kept w (length d) (sym g ∙ i)).limit

  pub within-room : 16384 ≤ length d
  within-room = (kept w (length d) (sym g ∙ i)).room

pub was_found : {x y got : Layout} → got ≡ x → got ≡ y → y ≡ x
was_found g i = sym i ∙ g

-- what filling is left with
pub ruleset filling = (rules, same_laid, none_left, all_there, is_laid, within_limit, within-room, was_found)
