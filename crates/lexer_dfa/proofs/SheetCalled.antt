-- What each call of the ply sheet answers, by its own contract, says what the sheet's definitions say of it: so the sheet's examples hold of the calls.
-- Assumes nothing.
use Prim.Native.Nat.{ℕ, ◌*◌}
use mathlib.Core.Path.{◌≡◌, refl, ap, ap₂, subst, ◌∙◌}
use mathlib.Core.List.{List, [], ◌∷◌, ◌++◌}
use lib.ListN.{length, take}
use Rattle.std.specs.Borrow.{Bor, MutBor}
use Rattle.refusal.specs.Said.{Said, ok, no, no_by}
use Rattle.run_shape.specs.declared.RunWords.{RunWords}
use Rattle.run_shape.specs.Shape.{shape, got_said}
use Rattle.run_shape.specs.Classify.{classified}
use Rattle.run_shape.specs.Scan.{said, scan_said, scanned_by}
use Rattle.room_decode.specs.Decode as codec
use Rattle.list_transitions.specs.Read as of_list
use Rattle.list_transitions.specs.Read.{parse}
use Rattle.list_segments.specs.Answer as of_segments
use Rattle.list_segments.specs.Answer.{parse_for}
use Rattle.list_masks.specs.declared.Masks.{Masks}
use Rattle.list_masks.specs.Answer as of_masks
use Rattle.list_masks.specs.Answer.{parse_masks}
use Rattle.row_build.specs.declared.Rows.{Rows}
use Rattle.row_build.specs.Answer as of_rows
use Rattle.row_build.specs.Answer.{Lent, parse_rows, Builds}
use Rattle.lexer_dfa.specs.Demand3.{RowArgs, RowsLeft, BuildAnswers, MatrixAnswers}
use Rattle.lexer_dfa.specs.ListsRefused.{lent_by, SegmentsAnswers}
use Rattle.lexer_dfa.specs.Sheet.{Call, classify, words, scan, decode, transitions, segments, masks, rows, word_list, words_said, left_said}
use Rattle.lexer_dfa.specs.Sheet.{first_of, product_of, segments_said, masks_said, rows_said, stated, said_by, Example, Right, ◌says◌, sheet}
use Rattle.lexer_dfa.specs.SheetCalled.{OfRun, ClassifiedThen, WordsSay, ScanSays, Answers, RightCalled}
use Rattle.lexer_dfa.proofs.Demand3.{given}
use Rattle.lexer_dfa.proofs.Examples.{wildcards, sheet_right, limits_right}
use Rattle.std.specs.Prelude.{Result, Ok, Err}
use Rattle.run_shape.specs.Shape.{Got}
use Rattle.run_shape.specs.declared.AsciiRun.{AsciiRun}
use Rattle.refusal.specs.declared.Refusal.{Refusal}

-- By the run that was classified

of_got : (P : AsciiRun → Said → Type 0) (f : Got → Said) → ((r : AsciiRun) (s : Said) → P r s → s ≡ f (Ok r)) → ((r : Refusal) → no_by r ≡ f (Err r)) →
    (g : Got) (s : Said) → OfRun P g s → s ≡ f g
of_got P f h k (Ok r) s o = h r s o
of_got P f h k (Err r) s o = o ∙ k r

then_said : (P : AsciiRun → Said → Type 0) (f : Got → Said) → ((r : AsciiRun) (s : Said) → P r s → s ≡ f (Ok r)) → ((r : Refusal) → no_by r ≡ f (Err r)) →
    (row : List ℕ) (state : ℕ) (s : Said) → ClassifiedThen row state P s → s ≡ f (classified state row)
then_said P f h k row state s (r, x, c, o) =
    let g = classified state r.0.now in
    of_got P f h k g s (subst (λ (y : Got). OfRun P y s) c.2 o)
    ∙ ap (λ (l : List ℕ). f (classified state l)) r.1

words_said_lem : (r : AsciiRun) (s : Said) → WordsSay r s → s ≡ words_said (Ok r)
words_said_lem r s (x, a, e) = e ∙ ap {B = Said} (λ (y : RunWords). ok (word_list y)) a.2

scan_said_lem : (bytes : List ℕ) (r : AsciiRun) (s : Said) → ScanSays bytes r s → s ≡ scanned_by (Ok r) bytes
scan_said_lem bytes r s (input, x, a, e) = e ∙ ap said a.2 ∙ ap (scan_said (shape r)) input.1

-- What is left in front of a buffer

segments_said_lem : (w : Bor (List ℕ)) (out : MutBor (List ℕ)) (x : Result ℕ Refusal) (left : List ℕ) → SegmentsAnswers w out x left → length out.now ≡ 4096 →
    left_said (λ l. take (2 * first_of l) left) (of_segments.said x) ≡ segments_said (parse_for 4096 w.now)
segments_said_lem w out x left a e =
    let f = rw (a.3, e) at a.2 in
    ap₂ (λ (d : List ℕ) (y : Said). left_said (λ l. take (2 * first_of l) d) y) f.leaves f.says

masks_said_lem : (w : Bor (List ℕ)) (cut out : MutBor (List ℕ)) (x : Result Masks Refusal) (between left : List ℕ) → MatrixAnswers w cut out x between left →
    length cut.now ≡ 4096 → length out.now ≡ 8192 →
    left_said (λ l. take (product_of l) left) (of_masks.said x) ≡ masks_said (parse_masks 4096 8192 w.now)
masks_said_lem w cut out x between left a c e =
    let f = rw (a.3, a.4, c, e) at a.2 in
    ap₂ (λ (d : List ℕ) (y : Said). left_said (λ l. take (product_of l) d) y) f.leaves f.says

rows_said_lem : (a : RowArgs) → lent_by a ≡ stated → (x : Result Rows Refusal) (left : RowsLeft) → BuildAnswers a x left →
    left_said (λ l. take 128 left.ascii ++ take (first_of l) left.wide) (of_rows.said x)
    ≡ rows_said a.targets.now a.conts.now (parse_rows stated a.list.now a.targets.now a.conts.now)
rows_said_lem a e x left b =
    let g = given a x left b in
    let f = subst (λ (l : Lent). Builds x l g.segments g.masks left.distinct left.ascii left.wide left.escape a.targets.now
    a.conts.now (parse_rows l a.list.now a.targets.now a.conts.now)) e g.built in
    ap (λ (y : Said). left_said (λ l. take 128 left.ascii ++ take (first_of l) left.wide) y) f.says
    ∙ ap₂ (λ (c d : List ℕ).
    left_said (λ l. take 128 c ++ take (first_of l) d)
    (of_rows.counted a.targets.now a.conts.now (parse_rows stated a.list.now a.targets.now a.conts.now))) f.narrow f.broad

-- THEOREM: what a call answers by its own contract says what the sheet's definitions say
pub sheet_called : (c : Call) (s : Said) → Answers c s → s ≡ said_by c
sheet_called (classify row state) s (r, x, a, e) = e ∙ ap got_said a.2 ∙ ap (λ (l : List ℕ). got_said (classified state l)) r.1
sheet_called (words row state) s o = then_said WordsSay words_said words_said_lem (λ q. refl) row state s o
sheet_called (scan row state bytes) s o = then_said (ScanSays bytes) (λ g. scanned_by g bytes) (scan_said_lem bytes) (λ q. refl) row state s o
sheet_called (decode list room) s (w, r, x, left, a, e) =
    e ∙ ap codec.said a.2.0 ∙ ap₂ (λ (l : List ℕ) (n : ℕ). codec.said (codec.decode_of l n)) w.1 r.1
sheet_called (transitions list) s (w, x, a, e) = e ∙ a.2 ∙ ap (λ (l : List ℕ). of_list.counted (parse l)) w.1
sheet_called (segments list) s (w, out, x, left, a, e) =
    e ∙ segments_said_lem w.0 out.0 x left a out.1 ∙ ap (λ (l : List ℕ). segments_said (parse_for 4096 l)) w.1
sheet_called (masks list) s (w, cut, out, x, between, left, a, e) =
    e ∙ masks_said_lem w.0 cut.0 out.0 x between left a cut.1 out.1 ∙ ap (λ (l : List ℕ). masks_said (parse_masks 4096 8192 l)) w.1
sheet_called (rows list targets conts) s (a, l, t, c, b, x, left, d, e) =
    e ∙ rows_said_lem a b x left d
    ∙ ap (λ (v : List ℕ). said_by (rows v a.targets.now a.conts.now)) l
    ∙ ap₂ (λ (v u : List ℕ). said_by (rows list v u)) t c

right_called : (xs : List Example) → Right xs → RightCalled xs
right_called [] r = tt
right_called ((call says answer) ∷ xs) (h, r) = ((λ s a. sheet_called call s a ∙ h), right_called xs r)

-- THEOREM: every example of the sheet holds of whatever its call answers by its own contract
pub sheet_right_called : RightCalled sheet
sheet_right_called = right_called sheet sheet_right

-- "256 transitions"
abbrev pub limits : List Example
limits = (transitions (wildcards 256) says ok (256 ∷ 256 ∷ [])) ∷ (transitions (wildcards 257) says no 4 768) ∷ []

pub limits_right_called : RightCalled limits
limits_right_called = right_called limits limits_right
