-- What `answer` puts, by its own contract, tied to tables: the line tells what decoding says of the words, and that is what the demands say of them.
-- Assumes nothing.
use Prim.Native.Nat.{ℕ, zero, suc, ◌+◌, ◌*◌, ◌%◌, ◌^◌, ◌≤◌, ◌<◌}
use native.Mathlib.Nat.{pow-suc}
use native.Mathlib.Omega.{arith}
use mathlib.Core.Path.{◌≡◌, refl, sym, ap, subst, ◌∙◌}
use mathlib.Core.Bool.{Bool, true, false}
use mathlib.Core.List.{List}
use lib.Dec.{ltb}
use lib.ListN.{length, get_or, take, drop, get_or-eq_default}
use lib.Seq.{get_or-drop}
use borrow.Author.Tests.{lt-ltb, le-ltb, ltb-true, ltb-false}
use contract.Lifetimes.{Lfts}
use Rattle.std.specs.Borrow.{Bor}
use Rattle.refusal.specs.Said.{no, SHORT, LIMIT}
use Rattle.room_decode.specs.Decode.{said, decoded_from, decode_of}
use Rattle.word_layout.specs.Limits.{laid_out}
use Rattle.replay_io.specs.Bytes.{number, numbers}
use Rattle.program_io.specs.Bytes.{words_in, read_of}
use Rattle.law_tables.specs.Whole.{Fit}
use Rattle.lexer_dfa.specs.ListsRefused.{Bytes}
use Rattle.lexer_dfa.proofs.Decoding.{says_accepted_exactly, says_refused}
use Rattle.tableread.specs.Line.{line_of}
use Rattle.tableread.specs.Told.{values, Printable, Told}
use Rattle.tableread.proofs.Back.{line_one}
use Rattle.tableread.proofs.Small.{said_small}
use Rattle.tableread.proofs.answer.Reads as answer

-- Bytes give words of 32 bits

-- past the end every byte is 0
abbrev Octets : List ℕ → Type 0
Octets s = (i : ℕ) → get_or s i 0 < 256

octets : (bs : List ℕ) → Bytes bs → Octets bs
octets bs h i = go (ltb i (length bs)) refl
  where
    go : (b : Bool) → ltb i (length bs) ≡ b → get_or bs i 0 < 256
    go true e = h i (ltb-true i (length bs) e)
    go false e = omega (arith, get_or-eq_default bs 0 (ltb-false i (length bs) e))

behind : (n : ℕ) (s : List ℕ) → Octets s → Octets (drop n s)
behind n s o i = omega (arith, get_or-drop n s i 0, o (n + i))

number_small : (k : ℕ) (s : List ℕ) → Octets s → number k s < 256 ^ k
unfolding number
number_small zero s o = omega arith
number_small (suc k) s o =
    let p : 256 ^ suc k ≡ 256 ^ k * 256 = pow-suc 256 k in
    omega (arith, o 0, number_small k (drop 1 s) (behind 1 s o))

numbers_small : (n : ℕ) (s : List ℕ) → Octets s → (i : ℕ) → get_or (numbers 4 n s) i 0 < 4294967296
unfolding numbers
numbers_small zero s o i = omega arith
numbers_small (suc n) s o zero = number_small 4 s o
numbers_small (suc n) s o (suc i) = numbers_small n (drop 4 s) (behind 4 s o) i

pub bytes_fit : (bs : List ℕ) → Bytes bs → Fit (words_in bs)
unfolding words_in
bytes_fit bs h i l = numbers_small _ bs (octets bs h) i

-- What is said of bytes

module _ (bs : List ℕ) where
  -- of whole words, what decoding says of them: of too many, each of the two says LIMIT
  whole_said : length bs % 4 ≡ 0 → said (read_of bs 16384) ≡ said (decode_of (words_in bs) 16384)
  unfolding read_of laid_out decoded_from
  whole_said h = go (ltb 8192 (length (words_in bs))) refl
    where
      none : ltb 0 (length bs % 4) ≡ false
      none = le-ltb 0 (length bs % 4) (omega arith)

      go : (b : Bool) → ltb 8192 (length (words_in bs)) ≡ b → said (read_of bs 16384) ≡ said (decode_of (words_in bs) 16384)
      go true e = rw e
      go false e = rw (e, none)

  spare_said : 0 < length bs % 4 → length (words_in bs) ≤ 8192 → said (read_of bs 16384) ≡ no SHORT (length (words_in bs))
  unfolding read_of
  spare_said h l = rw (le-ltb 8192 (length (words_in bs)) l, lt-ltb 0 (length bs % 4) h)

  long_said : 8192 < length (words_in bs) → said (read_of bs 16384) ≡ no LIMIT 8192
  unfolding read_of
  long_said l = rw (lt-ltb 8192 (length (words_in bs)) l)

-- The call, by its own contract

-- answer may give a line with this text
abbrev AnswerPuts : (input : Bor (List ℕ)) → List ℕ → Type 0
AnswerPuts input text = (κs : Lfts 1) × (line : _) × (e : _) × answer.Learnt κs (input, tt) line e × (take line.at line.bytes ≡ text)

module _ (input : Bor (List ℕ)) (text : List ℕ) (a : AnswerPuts input text) where
  is_line : text ≡ line_of (said (read_of input.now 16384))
  is_line = sym a.4 ∙ a.3

  -- the line of whole words
  pub answer_tells : Bytes input.now → length input.now % 4 ≡ 0 → Told (words_in input.now) text
  answer_tells h o =
      let w = words_in input.now in
      let f = bytes_fit input.now h in
      let e : text ≡ line_of (said (decode_of w 16384)) = is_line ∙ ap line_of (whole_said input.now o) in
      let s = said_small w f 16384 (omega arith) in
      record {
        says = said (decode_of w 16384);
        shown = λ x. (λ p. subst (λ y. Printable (values y) × (text ≡ line_of y)) p (s, e), λ q. line_one _ x s q.0 (sym e ∙ q.1));
        accepts = says_accepted_exactly w 16384 f (omega arith);
        refuses = says_refused w 16384 f;
      }

  -- "1 to 3 spare bytes are SHORT at the whole words, after LIMIT and before decoding"
  pub answer_spare : 0 < length input.now % 4 → length (words_in input.now) ≤ 8192 → text ≡ line_of (no SHORT (length (words_in input.now)))
  answer_spare h l = is_line ∙ ap line_of (spare_said input.now h l)

  pub answer_long : 8192 < length (words_in input.now) → text ≡ line_of (no LIMIT 8192)
  answer_long l = is_line ∙ ap line_of (long_said input.now l)
