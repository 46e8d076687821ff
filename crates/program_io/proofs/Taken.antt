-- The laws of reading a table from bytes, by the tests that the code makes. Assumes nothing.
use Prim.Native.Nat.{ℕ, ◌/◌, ◌%◌, ◌<◌, ◌≤◌, min}
use native.Mathlib.Omega.{arith}
use mathlib.Core.Path.{◌≡◌, ◌∙◌}
use mathlib.Core.List.{List}
use borrow.Author.Rules.{rules}
use borrow.Author.Tests.{lt-ltb, le-ltb}
use lib.ListN.{length, take, drop}
use lib.Seq.{take-append_seam}
use Rattle.buffer.specs.Over.{Put, zeros, lay}
use Rattle.buffer.proofs.Overs.{over-front}
use Rattle.refusal.specs.Said.{SHORT, LIMIT}
use Rattle.replay_io.specs.Bytes.{PutWhole}
use Rattle.replay_io.proofs.Putting.{numbers-many}
use Rattle.std.specs.Prelude.{Result}
use Rattle.refusal.specs.declared.Refusal.{Refusal}
use Rattle.room_decode.specs.declared.Decoded.{Decoded}
use Rattle.room_decode.specs.Decode.{decode_of, room_of}
use Rattle.program_io.specs.Bytes.{words_in, refused, read_of, room_read}

-- what was put at the front of a buffer stands there
front : {xs : List ℕ} {n : ℕ} {old new : List ℕ} → Put xs 0 old n new → length xs ≤ length old → take n new ≡ xs
unfolding lay
front {xs} {n} {old} p h =
    let e : n ≡ length xs = omega (arith, p.next) in
    rw (e, p.is, over-front xs old h) (take-append_seam xs (drop (length xs) old))

-- a word has four bytes
size : (bs : List ℕ) → length (words_in bs) ≡ length bs / 4
unfolding words_in
size bs = numbers-many 4 (length bs / 4) bs

module _ (bs : List ℕ) (z : ℕ) where
  pub over_limit : {r : Result Decoded Refusal} → r ≡ refused LIMIT 8192 → 8192 < length bs / 4 → r ≡ read_of bs z
  unfolding read_of
  over_limit e h = e ∙ (rw (size bs, lt-ltb _ _ h))

  pub limit_room : {d : List ℕ} → d ≡ zeros z → 8192 < length bs / 4 → d ≡ room_read bs z
  unfolding room_read
  limit_room e h = e ∙ (rw (size bs, lt-ltb _ _ h))

  pub with_spare : {r : Result Decoded Refusal} → r ≡ refused SHORT (length bs / 4) → length bs / 4 ≤ 8192 → 0 < length bs % 4 → r ≡ read_of bs z
  unfolding read_of
  with_spare e h k = e ∙ (rw (size bs, le-ltb _ _ h, lt-ltb _ _ k))

  pub spare_room : {d : List ℕ} → d ≡ zeros z → length bs / 4 ≤ 8192 → 0 < length bs % 4 → d ≡ room_read bs z
  unfolding room_read
  spare_room e h k = e ∙ (rw (size bs, le-ltb _ _ h, lt-ltb _ _ k))

  -- the words that were put are decoded: all of them, since there is room
  module _ {n : ℕ} {old new : List ℕ} where
    whole_words : PutWhole 4 bs old n new → length bs / 4 ≤ 8192 → length old ≡ 8192 → take n new ≡ words_in bs
    unfolding words_in
    whole_words p h k =
        let e : min (length bs / 4) (length old) ≡ length bs / 4 = omega arith in
        front (rw e at p) (omega (arith, numbers-many 4 (length bs / 4) bs))

    pub all_whole : {r : Result Decoded Refusal} → PutWhole 4 bs old n new → r ≡ decode_of (take n new) z → length bs / 4 ≤ 8192 → length old ≡ 8192 →
        length bs % 4 ≤ 0 → r ≡ read_of bs z
    unfolding read_of
    all_whole p e h k l = let w : take n new ≡ words_in bs = whole_words p h k in e ∙ (rw (w, size bs, le-ltb _ _ h, le-ltb _ _ l))

    pub whole_room : {d : List ℕ} → PutWhole 4 bs old n new → d ≡ room_of (take n new) z → length bs / 4 ≤ 8192 → length old ≡ 8192 →
        length bs % 4 ≤ 0 → d ≡ room_read bs z
    unfolding room_read
    whole_room p e h k l = let w : take n new ≡ words_in bs = whole_words p h k in e ∙ (rw (w, size bs, le-ltb _ _ h, le-ltb _ _ l))

-- what the reading of a table is left with
pub ruleset judging = (rules, over_limit, limit_room, with_spare, spare_room, all_whole, whole_room)
