-- What encoding answers, and what it leaves in the output: document 01, "Encoding .. NOT-TABLE exactly when the room isn't what decoding
-- leaves for some accepted words; encoding gives ROOM next, when the output is shorter than needed". Assumes nothing.
use Rattle.std.specs.Prelude.{ℕ, List, length, ltb}
use Rattle.refusal.specs.Said.{NOT-TABLE, ROOM}
use Rattle.refusal.specs.Lists.{pick}
use Rattle.buffer.specs.Written.{refused}
use Rattle.buffer.specs.Over.{zeros, padded}
use Rattle.room_judge.specs.Judge.{words_part, is_table}
use Rattle.std.specs.Prelude.{Result, Ok}
use Rattle.refusal.specs.declared.Refusal.{Refusal}

-- a room d is encoded into n numbers
unfoldable pub encode_of : List ℕ → ℕ → Result ℕ Refusal
encode_of d n = pick (is_table d) (pick (ltb n (length (words_part d))) (refused ROOM 0) (Ok (length (words_part d)))) (refused NOT-TABLE 0)

-- "Refused: all outputs zero. Accepted: outputs past the answer's length zero."
unfoldable pub out_of : List ℕ → ℕ → List ℕ
out_of d n = pick (is_table d) (pick (ltb n (length (words_part d))) (zeros n) (padded n (words_part d))) (zeros n)
