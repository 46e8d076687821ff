-- What decoding asks before it reads the words. Assumes nothing.
use Rattle.std.specs.Prelude.{ℕ, List, length, ltb}
use Rattle.refusal.specs.Said.{LIMIT, ROOM}
use Rattle.refusal.specs.Lists.{pick}
use Rattle.word_layout.specs.Layout.{Layout, unfound, layout_of}

-- "Decoding: ROOM (table room under 16,384 numbers), LIMIT, then words in order, LEFT"
unfoldable pub laid_out : List ℕ → ℕ → Layout
laid_out w n = pick (ltb n 16384) (unfound ROOM 0) (pick (ltb 8192 (length w)) (unfound LIMIT 8192) (layout_of w))
