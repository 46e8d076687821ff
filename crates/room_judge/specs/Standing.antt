-- How a room is compared, number by number, with what decoding writes. Below, d is the room, w its words, and s the places
-- of the counts of their sections. Assumes nothing.
use Rattle.std.specs.Prelude.{ℕ, ◌+◌, List, [], ◌∷◌, Bool, false, ◌&&◌, Option, Some, None, length, get_or, drop, map, is_some, eqb, ltb}
use Rattle.refusal.specs.Lists.{pick, every}
use Rattle.refusal.specs.Header.{MODES-START, HEADER-NUMBERS}
use Rattle.word_reader.specs.declared.Sections.{Sections}
use Rattle.word_reader.specs.Records.{accept_at, continuation_at}
use Rattle.rule_words.specs.Rules.{every_in, broken}
use Rattle.rule_words.specs.Flags.{accept_plain, continuation_plain}
use Rattle.room_fill.specs.Room.{in_room, eight, places}

-- Numbers that stand in a room

-- x is the number at n
unfoldable pub stands_at : ℕ → ℕ → List ℕ → Bool
stands_at x n d = ltb n (length d) && eqb (get_or d n 0) x

-- a list stands from n on: the place behind it
unfoldable pub standing : List ℕ → ℕ → List ℕ → Option ℕ
standing [] n d = Some n
standing (x ∷ xs) n d = pick (stands_at x n d) (standing xs (n + 1) d) None

-- only zeros stand from n on
unfoldable pub empty_from : ℕ → List ℕ → Bool
empty_from n d = every (λ x. eqb x 0) (drop n d)

-- and behind a list
unfoldable pub empty_behind : Option ℕ → List ℕ → Bool
empty_behind (Some p) d = empty_from p d
empty_behind None d = false

-- The places of the sections' counts: in the room, the words stand behind the header

unfoldable pub eight_stand : Sections → List ℕ → Bool
eight_stand s d = is_some (standing (map in_room (eight s)) MODES-START d)

-- Flags that are 0 or 1

unfoldable pub flags_plain : List ℕ → ℕ → ℕ → Bool
flags_plain w x c = every_in accept_at (accept_plain w) w x && every_in continuation_at (continuation_plain w) w c

-- All of it

unfoldable pub filled : List ℕ → Sections → List ℕ → Bool
filled w s d = eight_stand s d && (flags_plain w s.accepts s.continuations && empty_behind (standing (places w s) (length w + HEADER-NUMBERS) d) d)

-- and no index rule is broken
unfoldable pub sound : List ℕ → Sections → List ℕ → Bool
sound w s d = eqb (broken w s) 0 && filled w s d
