-- The numbers that document 01 fixes.
use Rattle.std.specs.Prelude.{ℕ}

-- "NONE below is 4294967295"
abbrev pub NONE : ℕ
NONE = 4294967295

-- "`ESCAPE_STATE` 65534, `DEAD_STATE` 65535"
abbrev pub ESCAPE-STATE : ℕ
ESCAPE-STATE = 65534

abbrev pub DEAD-STATE : ℕ
DEAD-STATE = 65535

-- "`SERIALIZED_TAG` 0x4C440001"
abbrev pub tag : ℕ
tag = 0x4C440001
