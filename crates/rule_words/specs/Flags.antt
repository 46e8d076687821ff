-- Flags that are 0 or 1, as decoding leaves them: those of accepts, of configs and of continuations. Assumes nothing.
use Rattle.std.specs.Prelude.{ℕ, ◌+◌, ◌*◌, List, Bool, ◌&&◌, get_or, leb}
use Rattle.word_reader.specs.Records.{config_at}
use Rattle.rule_words.specs.Rules.{every_in}

unfoldable pub plain : ℕ → Bool
plain x = leb x 1

unfoldable pub accept_plain : List ℕ → ℕ → Bool
accept_plain w s = plain (get_or w (s + 1) 0)

unfoldable pub config_plain : List ℕ → ℕ → Bool
config_plain w s = plain (get_or w (s + 2) 0) && plain (get_or w (s + 3) 0)

unfoldable pub continuation_plain : List ℕ → ℕ → Bool
continuation_plain w s = every_in config_at (config_plain w) w (s + (get_or w s 0 * 3 + 1))
