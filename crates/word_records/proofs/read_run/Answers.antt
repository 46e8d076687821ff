-- Where the run ends is a number of the machine.
use Rattle.std.proofs.Common.{rules, ◌≡◌, ◌*◌, ◌^◌, ◌<◌, length, Ok}
use Rattle.word_records.proofs.Runs.{end_fits}
use Rattle.word_records.proofs.read_run.Goals as goal

pub overflow_add-result : goal.overflow_add-result
overflow_add-result c =
    let short : length c.args.words.now * 4 < 2 ^ 63 = search rules in
    let ran : c.read_serialized.result ≡ Ok c.in_ok-run.run' = search rules in
    end_fits c.args.words.now c.args.at _ c.in_ok-run.run' c.read_serialized.ensures ran c.serialized_words.ensures short
