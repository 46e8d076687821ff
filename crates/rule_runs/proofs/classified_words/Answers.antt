-- A row has 128 targets, so that it is classified.
use Rattle.std.proofs.Common.{refl}
use Rattle.rule_words.specs.Rules.{classified_words}
use Rattle.rule_runs.proofs.Rows.{is_run}
use Rattle.rule_runs.proofs.classified_words.Goals as goal

pub unwrap-requires : goal.unwrap-requires
unwrap-requires c =
    let e = is_run c.args.words.now c.args.ascii_rows c.args.index c.args.state c.row_of-row.ensures c.classify.ensures in
    rw e refl

pub returns : goal.returns
unfolding classified_words
returns c =
    let e = is_run c.args.words.now c.args.ascii_rows c.args.index c.args.state c.row_of-row.ensures c.classify.ensures in
    cc
