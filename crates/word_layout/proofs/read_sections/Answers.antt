-- Each section is read behind the one before it, or the first that is not is refused.
use mathlib.Core.Path.{◌≡◌, refl, ◌∙◌}
use borrow.Author.Rules.{rules}
use Rattle.std.specs.Prelude.{Ok, Err}
use Rattle.word_reader.specs.Records.{mode_at, state_at, run_at, ascii_at, wide_at, accept_at, escape_at, continuation_at}
use Rattle.word_reader.specs.Parse.{section}
use Rattle.word_layout.proofs.Chain.{on, off, past, shut, sections}
use Rattle.word_layout.proofs.read_sections.Goals as goal

pub returns-in_err-states : goal.returns-in_err-states
returns-in_err-states c =
    let w = c.args.words.now in
    let q : c.from_residual.result ≡ Err c.in_err-states.field-0.0 = search rules in
    q ∙ shut w (past (section continuation_at w) (past (section escape_at w) (past (section accept_at w) (past (section wide_at w) (past (section ascii_at w) (past (section run_at w) (past (section state_at w) (off w mode_at (refl {a = Ok 1}) c.in_err-states.ensures))))))))

pub returns-in_err-runs : goal.returns-in_err-runs
returns-in_err-runs c =
    let w = c.args.words.now in
    let h1 = on w mode_at (refl {a = Ok 1}) c.in_ok-states.ensures in
    let q : c.from_residual-in_err-runs.result ≡ Err c.in_err-runs.field-0.0 = search rules in
    q ∙ shut w (past (section continuation_at w) (past (section escape_at w) (past (section accept_at w) (past (section wide_at w) (past (section ascii_at w) (past (section run_at w) (off w state_at h1 c.in_err-runs.ensures)))))))

pub returns-in_err-ascii : goal.returns-in_err-ascii
returns-in_err-ascii c =
    let w = c.args.words.now in
    let h1 = on w mode_at (refl {a = Ok 1}) c.in_ok-states.ensures in
    let h2 = on w state_at h1 c.in_ok-runs.ensures in
    let q : c.from_residual-in_err-ascii.result ≡ Err c.in_err-ascii.field-0.0 = search rules in
    q ∙ shut w (past (section continuation_at w) (past (section escape_at w) (past (section accept_at w) (past (section wide_at w) (past (section ascii_at w) (off w run_at h2 c.in_err-ascii.ensures))))))

pub returns-in_err-wide : goal.returns-in_err-wide
returns-in_err-wide c =
    let w = c.args.words.now in
    let h1 = on w mode_at (refl {a = Ok 1}) c.in_ok-states.ensures in
    let h2 = on w state_at h1 c.in_ok-runs.ensures in
    let h3 = on w run_at h2 c.in_ok-ascii.ensures in
    let q : c.from_residual-in_err-wide.result ≡ Err c.in_err-wide.field-0.0 = search rules in
    q ∙ shut w (past (section continuation_at w) (past (section escape_at w) (past (section accept_at w) (past (section wide_at w) (off w ascii_at h3 c.in_err-wide.ensures)))))

pub returns-in_err-accepts : goal.returns-in_err-accepts
returns-in_err-accepts c =
    let w = c.args.words.now in
    let h1 = on w mode_at (refl {a = Ok 1}) c.in_ok-states.ensures in
    let h2 = on w state_at h1 c.in_ok-runs.ensures in
    let h3 = on w run_at h2 c.in_ok-ascii.ensures in
    let h4 = on w ascii_at h3 c.in_ok-wide.ensures in
    let q : c.from_residual-in_err-accepts.result ≡ Err c.in_err-accepts.field-0.0 = search rules in
    q ∙ shut w (past (section continuation_at w) (past (section escape_at w) (past (section accept_at w) (off w wide_at h4 c.in_err-accepts.ensures))))

pub returns-in_err-escapes : goal.returns-in_err-escapes
returns-in_err-escapes c =
    let w = c.args.words.now in
    let h1 = on w mode_at (refl {a = Ok 1}) c.in_ok-states.ensures in
    let h2 = on w state_at h1 c.in_ok-runs.ensures in
    let h3 = on w run_at h2 c.in_ok-ascii.ensures in
    let h4 = on w ascii_at h3 c.in_ok-wide.ensures in
    let h5 = on w wide_at h4 c.in_ok-accepts.ensures in
    let q : c.from_residual-in_err-escapes.result ≡ Err c.in_err-escapes.field-0.0 = search rules in
    q ∙ shut w (past (section continuation_at w) (past (section escape_at w) (off w accept_at h5 c.in_err-escapes.ensures)))

pub returns-in_err-continuations : goal.returns-in_err-continuations
returns-in_err-continuations c =
    let w = c.args.words.now in
    let h1 = on w mode_at (refl {a = Ok 1}) c.in_ok-states.ensures in
    let h2 = on w state_at h1 c.in_ok-runs.ensures in
    let h3 = on w run_at h2 c.in_ok-ascii.ensures in
    let h4 = on w ascii_at h3 c.in_ok-wide.ensures in
    let h5 = on w wide_at h4 c.in_ok-accepts.ensures in
    let h6 = on w accept_at h5 c.in_ok-escapes.ensures in
    let q : c.from_residual-in_err-continuations.result ≡ Err c.in_err-continuations.field-0.0 = search rules in
    q ∙ shut w (past (section continuation_at w) (off w escape_at h6 c.in_err-continuations.ensures))

pub returns-in_err-end : goal.returns-in_err-end
returns-in_err-end c =
    let w = c.args.words.now in
    let h1 = on w mode_at (refl {a = Ok 1}) c.in_ok-states.ensures in
    let h2 = on w state_at h1 c.in_ok-runs.ensures in
    let h3 = on w run_at h2 c.in_ok-ascii.ensures in
    let h4 = on w ascii_at h3 c.in_ok-wide.ensures in
    let h5 = on w wide_at h4 c.in_ok-accepts.ensures in
    let h6 = on w accept_at h5 c.in_ok-escapes.ensures in
    let h7 = on w escape_at h6 c.in_ok-continuations.ensures in
    let q : c.from_residual-in_err-end.result ≡ Err c.in_err-end.field-0.0 = search rules in
    q ∙ shut w (off w continuation_at h7 c.in_err-end.ensures)

pub returns-then-end-words : goal.returns-then-end-words
returns-then-end-words c =
    let w = c.args.words.now in
    let h1 = on w mode_at (refl {a = Ok 1}) c.in_ok-states.ensures in
    let h2 = on w state_at h1 c.in_ok-runs.ensures in
    let h3 = on w run_at h2 c.in_ok-ascii.ensures in
    let h4 = on w ascii_at h3 c.in_ok-wide.ensures in
    let h5 = on w wide_at h4 c.in_ok-accepts.ensures in
    let h6 = on w accept_at h5 c.in_ok-escapes.ensures in
    let h7 = on w escape_at h6 c.in_ok-continuations.ensures in
    let h8 = on w continuation_at h7 c.in_ok-end.ensures in
    search sections

pub returns : goal.returns
returns c =
    let w = c.args.words.now in
    let h1 = on w mode_at (refl {a = Ok 1}) c.in_ok-states.ensures in
    let h2 = on w state_at h1 c.in_ok-runs.ensures in
    let h3 = on w run_at h2 c.in_ok-ascii.ensures in
    let h4 = on w ascii_at h3 c.in_ok-wide.ensures in
    let h5 = on w wide_at h4 c.in_ok-accepts.ensures in
    let h6 = on w accept_at h5 c.in_ok-escapes.ensures in
    let h7 = on w escape_at h6 c.in_ok-continuations.ensures in
    let h8 = on w continuation_at h7 c.in_ok-end.ensures in
    search sections
