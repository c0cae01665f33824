use Rattle.std.proofs.Common.{◌≡◌, [], ◌∷◌, take, refl, subst, take_all}
use Rattle.bench_outside.specs.Pieces.{WritesAll}
use Rattle.bench_outside.specs.PieceSteps.{breaks_behind}
use Rattle.bench_top.proofs.Spaced.{spaced, split-spaced, on_err, at_err}
use Rattle.bench_top.proofs.reporting.write_line.Goals as goal

pub returns-in_err-write_word-clause-part : goal.returns-in_err-write_word-clause-part
returns-in_err-write_word-clause-part g c =
    let words = c.args.words.now in
    let i = c.loop-word.word-index in
    let end = c.args.last.now ∷ (10 ∷ []) ∷ [] in
    at_err c.from_residual.result (breaks_behind g.R.Sink c.args.report.now c.loop-word.report c.write_word.new.report
    _ _ _ _ c.loop-word.invariant.line c.in_err-write_word.ensures.part (split-spaced (λ w. w.now) words i _ end c.loop-word-test.true))

pub returns-clause-part : goal.returns-clause-part
returns-clause-part g c =
    let words = c.args.words.now in
    let i = c.loop-word.word-index in
    let all : take i words ≡ words = take_all i words c.loop-word-test.false in
    let whole : WritesAll g.R.Sink c.args.report.now c.loop-word.report (spaced (λ w. w.now) words) =
    subst (λ ws. WritesAll g.R.Sink c.args.report.now c.loop-word.report (spaced (λ w. w.now) ws)) all c.loop-word.invariant.line in
    on_err c.write_word-2.result (λ broke. breaks_behind g.R.Sink c.args.report.now c.loop-word.report c.write_word-2.new.report
    _ _ [] _ whole broke refl) c.write_word-2.ensures.part
