use Rattle.std.proofs.Common.{rules, [], ◌∷◌, refl}
use Rattle.std.specs.Prelude.{OnErr}
use Rattle.bench_outside.specs.Sink.{Appended, AppendedPart}
use Rattle.bench_outside.specs.PieceSteps.{writes_nothing, writes_one, breaks_one, breaks_behind}
use Rattle.bench_top.proofs.Spaced.{on_err, at_err}
use Rattle.bench_top.proofs.reporting.write_word.Goals as goal

pub returns-in_err-write-clause-part : goal.returns-in_err-write-clause-part
returns-in_err-write-clause-part g c =
    let word = c.args.word.now in
    let end = c.args.end ∷ [] in
    let part : AppendedPart (g.R.Sink.written c.args.report.now) (g.R.Sink.written c.write.new.self) word = search rules in
    at_err c.from_residual.result (breaks_behind g.R.Sink c.args.report.now c.args.report.now c.write.new.self [] (word ∷ []) (end ∷ []) _
    (writes_nothing g.R.Sink c.args.report.now) (breaks_one g.R.Sink c.args.report.now c.write.new.self word part c.write.ensures.made)
    refl)

pub returns-clause-part : goal.returns-clause-part
returns-clause-part g c =
    let word = c.args.word.now in
    let end = c.args.end ∷ [] in
    let wrote : Appended (g.R.Sink.written c.args.report.now) (g.R.Sink.written c.write.new.self) word = search rules in
    let part : OnErr c.write-2.result (AppendedPart (g.R.Sink.written c.write.new.self) (g.R.Sink.written c.write-2.new.self) end) = search
    rules in
    on_err c.write-2.result (λ broke. breaks_behind g.R.Sink c.args.report.now c.write.new.self c.write-2.new.self (word ∷ []) (end ∷ []) []
    _
    (writes_one g.R.Sink c.args.report.now c.write.new.self word wrote c.write.ensures.made)
    (breaks_one g.R.Sink c.write.new.self c.write-2.new.self end broke c.write-2.ensures.made) refl) part
