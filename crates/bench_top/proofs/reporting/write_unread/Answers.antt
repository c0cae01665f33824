use Rattle.std.proofs.Common.{rules, ◌≡◌, List, ℕ, [], ◌∷◌, codes, decimal, sym, subst}
use Rattle.std.specs.Prelude.{OnOk}
use Rattle.bench_outside.specs.Pieces.{WritesAll}
use Rattle.bench_outside.specs.declared.refusal.FileId.{FileId}
use Rattle.bench_top.specs.Report.{line_pieces, unread_pieces}
use Rattle.bench_top.proofs.reporting.write_unread.Goals as goal

pub returns-in-Description-clause-line : goal.returns-in-Description-clause-line
returns-in-Description-clause-line g c =
    let number : c.as_bytes-number.result.now ≡ decimal c.in-Description.number = search rules in
    let line = subst (λ (text : List ℕ). OnOk c.write_line-in-Description.result
    (WritesAll g.R.Sink c.args.report.now c.write_line-in-Description.new.report
    (line_pieces (codes "unread" ∷ codes "description" ∷ []) text)))
    number c.write_line-in-Description.ensures.line in
    subst (λ (file : FileId). OnOk c.write_line-in-Description.result
    (WritesAll g.R.Sink c.args.report.now c.write_line-in-Description.new.report (unread_pieces file)))
    (sym c.in-Description.is) line
