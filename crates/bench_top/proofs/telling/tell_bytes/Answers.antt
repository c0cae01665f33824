use Rattle.std.proofs.Common.{◌≡◌, ◌⊎◌, ◌∷◌, [], ap, sym, subst, ◌∙◌}
use Rattle.std.specs.Prelude.{Err}
use Rattle.module_specs.specs.ModuleReading.{module_read}
use Rattle.bench_outside.specs.Pieces.{BreaksOff, WritesAll}
use Rattle.bench_outside.specs.PieceSteps.{breaks_one}
use Rattle.bench_top.specs.Deed.{IsFault}
use Rattle.bench_top.specs.Telling.{read_lines}
use Rattle.bench_top.proofs.Modules.{one_line}
use Rattle.bench_top.proofs.Unaccepted.{untold, whole}
use Rattle.bench_top.proofs.telling.tell_bytes.Goals as goal

pub returns-clause-broken : goal.returns-clause-broken
returns-clause-broken g c unwritten =
    let piece = c.deref.result.now in
    let same : piece ∷ [] ≡ read_lines (module_read c.args.bytes.now) =
    ap (λ l. l ∷ []) c.deref.ensures.value ∙ one_line c.in-Ok.line.items (module_read c.args.bytes.now) c.in-Ok.ensures.line in
    subst (λ lines. BreaksOff g.O.Sink c.args.out.now c.write.new.self lines) same
    (breaks_one g.O.Sink c.args.out.now c.write.new.self piece c.in-Err-write.ensures.part c.write.ensures.made)

pub returns-in-Err-clause-whole : goal.returns-in-Err-clause-whole
returns-in-Err-clause-whole g c =
    let read = module_read c.args.bytes.now in
    let silent = untold read c.in-Err.error
    (λ e is. c.module_report.ensures.fault e (c.in-Err.is ∙ ap (λ x. Err x) is))
    (λ rule place at is. c.module_report.ensures.invalid rule place at (c.in-Err.is ∙ ap (λ x. Err x) is)) in
    subst (λ s. IsFault s ⊎ WritesAll g.O.Sink c.args.out.now c.args.out.now (read_lines read)) (sym c.unaccepted.ensures.status)
    (whole g.O.Sink c.args.out.now _ (read_lines read) silent)
