use Rattle.std.proofs.Common.{◌≡◌, ◌⊎◌, ◌∷◌, [], ℕ, List, ap, sym, subst, ◌∙◌}
use Rattle.std.specs.Prelude.{Err}
use Rattle.module_specs.specs.ModuleReading.{module_read}
use Rattle.call_specs.specs.CallWords.{CallWords}
use Rattle.bench_outside.specs.Pieces.{BreaksOff, WritesAll}
use Rattle.bench_outside.specs.PieceSteps.{breaks_one}
use Rattle.bench_top.specs.Words.{meant_call}
use Rattle.bench_top.specs.Deed.{IsFault}
use Rattle.bench_top.specs.Calling.{call_lines, uncalled_status}
use Rattle.bench_top.proofs.Modules.{one_call}
use Rattle.bench_top.proofs.Unaccepted.{uncalled, whole}
use Rattle.bench_top.proofs.calling.call_in.Goals as goal

pub returns-clause-broken : goal.returns-clause-broken
returns-clause-broken g c unwritten =
    let piece = c.deref-2.result.now in
    let words = meant_call c.args.words.now in
    let given : CallWords = record words { name = c.as_bytes-name.result.now; arguments = c.deref.result.now } in
    let as_meant : given ≡ words =
    ap (λ (name : List ℕ). record words { name = name; arguments = c.deref.result.now }) c.as_bytes-name.ensures.value
    ∙ ap (λ (arguments : List ℕ). record words { arguments = arguments }) c.deref.ensures.value in
    let same : piece ∷ [] ≡ call_lines words (module_read c.args.bytes.now) =
    ap (λ l. l ∷ []) c.deref-2.ensures.value ∙ one_call given c.in-Ok.line.items (module_read c.args.bytes.now) c.in-Ok.ensures.line
    ∙ ap (λ (w : CallWords). call_lines w (module_read c.args.bytes.now)) as_meant in
    subst (λ lines. BreaksOff g.O.Sink c.args.out.now c.write.new.self lines) same
    (breaks_one g.O.Sink c.args.out.now c.write.new.self piece c.in-Err-write.ensures.part c.write.ensures.made)

pub returns-in-Err-clause-whole : goal.returns-in-Err-clause-whole
returns-in-Err-clause-whole g c =
    let read = module_read c.args.bytes.now in
    let words = meant_call c.args.words.now in
    let given : CallWords = record words { name = c.as_bytes-name.result.now; arguments = c.deref.result.now } in
    let as_meant : given ≡ words =
    ap (λ (name : List ℕ). record words { name = name; arguments = c.deref.result.now }) c.as_bytes-name.ensures.value
    ∙ ap (λ (arguments : List ℕ). record words { arguments = arguments }) c.deref.ensures.value in
    let silent = uncalled given read c.in-Err.error
    (λ e is. c.call_report.ensures.fault e (c.in-Err.is ∙ ap (λ x. Err x) is))
    (λ rule place at is. c.call_report.ensures.invalid rule place at (c.in-Err.is ∙ ap (λ x. Err x) is))
    (λ fault is. c.call_report.ensures.refused fault (c.in-Err.is ∙ ap (λ x. Err x) is)) in
    subst (λ s. IsFault s ⊎ WritesAll g.O.Sink c.args.out.now c.args.out.now (call_lines words read)) (sym c.uncalled.ensures.status)
    (subst (λ (w : CallWords). IsFault (uncalled_status c.in-Err.error) ⊎ WritesAll g.O.Sink c.args.out.now c.args.out.now
    (call_lines w read)) as_meant
    (whole g.O.Sink c.args.out.now _ (call_lines given read) silent))
