use Rattle.std.proofs.Common.{drop, sym}
use Rattle.std.proofs.lemmas.List.{take-append-drop}
use Rattle.bench_outside.proofs.mem_sink.kept_part.Goals as goal

pub returns-in-Some-clause-prefix : goal.returns-in-Some-clause-prefix
returns-in-Some-clause-prefix c =
    let n = c.min.result in
    let bytes = c.args.bytes.now in
    (drop n bytes, sym (take-append-drop n bytes))
