use Rattle.std.proofs.Common.{rules}
use Rattle.log_specs.specs.Line.{line_text}
use Rattle.log_lines.specs.Lines.{line_of}
use Rattle.bench_outside.specs.Sink.{AppendedPart}
use Rattle.bench_outside.specs.PieceSteps.{breaks_one}
use Rattle.log_writing.proofs.writing.write_line.Goals as goal

pub returns-in_err-write-clause-written : goal.returns-in_err-write-clause-written
returns-in_err-write-clause-written g c =
    let text = line_text (line_of c.args.line.now) in
    let part : AppendedPart (g.O.Sink.written c.args.out.now) (g.O.Sink.written c.write.new.self) text = search rules in
    record {
      log = search rules;
      part = λ unwritten. breaks_one g.O.Sink c.args.out.now c.write.new.self text part c.write.ensures.made;
      stopped = search rules;
      unwritten = search rules;
      memory = search rules;
      kept = search rules;
      later = search rules;
    }
