use Rattle.std.proofs.Common.{◌≡◌, take, map}
use Rattle.log_specs.specs.Line.{line_text}
use Rattle.log_lines.specs.Lines.{line_of}
use Rattle.bench_outside.specs.Pieces.{WritesAll}
use Rattle.log_writing.proofs.writing.write_lines.Given as goal

-- The lines so far are written.
abbrev pub invariant-loop-line : goal.invariant-loop-line
invariant-loop-line g l = record {
  log : WritesAll g.O.Sink l.fn.out l.out (map (λ x. line_text (line_of x)) (take l.line-index l.lines));
  kept : g.O.Sink.faults l.out ≡ g.O.Sink.faults l.fn.out;
}
