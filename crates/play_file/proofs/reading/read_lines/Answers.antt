use Rattle.std.proofs.Common.{Some, None, sym, arith}
use Rattle.play_file.proofs.Walked.{line_taken}
use Rattle.play_file.proofs.reading.read_lines.Goals as goal

pub returns-then-not-branch-clause-fault : goal.returns-then-not-branch-clause-fault
returns-then-not-branch-clause-fault c =
    sym (line_taken c.loop-line.number c.loop-line.draft c.loop-line.rest.now c.in-Some.line.now c.in-Some.after.now None _ c.in-Some.ensures (rw c.if-not-branch.true at c.in_ok-take.ensures) c.loop-line.invariant.whole)

pub loop-line-preserved : goal.loop-line-preserved
loop-line-preserved c = record {
  whole = line_taken c.loop-line.number c.loop-line.draft c.loop-line.rest.now c.in-Some.line.now c.in-Some.after.now (Some c.take.new.self) _ c.in-Some.ensures (rw c.if-not-branch.false at c.in_ok-take.ensures) c.loop-line.invariant.whole;
  counted = omega (arith, c.in-Some.ensures.shorter);
}
