use Rattle.std.proofs.Common.{rules, ◌≡◌, ◌∷◌, ◌++◌, [], map, ap, refl, ◌∙◌}
use Rattle.log_specs.specs.Line.{line_text, End}
use Rattle.log_lines.specs.Lines.{line_of}
use Rattle.log_writing.specs.Endings.{code_of}
use Rattle.log_writing.proofs.Writes.{texts-of, broke-behind, stopped-behind, stopped-at, written-behind}
use Rattle.world_specs.specs.Plan.{units_of}
use Rattle.world_specs.specs.Network.{close_lines}
use Rattle.bench_outside.specs.Pieces.{WritesAll, BreaksOff, StopsBefore}
use Rattle.bench_outside.specs.PieceSteps.{writes_nothing}
use Rattle.world_run.proofs.running.close_with.Goals as goal

pub returns-in_err-lines-clause-written : goal.returns-in_err-lines-clause-written
returns-in_err-lines-clause-written g c = record {
  log = search rules;
  part = search rules;
  stopped = λ memory. stopped-at g.O.Sink line_text c.args.out.now c.args.out.now [] _ _ refl (writes_nothing g.O.Sink c.args.out.now);
  unwritten = search rules;
  memory = search rules;
  kept = search rules;
  later = search rules;
}

pub returns-in_err-write_lines-clause-written : goal.returns-in_err-write_lines-clause-written
returns-in_err-write_lines-clause-written g c =
    let closing = close_lines (units_of g.E.Ecu.answer g.E.Ecu.phase_of c.args.world.plan) c.args.world.network in
    let lines : map line_of c.as_slice.result.now ≡ closing = c.as_slice.ensures ∙ c.in_ok-lines.ensures.lines in
    let texts = texts-of line_text line_of c.as_slice.result.now ∙ ap (map line_text) lines in
    record {
      log = search rules;
      part = λ unwritten.
          let broke : BreaksOff g.O.Sink c.args.out.now c.write_lines.new.out (map (λ l. line_text (line_of l)) c.as_slice.result.now) = search (rules, unwritten) in
          broke-behind g.O.Sink line_text c.args.out.now c.args.out.now c.write_lines.new.out [] closing _ _ refl (writes_nothing g.O.Sink c.args.out.now) (rw (← texts) broke);
      stopped = λ memory.
          let stopped : StopsBefore g.O.Sink c.args.out.now c.write_lines.new.out (map (λ l. line_text (line_of l)) c.as_slice.result.now) = search (rules, memory) in
          stopped-behind g.O.Sink line_text c.args.out.now c.args.out.now c.write_lines.new.out [] closing _ _ refl (writes_nothing g.O.Sink c.args.out.now) (rw (← texts) stopped);
      unwritten = search rules;
      memory = search rules;
      kept = search rules;
      later = search rules;
    }

pub returns-clause-written : goal.returns-clause-written
returns-clause-written g c =
    let closing = close_lines (units_of g.E.Ecu.answer g.E.Ecu.phase_of c.args.world.plan) c.args.world.network in
    let lines : map line_of c.as_slice.result.now ≡ closing = c.as_slice.ensures ∙ c.in_ok-lines.ensures.lines in
    let texts = texts-of line_text line_of c.as_slice.result.now ∙ ap (map line_text) lines in
    let wrote : WritesAll g.O.Sink c.args.out.now c.write_lines.new.out (map line_text closing) = rw (← texts) c.in_ok-write_lines.ensures.written.log in
    let whole = ap (λ e. closing ++ End (code_of c.args.ending) e ∷ []) c.events-events.ensures in
    written-behind g.O.Sink line_text c.args.out.now c.write_lines.new.out c.write_end.new.out closing (End (code_of c.args.ending) c.events-events.result ∷ []) _ c.write_end.result
    whole wrote c.in_ok-write_lines.ensures.written.kept c.write_end.ensures.written
