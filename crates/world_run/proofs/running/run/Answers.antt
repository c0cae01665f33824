use Rattle.std.proofs.Common.{rules, ◌≡◌, ◌≤◌, ◌<◌, ◌+◌, ◌++◌, [], map, arith, ap, refl, ◌∙◌}
use Rattle.std.specs.Prelude.{is_some}
use Rattle.log_specs.specs.Line.{line_text}
use Rattle.log_lines.specs.Lines.{line_of}
use Rattle.log_writing.specs.Endings.{code_of}
use Rattle.log_writing.proofs.Writes.{texts-of, wrote-behind, broke-behind, stopped-behind, stopped-at, written-behind, if_ok}
use Rattle.world_specs.specs.Plan.{units_of}
use Rattle.world_core.specs.Events.{event_of}
use Rattle.bench_outside.specs.Pieces.{WritesAll, BreaksOff, StopsBefore}
use Rattle.world_run.proofs.Left.{some-of, none-of, spent-lines, spent-status, done-lines, done-status, next-lines, next-status, counted}
use Rattle.world_run.proofs.running.run.Goals as goal

pub loop-event-init : goal.loop-event-init
loop-event-init g c = record {
  goes_on = c.requires.goes_on;
  few = c.requires.budget;
  log = ([], search rules, refl);
  status = refl;
  kept = refl;
}

pub returns-then-left-eq0-clause-written : goal.returns-then-left-eq0-clause-written
returns-then-left-eq0-clause-written g c =
    let i = c.loop-event.invariant in
    let w = c.loop-event.world in
    let next = some-of event_of c.next_event.result _ c.next_event.ensures (ap is_some c.in-Some.is) in
    let whole = spent-lines (units_of g.E.Ecu.answer g.E.Ecu.phase_of w.plan) w.plan.stop c.loop-event.left w.network next.0 i.log.0 _ c.if-left-eq0.true next.1 i.log.2 in
    written-behind g.O.Sink line_text c.args.out.now c.loop-event.out c.close_with.new.out i.log.0 _ _ c.close_with.result whole i.log.1 i.kept c.close_with.ensures.written

pub returns-then-left-eq0-clause-ending : goal.returns-then-left-eq0-clause-ending
returns-then-left-eq0-clause-ending g c =
    let i = c.loop-event.invariant in
    let w = c.loop-event.world in
    let next = some-of event_of c.next_event.result _ c.next_event.ensures (ap is_some c.in-Some.is) in
    let status = spent-status (units_of g.E.Ecu.answer g.E.Ecu.phase_of w.plan) w.plan.stop c.loop-event.left w.network next.0 _ c.if-left-eq0.true next.1 i.status in
    if_ok c.close_with.result (λ e is. ap code_of is ∙ status) c.close_with.ensures.ending

pub returns-clause-written : goal.returns-clause-written
returns-clause-written g c =
    let i = c.loop-event.invariant in
    let w = c.loop-event.world in
    let next = none-of event_of c.next_event.result _ c.next_event.ensures (ap is_some c.in_default.is) in
    let whole = done-lines (units_of g.E.Ecu.answer g.E.Ecu.phase_of w.plan) w.plan.stop c.loop-event.left w.network i.log.0 _ next i.log.2 in
    written-behind g.O.Sink line_text c.args.out.now c.loop-event.out c.close_with-2.new.out i.log.0 _ _ c.close_with-2.result whole i.log.1 i.kept c.close_with-2.ensures.written

pub returns-clause-ending : goal.returns-clause-ending
returns-clause-ending g c =
    let i = c.loop-event.invariant in
    let w = c.loop-event.world in
    let next = none-of event_of c.next_event.result _ c.next_event.ensures (ap is_some c.in_default.is) in
    let status = done-status (units_of g.E.Ecu.answer g.E.Ecu.phase_of w.plan) w.plan.stop c.loop-event.left w.network _ next i.status in
    if_ok c.close_with-2.result (λ e is. ap code_of is ∙ status) c.close_with-2.ensures.ending

pub happen-requires-clause-budget : goal.happen-requires-clause-budget
happen-requires-clause-budget g c =
    let more : 0 < c.loop-event.left = search rules in
    let few : c.loop-event.world.network.events + c.loop-event.left ≤ c.loop-event.world.plan.events = c.loop-event.invariant.few in
    omega (arith, more, few)

pub returns-in_err-lines-clause-written : goal.returns-in_err-lines-clause-written
returns-in_err-lines-clause-written g c =
    let i = c.loop-event.invariant in
    record {
      log = search rules;
      part = search rules;
      stopped = λ memory. stopped-at g.O.Sink line_text c.args.out.now c.loop-event.out i.log.0 _ _ i.log.2 i.log.1;
      unwritten = search rules;
      memory = search rules;
      kept = search rules;
      later = search rules;
    }

pub returns-in_err-write_lines-clause-written : goal.returns-in_err-write_lines-clause-written
returns-in_err-write_lines-clause-written g c =
    let i = c.loop-event.invariant in
    let w = c.loop-event.world in
    let more : 0 < c.loop-event.left = search rules in
    let texts = texts-of line_text line_of c.as_slice.result.now ∙ ap (map line_text) c.as_slice.ensures in
    let left = next-lines (units_of g.E.Ecu.answer g.E.Ecu.phase_of w.plan) w.plan.stop c.loop-event.left w.network c.happen.new.self.network c.in_ok-lines.lines i.log.0 _ more c.in_ok-lines.ensures.happened.step i.log.2 in
    record {
      log = search rules;
      part = λ unwritten.
          let broke : BreaksOff g.O.Sink c.loop-event.out c.write_lines.new.out (map (λ l. line_text (line_of l)) c.as_slice.result.now) = search (rules, unwritten) in
          broke-behind g.O.Sink line_text c.args.out.now c.loop-event.out c.write_lines.new.out i.log.0 _ _ _ left i.log.1 (rw (← texts) broke);
      stopped = λ memory.
          let stopped : StopsBefore g.O.Sink c.loop-event.out c.write_lines.new.out (map (λ l. line_text (line_of l)) c.as_slice.result.now) = search (rules, memory) in
          stopped-behind g.O.Sink line_text c.args.out.now c.loop-event.out c.write_lines.new.out i.log.0 _ _ _ left i.log.1 (rw (← texts) stopped);
      unwritten = search rules;
      memory = search rules;
      kept = search rules;
      later = search rules;
    }

pub loop-event-preserved : goal.loop-event-preserved
loop-event-preserved g c =
    let i = c.loop-event.invariant in
    let w = c.loop-event.world in
    let v = c.happen.new.self in
    let u = units_of g.E.Ecu.answer g.E.Ecu.phase_of w.plan in
    let more : 0 < c.loop-event.left = search rules in
    let taken = c.in_ok-lines.ensures.happened.step in
    let texts = texts-of line_text line_of c.as_slice.result.now ∙ ap (map line_text) c.as_slice.ensures in
    let wrote : WritesAll g.O.Sink c.loop-event.out c.write_lines.new.out (map line_text c.in_ok-lines.lines) = rw (← texts) c.in_ok-write_lines.ensures.written.log in
    let events : v.network.events ≡ w.network.events + 1 = counted u w.plan.stop w.network v.network c.in_ok-lines.lines taken in
    let plan : v.plan ≡ w.plan = c.in_ok-lines.ensures.happened.plan in
    let few : w.network.events + c.loop-event.left ≤ w.plan.events = i.few in
    record {
      goes_on = c.in_ok-lines.ensures.happened.goes_on;
      few = rw plan (omega (arith, events, few, more));
      log = (
        i.log.0 ++ c.in_ok-lines.lines,
        wrote-behind g.O.Sink line_text c.args.out.now c.loop-event.out c.write_lines.new.out i.log.0 _ _ refl i.log.1 wrote,
        rw plan (next-lines u w.plan.stop c.loop-event.left w.network v.network c.in_ok-lines.lines i.log.0 _ more taken i.log.2),
      );
      status = rw plan (next-status u w.plan.stop c.loop-event.left w.network v.network c.in_ok-lines.lines _ more taken i.status);
      kept = c.in_ok-write_lines.ensures.written.kept ∙ i.kept;
    }
