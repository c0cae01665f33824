use Rattle.std.proofs.Common.{◌≡◌, ◌≤◌, ◌<◌, ◌+◌, ◌^◌, ◌++◌, ◌∷◌, [], map, sym, ap, ◌∙◌, rules, arith, Some, None, refl}
use Rattle.log_specs.specs.Line.{line_text, End}
use Rattle.play_specs.specs.Scenario.{World, next_event, world_behind}
use Rattle.play_run.specs.Statuses.{status_from}
use Rattle.play_run.proofs.Logs.{run_from, status-next}
use Rattle.log_lines.specs.Lines.{line_of}
use Rattle.bench_outside.specs.Pieces.{WritesAll, BreaksOff, StopsBefore}
use Rattle.log_writing.specs.Endings.{code_of}
use Rattle.bus_medium.specs.Dues.{due_of}
use Rattle.play_run.specs.Worlds.{world_of}
use Rattle.play_run.proofs.Lasting.{behind-ready}
use Rattle.play_run.proofs.Logs.{next-within, spent-lines, spent-status, done-lines, done-status, next-lines}
use Rattle.log_writing.proofs.Writes.{texts-of, wrote-behind, broke-behind, stopped-behind, stopped-at, written-behind, if_ok}
use Rattle.play_run.proofs.playing.run_on.Goals as goal

pub step-requires-clause-moment : goal.step-requires-clause-moment
step-requires-clause-moment g c =
    let next : next_event c.args.stop (world_of c.loop-event.runner) ≡ Some (due_of c.in-Some.event) = sym c.in-Some.ensures in
    let within : c.in-Some.event.moment ≤ c.args.stop = next-within c.args.stop (world_of c.loop-event.runner) (due_of c.in-Some.event) next in
    omega (arith, within)

pub returns-then-left-eq0-clause-written : goal.returns-then-left-eq0-clause-written
returns-then-left-eq0-clause-written g c =
    let i = c.loop-event.invariant in
    let w = world_of c.loop-event.runner in
    let none : c.loop-event.left ≡ 0 = search rules in
    let next : next_event c.args.stop w ≡ Some (due_of c.in-Some.event) = sym c.in-Some.ensures in
    let whole : i.log.0 ++ End 8 c.events.result ∷ [] ≡ run_from c.args.stop c.args.budget (world_of c.args.runner) =
    spent-lines c.args.stop c.loop-event.left c.events.result w (due_of c.in-Some.event) i.log.0 _ none c.events.ensures next i.log.2 in
    written-behind g.O.Sink line_text c.args.out.now c.loop-event.out c.write_end.new.out i.log.0 (End 8 c.events.result ∷ []) _ c.write_end.result
    whole i.log.1 i.kept c.write_end.ensures.written

pub returns-then-left-eq0-clause-ending : goal.returns-then-left-eq0-clause-ending
returns-then-left-eq0-clause-ending g c =
    let w = world_of c.loop-event.runner in
    let none : c.loop-event.left ≡ 0 = search rules in
    let next : next_event c.args.stop w ≡ Some (due_of c.in-Some.event) = sym c.in-Some.ensures in
    let status : 8 ≡ status_from c.args.stop c.args.budget (world_of c.args.runner) = spent-status c.args.stop c.loop-event.left w (due_of c.in-Some.event) _ none next c.loop-event.invariant.status in
    if_ok c.write_end.result (λ e is. ap code_of is ∙ status) c.write_end.ensures.ending

pub returns-clause-written : goal.returns-clause-written
returns-clause-written g c =
    let i = c.loop-event.invariant in
    let w = world_of c.loop-event.runner in
    let next : next_event c.args.stop w ≡ None = search rules in
    let whole : i.log.0 ++ End 0 c.events-2.result ∷ [] ≡ run_from c.args.stop c.args.budget (world_of c.args.runner) =
    done-lines c.args.stop c.loop-event.left c.events-2.result w i.log.0 _ c.events-2.ensures next i.log.2 in
    written-behind g.O.Sink line_text c.args.out.now c.loop-event.out c.write_end-2.new.out i.log.0 (End 0 c.events-2.result ∷ []) _ c.write_end-2.result
    whole i.log.1 i.kept c.write_end-2.ensures.written

pub returns-clause-ending : goal.returns-clause-ending
returns-clause-ending g c =
    let w = world_of c.loop-event.runner in
    let next : next_event c.args.stop w ≡ None = search rules in
    let status : 0 ≡ status_from c.args.stop c.args.budget (world_of c.args.runner) = done-status c.args.stop c.loop-event.left w _ next c.loop-event.invariant.status in
    if_ok c.write_end-2.result (λ e is. ap code_of is ∙ status) c.write_end-2.ensures.ending

pub returns-in_err-lines-clause-written : goal.returns-in_err-lines-clause-written
returns-in_err-lines-clause-written g c =
    let i = c.loop-event.invariant in
    record {
      log = search rules;
      part = search rules;
      stopped = λ memory. stopped-at g.O.Sink line_text c.args.out.now c.loop-event.out i.log.0 _ _ i.log.2 i.log.1;
      unwritten = search rules;
      memory = search rules;
      kept = search rules;
      later = search rules;
    }

pub returns-in_err-write_lines-clause-written : goal.returns-in_err-write_lines-clause-written
returns-in_err-write_lines-clause-written g c =
    let i = c.loop-event.invariant in
    let w = world_of c.loop-event.runner in
    let d = due_of c.in-Some.event in
    let more : 0 < c.loop-event.left = search rules in
    let next : next_event c.args.stop w ≡ Some d = sym c.in-Some.ensures in
    let lines : map line_of c.as_slice.result.now ≡ (world_behind w d).1 = c.as_slice.ensures ∙ c.in_ok-lines.ensures.lines in
    let texts = texts-of line_text line_of c.as_slice.result.now ∙ ap (map line_text) lines in
    let left = next-lines c.args.stop c.loop-event.left w d i.log.0 _ more next i.log.2 in
    record {
      log = search rules;
      part = λ unwritten.
          let broke : BreaksOff g.O.Sink c.loop-event.out c.write_lines.new.out (map (λ l. line_text (line_of l)) c.as_slice.result.now) = search (rules, unwritten) in
          broke-behind g.O.Sink line_text c.args.out.now c.loop-event.out c.write_lines.new.out i.log.0 ((world_behind w d).1) _ _ left i.log.1 (rw (← texts) broke);
      stopped = λ memory.
          let stopped : StopsBefore g.O.Sink c.loop-event.out c.write_lines.new.out (map (λ l. line_text (line_of l)) c.as_slice.result.now) = search (rules, memory) in
          stopped-behind g.O.Sink line_text c.args.out.now c.loop-event.out c.write_lines.new.out i.log.0 ((world_behind w d).1) _ _ left i.log.1 (rw (← texts) stopped);
      unwritten = search rules;
      memory = search rules;
      kept = search rules;
      later = search rules;
    }

pub loop-event-preserved : goal.loop-event-preserved
loop-event-preserved g c =
    let i = c.loop-event.invariant in
    let w = world_of c.loop-event.runner in
    let d = due_of c.in-Some.event in
    let more : 0 < c.loop-event.left = search rules in
    let next : next_event c.args.stop w ≡ Some d = sym c.in-Some.ensures in
    let lines : map line_of c.as_slice.result.now ≡ (world_behind w d).1 = c.as_slice.ensures ∙ c.in_ok-lines.ensures.lines in
    let texts = texts-of line_text line_of c.as_slice.result.now ∙ ap (map line_text) lines in
    let world : world_of c.step.new.self ≡ (world_behind w d).0 = c.in_ok-lines.ensures.world in
    let events : c.step.new.self.events ≡ w.events + 1 = ap {A = World} (λ v. v.events) world in
    let wrote : WritesAll g.O.Sink c.loop-event.out c.write_lines.new.out (map line_text ((world_behind w d).1)) = rw (← texts) c.in_ok-write_lines.ensures.written.log in
    record {
      ready = rw world (behind-ready c.args.stop w d i.ready next);
      few = let few : w.events + c.loop-event.left < 2 ^ 62 = i.few in omega (arith, events, few, more);
      log = (
        i.log.0 ++ (world_behind w d).1,
        wrote-behind g.O.Sink line_text c.args.out.now c.loop-event.out c.write_lines.new.out i.log.0 ((world_behind w d).1) _ refl i.log.1 wrote,
        rw world (next-lines c.args.stop c.loop-event.left w d i.log.0 _ more next i.log.2),
      );
      status = rw world (status-next c.args.stop c.loop-event.left w d _ more next i.status);
      kept = c.in_ok-write_lines.ensures.written.kept ∙ i.kept;
    }
