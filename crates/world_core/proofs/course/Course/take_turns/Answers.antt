use Rattle.std.proofs.Common.{All, ap, map, refl, subst, sym, ◌∙◌}
use Rattle.std.proofs.lemmas.Result.{on_ok_weaker}
use Rattle.world_specs.specs.Plan.{IsPlan}
use Rattle.world_specs.specs.Sessions.{turns_step}
use Rattle.world_core.specs.Bare.{IsExpected}
use Rattle.world_core.specs.Courses.{Course}
use Rattle.world_core.specs.SeenTurns.{seen}
use Rattle.world_core.specs.contracts.course.Course.{the_view}
use Rattle.world_core.proofs.Numbered.{numbered, same-course}
use Rattle.world_core.proofs.Turned.{plans-turned}
use Rattle.world_core.proofs.course.Course.take_turns.Goals as goal

pub take_turns-requires-clause-numbered : goal.take_turns-requires-clause-numbered
take_turns-requires-clause-numbered c =
    numbered c.args.self.now.plan c.self.inside.buses.items c.requires.plan (sym (ap (λ (x : Course). x.plan.buses) c.self.view_is))

pub take_turns-requires-clause-expected : goal.take_turns-requires-clause-expected
take_turns-requires-clause-expected c =
    subst (λ ns. All (IsExpected (map (seen ns) c.args.turns.now)) c.self.inside.buses.items) (sym c.deref.ensures.value)
    (subst (λ (x : Course). All (IsExpected (map (seen x.plan.nodes) c.args.turns.now)) x.buses) (sym c.self.view_is) c.requires.expected)

pub returns-clause-state : goal.returns-clause-state
returns-clause-state c =
    let before = the_view c.self.inside in
    let xs = map (seen c.self.inside.nodes.items) c.args.turns.now in
    let ok : IsPlan before.plan = subst (λ (x : Course). IsPlan x.plan) (sym c.self.view_is) c.requires.plan in
    rw (← c.self.view_is) (on_ok_weaker c.take_turns.result
    (λ e. same-course before c.take_turns.new.buses.items _ (e ∙ ap (λ ns. (turns_step c.args.now c.self.inside.buses.items (map (seen ns) c.args.turns.now)).0) c.deref.ensures.value)
    (plans-turned c.args.now xs before.plan c.self.inside.buses.items ok refl) refl)
    c.take_turns.ensures.buses)
