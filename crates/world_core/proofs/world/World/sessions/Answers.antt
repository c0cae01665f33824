use Rattle.std.proofs.Common.{All, ap, map, subst, sym, ◌∙◌}
use Rattle.world_specs.specs.Next.{Sessions, at}
use Rattle.world_specs.specs.Sessions.{turns_step}
use Rattle.world_core.specs.Bare.{AreTurns, IsExpected}
use Rattle.world_core.specs.SeenTurns.{seen}
use Rattle.world_core.proofs.Acting.{early, goes-on, on-course, room}
use Rattle.world_core.proofs.SessionEvents.{are-expected, are-turns, kept-behind, lasts-by, sessions-seen}
use Rattle.world_core.proofs.world.World.sessions.Goals as goal

pub sit_all-requires-clause-early : goal.sit_all-requires-clause-early
sit_all-requires-clause-early g c =
    let is = c.self.view_is in
    let kept = c.self.invariant (goes-on g.E.Ecu c.self.inside.course c.self.inside.ecus.items c.self.inside.shared c.self.inside.failed c.args.self.now is c.requires.goes_on) in
    let next = on-course g.E.Ecu c.self.inside.course c.self.inside.ecus.items c.self.inside.shared c.self.inside.failed c.args.self.now is (at Sessions c.args.moment) c.requires.next in
    early g.E.Ecu c.self.inside.course c.self.inside.ecus.items c.self.inside.shared kept (at Sessions c.args.moment) next

pub sit_all-requires-clause-last : goal.sit_all-requires-clause-last
sit_all-requires-clause-last g c =
    let is = c.self.view_is in
    let kept = c.self.invariant (goes-on g.E.Ecu c.self.inside.course c.self.inside.ecus.items c.self.inside.shared c.self.inside.failed c.args.self.now is c.requires.goes_on) in
    let next = on-course g.E.Ecu c.self.inside.course c.self.inside.ecus.items c.self.inside.shared c.self.inside.failed c.args.self.now is (at Sessions c.args.moment) c.requires.next in
    lasts-by g.E.Ecu c.self.inside.course c.self.inside.ecus.items c.self.inside.shared kept (at Sessions c.args.moment) next

pub take_turns-requires-clause-expected : goal.take_turns-requires-clause-expected
take_turns-requires-clause-expected g c =
    let is = c.self.view_is in
    let kept = c.self.invariant (goes-on g.E.Ecu c.self.inside.course c.self.inside.ecus.items c.self.inside.shared c.self.inside.failed c.args.self.now is c.requires.goes_on) in
    subst (λ xs. All (IsExpected (map (seen c.sit_all.new.self.plan.nodes) xs)) c.sit_all.new.self.buses) (sym c.deref.ensures.value)
    (are-expected g.E.Ecu g.met.E.Ecu.replies_are_bytes c.self.inside.course c.self.inside.ecus.items c.self.inside.shared kept c.args.moment c.in_ok-turns.turns.items c.in_ok-turns.ensures.turns
    c.sit_all.new.self c.in_ok-turns.ensures.stays)

pub take_turns-requires-clause-turns : goal.take_turns-requires-clause-turns
take_turns-requires-clause-turns g c =
    let is = c.self.view_is in
    let kept = c.self.invariant (goes-on g.E.Ecu c.self.inside.course c.self.inside.ecus.items c.self.inside.shared c.self.inside.failed c.args.self.now is c.requires.goes_on) in
    subst (λ xs. AreTurns (map (seen c.sit_all.new.self.plan.nodes) xs)) (sym c.deref.ensures.value)
    (are-turns g.E.Ecu g.met.E.Ecu.replies_are_bytes c.self.inside.course c.self.inside.ecus.items c.self.inside.shared kept c.args.moment c.in_ok-turns.turns.items c.in_ok-turns.ensures.turns
    c.sit_all.new.self c.in_ok-turns.ensures.stays)

pub take_turns-requires-clause-moment : goal.take_turns-requires-clause-moment
take_turns-requires-clause-moment g c =
    let is = c.self.view_is in
    let kept = c.self.invariant (goes-on g.E.Ecu c.self.inside.course c.self.inside.ecus.items c.self.inside.shared c.self.inside.failed c.args.self.now is c.requires.goes_on) in
    let next = on-course g.E.Ecu c.self.inside.course c.self.inside.ecus.items c.self.inside.shared c.self.inside.failed c.args.self.now is (at Sessions c.args.moment) c.requires.next in
    early g.E.Ecu c.self.inside.course c.self.inside.ecus.items c.self.inside.shared kept (at Sessions c.args.moment) next

pub invariant_of-self-2 : goal.invariant_of-self-2
invariant_of-self-2 g c = λ e.
    let is = c.self.view_is in
    let kept = c.self.invariant (goes-on g.E.Ecu c.self.inside.course c.self.inside.ecus.items c.self.inside.shared c.self.inside.failed c.args.self.now is c.requires.goes_on) in
    let next = on-course g.E.Ecu c.self.inside.course c.self.inside.ecus.items c.self.inside.shared c.self.inside.failed c.args.self.now is (at Sessions c.args.moment) c.requires.next in
    let left = room g.E.Ecu c.self.inside.course c.self.inside.ecus.items c.self.inside.shared c.self.inside.failed c.args.self.now is c.requires.budget in
    let after = c.sit_all.new.self in
    let taken = c.in_ok-lines.ensures.state ∙ ap (λ xs. record after { buses = (turns_step c.args.moment c.sit_all.new.self.buses (map (seen c.sit_all.new.self.plan.nodes) xs)).0 }) c.deref.ensures.value in
    kept-behind g.E.Ecu g.met.E.Ecu.replies_are_bytes c.self.inside.course c.self.inside.ecus.items c.self.inside.shared kept c.args.moment c.in_ok-turns.turns.items c.in_ok-turns.ensures.turns
    c.sit_all.new.self c.take_turns.new.self c.count.new.self c.sit_all.new.ecus.items c.sit_all.new.shared c.in_ok-turns.ensures.stays c.in_ok-turns.ensures.nodes taken c.count.ensures
    next left c.in_ok-turns.ensures.held

pub returns-clause-state : goal.returns-clause-state
returns-clause-state g c =
    let is = c.self.view_is in
    let kept = c.self.invariant (goes-on g.E.Ecu c.self.inside.course c.self.inside.ecus.items c.self.inside.shared c.self.inside.failed c.args.self.now is c.requires.goes_on) in
    let after = c.sit_all.new.self in
    let taken = c.in_ok-lines.ensures.state ∙ ap (λ xs. record after { buses = (turns_step c.args.moment c.sit_all.new.self.buses (map (seen c.sit_all.new.self.plan.nodes) xs)).0 }) c.deref.ensures.value in
    sessions-seen g.E.Ecu g.met.E.Ecu.replies_are_bytes c.self.inside.course c.self.inside.ecus.items c.self.inside.shared kept c.args.moment c.in_ok-turns.turns.items c.in_ok-turns.ensures.turns
    c.sit_all.new.self c.take_turns.new.self c.count.new.self c.sit_all.new.ecus.items c.sit_all.new.shared c.in_ok-turns.ensures.stays c.in_ok-turns.ensures.nodes taken c.count.ensures
    c.self.inside.failed c.args.self.now is c.requires.goes_on c.in_ok-turns.ensures.units c.in_ok-turns.ensures.parts
