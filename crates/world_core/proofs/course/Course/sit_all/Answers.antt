use Rattle.std.proofs.Common.{◌≡◌, ◌≤◌, ◌<◌, ◌++◌, All, Global, [], Vec, length, subst, sym, ap, ◌∙◌, arith}
use Rattle.std.specs.List.{cons_option}
use Rattle.std.proofs.lemmas.List.{append-nil}
use Rattle.bus_specs.specs.Sound.{Sound}
use Rattle.world_core.specs.Courses.{Course}
use Rattle.world_core.specs.declared.turns.Turn.{Turn}
use Rattle.world_core.proofs.NodeWalk.{all-nodes, all-states, all-turns, walk-begins, walk-on}
use Rattle.world_core.proofs.course.Course.sit_all.Goals.{in-Some+in_ok-push, in_default}
use Rattle.world_core.proofs.course.Course.sit_all.Goals as goal

pub loop-node-init : goal.loop-node-init
loop-node-init g c = walk-begins g.E.Ecu c.args.now c.args.self.now c.args.ecus.now.items c.args.shared.now c.new-turns.result.items c.requires.held c.requires.last c.new-turns.ensures.items

pub sit-requires-clause-held : goal.sit-requires-clause-held
sit-requires-clause-held g c = c.loop-node.invariant.held

pub sit-requires-clause-sound : goal.sit-requires-clause-sound
sit-requires-clause-sound g c = subst (λ (x : Course). All Sound x.buses) (sym c.loop-node.invariant.stays) c.requires.sound

pub sit-requires-clause-there : goal.sit-requires-clause-there
sit-requires-clause-there g c =
    let many = ap (λ (x : Course). length x.plan.nodes) c.self.view_is in
    let end : c.len-node-end.result ≡ c.self.inside.nodes.len = c.len-node-end.ensures in
    let inside : c.loop-node.node < length c.args.self.now.plan.nodes = omega (arith, c.loop-node-test.true, end, c.self.inside.nodes.ok.0, many) in
    subst (λ (x : Course). c.loop-node.node < length x.plan.nodes) (sym c.loop-node.invariant.stays) inside

pub sit-requires-clause-last : goal.sit-requires-clause-last
sit-requires-clause-last g c = c.loop-node.invariant.lasts

pub loop-node-preserved : goal.loop-node-preserved
loop-node-preserved g c =
    let many = ap (λ (x : Course). length x.plan.nodes) c.self.view_is in
    let end : c.len-node-end.result ≡ c.self.inside.nodes.len = c.len-node-end.ensures in
    let inside : c.loop-node.node < length c.args.self.now.plan.nodes = omega (arith, c.loop-node-test.true, end, c.self.inside.nodes.ok.0, many) in
    let more : c.match-branch-2.turns.items ≡ c.loop-node.turns.items ++ cons_option c.in_ok-turn.field-0 [] =
    elim c.match-branch-2.branch [
      | in-Some+in_ok-push w ↦ ap (λ (v : Vec Turn Global). v.items) w.turns-is ∙ w.in_ok-push.ensures.items ∙ ap (λ o. c.loop-node.turns.items ++ cons_option o []) (sym w.in-Some.is)
      | in_default w ↦ ap (λ (v : Vec Turn Global). v.items) w.turns-is ∙ sym (append-nil c.loop-node.turns.items) ∙ ap (λ o. c.loop-node.turns.items ++ cons_option o []) (sym w.in_default.is)
    ] in
    walk-on g.E.Ecu c.args.now c.loop-node.node c.args.self.now c.sit.new.self c.args.ecus.now.items c.loop-node.ecus.items c.sit.new.ecus.items c.args.shared.now c.loop-node.shared c.sit.new.shared
    c.loop-node.turns.items c.match-branch-2.turns.items c.in_ok-turn.field-0 inside c.in_ok-turn.ensures.held c.in_ok-turn.ensures.last c.in_ok-turn.ensures.parts more c.loop-node.self c.loop-node.invariant c.in_ok-turn.ensures.sits

pub returns-clause-held : goal.returns-clause-held
returns-clause-held g c = c.loop-node.invariant.held

pub returns-clause-parts : goal.returns-clause-parts
returns-clause-parts g c = c.loop-node.invariant.parts

pub returns-clause-stays : goal.returns-clause-stays
returns-clause-stays g c = c.loop-node.invariant.stays

pub returns-clause-nodes : goal.returns-clause-nodes
returns-clause-nodes g c =
    let many = ap (λ (x : Course). length x.plan.nodes) c.self.view_is in
    let end : c.len-node-end.result ≡ c.self.inside.nodes.len = c.len-node-end.ensures in
    let all : length c.args.self.now.plan.nodes ≤ c.loop-node.node = omega (arith, c.loop-node-test.false, end, c.self.inside.nodes.ok.0, many) in
    all-nodes g.E.Ecu c.args.now c.loop-node.node c.args.self.now c.loop-node.self c.args.ecus.now.items c.loop-node.ecus.items c.args.shared.now c.loop-node.shared c.loop-node.turns.items c.loop-node.invariant all

pub returns-clause-units : goal.returns-clause-units
returns-clause-units g c =
    let many = ap (λ (x : Course). length x.plan.nodes) c.self.view_is in
    let end : c.len-node-end.result ≡ c.self.inside.nodes.len = c.len-node-end.ensures in
    let all : length c.args.self.now.plan.nodes ≤ c.loop-node.node = omega (arith, c.loop-node-test.false, end, c.self.inside.nodes.ok.0, many) in
    all-states g.E.Ecu c.args.now c.loop-node.node c.args.self.now c.loop-node.self c.args.ecus.now.items c.loop-node.ecus.items c.args.shared.now c.loop-node.shared c.loop-node.turns.items c.loop-node.invariant all

pub returns-clause-turns : goal.returns-clause-turns
returns-clause-turns g c =
    let many = ap (λ (x : Course). length x.plan.nodes) c.self.view_is in
    let end : c.len-node-end.result ≡ c.self.inside.nodes.len = c.len-node-end.ensures in
    let all : length c.args.self.now.plan.nodes ≤ c.loop-node.node = omega (arith, c.loop-node-test.false, end, c.self.inside.nodes.ok.0, many) in
    all-turns g.E.Ecu c.args.now c.loop-node.node c.args.self.now c.loop-node.self c.args.ecus.now.items c.loop-node.ecus.items c.args.shared.now c.loop-node.shared c.loop-node.turns.items c.loop-node.invariant all

pub returns-clause-there : goal.returns-clause-there
returns-clause-there g c = c.loop-node.invariant.there
