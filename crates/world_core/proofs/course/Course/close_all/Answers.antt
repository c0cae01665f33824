use Rattle.std.proofs.Common.{◌≡◌, ◌≤◌, ◌<◌, ◌++◌, length, map, option_map, subst, sym, ap, ◌∙◌, arith}
use Rattle.log_lines.specs.Lines.{line_of}
use Rattle.ecu_session.specs.Words.{end_of}
use Rattle.world_core.specs.Closing.{lines_of_end}
use Rattle.world_core.specs.Courses.{Course}
use Rattle.world_core.proofs.CloseWalk.{close-begins, close-on, closed-lines, closed-nodes, closed-states}
use Rattle.world_core.proofs.course.Course.close_all.Goals as goal

pub loop-node-init : goal.loop-node-init
loop-node-init g c = close-begins g.E.Ecu c.args.self.now c.args.ecus.now.items c.args.shared.now (map line_of c.new-lines.result.items) c.requires.held (ap (map line_of) c.new-lines.ensures.items)

pub close_node-requires-clause-held : goal.close_node-requires-clause-held
close_node-requires-clause-held g c = c.loop-node.invariant.held

pub close_node-requires-clause-there : goal.close_node-requires-clause-there
close_node-requires-clause-there g c =
    let many = ap (λ (x : Course). length x.plan.nodes) c.self.view_is in
    let end : c.len-node-end.result ≡ c.self.inside.nodes.len = c.len-node-end.ensures in
    let inside : c.loop-node.node < length c.args.self.now.plan.nodes = omega (arith, c.loop-node-test.true, end, c.self.inside.nodes.ok.0, many) in
    subst (λ (x : Course). c.loop-node.node < length x.plan.nodes) (sym c.loop-node.invariant.stays) inside

pub returns-clause-held : goal.returns-clause-held
returns-clause-held g c = c.loop-node.invariant.held

pub returns-clause-parts : goal.returns-clause-parts
returns-clause-parts g c = c.loop-node.invariant.parts

pub returns-clause-stays : goal.returns-clause-stays
returns-clause-stays g c = c.loop-node.invariant.stays

pub returns-clause-nodes : goal.returns-clause-nodes
returns-clause-nodes g c =
    let many = ap (λ (x : Course). length x.plan.nodes) c.self.view_is in
    let end : c.len-node-end.result ≡ c.self.inside.nodes.len = c.len-node-end.ensures in
    let all : length c.args.self.now.plan.nodes ≤ c.loop-node.node = omega (arith, c.loop-node-test.false, end, c.self.inside.nodes.ok.0, many) in
    closed-nodes g.E.Ecu c.loop-node.node c.args.self.now c.loop-node.self c.args.ecus.now.items c.loop-node.ecus.items c.args.shared.now c.loop-node.shared (map line_of c.loop-node.lines.items) c.loop-node.invariant all

pub returns-clause-units : goal.returns-clause-units
returns-clause-units g c =
    let many = ap (λ (x : Course). length x.plan.nodes) c.self.view_is in
    let end : c.len-node-end.result ≡ c.self.inside.nodes.len = c.len-node-end.ensures in
    let all : length c.args.self.now.plan.nodes ≤ c.loop-node.node = omega (arith, c.loop-node-test.false, end, c.self.inside.nodes.ok.0, many) in
    closed-states g.E.Ecu c.loop-node.node c.args.self.now c.loop-node.self c.args.ecus.now.items c.loop-node.ecus.items c.args.shared.now c.loop-node.shared (map line_of c.loop-node.lines.items) c.loop-node.invariant all

pub returns-clause-lines : goal.returns-clause-lines
returns-clause-lines g c =
    let many = ap (λ (x : Course). length x.plan.nodes) c.self.view_is in
    let end : c.len-node-end.result ≡ c.self.inside.nodes.len = c.len-node-end.ensures in
    let all : length c.args.self.now.plan.nodes ≤ c.loop-node.node = omega (arith, c.loop-node-test.false, end, c.self.inside.nodes.ok.0, many) in
    c.of.ensures ∙ closed-lines g.E.Ecu c.loop-node.node c.args.self.now c.loop-node.self c.args.ecus.now.items c.loop-node.ecus.items c.args.shared.now c.loop-node.shared (map line_of c.loop-node.lines.items) c.loop-node.invariant all

pub loop-node-preserved : goal.loop-node-preserved
loop-node-preserved g c =
    let many = ap (λ (x : Course). length x.plan.nodes) c.self.view_is in
    let end : c.len-node-end.result ≡ c.self.inside.nodes.len = c.len-node-end.ensures in
    let inside : c.loop-node.node < length c.args.self.now.plan.nodes = omega (arith, c.loop-node-test.true, end, c.self.inside.nodes.ok.0, many) in
    close-on g.E.Ecu c.loop-node.node c.args.self.now c.close_node.new.self c.args.ecus.now.items c.loop-node.ecus.items c.close_node.new.ecus.items c.args.shared.now c.loop-node.shared c.close_node.new.shared
    (map line_of c.loop-node.lines.items) (map line_of c.push_failure.new.lines.items) (option_map end_of c.in_ok-end.end) inside c.in_ok-end.ensures.held c.in_ok-end.ensures.parts
    (c.in_ok-push_failure.ensures ∙ ap (λ t. map line_of c.loop-node.lines.items ++ lines_of_end t c.loop-node.node (option_map end_of c.in_ok-end.end)) (ap (λ (x : Course). x.now) c.self.view_is))
    c.loop-node.self c.loop-node.invariant c.in_ok-end.ensures.shuts
