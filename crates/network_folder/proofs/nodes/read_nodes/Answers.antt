use Rattle.std.proofs.Common.{◌≡◌, ◌+◌, ◌++◌, ◌∷◌, [], rules, arith, ap, length, length-append}
use Rattle.std.specs.Prelude.{Ok}
use Rattle.network_folder.proofs.Shelves.{done, reads_on, reads_as}
use Rattle.network_folder.proofs.AllNodes.{node_stops, one_more_pushed}
use Rattle.network_folder.proofs.nodes.read_nodes.Goals as goal

pub returns-in-Err : goal.returns-in-Err
returns-in-Err g c =
    let place : c.len.result ≡ c.loop-node.node-index = omega (arith, c.len.ensures, c.loop-node.invariant.count) in
    node_stops g.H.Shelf c.args.shelf.now c.loop-node.shelf c.read_node.new.shelf c.args.digest.now c.loop-node.digest c.read_node.new.digest c.read_node.new.digest c.args.net.now c.args.nodes.now c.loop-node.node-index c.len.result
    c.node-item.result c.loop-node.plans.items c.loop-node.codes.items c.in-Err.error c.loop-node.invariant.reads (search rules) c.node-item.is c.loop-node.invariant.count place c.loop-node.invariant.units c.in-Err.ensures

pub loop-node-preserved : goal.loop-node-preserved
loop-node-preserved g c =
    let plans : c.push.new.self.items ≡ c.loop-node.plans.items ++ c.in-Ok.unit.plan ∷ [] = c.in_ok-push.ensures.items in
    let longer = length-append c.loop-node.plans.items (c.in-Ok.unit.plan ∷ []) in
    let counted = ap length plans in
    record {
      reads = reads_on g.H.Shelf c.args.shelf.now c.loop-node.shelf c.read_node.new.shelf tt done c.loop-node.invariant.reads
          (reads_as g.H.Shelf c.loop-node.shelf c.read_node.new.shelf (Ok c.in-Ok.unit) done (λ f e. absurd (cc e)) (λ f e. absurd (cc e)) c.in-Ok.ensures.reads);
      count = omega (arith, counted, longer, c.loop-node.invariant.count);
      units = one_more_pushed g.H.Shelf c.args.shelf.now c.loop-node.shelf c.read_node.new.shelf c.args.digest.now c.loop-node.digest c.read_node.new.digest c.args.net.now c.args.nodes.now c.loop-node.node-index c.len.result
          c.node-item.result c.loop-node.plans.items c.push.new.self.items c.loop-node.codes.items c.push-in-loop-node.new.self.items c.in-Ok.unit c.loop-node.invariant.reads.holds (search rules) c.node-item.is
          c.loop-node.invariant.units c.in-Ok.ensures plans c.in_ok-push-2.ensures.items;
    }
