use Rattle.std.proofs.Common.{◌≡◌, length, take}
use Rattle.network_folder.specs.Parts.{AreUnits}
use Rattle.network_folder.specs.Shelves.{Reads}
use Rattle.network_folder.proofs.Shelves.{done}
use Rattle.network_folder.proofs.nodes.read_nodes.Given as goal

abbrev pub invariant-loop-node : goal.invariant-loop-node
invariant-loop-node g l =
    record {
      reads : Reads g.H.Shelf l.fn.shelf l.shelf done;
      count : length l.plans.items ≡ l.node-index;
      units : AreUnits (g.H.Shelf.holds l.fn.shelf) l.fn.digest l.digest l.net (take l.node-index l.nodes) l.plans.items l.codes.items;
    }
