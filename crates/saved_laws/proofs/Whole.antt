-- Each state of a run fits, where its guests are suited.
use Rattle.std.proofs.Common.{◌≡◌, ◌≤◌, ℕ, ◌^◌, List, length, ◌∙◌}
use Rattle.run_specs.specs.Run.{behind}
use Rattle.binding_specs.specs.Guests.{Guest}
use Rattle.world_specs.specs.Units.{Units}
use Rattle.world_specs.specs.Network.{network}
use Rattle.world_specs.specs.Plan.{Plan, IsPlan, opening_of}
use Rattle.world_specs.specs.Fits.{UnitsFit}
use Rattle.state_laws.specs.Words.{SetsWithin, ChangesEach, clocks_in}
use Rattle.state_laws.proofs.Planned.{planned-along, clocked-along}
use Rattle.state_laws.proofs.Within.{opens-along}
use Rattle.saved_specs.specs.Fit.{AreSuited, Fit}
use Rattle.saved_laws.proofs.History.{new-each, count-along}

pub whole : (u : Units Guest) (p : Plan) (guests : List Guest) (k : ℕ) → UnitsFit u → SetsWithin (2 ^ 62) u
    → ChangesEach (clocks_in p) u → IsPlan p → length guests ≡ length p.nodes → k ≤ p.events
    → AreSuited guests (behind (network u p.stop) k (opening_of p guests)).nodes
    → Fit p guests (behind (network u p.stop) k (opening_of p guests))
whole u p guests k fit sets each plan same few suited =
    record {
      within = opens-along u p guests fit sets plan k few;
      plan = planned-along u p guests p.stop k;
      each = count-along u p guests p.stop k ∙ new-each 0 p.nodes guests same;
      clocked = clocked-along u p guests p.stop k each;
      suited = suited;
    }
