-- Scenarios whose parts fit.
use Rattle.std.specs.Prelude.{◌≡◌, ℕ, true, All}
use Rattle.operation_specs.specs.Reading.{IsWhole}
use Rattle.bus_specs.specs.Bus.{among}
use Rattle.bus_specs.specs.Sound.{IsSetup, Rise}
use Rattle.play_specs.specs.Scenario.{Action, Scenario}

-- a whole item of one of its nodes
pub record Acts (p : Scenario) (a : Action) : Type 0 where
  pub node : among p.nodes a.node ≡ true
  pub item : IsWhole a.item

-- the script has kinds 1 to 4, the nodes rise, the items are whole and of its nodes
pub record IsScenario (p : Scenario) : Type 0 where
  pub setup : IsSetup p.setup
  pub nodes : (last : ℕ) × Rise 0 p.nodes last
  pub actions : All (Acts p) p.actions
