-- What is run: a bus, its nodes and what they emit. Public clauses cite this file.
use Rattle.std.specs.Prelude.{◌≡◌, ◌≤◌, ◌<◌, ◌^◌, ℕ, All, length}
use Rattle.std.specs.List.{range_with_len}
use Rattle.operation_specs.specs.Reading.{IsWhole}
use Rattle.play_specs.specs.Scenario.{Action, Scenario}
use Rattle.bus_medium.specs.Setups.{setup_of, IsWellFormed}
use Rattle.play_run.specs.Ready.{Rises}
use Rattle.play_run.specs.declared.script.Script.{Script}

abbrev pub scenario_of : Script → Scenario
scenario_of s = record { setup = setup_of s.setup; nodes = s.setup.members; stop = s.stop; actions = s.actions.items }

-- a whole item of one of the nodes
pub record IsOfNodes (nodes : ℕ) (a : Action) : Type 0 where
  pub node : a.node < nodes
  pub item : IsWhole a.item
  pub moment : a.moment ≤ 2 ^ 62

-- The bus is well formed, its nodes are numbered from 0 on, and what they emit stands by moment.
pub record IsRunnable (s : Script) : Type 0 where
  pub setup : IsWellFormed s.setup
  pub nodes : s.setup.members ≡ range_with_len 0 s.nodes
  pub stop : s.stop ≤ 2 ^ 62
  pub actions : All (IsOfNodes s.nodes) s.actions.items
  pub rises : Rises 0 s.actions.items
  pub few : length s.actions.items < 2 ^ 63
