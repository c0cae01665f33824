-- What the end line of a log tells.
use Rattle.std.specs.Prelude.{◌≡◌, ℕ, List, [], ◌∷◌, ◌++◌, Option}
use Rattle.log_specs.specs.Line.{Line, End}
use Rattle.bus_specs.specs.Due.{Due}
use Rattle.run_specs.specs.Run.{behind}
use Rattle.play_specs.specs.Scenario.{Scenario, machine, next_event, opening}

-- its last line tells so many events
pub record TellsEvents (events : ℕ) (lines : List Line) : Type 0 where
  pub before : List Line
  pub status : ℕ
  pub split : lines ≡ before ++ End status events ∷ []

-- the next event up to the stop, behind so many
abbrev pub left_behind : ℕ → Scenario → Option Due
left_behind budget p = next_event p.stop (behind (machine p.stop) budget (opening p))
