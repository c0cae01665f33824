-- The actions in front that are of a moment, and those behind them. No public clause cites this file.
use Rattle.std.specs.Prelude.{ℕ, ◌==◌, List, [], ◌∷◌, if◌then◌else◌}
use Rattle.play_specs.specs.Scenario.{Action}

abbrev pub at_moment : ℕ → List Action → List Action
at_moment now [] = []
at_moment now (a ∷ as') = if a.moment == now then a ∷ at_moment now as' else []

abbrev pub behind_moment : ℕ → List Action → List Action
behind_moment now [] = []
behind_moment now (a ∷ as') = if a.moment == now then behind_moment now as' else a ∷ as'
