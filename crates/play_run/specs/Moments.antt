-- What happens at a moment with notices or lines, by parts. No public clause cites this file.
use Rattle.std.specs.Prelude.{ℕ, List, [], fold}
use Rattle.log_specs.specs.Line.{Line}
use Rattle.bus_specs.specs.Bus.{Bus}
use Rattle.bus_specs.specs.Inbox.{take_inbox}
use Rattle.play_specs.specs.Scenario.{Action, along, takers, action_step}

-- these nodes take their notices, behind the lines so far
abbrev pub taken_by : ℕ → Bus × List Line → List ℕ → Bus × List Line
taken_by now so_far nodes = fold (along (λ b node. take_inbox b now node)) so_far nodes

-- these actions are carried out, behind the lines so far
abbrev pub carried_out : Bus × List Line → List Action → Bus × List Line
carried_out so_far actions = fold (along action_step) so_far actions

abbrev pub moment_of : Bus → ℕ → List Action → Bus × List Line
moment_of b now actions = carried_out (taken_by now (b, []) (takers b now)) actions
