use Rattle.std.proofs.Common.{◌≡◌, ◌++◌, drop}
use Rattle.std.specs.Prelude.{option_map}
use Rattle.network_specs.specs.Plans.{buses_of_terminals}
use Rattle.network_plan.proofs.attached.buses_of_terminals.Given as goal

abbrev pub invariant-loop-terminal : goal.invariant-loop-terminal
invariant-loop-terminal l =
    option_map (λ more. l.buses.items ++ more) (buses_of_terminals l.attachments (drop l.terminal-index l.terminals)) ≡ buses_of_terminals l.attachments l.terminals
