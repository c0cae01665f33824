use Rattle.std.proofs.Common.{◌≡◌, drop}
use Rattle.network_specs.specs.Plans.{bus_of_terminal}
use Rattle.network_plan.proofs.attached.bus_of_terminal.Given as goal

abbrev pub invariant-loop-attachment : goal.invariant-loop-attachment
invariant-loop-attachment l = bus_of_terminal (drop l.attachment-index l.attachments) l.name ≡ bus_of_terminal l.attachments l.name
