-- What the states and roles of the code stand for. Public clauses cite this file.
use Rattle.operation_specs.specs.Operation as operation
use Rattle.operation_specs.specs.Operation.{Declared}
use Rattle.bus_specs.specs.Counters as model
use Rattle.error_counters.specs.declared.state.State.{State}
use Rattle.error_counters.specs.declared.state.State.TheVariants.{Active, Passive, Off}
use Rattle.error_counters.specs.declared.counters.Role.{Role}
use Rattle.error_counters.specs.declared.counters.Role.TheVariants.{Sender, LoneSender, Primary, Secondary}

abbrev pub declared_of : State → Declared
declared_of Active = operation.Active
declared_of Passive = operation.Passive
declared_of Off = operation.Off

abbrev pub role_of : Role → model.Role
role_of Sender = model.Sender
role_of LoneSender = model.LoneSender
role_of Primary = model.Primary
role_of Secondary = model.Secondary
