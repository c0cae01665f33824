-- How a field is printed.
use Rattle.std.specs.Prelude.{ℕ, List, codes}
use Rattle.network_specs.specs.declared.field.NetworkField.{NetworkField}
use Rattle.network_specs.specs.declared.field.NetworkField.TheVariants as field

-- its key, behind the name of the array that its tables stand in
abbrev pub name_of : NetworkField → List ℕ
name_of field.Size = codes "Size"
name_of field.Toml = codes "Toml"
name_of field.Resolution = codes "resolution"
name_of field.Stop = codes "stop"
name_of field.Events = codes "events"
name_of field.Fuel = codes "fuel"
name_of field.Bus = codes "bus"
name_of field.BusName = codes "bus.name"
name_of field.BusRate = codes "bus.rate"
name_of field.BusFdRate = codes "bus.fd_rate"
name_of field.Node = codes "node"
name_of field.NodeName = codes "node.name"
name_of field.NodeFmu = codes "node.fmu"
name_of field.NodeBus = codes "node.bus"
name_of field.Error = codes "error"
name_of field.ErrorBus = codes "error.bus"
name_of field.ErrorAttempt = codes "error.attempt"
name_of field.ErrorCount = codes "error.count"
name_of field.ErrorKind = codes "error.kind"
name_of field.ErrorBy = codes "error.by"
name_of field.ErrorBit = codes "error.bit"
