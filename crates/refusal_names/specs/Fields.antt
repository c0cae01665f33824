-- The names of the fields of a network file and of a description among those of all rules.
use Rattle.network_specs.specs.declared.field.NetworkField.{NetworkField}
use Rattle.network_specs.specs.declared.field.NetworkField.TheVariants as network
use Rattle.description_specs.specs.declared.field.Field.{Field}
use Rattle.description_specs.specs.declared.field.Field.TheVariants as description
use Rattle.bench_outside.specs.declared.refusal.Why.{Why}
use Rattle.bench_outside.specs.declared.refusal.Why.TheVariants as why

abbrev pub why_of_network : NetworkField → Why
why_of_network network.Size = why.Size
why_of_network network.Toml = why.Toml
why_of_network network.Resolution = why.Resolution
why_of_network network.Stop = why.Stop
why_of_network network.Events = why.Events
why_of_network network.Fuel = why.Fuel
why_of_network network.Bus = why.Bus
why_of_network network.BusName = why.BusName
why_of_network network.BusRate = why.BusRate
why_of_network network.BusFdRate = why.BusFdRate
why_of_network network.Node = why.Node
why_of_network network.NodeName = why.NodeName
why_of_network network.NodeFmu = why.NodeFmu
why_of_network network.NodeBus = why.NodeBus
why_of_network network.Error = why.Error
why_of_network network.ErrorBus = why.ErrorBus
why_of_network network.ErrorAttempt = why.ErrorAttempt
why_of_network network.ErrorCount = why.ErrorCount
why_of_network network.ErrorKind = why.ErrorKind
why_of_network network.ErrorBy = why.ErrorBy
why_of_network network.ErrorBit = why.ErrorBit

abbrev pub why_of_description : Field → Why
why_of_description description.Size = why.Size
why_of_description description.Toml = why.Toml
why_of_description description.FmiVersion = why.FmiVersion
why_of_description description.ModelName = why.ModelName
why_of_description description.InstantiationToken = why.InstantiationToken
why_of_description description.CoSimulation = why.CoSimulation
why_of_description description.ModelIdentifier = why.ModelIdentifier
why_of_description description.HasEventMode = why.HasEventMode
why_of_description description.Clock = why.Clock
why_of_description description.ClockName = why.ClockName
why_of_description description.ClockValueReference = why.ClockValueReference
why_of_description description.ClockCausality = why.ClockCausality
why_of_description description.ClockIntervalVariability = why.ClockIntervalVariability
why_of_description description.Binary = why.Binary
why_of_description description.BinaryName = why.BinaryName
why_of_description description.BinaryValueReference = why.BinaryValueReference
why_of_description description.BinaryCausality = why.BinaryCausality
why_of_description description.BinaryClocks = why.BinaryClocks
why_of_description description.BinaryMaxSize = why.BinaryMaxSize
why_of_description description.Terminal = why.Terminal
why_of_description description.TerminalName = why.TerminalName
why_of_description description.TerminalRxData = why.TerminalRxData
why_of_description description.TerminalRxClock = why.TerminalRxClock
why_of_description description.TerminalTxData = why.TerminalTxData
why_of_description description.TerminalTxClock = why.TerminalTxClock
