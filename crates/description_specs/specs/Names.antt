-- How a field is printed.
use Rattle.std.specs.Prelude.{ℕ, List, codes}
use Rattle.description_specs.specs.declared.field.Field.{Field}
use Rattle.description_specs.specs.declared.field.Field.TheVariants as field

-- its key, behind the name of the array that its tables stand in
abbrev pub name_of : Field → List ℕ
name_of field.Size = codes "Size"
name_of field.Toml = codes "Toml"
name_of field.FmiVersion = codes "fmiVersion"
name_of field.ModelName = codes "modelName"
name_of field.InstantiationToken = codes "instantiationToken"
name_of field.CoSimulation = codes "CoSimulation"
name_of field.ModelIdentifier = codes "modelIdentifier"
name_of field.HasEventMode = codes "hasEventMode"
name_of field.Clock = codes "Clock"
name_of field.ClockName = codes "Clock.name"
name_of field.ClockValueReference = codes "Clock.valueReference"
name_of field.ClockCausality = codes "Clock.causality"
name_of field.ClockIntervalVariability = codes "Clock.intervalVariability"
name_of field.Binary = codes "Binary"
name_of field.BinaryName = codes "Binary.name"
name_of field.BinaryValueReference = codes "Binary.valueReference"
name_of field.BinaryCausality = codes "Binary.causality"
name_of field.BinaryClocks = codes "Binary.clocks"
name_of field.BinaryMaxSize = codes "Binary.maxSize"
name_of field.Terminal = codes "Terminal"
name_of field.TerminalName = codes "Terminal.name"
name_of field.TerminalRxData = codes "Terminal.Rx_Data"
name_of field.TerminalRxClock = codes "Terminal.Rx_Clock"
name_of field.TerminalTxData = codes "Terminal.Tx_Data"
name_of field.TerminalTxClock = codes "Terminal.Tx_Clock"
