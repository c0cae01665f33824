-- What a report prints of a field is the field's name.
use Rattle.std.proofs.Common.{◌≡◌, refl}
use Rattle.network_specs.specs.declared.field.NetworkField.{NetworkField}
use Rattle.network_specs.specs.declared.field.NetworkField.TheVariants as network
use Rattle.network_specs.specs.Names.{name_of as network_name}
use Rattle.description_specs.specs.declared.field.Field.{Field}
use Rattle.description_specs.specs.declared.field.Field.TheVariants as description
use Rattle.description_specs.specs.Names.{name_of as description_name}
use Rattle.refusal_names.specs.Fields.{why_of_network, why_of_description}
use Rattle.bench_top.specs.Report.{why_text}

pub network_printed : (f : NetworkField) → why_text (why_of_network f) ≡ network_name f
network_printed network.Size = refl
network_printed network.Toml = refl
network_printed network.Resolution = refl
network_printed network.Stop = refl
network_printed network.Events = refl
network_printed network.Fuel = refl
network_printed network.Bus = refl
network_printed network.BusName = refl
network_printed network.BusRate = refl
network_printed network.BusFdRate = refl
network_printed network.Node = refl
network_printed network.NodeName = refl
network_printed network.NodeFmu = refl
network_printed network.NodeBus = refl
network_printed network.Error = refl
network_printed network.ErrorBus = refl
network_printed network.ErrorAttempt = refl
network_printed network.ErrorCount = refl
network_printed network.ErrorKind = refl
network_printed network.ErrorBy = refl
network_printed network.ErrorBit = refl

pub description_printed : (f : Field) → why_text (why_of_description f) ≡ description_name f
description_printed description.Size = refl
description_printed description.Toml = refl
description_printed description.FmiVersion = refl
description_printed description.ModelName = refl
description_printed description.InstantiationToken = refl
description_printed description.CoSimulation = refl
description_printed description.ModelIdentifier = refl
description_printed description.HasEventMode = refl
description_printed description.Clock = refl
description_printed description.ClockName = refl
description_printed description.ClockValueReference = refl
description_printed description.ClockCausality = refl
description_printed description.ClockIntervalVariability = refl
description_printed description.Binary = refl
description_printed description.BinaryName = refl
description_printed description.BinaryValueReference = refl
description_printed description.BinaryCausality = refl
description_printed description.BinaryClocks = refl
description_printed description.BinaryMaxSize = refl
description_printed description.Terminal = refl
description_printed description.TerminalName = refl
description_printed description.TerminalRxData = refl
description_printed description.TerminalRxClock = refl
description_printed description.TerminalTxData = refl
description_printed description.TerminalTxClock = refl
