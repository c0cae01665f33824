-- What the operations and items of the code stand for.
use Rattle.std.specs.Prelude.{List, map}
use Rattle.operation_specs.specs.Operation as model
use Rattle.operation_specs.specs.Reading as reading
use Rattle.bus_ops.specs.declared.op.Declared.{Declared}
use Rattle.bus_ops.specs.declared.op.Declared.TheVariants.{Active, Passive, Off}
use Rattle.bus_ops.specs.declared.op.Parameter.{Parameter}
use Rattle.bus_ops.specs.declared.op.Parameter.TheVariants.{Rate, FdRate, Keep, Discard}
use Rattle.bus_ops.specs.declared.op.Op.{Op}
use Rattle.bus_ops.specs.declared.op.Op.TheVariants.{FormatError, Transmit, FdTransmit, Confirm, ArbitrationLost, BusError, Configuration, Status, Wakeup, Sleep}
use Rattle.bus_ops.specs.declared.op.Item.{Item}
use Rattle.bus_ops.specs.declared.op.Item.TheVariants as items

-- the state that is meant
abbrev pub declared_of : Declared → model.Declared
declared_of Active = model.Active
declared_of Passive = model.Passive
declared_of Off = model.Off

-- the parameter that is meant
abbrev pub parameter_of : Parameter → model.Parameter
parameter_of (Rate rate) = model.Rate rate
parameter_of (FdRate rate) = model.FdRate rate
parameter_of Keep = model.Keep
parameter_of Discard = model.Discard

-- the operation that is meant
abbrev pub operation_of : Op → model.Operation
operation_of (FormatError bytes) = model.FormatError bytes
operation_of (Transmit frame) = model.Transmit frame
operation_of (FdTransmit frame) = model.FdTransmit frame
operation_of (Confirm id) = model.Confirm id
operation_of (ArbitrationLost id) = model.ArbitrationLost id
operation_of (BusError id kind primary sender) = model.BusError id kind primary sender
operation_of (Configuration parameter) = model.Configuration (parameter_of parameter)
operation_of (Status declared) = model.Status (declared_of declared)
operation_of Wakeup = model.Wakeup
operation_of Sleep = model.Sleep

-- the item that is meant
abbrev pub item_of : Item → reading.Item
item_of (items.Op op) = reading.Op (operation_of op)
item_of (items.Bad bytes) = reading.Bad bytes

abbrev pub items_of : List Item → List reading.Item
items_of list = map item_of list
