-- The fault of a check.
use Rattle.std.specs.Prelude.{Option, None, Some, Result, Ok, Err}
use Rattle.binding_specs.specs.declared.error.BindError.{BindError}

abbrev pub fault_in : Result (Unit {0}) BindError → Option BindError
fault_in (Ok done) = None
fault_in (Err fault) = Some fault
