-- What reading a module answers.
use Rattle.std.specs.Prelude.{◌≡◌, Result, Ok, Err}
use Rattle.wasm_types.specs.declared.module.Module.{Module}
use Rattle.wasm_types.specs.Modules.{NestedModule, flat_module}
use Rattle.module_specs.specs.declared.fault.Fault.{Fault}
use Rattle.module_specs.specs.declared.fault.Fault.TheVariants as fault
use Rattle.wasm_reader.specs.declared.error.ReadError.{ReadError}
use Rattle.wasm_reader.specs.declared.error.ReadError.TheVariants.{Short, Size, Magic, Version, Section, Order, Number, Import, Float, Form, Utf8, Opcode, Nesting, Count, Limit, Memory}

-- the error that names a fault: of an unknown opcode the place alone
abbrev pub error_of : Fault → ReadError
error_of (fault.Short at) = Short at
error_of (fault.Size at) = Size at
error_of (fault.Magic at) = Magic at
error_of (fault.Version at) = Version at
error_of (fault.Section at) = Section at
error_of (fault.Order at) = Order at
error_of (fault.Number at) = Number at
error_of (fault.Import at) = Import at
error_of (fault.Float at) = Float at
error_of (fault.Form at) = Form at
error_of (fault.Utf8 at) = Utf8 at
error_of (fault.Opcode at byte) = Opcode at
error_of (fault.Nesting at) = Nesting at
error_of (fault.Count at) = Count at
error_of (fault.Limit at) = Limit at
error_of fault.Memory = Memory

-- the flat form of a module that was read, or the error that names the fault
abbrev pub outcome_of : Result NestedModule Fault → Result Module ReadError
outcome_of (Ok m) = Ok (flat_module m)
outcome_of (Err e) = Err (error_of e)

-- this is what was returned, unless memory ran out
abbrev pub Returns : Result Module ReadError → Result Module ReadError → Type 0
Returns (Err Memory) expected = Unit {0}
Returns result expected = result ≡ expected
