-- Whether bytes are a module that can be the unit of a description: they are read, then the module is valid, then its
-- segments fit, then it exports what a unit has to.
use Rattle.std.specs.Prelude.{ℕ, List, Option, Some, None, Result, Ok, Err}
use Rattle.unit_specs.specs.Description.{Description}
use Rattle.document_specs.specs.Checks.{◌>>=◌}
use Rattle.wasm_types.specs.Modules.{NestedModule}
use Rattle.module_specs.specs.declared.fault.Fault.{Fault}
use Rattle.module_specs.specs.ModuleReading.{module_read}
use Rattle.code_specs.specs.Validity.{Invalid, validity}
use Rattle.code_specs.specs.declared.segment.Misfit.{Misfit}
use Rattle.code_specs.specs.Instances.{first_misfit}

-- why a module is refused
pub data ModuleRefusal (Unbound : Type 0) : Type 0 where
  -- its first item that can't be read
  Unreadable : Fault → ModuleRefusal Unbound
  -- the first rule of validity that fails
  Broken : Invalid → ModuleRefusal Unbound
  -- the first segment that doesn't fit
  Unfit : Misfit → ModuleRefusal Unbound
  -- the first export that a unit has to have and that it hasn't
  Unexported : Unbound → ModuleRefusal Unbound

-- another refusal in place of one
abbrev pub refused_as : {E F A : Type 0} → (E → F) → Result A E → Result A F
refused_as f (Ok x) = Ok x
refused_as f (Err e) = Err (f e)

-- nothing, or this refusal
abbrev pub unless : {E F : Type 0} → (E → F) → Option E → Result (Unit {0}) F
unless f None = Ok tt
unless f (Some e) = Err (f e)

-- What a unit has to export is looked at by `unbound`: the first export that a module lacks for a description.
unfoldable pub judged : {Unbound : Type 0} → (unbound : NestedModule → Description → Option Unbound) → Description → List ℕ → Result NestedModule (ModuleRefusal Unbound)
judged unbound d bytes = do
  m ← refused_as Unreadable (module_read bytes)
  valid ← refused_as Broken (validity m)
  fits ← unless Unfit (first_misfit m)
  exports ← unless Unexported (unbound m d)
  Ok m
