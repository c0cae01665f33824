-- The faults that a body can have.
use Rattle.std.specs.Prelude.{ℕ, ◌≤◌, Result, Ok, Err}
use Rattle.module_specs.specs.declared.fault.Fault.{Fault}
use Rattle.module_specs.specs.declared.fault.Fault.TheVariants as fault
use Rattle.module_specs.specs.Faults.{place_of}
use Rattle.wasm_code.specs.declared.error.CodeError.{CodeError}
use Rattle.wasm_code.specs.declared.error.CodeError.TheVariants.{Opcode, Float, Form, Nesting, Number, Short, Size, Limit, Memory}

-- the fault that an error names
abbrev pub fault_of : CodeError → Fault
fault_of (Opcode at byte) = fault.Opcode at byte
fault_of (Float at) = fault.Float at
fault_of (Form at) = fault.Form at
fault_of (Nesting at) = fault.Nesting at
fault_of (Number at) = fault.Number at
fault_of (Short at) = fault.Short at
fault_of (Size at) = fault.Size at
fault_of (Limit at) = fault.Limit at
fault_of Memory = fault.Memory

-- what was returned, with the fault in place of the error
abbrev pub with_fault : {A : Type 0} → Result A CodeError → Result A Fault
with_fault (Ok x) = Ok x
with_fault (Err e) = Err (fault_of e)

-- a fault that code or a body can have
abbrev pub IsOfCode : Fault → Type 0
IsOfCode (fault.Magic at) = ⊥
IsOfCode (fault.Version at) = ⊥
IsOfCode (fault.Section at) = ⊥
IsOfCode (fault.Order at) = ⊥
IsOfCode (fault.Import at) = ⊥
IsOfCode (fault.Utf8 at) = ⊥
IsOfCode (fault.Count at) = ⊥
IsOfCode fault.Memory = ⊥
IsOfCode other = Unit {0}

-- the same, or want of memory
abbrev pub HasError : Fault → Type 0
HasError fault.Memory = Unit {0}
HasError e = IsOfCode e

-- the faults that a body may have in a region with this end: one of these, in the region or at its end
abbrev pub InBody : ℕ → Fault → Type 0
InBody end e = IsOfCode e × (place_of e ≤ end)
