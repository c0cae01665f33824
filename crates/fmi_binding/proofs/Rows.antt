-- The sixteen rows: the memory, and then the functions.
use Rattle.std.specs.Prelude.{◌≡◌, Option, None, Some, Result, Ok, Err, IfOk, IfErr, map, codes, refl}
use Rattle.std.proofs.Common.{sym, ap, ◌∙◌}
use Rattle.wasm_types.specs.Modules.{NestedModule}
use Rattle.binding_specs.specs.declared.error.BindError.{BindError}
use Rattle.binding_specs.specs.Exports.{AMemory, export_named, fault_at, or_else, function_row, functions, first_fault_from, binding_fault}
use Rattle.fmi_binding.specs.Faults.{fault_in}

-- the first row's fault, or that of the others
pub in_two : (m : NestedModule) (first others : Option BindError)
    → first ≡ fault_at m 0 AMemory (export_named (codes "memory") m.exports)
    → others ≡ first_fault_from m 1 (map function_row functions)
    → binding_fault m ≡ or_else first others
unfolding binding_fault
in_two m first others e f =
    sym (ap (λ o. or_else o others) e ∙ ap (or_else (fault_at m 0 AMemory (export_named (codes "memory") m.exports))) f)

-- a faulty first row is the fault
pub by_first : (m : NestedModule) (fault : BindError)
    → Some fault ≡ fault_at m 0 AMemory (export_named (codes "memory") m.exports)
    → binding_fault m ≡ Some fault
by_first m fault e = in_two m (Some fault) (first_fault_from m 1 (map function_row functions)) e refl

-- behind a first row that is there the others' fault is the fault
pub by_others : (m : NestedModule) (r : Result (Unit {0}) BindError)
    → None ≡ fault_at m 0 AMemory (export_named (codes "memory") m.exports)
    → fault_in r ≡ first_fault_from m 1 (map function_row functions)
    → binding_fault m ≡ fault_in r
by_others m r e f = in_two m None (fault_in r) e f

pub if_ok : (m : NestedModule) (r : Result (Unit {0}) BindError) → binding_fault m ≡ fault_in r → IfOk r (λ done. binding_fault m ≡ None)
if_ok m (Ok done) e = e
if_ok m (Err fault) e = tt

pub if_err : (m : NestedModule) (r : Result (Unit {0}) BindError) → binding_fault m ≡ fault_in r
    → IfErr r (λ fault. binding_fault m ≡ Some fault)
if_err m (Ok done) e = tt
if_err m (Err fault) e = e
