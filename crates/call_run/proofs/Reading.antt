-- The module that was read.
use Rattle.std.specs.Prelude.{◌≡◌, ℕ, List, Ok}
use Rattle.std.proofs.Common.{sym, ap, ◌∙◌, subst}
use Rattle.wasm_types.specs.declared.module.Module.{Module}
use Rattle.wasm_types.specs.Modules.{NestedModule, flat_module}
use Rattle.wasm_types.specs.Back.{nested_module}
use Rattle.module_specs.specs.ModuleSpelling.{SpellsModule}
use Rattle.module_specs.specs.ModuleReading.{module_read}
use Rattle.code_specs.specs.Validity.{IsValid}
use Rattle.module_report.proofs.Reported.{read_is, nested_is}

-- the bytes are read as the nested form of what was read, and it is valid
pub read_as : (flat : Module) (bytes : List ℕ) → (m : NestedModule) × (flat ≡ flat_module m) × SpellsModule m bytes × IsValid m
    → (module_read bytes ≡ Ok (nested_module flat)) × IsValid (nested_module flat)
read_as flat bytes found =
    let same : nested_module flat ≡ found.0 = nested_is found.0 bytes flat found.1 found.2 in
    (read_is found.0 bytes found.2 ∙ ap Ok (sym same), subst IsValid (sym same) found.3)
