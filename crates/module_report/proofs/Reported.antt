-- A module that was read, and its line.
use Rattle.std.proofs.Common.{◌≡◌, ℕ, List, ap, ◌∙◌}
use Rattle.std.specs.Prelude.{Ok}
use Rattle.wasm_types.specs.declared.module.Module.{Module}
use Rattle.wasm_types.specs.Modules.{NestedModule, flat_module}
use Rattle.wasm_types.specs.Back.{nested_module}
use Rattle.wasm_types.proofs.Whole.{module_back}
use Rattle.wasm_types.proofs.Spelled.{plain_module}
use Rattle.module_specs.specs.ModuleSpelling.{SpellsModule}
use Rattle.module_specs.specs.ModuleReading.{module_read}
use Rattle.module_specs.proofs.SpellableParts.{module_fits}
use Rattle.module_specs.proofs.Modules.{module_again}
use Rattle.wasm_writer.proofs.Bodies.{tell}
use Rattle.module_report.specs.Line.{module_line}

pub read_is : (m : NestedModule) (b : List ℕ) → SpellsModule m b → module_read b ≡ Ok m
read_is m b s = module_again tell m b s

pub nested_is : (m : NestedModule) (b : List ℕ) (flat : Module) → flat ≡ flat_module m → SpellsModule m b → nested_module flat ≡ m
nested_is m b flat is s = ap nested_module is ∙ module_back m (plain_module m (module_fits m b s))

pub line_is : (m : NestedModule) (b : List ℕ) (flat : Module) (line : List ℕ) → flat ≡ flat_module m → SpellsModule m b
    → line ≡ module_line (nested_module flat) → line ≡ module_line m
line_is m b flat line is s e = e ∙ ap module_line (nested_is m b flat is s)
