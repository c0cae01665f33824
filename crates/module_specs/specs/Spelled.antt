-- Modules that are read.
use Rattle.std.specs.Prelude.{◌≡◌, ℕ, List}
use Rattle.wasm_types.specs.declared.module.Module.{Module}
use Rattle.wasm_types.specs.Modules.{NestedModule, flat_module}
use Rattle.module_specs.specs.ModuleSpelling.{SpellsModule}

-- the flat form of a module that some bytes spell; so its lists are nested at most 1,024 deep
pub record IsSpelled (m : Module) : Type 0 where
  pub nested : NestedModule
  pub flat : m ≡ flat_module nested
  pub bytes : List ℕ
  pub spelled : SpellsModule nested bytes
