-- What calls keep of a guest. Contracts cite this module.
use Rattle.std.specs.Prelude.{◌≡◌, true, ⊤}
use Rattle.fmi_states.specs.declared.phase.Phase.{Phase}
use Rattle.fmi_states.specs.declared.phase.Phase.TheVariants.{Fresh, Instantiated, Init, Event, Step, Terminated, Failed, Gone}
use Rattle.code_specs.specs.Stores.{pages}
use Rattle.wasm_machine.specs.Making.{suits}
use Rattle.binding_specs.specs.Guests.{Guest}
use Rattle.binding_laws.specs.Words.{HasArea}

-- a memory of whole pages, as many as its module allows, and globals that its code may have
abbrev pub HasStore : Guest → Type 0
HasStore g = suits g.code (pages g.store) g.store.bytes g.store.globals ≡ true

-- in each phase from its instantiation on, a guest has its area in its memory
abbrev pub IsPlaced : Phase → Guest → Type 0
IsPlaced Fresh g = ⊤
IsPlaced Instantiated g = HasArea g
IsPlaced Init g = HasArea g
IsPlaced Event g = HasArea g
IsPlaced Step g = HasArea g
IsPlaced Terminated g = HasArea g
IsPlaced Failed g = HasArea g
IsPlaced Gone g = ⊤

-- a guest before its first call, with a memory and globals that its code may have
pub record Begins (g : Guest) : Type 0 where
  pub phase : g.phase ≡ Fresh
  pub store : HasStore g
