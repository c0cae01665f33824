-- What is saved of a guest, and the guest that is made of it again. Contracts cite this module.
use Rattle.std.specs.Prelude.{ℕ, ◌+◌, ◌&&◌, Bool, true, false, length, nat_le}
use Rattle.fmi_states.specs.declared.phase.Phase.{Phase}
use Rattle.fmi_states.specs.declared.phase.Phase.TheVariants.{Step}
use Rattle.unit_specs.specs.Description.{Description}
use Rattle.wasm_types.specs.declared.module.Module.{Module}
use Rattle.wasm_types.specs.Modules.{NestedModule}
use Rattle.code_specs.specs.Stores.{pages}
use Rattle.wasm_machine.specs.Making.{suits}
use Rattle.binding_specs.specs.Guests.{area_size}
use Rattle.fmi_binding.specs.declared.state.GuestState.{GuestState}
use Rattle.fmi_binding.specs.declared.image.Image.{Image}

-- all of a guest's state but its module, its description and its fuel
abbrev pub image_of : GuestState → Image
image_of s = record {
  phase = s.phase;
  area = s.area;
  pages = pages (record { bytes = s.bytes; globals = s.globals });
  bytes = s.bytes;
  globals = s.globals;
}

abbrev pub is_step : Phase → Bool
is_step Step = true
is_step other = false

-- in Step Mode, with a memory and globals that the module's code may have, and the area in the memory
abbrev pub image_suits : NestedModule → Description → Image → Bool
image_suits m d i = is_step i.phase && (suits m i.pages i.bytes i.globals && nat_le (i.area + area_size d) (length i.bytes))

-- a guest of this module, with this description and so much fuel, that is as the image says
abbrev pub state_from : Module → Description → (fuel : ℕ) → Image → GuestState
state_from m d fuel i = record {
  code = m;
  description = d;
  budget = fuel;
  phase = i.phase;
  area = i.area;
  bytes = i.bytes;
  globals = i.globals;
}
