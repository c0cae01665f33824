-- A guest as a unit over what it shares with others: its part, its state, and what holds where its part is there.
use Rattle.std.specs.Prelude.{◌≡◌, ℕ, ◌≤◌, List, [], ◌∷◌, Option, None, refl}
use Rattle.fmi_states.specs.declared.phase.Phase.TheVariants.{Fresh}
use Rattle.unit_specs.specs.Description.{Description}
use Rattle.wasm_types.specs.declared.module.Module.{Module}
use Rattle.wasm_types.specs.Back.{nested_module}
use Rattle.code_specs.specs.Instances.{opening_store}
use Rattle.wasm_memory.specs.Pools.{table_at, bytes_in}
use Rattle.wasm_machine.specs.Instances.{Stands}
use Rattle.binding_specs.specs.Exports.{binding_fault}
use Rattle.binding_specs.specs.Guests.{greatest_size}
use Rattle.binding_specs.specs.Answers.{fresh_guest}
use Rattle.guest_laws.specs.Words.{HasStore, IsPlaced}
use Rattle.fmi_binding.specs.declared.guests.Guests.{Guests}
use Rattle.fmi_binding.specs.declared.state.GuestState.{GuestState}
use Rattle.fmi_binding.specs.declared.wasm_ecu.WasmEcu.{WasmEcu}
use Rattle.fmi_binding.specs.States.{guest_of}

-- the parts of what guests share are the tables of the pool
abbrev pub part_at : ℕ → Guests → Option (List ℕ)
part_at p shared = table_at shared.pool p

-- a guest owns the table in which its memory lies
abbrev pub parts_of : WasmEcu → List ℕ
parts_of e = e.instance.memory.table ∷ []

abbrev pub state_of : WasmEcu → Guests → GuestState
state_of e shared = record {
  code = e.bound.code;
  description = e.bound.description;
  budget = e.bound.budget;
  phase = e.phase;
  area = e.area;
  bytes = bytes_in shared.pool e.instance.memory;
  globals = e.instance.globals.items;
}

-- Its table is there with the size of its memory, and its module is that of a unit. Its variables and the address of
-- its area have their limits: 64 KiB, and 256 pages. Its memory and globals are such as its code may have, and from its
-- instantiation on its area lies in its memory.
pub record IsIn (e : WasmEcu) (shared : Guests) : Type 0 where
  pub stands : Stands e.bound.code shared.pool e.instance
  pub bound : binding_fault (nested_module e.bound.code) ≡ None
  pub sizes : greatest_size e.bound.description.terminals ≤ 65536
  pub area : e.area ≤ 16777216
  pub store : HasStore (guest_of (state_of e shared))
  pub placed : IsPlaced e.phase (guest_of (state_of e shared))

-- the state before the first call
abbrev pub opening_state : Module → Description → (fuel : ℕ) → GuestState
opening_state m d fuel = record {
  code = m;
  description = d;
  budget = fuel;
  phase = Fresh;
  area = 0;
  bytes = (opening_store (nested_module m)).bytes;
  globals = (opening_store (nested_module m)).globals;
}

opening_guest : (m : Module) (d : Description) (fuel : ℕ) → guest_of (opening_state m d fuel) ≡ fresh_guest (nested_module m) d fuel
opening_guest m d fuel = refl
