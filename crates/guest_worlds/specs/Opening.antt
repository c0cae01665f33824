-- The guests of a network before its first event. Contracts cite this module.
use Rattle.std.specs.Prelude.{◌≡◌, ◌≤◌, ℕ, List, [], ◌∷◌, None}
use Rattle.wasm_types.specs.declared.module.Module.{Module}
use Rattle.wasm_types.specs.Back.{nested_module}
use Rattle.code_specs.specs.Instances.{first_misfit}
use Rattle.binding_specs.specs.Exports.{binding_fault}
use Rattle.binding_specs.specs.Guests.{greatest_size}
use Rattle.world_specs.specs.Plan.{NodePlan}
use Rattle.fmi_binding.specs.declared.state.GuestState.{GuestState}
use Rattle.fmi_binding.specs.Ecus.{opening_state}

-- the module of a unit: its segments fit, and it exports what a unit has to
pub record IsUnitCode (m : Module) : Type 0 where
  pub fits : first_misfit (nested_module m) ≡ None
  pub bound : binding_fault (nested_module m) ≡ None

-- no binary of a terminal is longer than 65,536 bytes
abbrev pub IsDescribed : NodePlan → Type 0
IsDescribed n = greatest_size n.description.terminals ≤ 65536

-- each node's guest, with its module, its description and its fuel
abbrev pub opening_states : (fuel : ℕ) → List Module → List NodePlan → List GuestState
opening_states fuel (m ∷ ms) (n ∷ ns) = opening_state m n.description fuel ∷ opening_states fuel ms ns
opening_states fuel ms ns = []
