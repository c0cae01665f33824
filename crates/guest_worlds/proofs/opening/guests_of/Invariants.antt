use Rattle.std.proofs.Common.{◌≡◌, ◌+◌, ◌++◌, All, drop, length}
use Rattle.fmi_binding.specs.contracts.wasm_ecu.WasmEcuEcu.TheImpl.{ghosts}
use Rattle.world_core.specs.Units.{AreApart, states_of}
use Rattle.guest_worlds.specs.Opening.{IsUnitCode, opening_states}
use Rattle.guest_worlds.proofs.opening.guests_of.Given as goal

-- The guests that are made and those of the modules that are left are those of all.
abbrev pub invariant-loop-code : goal.invariant-loop-code
invariant-loop-code l = record {
  states : states_of ghosts l.ecus.items l.shared ++ opening_states l.fuel l.left.items (drop (length l.ecus.items) l.nodes) ≡ opening_states l.fuel l.fn.codes.items l.nodes;
  apart : AreApart ghosts l.ecus.items l.shared;
  units : All IsUnitCode l.left.items;
  each : length l.ecus.items + length l.left.items ≡ length l.nodes;
}

abbrev pub decreases-loop-code : goal.decreases-loop-code
decreases-loop-code l = length l.left.items
