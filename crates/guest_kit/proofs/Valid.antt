-- The program is valid, and exports what is asked of a unit, whatever its memory holds.
use Rattle.std.proofs.Common.{◌≡◌, ℕ, List, None, refl}
use Rattle.wasm_types.specs.Back.{code_of, nested_module}
use Rattle.wasm_types.specs.Modules.{flat_module}
use Rattle.code_specs.specs.Signatures.{opcode_signature, access_bytes, signature_of}
use Rattle.code_specs.specs.Typing.{instr_type, type_of_func}
use Rattle.code_specs.specs.Validity.{validity, IsValid}
use Rattle.binding_specs.specs.Exports.{binding_fault}
use Rattle.guest_kit.specs.declared.manner.Manner.{Manner}
use Rattle.guest_kit.specs.Guests.{guest_module}

pub guest_is_valid : (m : Manner) (answer opening : List ℕ) → IsValid (guest_module m answer opening)
unfolding validity type_of_func instr_type signature_of opcode_signature access_bytes
guest_is_valid m answer opening = refl

pub guest_is_bound : (m : Manner) (answer opening : List ℕ) → binding_fault (guest_module m answer opening) ≡ None
unfolding binding_fault
guest_is_bound m answer opening = refl

-- it is the module whose flat form it has
pub guest_is_nested : (m : Manner) (answer opening : List ℕ) → nested_module (flat_module (guest_module m answer opening)) ≡ guest_module m answer opening
unfolding code_of
guest_is_nested m answer opening = refl
