use Rattle.std.proofs.Common.{[], true, ◌∷◌, subst}
use Rattle.std.specs.Prelude.{◌≡◌, IfOk}
use Rattle.wasm_writer.specs.ModuleTexts.{module_text}
use Rattle.guest_kit.specs.declared.manner.Manner.{Manner}
use Rattle.guest_kit.specs.Guests.{guest_module}
use Rattle.operation_specs.specs.Spelling.{spell}
use Rattle.guest_kit.proofs.guests.sleeper.Goals as goal

pub returns : goal.returns
unfolding spell
returns c = record { bytes = subst (λ (m : Manner). IfOk c.guest.result (λ b. b.items ≡ module_text (guest_module (record m { wakes = true }) c.args.op.now (0xF0 ∷ 0 ∷ 0 ∷ 0 ∷ 8 ∷ 0 ∷ 0 ∷ 0 ∷ [])))) c.listens.ensures c.guest.ensures.bytes }
