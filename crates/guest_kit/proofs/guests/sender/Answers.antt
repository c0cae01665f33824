use Rattle.std.proofs.Common.{[], subst}
use Rattle.std.specs.Prelude.{◌≡◌, IfOk}
use Rattle.wasm_writer.specs.ModuleTexts.{module_text}
use Rattle.guest_kit.specs.declared.manner.Manner.{Manner}
use Rattle.guest_kit.specs.Guests.{guest_module}
use Rattle.guest_kit.proofs.guests.sender.Goals as goal

pub returns : goal.returns
returns c = record { bytes = subst (λ (m : Manner). IfOk c.guest.result (λ b. b.items ≡ module_text (guest_module m c.args.op.now []))) c.ticks.ensures c.guest.ensures.bytes }
