use Rattle.std.proofs.Common.{◌≡◌, ℕ, List, [], ◌∷◌, refl, ap, subst, ◌∙◌}
use Rattle.std.specs.Prelude.{IfOk}
use Rattle.std.specs.List.{repeat}
use Rattle.operation_specs.specs.Operation.{Transmit}
use Rattle.operation_specs.specs.Spelling.{spell}
use Rattle.wasm_writer.specs.ModuleTexts.{module_text}
use Rattle.guest_kit.specs.declared.manner.Manner.{Manner}
use Rattle.guest_kit.specs.Guests.{guest_module, short_frame, flood}
use Rattle.guest_kit.proofs.Cloned.{clones}
use Rattle.guest_kit.proofs.guests.flooder.Goals as goal

transmit_is : (0x10 ∷ 0 ∷ 0 ∷ 0 ∷ 16 ∷ 0 ∷ 0 ∷ 0 ∷ 0xFF ∷ 0x07 ∷ 0 ∷ 0 ∷ 0 ∷ 0 ∷ 0 ∷ 0 ∷ []) ≡ spell (Transmit short_frame)
unfolding spell
transmit_is = refl

pub returns : goal.returns
returns c =
    let items = c.as_slice.ensures.value ∙ clones _ _ c.in_ok-opening.ensures.items ∙ ap (repeat 300) transmit_is in
    record {
      bytes =
          subst (λ (m : Manner). IfOk c.guest.result (λ b. b.items ≡ module_text (guest_module m [] flood))) c.listens.ensures
          (subst (λ (o : List ℕ). IfOk c.guest.result (λ b. b.items ≡ module_text (guest_module c.listens.result [] o))) items c.guest.ensures.bytes);
    }
