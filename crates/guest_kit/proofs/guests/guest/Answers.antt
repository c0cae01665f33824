use Rattle.std.proofs.Common.{◌≡◌, ℕ, List, ap, ◌∙◌}
use Rattle.wasm_types.specs.declared.module.Module.{Module}
use Rattle.wasm_types.specs.Back.{nested_module}
use Rattle.wasm_types.specs.Modules.{flat_module}
use Rattle.wasm_writer.specs.ModuleTexts.{module_text}
use Rattle.wasm_writer.specs.Building.{segment_at, with_segment}
use Rattle.guest_kit.specs.Guests.{numbers_of, guest_module}
use Rattle.guest_kit.proofs.Spelled.{guest_is_spelled}
use Rattle.guest_kit.proofs.Valid.{guest_is_nested}
use Rattle.guest_kit.proofs.guests.guest.Goals as goal

pub write_module-requires : goal.write_module-requires
write_module-requires c =
    let numbers = c.as_slice.ensures.value ∙ c.in_ok-numbers.ensures in
    let first = c.in_ok-segment.ensures.ok ∙ ap (λ (n : List ℕ). with_segment (segment_at 0 n) c.in_ok-builder.builder) numbers
    ∙ ap (with_segment (segment_at 0 (numbers_of c.args.manner c.args.answer.now c.args.opening.now))) c.in_ok-builder.ensures in
    let both = c.finish-module.ensures ∙ c.in_ok-segment-2.ensures.ok ∙ ap (with_segment (segment_at 32768 c.args.opening.now)) first in
    guest_is_spelled c.args.manner c.args.answer.now c.args.opening.now c.requires.answer c.requires.opening c.finish-module.result both

pub returns : goal.returns
returns c =
    let numbers = c.as_slice.ensures.value ∙ c.in_ok-numbers.ensures in
    let first = c.in_ok-segment.ensures.ok ∙ ap (λ (n : List ℕ). with_segment (segment_at 0 n) c.in_ok-builder.builder) numbers
    ∙ ap (with_segment (segment_at 0 (numbers_of c.args.manner c.args.answer.now c.args.opening.now))) c.in_ok-builder.ensures in
    let both : c.finish-module.result ≡ flat_module (guest_module c.args.manner c.args.answer.now c.args.opening.now)
    = c.finish-module.ensures ∙ c.in_ok-segment-2.ensures.ok ∙ ap (with_segment (segment_at 32768 c.args.opening.now)) first in
    record {
      bytes = c.in_ok-bytes.ensures ∙ ap (λ (m : Module). module_text (nested_module m)) both
          ∙ ap module_text (guest_is_nested c.args.manner c.args.answer.now c.args.opening.now);
    }
