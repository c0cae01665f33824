use Rattle.std.proofs.Common.{sym, ap, ◌∙◌, ◌∷◌, ◌%◌, ◌^◌, ℕ, ◌≡◌, true, false}
use Rattle.wasm_types.specs.declared.instr.Instr.TheVariants.{Numeric}
use Rattle.wasm_types.specs.Spellable.{width}
use Rattle.code_specs.specs.Effects.{Continues, Traps, bare, effect_of}
use Rattle.wasm_num.specs.Arity.{is_unary_op}
use Rattle.wasm_machine.specs.Opcodes.{given_type}
use Rattle.wasm_machine.proofs.Numbers.{unary_effect, binary_effect, binary_done}
use Rattle.wasm_machine.proofs.numeric.numeric.Goals as goal

pub returns-then-is_unary : goal.returns-then-is_unary
returns-then-is_unary c = λ m s.
    let op = c.args.op in
    let below = c.pop-operand.new.values in
    let one : is_unary_op op ≡ true = sym c.is_unary.ensures ∙ c.if-is_unary.true in
    ap (λ v. effect_of bare m (Numeric op) v s) c.pop-operand.ensures
    ∙ unary_effect m op c.ranges.op.fits c.requires.op one c.pop-operand.result below s
    ∙ ap (λ (n : ℕ). Continues (n ∷ below) s) (sym (c.low_of.ensures ∙ ap (λ n. n % 2 ^ width (given_type op)) c.unary.ensures))
    ∙ ap (λ v. Continues v s) (sym c.push.ensures)

pub returns-in-Ok : goal.returns-in-Ok
returns-in-Ok c = λ m s.
    let op = c.args.op in
    let below = c.pop-lower.new.values in
    let two : is_unary_op op ≡ false = sym c.is_unary.ensures ∙ c.if-is_unary.false in
    ap (λ v. effect_of bare m (Numeric op) v s) (c.pop-upper.ensures ∙ ap (λ v. c.pop-upper.result ∷ v) c.pop-lower.ensures)
    ∙ binary_effect m op c.ranges.op.fits c.requires.op two c.pop-upper.result c.pop-lower.result below s
    ∙ ap (λ x. binary_done op x below s) (sym c.binary.ensures ∙ c.in-Ok.is)
    ∙ ap (λ (n : ℕ). Continues (n ∷ below) s) (sym c.low_of-in-Ok.ensures)
    ∙ ap (λ v. Continues v s) (sym c.push-in-Ok.ensures)

pub returns-in-Err : goal.returns-in-Err
returns-in-Err c = λ m s.
    let op = c.args.op in
    let below = c.pop-lower.new.values in
    let two : is_unary_op op ≡ false = sym c.is_unary.ensures ∙ c.if-is_unary.false in
    ap (λ v. effect_of bare m (Numeric op) v s) (c.pop-upper.ensures ∙ ap (λ v. c.pop-upper.result ∷ v) c.pop-lower.ensures)
    ∙ binary_effect m op c.ranges.op.fits c.requires.op two c.pop-upper.result c.pop-lower.result below s
    ∙ ap (λ x. binary_done op x below s) (sym c.binary.ensures ∙ c.in-Err.is)
    ∙ ap Traps (sym c.trap_of_number.ensures)
