use Rattle.std.proofs.Common.{sym, ap, ◌∙◌}
use Rattle.module_specs.specs.declared.opcodes.Row.{Row}
use Rattle.module_specs.specs.declared.opcodes.Group.TheVariants as group
use Rattle.wasm_code.proofs.Tokens.{gives_token}
use Rattle.wasm_code.proofs.items.read_token.Goals as goal

pub returns-in-Access-clause-is : goal.returns-in-Access-clause-is
returns-in-Access-clause-is c =
    let x = c.in-Access in
    gives_token c.args.bytes.now c.args.at c.in_ok-op.op c.in_ok-op.next (group.Access x.field-0) c.access.result
    (sym c.in_ok-op.ensures.is) (ap (λ (r : Row). r.group) (sym c.row_of.ensures) ∙ x.is) (c.access.ensures.is c.args.at x.field-0)

pub returns-in-Constant-clause-is : goal.returns-in-Constant-clause-is
returns-in-Constant-clause-is c =
    let x = c.in-Constant in
    gives_token c.args.bytes.now c.args.at c.in_ok-op.op c.in_ok-op.next (group.Constant x.ty) c.constant.result
    (sym c.in_ok-op.ensures.is) (ap (λ (r : Row). r.group) (sym c.row_of.ensures) ∙ x.is) (c.constant.ensures.is c.args.at c.in_ok-op.op)
