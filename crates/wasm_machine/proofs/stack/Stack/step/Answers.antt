use Rattle.std.proofs.Common.{sym, ◌≡◌, ◌-◌, arith, subst, length}
use Rattle.std.specs.Prelude.{suc, IfOk, OnErr}
use Rattle.wasm_machine.specs.Seen.{seen}
use Rattle.wasm_machine.specs.Instances.{store_in, LargerStep}
use Rattle.wasm_machine.proofs.Runs.{step_is}
use Rattle.wasm_machine.proofs.stack.Stack.step.Goals as goal

pub returns : goal.returns
returns c =
    let s = store_in c.args.pool.now c.args.instance.now in
    let g = c.args.fuel.now - 1 in
    let e : c.args.fuel.now ≡ suc g = omega (arith, c.if-fuel-eq0.false) in
    let is = step_is c.args.parts.now c.args.self.now s c.args.fuel.now g c.func_at.result.now c.instr_at-instr.result.now c.func_at.ensures
    c.instr_at-instr.ensures.instr e in
    record {
      step = subst (λ st. IfOk c.execute.result (λ t. st ≡ seen t c.execute.new.self (store_in c.execute.new.pool c.execute.new.instance)
          g)) (sym is) (c.execute.ensures.step g);
      leaves = c.execute.ensures.leaves;
      larger = λ unshared. subst (λ st. OnErr c.execute.result (LargerStep (length s.bytes) st)) (sym is)
          (c.execute.ensures.larger unshared g);
    }
