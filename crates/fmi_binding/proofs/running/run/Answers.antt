use Rattle.wasm_types.specs.Back.{nested_module}
use Rattle.wasm_machine.specs.declared.outcome.Outcome.TheVariants as outcome
use Rattle.wasm_machine.specs.Instances.{store_in}
use Rattle.fmi_binding.proofs.Functions.{run_comes}
use Rattle.fmi_binding.proofs.running.run.Goals as goal

pub returns-in-Value-clause-comes : goal.returns-in-Value-clause-comes
returns-in-Value-clause-comes c = λ area.
    run_comes (nested_module c.args.code.now) c.args.budget c.args.index c.args.arguments.now (outcome.Value c.in-Value.value)
    (store_in c.args.guests.now.pool c.args.instance.now) (store_in c.call.new.pool c.call.new.self) c.call.new.fuel area
    (rw c.in-Value.is at c.in_ok-outcome.ensures.answer)

pub returns-in-Trap-clause-comes : goal.returns-in-Trap-clause-comes
returns-in-Trap-clause-comes c = λ area.
    run_comes (nested_module c.args.code.now) c.args.budget c.args.index c.args.arguments.now (outcome.Trap c.in-Trap.field-0)
    (store_in c.args.guests.now.pool c.args.instance.now) (store_in c.call.new.pool c.call.new.self) c.call.new.fuel area
    (rw c.in-Trap.is at c.in_ok-outcome.ensures.answer)

pub returns-in-Spent-clause-comes : goal.returns-in-Spent-clause-comes
returns-in-Spent-clause-comes c = λ area.
    run_comes (nested_module c.args.code.now) c.args.budget c.args.index c.args.arguments.now outcome.Spent
    (store_in c.args.guests.now.pool c.args.instance.now) (store_in c.call.new.pool c.call.new.self) c.call.new.fuel area
    (rw c.in-Spent.is at c.in_ok-outcome.ensures.answer)
