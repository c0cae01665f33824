use Rattle.code_specs.specs.Execution.{exec, invoke}
use Rattle.code_laws.proofs.Spending.{exec_spends, invoke_spends, loop_again}
use Rattle.code_laws.proofs.spent_fuel.loops_begin_again.Goals as goal

pub returns : goal.returns
returns c = λ m frames held code locals s fuel.
    loop_again (exec m (invoke m frames) held code) (exec_spends m (invoke m frames) (invoke_spends m frames) held code) locals s fuel
