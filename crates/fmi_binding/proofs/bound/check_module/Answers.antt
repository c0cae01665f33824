use Rattle.std.proofs.Common.{rules}
use Rattle.wasm_types.specs.Back.{nested_module}
use Rattle.fmi_binding.proofs.Rows.{by_first, by_others, if_ok, if_err}
use Rattle.fmi_binding.proofs.bound.check_module.Goals as goal

pub returns-in_err-check_memory-clause-refused : goal.returns-in_err-check_memory-clause-refused
returns-in_err-check_memory-clause-refused c =
    let h = by_first (nested_module c.args.code.now) c.in_err-check_memory.field-0.0 c.in_err-check_memory.ensures in
    search (rules, h)

pub returns-clause-bound : goal.returns-clause-bound
returns-clause-bound c =
    let m = nested_module c.args.code.now in
    if_ok m c.check_functions.result (by_others m c.check_functions.result c.in_ok-check_memory.ensures c.check_functions.ensures)

pub returns-clause-refused : goal.returns-clause-refused
returns-clause-refused c =
    let m = nested_module c.args.code.now in
    if_err m c.check_functions.result (by_others m c.check_functions.result c.in_ok-check_memory.ensures c.check_functions.ensures)
