use Rattle.std.proofs.Common.{◌≡◌, ◌+◌, length}
use Rattle.std.specs.Prelude.{map}
use Rattle.wasm_types.specs.Back.{nested_module}
use Rattle.binding_specs.specs.Exports.{function_row, first_fault_from}
use Rattle.fmi_binding.proofs.bound.check_functions.Given as goal

abbrev pub invariant-loop-left : goal.invariant-loop-left
invariant-loop-left l = record {
  rest : first_fault_from (nested_module l.code) l.row (map function_row l.left) ≡ first_fault_from (nested_module l.code) l.first
      (map function_row l.functions);
  row : l.row + length l.left ≡ l.first + length l.functions;
}

abbrev pub decreases-loop-left : goal.decreases-loop-left
decreases-loop-left l = length l.left
