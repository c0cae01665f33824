-- One run of locals, behind the locals so far.
use Rattle.std.specs.Prelude.{ℕ, ◌-◌, List, ◌++◌, length, replicate, Ok, nat_lt}
use Rattle.wasm_types.specs.declared.instr.ValType.{ValType}
use Rattle.module_specs.specs.declared.fault.Fault.TheVariants.{Limit}
use Rattle.module_specs.specs.CodeSpelling.{most_locals}
use Rattle.module_specs.specs.Reading.{Read, ◌>>=◌, refuse_if, u32_at, type_at}

unfoldable pub run_at : ℕ → List ℕ → List ValType → ℕ → Read (List ValType)
run_at body b locals at = do
  count ← u32_at b at
  fine ← refuse_if (nat_lt (most_locals - length locals) count.0) (Limit body)
  type ← type_at b count.1
  Ok (locals ++ replicate count.0 type.0, type.1)
