use Rattle.std.proofs.Common.{◌≡◌, ◌+◌, ◌-◌, ◌≤◌, drop, length}
use Rattle.wasm_writer.specs.Texts.{each_text}
use Rattle.wasm_writer.specs.CodeTexts.{runs_of, run_text}
use Rattle.wasm_writer.proofs.locals.count_runs.Given as goal

abbrev pub invariant-loop-at : goal.invariant-loop-at
invariant-loop-at l = record {
  place : l.at ≤ length l.locals;
  count : l.count + length (runs_of (drop l.at l.locals)) ≡ length (runs_of l.locals);
  len : l.len + length (each_text run_text (runs_of (drop l.at l.locals))) ≡ length (each_text run_text (runs_of l.locals));
}

abbrev pub decreases-loop-at : goal.decreases-loop-at
decreases-loop-at l = length l.locals - l.at
