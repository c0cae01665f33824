-- The room that a machine has.
use Rattle.std.specs.Prelude.{ℕ, ◌+◌, ◌*◌, ◌≤◌, List, length}
use Rattle.module_specs.specs.CodeSpelling.{most_nested}
use Rattle.code_specs.specs.Values.{most_slots}
use Rattle.machine_steps.specs.declared.frame.Label.{Label}
use Rattle.machine_steps.specs.declared.frame.Frame.{Frame}
use Rattle.machine_steps.specs.Steps.{most_callers}

-- there is room for any step: so many values and so many open lists for each frame
pub record HasRoom (depth : ℕ) (vs : List ℕ) (ls : List Label) (frs : List Frame) : Type 0 where
  pub values : length vs ≤ (length frs + 1) * most_slots
  pub labels : length ls ≤ (length frs + 1) * most_nested
  pub callers : length frs ≤ most_callers
  pub inside : depth ≤ length ls
