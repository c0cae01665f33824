-- The status that stands for the way in which a run ended.
use Rattle.std.specs.Prelude.{ℕ}
use Rattle.log_writing.specs.declared.ending.Ending.{Ending}
use Rattle.log_writing.specs.declared.ending.Ending.TheVariants.{Done, Spent}

abbrev pub code_of : Ending → ℕ
code_of Done = 0
code_of Spent = 8
