-- The refusal of the file that the words name.
use Rattle.std.specs.Prelude.{ℕ, Option, Some, None}
use Rattle.bench_outside.specs.declared.refusal.FileId.TheVariants.{Main}
use Rattle.bench_outside.specs.declared.refusal.Why.{Why}
use Rattle.bench_outside.specs.declared.refusal.Refusal.{Refusal}
use Rattle.refusal_names.specs.Modules.{refusal}
use Rattle.bench_top.specs.declared.status.Status.{Status}
use Rattle.bench_top.specs.declared.status.Status.TheVariants.{Refused, Memory}

-- the file that the words name breaks this rule at this place
abbrev pub main_refusal : Why → ℕ → Refusal
main_refusal why place = refusal Main why place

-- a file breaks a rule, or memory ran out
abbrev pub refused_if : Option Refusal → Status
refused_if (Some r) = Refused r
refused_if None = Memory
