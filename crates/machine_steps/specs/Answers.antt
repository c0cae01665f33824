-- Answers without types.
use Rattle.std.specs.Prelude.{ℕ}
use Rattle.code_specs.specs.Values.{Value, all_bits}
use Rattle.code_specs.specs.Execution.{Answer, Returned, Trapped, Spent, Stuck}

-- how a call ends, without the types of what it returns
abbrev pub bits_of_answer : Answer Value → Answer ℕ
bits_of_answer (Returned vs s fuel) = Returned (all_bits vs) s fuel
bits_of_answer (Trapped kind s fuel) = Trapped kind s fuel
bits_of_answer (Spent s) = Spent s
bits_of_answer Stuck = Stuck
