-- Effects over bare numbers.
use Rattle.std.specs.Prelude.{ℕ}
use Rattle.code_specs.specs.Values.{Value, all_bits}
use Rattle.code_specs.specs.Effects.{Effect, Continues, ReadsLocal, WritesLocal, Branches, Returns, Calls, Traps, Stuck}

-- the effect without the types of its operands
abbrev pub bits_of_effect : Effect Value → Effect ℕ
bits_of_effect (Continues vs s) = Continues (all_bits vs) s
bits_of_effect (ReadsLocal index vs) = ReadsLocal index (all_bits vs)
bits_of_effect (WritesLocal index v vs) = WritesLocal index v.bits (all_bits vs)
bits_of_effect (Branches label vs) = Branches label (all_bits vs)
bits_of_effect (Returns vs) = Returns (all_bits vs)
bits_of_effect (Calls index vs) = Calls index (all_bits vs)
bits_of_effect (Traps kind) = Traps kind
bits_of_effect Stuck = Stuck
