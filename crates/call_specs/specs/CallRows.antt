-- Calls, and what is refused, computed.
use Rattle.std.specs.Prelude.{◌≡◌, ℕ, [], ◌∷◌, Some, None, Ok, Err, codes, refl}
use Rattle.std.specs.Fmt.{digits}
use Rattle.wasm_types.specs.declared.instr.ValType.TheVariants.{I32}
use Rattle.wasm_types.specs.declared.instr.Instr.TheVariants.{Unreachable, Nop, Br, Call, Local, Numeric}
use Rattle.wasm_types.specs.Nested.{Nil, Leaf, InLoop}
use Rattle.wasm_types.specs.Modules.{NestedModule}
use Rattle.module_specs.specs.ModuleSpelling.{empty}
use Rattle.code_specs.specs.declared.segment.Misfit.TheVariants as misfit
use Rattle.code_specs.specs.Numerics.{binary}
use Rattle.code_specs.specs.Signatures.{signature_of, opcode_signature}
use Rattle.code_specs.specs.Effects.{meaning_of, effect_of}
use Rattle.code_specs.specs.Instances.{opening_store, first_misfit}
use Rattle.code_specs.specs.Execution.{invoke, answer_of}
use Rattle.call_specs.specs.declared.fault.CallFault.TheVariants.{Segment, Export, Args}
use Rattle.call_specs.specs.Called.{called}
use Rattle.call_specs.specs.CallLine.{call_line}

-- Function 0 is i32 i32 -> i32, the signed quotient of its arguments, and exported as `d`. Function 1 does nothing,
-- function 2 traps, function 3 goes round until its fuel is spent, and function 4 calls itself.
abbrev program : NestedModule
program = record empty {
  types = record { params = I32 ∷ I32 ∷ []; results = I32 ∷ [] } ∷ record { params = []; results = [] } ∷ [];
  funcs = record { ty = 0; locals = []; code = Leaf (Local 0x20 0) (Leaf (Local 0x20 1) (Leaf (Numeric 0x6D) Nil)) }
      ∷ record { ty = 1; locals = []; code = Leaf Nop Nil }
      ∷ record { ty = 1; locals = []; code = Leaf Unreachable Nil }
      ∷ record { ty = 1; locals = []; code = InLoop None (Leaf (Br 0) Nil) Nil }
      ∷ record { ty = 1; locals = []; code = Leaf (Call 4) Nil }
      ∷ [];
  exports = record { name = codes "g"; kind = 3; index = 0 } ∷ record { name = codes "d"; kind = 0; index = 0 } ∷ [];
}

abbrev starting : ℕ → NestedModule
starting first = record program { start = Some first }

quotient : call_line program 0 (7 ∷ 2 ∷ []) 100 ≡ codes "value 3 left 97\n"
unfolding answer_of invoke effect_of meaning_of signature_of opcode_signature binary opening_store digits
quotient = refl

without_sign : call_line program 0 (0xFFFFFFF9 ∷ 2 ∷ []) 100 ≡ codes "value 4294967293 left 97\n"
unfolding answer_of invoke effect_of meaning_of signature_of opcode_signature binary opening_store digits
without_sign = refl

by_zero : call_line program 0 (7 ∷ 0 ∷ []) 100 ≡ codes "trap ZeroDivide left 97\n"
unfolding answer_of invoke effect_of meaning_of signature_of opcode_signature binary opening_store digits
by_zero = refl

too_large : call_line program 0 (2147483648 ∷ 4294967295 ∷ []) 100 ≡ codes "trap Overflow left 97\n"
unfolding answer_of invoke effect_of meaning_of signature_of opcode_signature binary opening_store digits
too_large = refl

no_result : call_line program 1 [] 1 ≡ codes "value - left 0\n"
unfolding answer_of invoke effect_of meaning_of signature_of opcode_signature binary opening_store digits
no_result = refl

round_and_round : call_line program 3 [] 9 ≡ codes "spent left 0\n"
unfolding answer_of invoke effect_of meaning_of signature_of opcode_signature binary opening_store digits
round_and_round = refl

-- the function that runs first has a budget of its own

started : call_line (starting 1) 1 [] 1 ≡ codes "value - left 0\n"
unfolding answer_of invoke effect_of meaning_of signature_of opcode_signature binary opening_store digits
started = refl

start_traps : call_line (starting 2) 1 [] 5 ≡ codes "start trap Unreachable left 4\n"
unfolding answer_of invoke effect_of meaning_of signature_of opcode_signature binary opening_store digits
start_traps = refl

start_is_spent : call_line (starting 3) 1 [] 5 ≡ codes "start spent left 0\n"
unfolding answer_of invoke effect_of meaning_of signature_of opcode_signature binary opening_store digits
start_is_spent = refl

-- ---- which function

by_name : called program (codes "d") (1 ∷ 4294967295 ∷ []) ≡ Ok 0
unfolding first_misfit
by_name = refl

other_kind : called program (codes "g") [] ≡ Err Export
unfolding first_misfit
other_kind = refl

too_few : called program (codes "d") (4294967296 ∷ []) ≡ Err (Args 1)
unfolding first_misfit
too_few = refl

over_32_bits : called program (codes "d") (1 ∷ 4294967296 ∷ []) ≡ Err (Args 1)
unfolding first_misfit
over_32_bits = refl

segment_first :
    called (record program { datas = record { offset = record { ty = I32; value = 0 }; bytes = 1 ∷ [] } ∷ [] }) (codes "x") []
    ≡ Err (Segment (misfit.Data 0))
unfolding first_misfit
segment_first = refl
