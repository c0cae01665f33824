-- Worked values of the binding: small modules, each with its first fault or its answers.
use Rattle.std.specs.Prelude.{◌≡◌, ℕ, ◌+◌, true, false, List, [], ◌∷◌, ◌++◌, map, pos, replicate, Option, None, Some, codes, refl}
use Rattle.fmi_states.specs.declared.phase.Phase.{Phase}
use Rattle.fmi_states.specs.declared.phase.Phase.TheVariants as phase
use Rattle.fmi_states.specs.declared.status.FmiStatus.TheVariants as status
use Rattle.fmi_states.specs.declared.call.Call.{Call}
use Rattle.fmi_states.specs.declared.call.Call.TheVariants as call
use Rattle.fmi_states.specs.declared.reply.Reply.{Reply}
use Rattle.fmi_states.specs.declared.reply.Reply.TheVariants.{Plain, Clock, Data, Updated, Interval, Broken}
use Rattle.fmi_states.specs.declared.reply.Qualifier.TheVariants.{Unchanged, Changed}
use Rattle.fmi_states.specs.declared.reply.Broken.TheVariants.{Trap, Spent, BadReply, BadBuffer}
use Rattle.unit_specs.specs.Description.{Description}
use Rattle.wasm_types.specs.declared.instr.Instr.{Instr}
use Rattle.wasm_types.specs.declared.instr.Instr.TheVariants.{I32Const, Unreachable, Local}
use Rattle.wasm_types.specs.declared.module.FuncType.{FuncType}
use Rattle.wasm_types.specs.declared.module.Export.{Export}
use Rattle.wasm_types.specs.Nested.{Code, Nil, Leaf}
use Rattle.wasm_types.specs.Modules.{NestedFunc, NestedModule}
use Rattle.module_specs.specs.ModuleSpelling.{empty}
use Rattle.code_specs.specs.Stores.{bytes_of}
use Rattle.code_specs.specs.Numerics.{unary, binary}
use Rattle.code_specs.specs.Signatures.{signature_of, opcode_signature, access_bytes}
use Rattle.code_specs.specs.Effects.{meaning_of, effect_of}
use Rattle.code_specs.specs.Instances.{table_of}
use Rattle.code_specs.specs.Execution.{invoke, answer_of}
use Rattle.binding_specs.specs.declared.function.Function.{Function}
use Rattle.binding_specs.specs.declared.function.Function.TheVariants as function
use Rattle.binding_specs.specs.declared.error.BindError.TheVariants.{Missing, Signature}
use Rattle.binding_specs.specs.Exports.{name_of, type_of, functions, nothing, binding_fault}
use Rattle.binding_specs.specs.Guests.{Guest}
use Rattle.binding_specs.specs.Exchanges.{exchange}
use Rattle.binding_specs.specs.Answers.{answer, used_by}

-- ---- modules: each function has a type and a body of its own, with its number in the list of functions

abbrev code : List Instr → Code
code [] = Nil
code (i ∷ is) = Leaf i (code is)

abbrev const : ℕ → Instr
const n = I32Const (pos n)

-- from this number on
abbrev exports_from : ℕ → List Function → List Export
exports_from n [] = []
exports_from n (f ∷ fs) = record { name = name_of f; kind = 0; index = n } ∷ exports_from (n + 1) fs

abbrev funcs_from : (Function → Code) → ℕ → List Function → List NestedFunc
funcs_from bodies n [] = []
funcs_from bodies n (f ∷ fs) = record { ty = n; locals = []; code = bodies f } ∷ funcs_from bodies (n + 1) fs

abbrev memory_export : Export
memory_export = record { name = codes "memory"; kind = 2; index = 0 }

-- a module with these exports, and a memory
abbrev exporting : (Function → FuncType) → (Function → Code) → Option ℕ → List Export → NestedModule
exporting types bodies start exports = record empty {
  types = map types functions;
  funcs = funcs_from bodies 0 functions;
  memories = record { min = 0; max = None } ∷ [];
  exports = exports;
  start = start;
}

abbrev module_of : (Function → Code) → NestedModule
module_of bodies = exporting type_of bodies None (memory_export ∷ exports_from 0 functions)

-- each function returns this number; the area lies at 8
abbrev returning : ℕ → Function → Code
returning n function.Area = code (const 8 ∷ [])
returning n function.Free = Nil
returning n other = code (const n ∷ [])

-- ---- the first fault

bound : binding_fault (module_of (returning 0)) ≡ None
unfolding binding_fault
bound = refl

nothing_exported : binding_fault empty ≡ Some (Missing 0)
unfolding binding_fault
nothing_exported = refl

memory_alone : binding_fault (exporting type_of (returning 0) None (memory_export ∷ [])) ≡ Some (Missing 1)
unfolding binding_fault
memory_alone = refl

-- a function named memory
abbrev function_memory : Export
function_memory = record { name = codes "memory"; kind = 0; index = 0 }

memory_is_a_function :
    binding_fault (exporting type_of (returning 0) None (function_memory ∷ exports_from 0 functions)) ≡ Some (Signature 0)
unfolding binding_fault
memory_is_a_function = refl

-- bench_area is () -> (), and so is fmi3DoStep
abbrev two_wrong : Function → FuncType
two_wrong function.Area = nothing
two_wrong function.DoStep = nothing
two_wrong other = type_of other

first_of_two : binding_fault (exporting two_wrong (returning 0) None (memory_export ∷ exports_from 0 functions)) ≡ Some (Signature 1)
unfolding binding_fault
first_of_two = refl

-- fmi3SetClock takes moments in place of numbers
abbrev moments_set : Function → FuncType
moments_set function.SetClock = type_of function.DoStep
moments_set other = type_of other

seventh : binding_fault (exporting moments_set (returning 0) None (memory_export ∷ exports_from 0 functions)) ≡ Some (Signature 7)
unfolding binding_fault
seventh = refl

-- without the last one
last_missing : binding_fault (exporting type_of (returning 0) None (memory_export ∷ exports_from 0
    (function.Area ∷ function.Instantiate ∷ function.EnterInit ∷ function.ExitInit ∷ function.EnterEvent ∷ function.EnterStep
    ∷ function.SetClock ∷ function.SetBinary ∷ function.GetClock ∷ function.GetBinary ∷ function.Update
    ∷ function.GetInterval ∷ function.DoStep ∷ function.Terminate ∷ []))) ≡ Some (Missing 15)
unfolding binding_fault
last_missing = refl

-- ---- answers: a guest with an input (1) of at most 3 bytes and an output (3) of at most 2, so its area has 67 bytes

abbrev description : Description
description = record {
  identifier = codes "unit";
  countdown = 100 ∷ [];
  terminals = record {
    name = codes "CAN";
    rx_data = 1;
    tx_data = 3;
    rx_clock = 0;
    tx_clock = 2;
    rx_max = 3;
    tx_max = 2;
  } ∷ [];
}

abbrev guest_of : NestedModule → Phase → (area : ℕ) → (bytes : List ℕ) → Guest
guest_of m phase area bytes = record {
  code = m;
  description = description;
  budget = 1;
  phase = phase;
  area = area;
  store = record { bytes = bytes; globals = [] };
}

abbrev zeros : ℕ → List ℕ
zeros n = replicate n 0

-- each function returns this number, and the area at 8 begins with these bytes
abbrev holding : ℕ → List ℕ → Guest
holding n front = guest_of (module_of (returning n)) phase.Event 8 (zeros 8 ++ front ++ zeros 67)

abbrev reply_to : Guest → Call → Reply
reply_to g c = (answer g c).0

-- each function has a unit of fuel: also the one that is asked for the area behind the first one
instantiated : answer (guest_of (module_of (returning 0)) phase.Fresh 0 (zeros 75)) call.Instantiate
    ≡ (Plain status.Ok, guest_of (module_of (returning 0)) phase.Instantiated 8 (zeros 75))
unfolding answer exchange answer_of invoke effect_of meaning_of signature_of opcode_signature access_bytes bytes_of unary binary table_of
instantiated = refl

-- and a start function has one too
abbrev starting : Guest
starting = guest_of (record (module_of (returning 0)) { start = Some 2 }) phase.Fresh 0 (zeros 75)

budget_each : used_by starting call.Instantiate ≡ 1 ∷ 1 ∷ 1 ∷ []
unfolding used_by exchange answer_of invoke effect_of meaning_of signature_of opcode_signature access_bytes bytes_of unary binary table_of
budget_each = refl

-- the area would end a byte behind the memory
area_outside : answer (guest_of (module_of (returning 0)) phase.Fresh 0 (zeros 74)) call.Instantiate
    ≡ (Broken BadBuffer, guest_of (module_of (returning 0)) phase.Gone 0 (zeros 74))
unfolding answer exchange answer_of invoke effect_of meaning_of signature_of opcode_signature access_bytes bytes_of unary binary table_of
area_outside = refl

-- where the instantiation is refused, no area is asked for
refused_first : used_by (guest_of (module_of (returning 3)) phase.Fresh 0 (zeros 0)) call.Instantiate ≡ 1 ∷ []
unfolding used_by exchange answer_of invoke effect_of meaning_of signature_of opcode_signature access_bytes bytes_of unary binary table_of
refused_first = refl

instantiation_refused : reply_to (guest_of (module_of (returning 3)) phase.Fresh 0 (zeros 0)) call.Instantiate ≡ Plain status.Error
unfolding answer exchange answer_of invoke effect_of meaning_of signature_of opcode_signature access_bytes bytes_of unary binary table_of
instantiation_refused = refl

fatal : answer (holding 4 []) (call.SetClock 0) ≡ (Plain status.Fatal, record (holding 4 []) { phase = phase.Gone })
unfolding answer exchange answer_of invoke effect_of meaning_of signature_of opcode_signature access_bytes bytes_of unary binary table_of
fatal = refl

no_status : answer (holding 5 []) (call.SetClock 0) ≡ (Broken BadReply, record (holding 5 []) { phase = phase.Gone })
unfolding answer exchange answer_of invoke effect_of meaning_of signature_of opcode_signature access_bytes bytes_of unary binary table_of
no_status = refl

spent : reply_to (record (holding 0 []) { budget = 0 }) (call.SetClock 0) ≡ Broken Spent
unfolding answer exchange answer_of invoke effect_of meaning_of signature_of opcode_signature access_bytes bytes_of unary binary table_of
spent = refl

-- each function traps
abbrev trapping : Function → Code
trapping other = code (Unreachable ∷ [])

trapped : answer (guest_of (module_of trapping) phase.Step 8 (zeros 75)) (call.DoStep 5 7)
    ≡ (Broken Trap, guest_of (module_of trapping) phase.Gone 8 (zeros 75))
unfolding answer exchange answer_of invoke effect_of meaning_of signature_of opcode_signature access_bytes bytes_of unary binary table_of
trapped = refl

start_traps : used_by (record starting { code = record (module_of trapping) { start = Some 14 } }) call.Instantiate ≡ 1 ∷ []
unfolding used_by exchange answer_of invoke effect_of meaning_of signature_of opcode_signature access_bytes bytes_of unary binary table_of
start_traps = refl

-- ---- the area

ticks : reply_to (holding 1 (1 ∷ [])) (call.GetClock 2) ≡ Clock status.Warning true
unfolding answer exchange answer_of invoke effect_of meaning_of signature_of opcode_signature access_bytes bytes_of unary binary table_of
ticks = refl

no_flag : reply_to (holding 0 (1 ∷ 1 ∷ [])) (call.GetClock 2) ≡ Broken BadReply
unfolding answer exchange answer_of invoke effect_of meaning_of signature_of opcode_signature access_bytes bytes_of unary binary table_of
no_flag = refl

-- with another status nothing is read, so nothing there is wrong
not_read : reply_to (holding 2 (1 ∷ 1 ∷ [])) (call.GetClock 2) ≡ Clock status.Discard false
unfolding answer exchange answer_of invoke effect_of meaning_of signature_of opcode_signature access_bytes bytes_of unary binary table_of
not_read = refl

abbrev with_bytes : ℕ → List ℕ
with_bytes count = count ∷ zeros 63 ++ 10 ∷ 11 ∷ 12 ∷ []

output : reply_to (holding 0 (with_bytes 2)) (call.GetBinary 3) ≡ Data status.Ok (10 ∷ 11 ∷ [])
unfolding answer exchange answer_of invoke effect_of meaning_of signature_of opcode_signature access_bytes bytes_of unary binary table_of
output = refl

too_long : reply_to (holding 0 (with_bytes 3)) (call.GetBinary 3) ≡ Broken BadBuffer
unfolding answer exchange answer_of invoke effect_of meaning_of signature_of opcode_signature access_bytes bytes_of unary binary table_of
too_long = refl

input_asked : reply_to (holding 0 (with_bytes 3)) (call.GetBinary 1) ≡ Data status.Ok (10 ∷ 11 ∷ 12 ∷ [])
unfolding answer exchange answer_of invoke effect_of meaning_of signature_of opcode_signature access_bytes bytes_of unary binary table_of
input_asked = refl

-- a reference that stands in no terminal
no_terminal : reply_to (holding 0 (with_bytes 1)) (call.GetBinary 7) ≡ Broken BadBuffer
unfolding answer exchange answer_of invoke effect_of meaning_of signature_of opcode_signature access_bytes bytes_of unary binary table_of
no_terminal = refl

no_terminal_no_bytes : reply_to (holding 0 (with_bytes 0)) (call.GetBinary 7) ≡ Data status.Ok []
unfolding answer exchange answer_of invoke effect_of meaning_of signature_of opcode_signature access_bytes bytes_of unary binary table_of
no_terminal_no_bytes = refl

updated : reply_to (holding 0 (0 ∷ 0 ∷ 0 ∷ 0 ∷ 1 ∷ [])) call.Update ≡ Updated status.Ok false true
unfolding answer exchange answer_of invoke effect_of meaning_of signature_of opcode_signature access_bytes bytes_of unary binary table_of
updated = refl

updated_by_two : reply_to (holding 0 (2 ∷ [])) call.Update ≡ Broken BadReply
unfolding answer exchange answer_of invoke effect_of meaning_of signature_of opcode_signature access_bytes bytes_of unary binary table_of
updated_by_two = refl

abbrev with_interval : ℕ → List ℕ
with_interval qualifier = 3 ∷ zeros 7 ++ 0xE8 ∷ 3 ∷ zeros 6 ++ qualifier ∷ []

interval : reply_to (holding 0 (with_interval 2)) (call.GetInterval 100) ≡ Interval status.Ok 3 1000 Changed
unfolding answer exchange answer_of invoke effect_of meaning_of signature_of opcode_signature access_bytes bytes_of unary binary table_of
interval = refl

no_qualifier : reply_to (holding 0 (with_interval 3)) (call.GetInterval 100) ≡ Broken BadReply
unfolding answer exchange answer_of invoke effect_of meaning_of signature_of opcode_signature access_bytes bytes_of unary binary table_of
no_qualifier = refl

interval_refused : reply_to (holding 3 (with_interval 2)) (call.GetInterval 100) ≡ Interval status.Error 0 0 Unchanged
unfolding answer exchange answer_of invoke effect_of meaning_of signature_of opcode_signature access_bytes bytes_of unary binary table_of
interval_refused = refl

-- bytes that come in stand 64 bytes behind the beginning of the area
given : answer (holding 0 []) (call.SetBinary 1 (7 ∷ 9 ∷ []))
    ≡ (Plain status.Ok, guest_of (module_of (returning 0)) phase.Event 8 (zeros 72 ++ 7 ∷ 9 ∷ 0 ∷ []))
unfolding answer exchange answer_of invoke effect_of meaning_of signature_of opcode_signature access_bytes bytes_of unary binary table_of
given = refl

-- where they don't fit nothing is written, and nothing is run
not_given : answer (holding 0 []) (call.SetBinary 1 (1 ∷ 2 ∷ 3 ∷ 4 ∷ []))
    ≡ (Broken BadBuffer, record (holding 0 []) { phase = phase.Gone })
unfolding answer exchange answer_of invoke effect_of meaning_of signature_of opcode_signature access_bytes bytes_of unary binary table_of
not_given = refl

none_run : used_by (holding 0 []) (call.SetBinary 1 (1 ∷ 2 ∷ 3 ∷ 4 ∷ [])) ≡ []
unfolding used_by exchange answer_of invoke effect_of meaning_of signature_of opcode_signature access_bytes bytes_of unary binary table_of
none_run = refl

-- the function gets the reference, and the length or the flag: each returns its second argument
abbrev second_argument : Function → Code
second_argument function.SetBinary = code (Local 0x20 1 ∷ [])
second_argument function.SetClock = code (Local 0x20 1 ∷ [])
second_argument function.GetClock = code (Local 0x20 0 ∷ [])
second_argument other = Nil

length_given : reply_to (guest_of (module_of second_argument) phase.Event 8 (zeros 75)) (call.SetBinary 1 (7 ∷ 9 ∷ [])) ≡ Plain status.Discard
unfolding answer exchange answer_of invoke effect_of meaning_of signature_of opcode_signature access_bytes bytes_of unary binary table_of
length_given = refl

flag_given : reply_to (guest_of (module_of second_argument) phase.Event 8 (zeros 75)) (call.SetClock 0) ≡ Plain status.Warning
unfolding answer exchange answer_of invoke effect_of meaning_of signature_of opcode_signature access_bytes bytes_of unary binary table_of
flag_given = refl

reference_given : reply_to (guest_of (module_of second_argument) phase.Event 8 (zeros 75)) (call.GetClock 3) ≡ Clock status.Error false
unfolding answer exchange answer_of invoke effect_of meaning_of signature_of opcode_signature access_bytes bytes_of unary binary table_of
reference_given = refl

-- fmi3FreeInstance returns nothing
freed : answer (record (holding 0 []) { phase = phase.Failed }) call.Free ≡ (Plain status.Ok, record (holding 0 []) { phase = phase.Gone })
unfolding answer exchange answer_of invoke effect_of meaning_of signature_of opcode_signature access_bytes bytes_of unary binary table_of
freed = refl
