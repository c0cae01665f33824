-- What one instruction does (WebAssembly Core 1.0, sections 4.4.1 to 4.4.5). It is said once, for operands with their
-- types and for bare numbers. Nothing else looks into a store.
use Rattle.std.specs.Prelude.{ℕ, ◌+◌, ◌*◌, ◌%◌, ◌^◌, ◌==◌, Bool, true, List, [], ◌∷◌, ◌++◌, Option, Some, None, Result, Ok, Err, negsuc, length, map, replicate, nat_lt, nat_le, slice_get, slice_index, slice_index_or, slice_set, if◌then◌else◌}
use Rattle.std.specs.List.{list_any}
use Rattle.wasm_types.specs.declared.instr.ValType.{ValType}
use Rattle.wasm_types.specs.declared.instr.ValType.TheVariants.{I32}
use Rattle.wasm_types.specs.declared.instr.Instr.{Instr}
use Rattle.wasm_types.specs.declared.instr.Instr.TheVariants as instr
use Rattle.wasm_types.specs.declared.module.FuncType.{FuncType}
use Rattle.wasm_types.specs.Spellable.{width}
use Rattle.wasm_types.specs.Modules.{NestedModule}
use Rattle.code_specs.specs.declared.trap.NumTrap.{NumTrap}
use Rattle.code_specs.specs.declared.trap.NumTrap.TheVariants as num
use Rattle.code_specs.specs.declared.trap.TrapKind.{TrapKind}
use Rattle.code_specs.specs.declared.trap.TrapKind.TheVariants as trap
use Rattle.code_specs.specs.Values.{Value, Split, is_same, value, bits_of, split, split_first}
use Rattle.code_specs.specs.Integers.{unsigned, extend_s}
use Rattle.code_specs.specs.Numerics.{unary, binary}
use Rattle.code_specs.specs.Stores.{Store, page_size, pages, greatest_pages, number_of_bytes, bytes_of, bytes_at, replaced_at}
use Rattle.code_specs.specs.Signatures.{Signature, signature_of, access_bytes, is_same_type, type_of_function}
use Rattle.code_specs.specs.Instances.{table_of}

-- what an instruction asks for, with the operands that it leaves, the top first
pub data Effect (V : Type 0) : Type 0 where
  Continues : (operands : List V) (store : Store) → Effect V
  ReadsLocal : (index : ℕ) (operands : List V) → Effect V
  WritesLocal : (index : ℕ) (value : V) (operands : List V) → Effect V
  Branches : (label : ℕ) (operands : List V) → Effect V
  Returns : (operands : List V) → Effect V
  Calls : (function : ℕ) (operands : List V) → Effect V
  Traps : (kind : TrapKind) → Effect V
  Stuck : Effect V

-- a number and a store, or a trap
pub record Computed : Type 0 where
  pub number : ℕ
  pub store : Store

abbrev pub Meaning : Type 0
Meaning = Result Computed TrapKind

abbrev pub computed : ℕ → Store → Meaning
computed n s = Ok (record { number = n; store = s })

-- ---- plain instructions, over the numbers of their operands (4.4.1, 4.4.3, 4.4.4)

abbrev pub trap_of : NumTrap → TrapKind
trap_of num.ZeroDivide = trap.ZeroDivide
trap_of num.Overflow = trap.Overflow

abbrev pub numeric_meaning : Result ℕ NumTrap → Store → Meaning
numeric_meaning (Ok n) s = computed n s
numeric_meaning (Err e) s = Err (trap_of e)

-- i32.load8_s, i32.load16_s, i64.load8_s, i64.load16_s and i64.load32_s
abbrev pub is_signed_load : ℕ → Bool
is_signed_load op = list_any (λ signed. op == signed) (0x2C ∷ 0x2E ∷ 0x30 ∷ 0x32 ∷ 0x34 ∷ [])

-- the number that a load makes of its bytes; the loads of i64 that are narrow have the opcodes from 0x30 on
abbrev pub number_loaded : ℕ → List ℕ → ℕ
number_loaded op bytes =
    if is_signed_load op then extend_s (8 * length bytes) (if nat_lt op 0x30 then 32 else 64) (number_of_bytes bytes)
    else number_of_bytes bytes

abbrev pub load_meaning : ℕ → Store → Option (List ℕ) → Meaning
load_meaning op s None = Err trap.Memory
load_meaning op s (Some bytes) = computed (number_loaded op bytes) s

abbrev pub store_meaning : ℕ → List ℕ → Store → Option (List ℕ) → Meaning
store_meaning address new s None = Err trap.Memory
store_meaning address new s (Some old) = computed 0 (record s { bytes = replaced_at s.bytes address new })

-- the memory with so many pages of zeros more, and its size before in pages; or -1, and no page more, where the
-- module's greatest size or 256 pages would be exceeded
abbrev pub grow_meaning : NestedModule → ℕ → Store → Meaning
grow_meaning m more s =
    if nat_le (pages s + more) (greatest_pages m)
    then computed (pages s) (record s { bytes = s.bytes ++ replicate (more * page_size) 0 })
    else computed (unsigned 32 (negsuc 0)) s

-- What a plain instruction makes of its operands, the top first. Where it gives no operand the number is 0. What is left
-- at the end is nop: no other instruction has other operands.
unfoldable pub meaning_of : NestedModule → Instr → List ℕ → Store → Meaning
meaning_of m (instr.I32Const z) numbers s = computed (unsigned 32 z) s
meaning_of m (instr.I64Const z) numbers s = computed (unsigned 64 z) s
meaning_of m (instr.Numeric op) (i ∷ []) s = computed (unary op i) s
meaning_of m (instr.Numeric op) (j ∷ i ∷ []) s = numeric_meaning (binary op i j) s
meaning_of m (instr.Globals op index) [] s = computed (slice_index s.globals index) s
meaning_of m (instr.Globals op index) (n ∷ []) s = computed 0 (record s { globals = slice_set s.globals index n })
meaning_of m (instr.Access op align offset) (base ∷ []) s =
    load_meaning op s (bytes_at s.bytes (base + offset) (access_bytes op))
meaning_of m (instr.Access op align offset) (n ∷ base ∷ []) s =
    store_meaning (base + offset) (bytes_of (access_bytes op) n) s (bytes_at s.bytes (base + offset) (access_bytes op))
meaning_of m instr.MemorySize [] s = computed (pages s) s
meaning_of m instr.MemoryGrow (more ∷ []) s = grow_meaning m more s
meaning_of m nop numbers s = computed 0 s

-- ---- operands with their types, and bare numbers

-- how operands are taken apart, read and made
pub record Operands (V : Type 0) : Type 0 where
  pub split : List ValType → List V → Option (Split V)
  pub number : V → ℕ
  pub operand : ValType → ℕ → V
  pub is_alike : V → V → Bool

-- values: where one isn't of the type that is asked for, they can't be taken apart
abbrev pub typed : Operands Value
typed = record { split = split; number = bits_of; operand = value; is_alike = λ v w. is_same v.ty w.ty }

-- numbers alone: whoever knows that no value of a wrong type comes needs no more
abbrev pub bare : Operands ℕ
bare = record {
  split = λ ts ns. split_first (length ts) ns;
  number = λ n. n;
  operand = λ t n. n % 2 ^ width t;
  is_alike = λ m n. true;
}

abbrev pub on_split : {V : Type 0} → Option (Split V) → (List V → List V → Effect V) → Effect V
on_split None go = Stuck
on_split (Some s) go = go s.top s.below

abbrev pub on_one : {V : Type 0} → List V → (V → List V → Effect V) → Effect V
on_one [] go = Stuck
on_one (v ∷ below) go = go v below

-- an operand of type i32
abbrev pub on_i32 : {V : Type 0} → Operands V → List V → (ℕ → List V → Effect V) → Effect V
on_i32 o operands go = on_split (o.split (I32 ∷ []) operands) (λ top below. on_one top (λ v none. go (o.number v) below))

-- ---- instructions

-- the result as an operand, if there is one
abbrev pub results : {V : Type 0} → Operands V → List ValType → ℕ → List V
results o ts n = map (λ t. o.operand t n) ts

abbrev pub after_meaning : {V : Type 0} → Operands V → List ValType → List V → Meaning → Effect V
after_meaning o ts below (Ok c) = Continues (results o ts c.number ++ below) c.store
after_meaning o ts below (Err kind) = Traps kind

-- an instruction of this type
abbrev pub plain_effect : {V : Type 0} → Operands V → NestedModule → Instr → Option Signature → List V → Store → Effect V
plain_effect o m i None operands s = Stuck
plain_effect o m i (Some g) operands s =
    on_split (o.split g.takes operands) (λ top below. after_meaning o g.gives below (meaning_of m i (map o.number top) s))

-- br_if (4.4.5)
abbrev pub branch_if : {V : Type 0} → (condition label : ℕ) → List V → Store → Effect V
branch_if condition label below s = if condition == 0 then Continues below s else Branches label below

-- select (4.4.2): the lower of two operands of one type where the condition isn't 0, else the upper one
abbrev pub selection : {V : Type 0} → Operands V → (condition : ℕ) → List V → Store → Effect V
selection o condition (upper ∷ lower ∷ below) s =
    if o.is_alike lower upper then Continues ((if condition == 0 then upper else lower) ∷ below) s else Stuck
selection o condition other s = Stuck

-- call_indirect (4.4.5): the function at an index of the table, if it has the type that is asked for
abbrev pub checked_call : {V : Type 0} → ℕ → Option FuncType → Option FuncType → List V → Effect V
checked_call index (Some asked) (Some has) below =
    if is_same_type asked has then Calls index below else Traps trap.Signature
checked_call index asked has below = Stuck

abbrev pub indirect_call : {V : Type 0} → NestedModule → ℕ → Option (Option ℕ) → List V → Effect V
indirect_call m ty None below = Traps trap.Table
indirect_call m ty (Some None) below = Traps trap.Null
indirect_call m ty (Some (Some index)) below = checked_call index (slice_get m.types ty) (type_of_function m index) below

-- local.get, local.set, and local.tee, which leaves its operand (4.4.3)
abbrev pub local_effect : {V : Type 0} → ℕ → ℕ → List V → Effect V
local_effect op index operands =
    if op == 0x20 then ReadsLocal index operands
    else if op == 0x21 then on_one operands (λ v below. WritesLocal index v below)
    else on_one operands (λ v below. WritesLocal index v operands)

-- an instruction over operands, the top first, and a store
unfoldable pub effect_of : {V : Type 0} → Operands V → NestedModule → Instr → List V → Store → Effect V
effect_of o m instr.Unreachable operands s = Traps trap.Unreachable
effect_of o m (instr.Br label) operands s = Branches label operands
effect_of o m (instr.BrIf label) operands s = on_i32 o operands (λ condition below. branch_if condition label below s)
effect_of o m (instr.BrTable labels default) operands s =
    on_i32 o operands (λ index below. Branches (slice_index_or labels index default) below)
effect_of o m instr.Return operands s = Returns operands
effect_of o m (instr.Call index) operands s = Calls index operands
effect_of o m (instr.CallIndirect ty) operands s =
    on_i32 o operands (λ index below. indirect_call m ty (slice_get (table_of m) index) below)
effect_of o m instr.Drop operands s = on_one operands (λ v below. Continues below s)
effect_of o m instr.Select operands s = on_i32 o operands (λ condition below. selection o condition below s)
effect_of o m (instr.Local op index) operands s = local_effect op index operands
effect_of o m i operands s = plain_effect o m i (signature_of m i) operands s
