-- Which code is valid, and the first rule that fails (WebAssembly Core 1.0, section 3.3), together. Types of operands
-- stand with the topmost first.
use Rattle.std.specs.Prelude.{ℕ, ◌+◌, ◌^◌, Bool, true, false, List, [], ◌∷◌, ◌++◌, Option, Some, None, Result, Ok, Err, length, ok_or, reverse, nat_le, slice_get, if◌then◌else◌, ◌==◌}
use Rattle.std.specs.List.{list_all}
use Rattle.wasm_types.specs.declared.instr.ValType.{ValType}
use Rattle.wasm_types.specs.declared.instr.ValType.TheVariants.{I32}
use Rattle.wasm_types.specs.declared.instr.Instr.{Instr}
use Rattle.wasm_types.specs.declared.instr.Instr.TheVariants.{Unreachable, Br, BrIf, BrTable, Return, Call, CallIndirect, Drop, Select, Local, Access}
use Rattle.wasm_types.specs.Nested.{Code, Nil, Leaf, InBlock, InLoop, IfOnly, IfElse}
use Rattle.wasm_types.specs.Modules.{NestedModule}
use Rattle.code_specs.specs.declared.rule.Rule.{Rule}
use Rattle.code_specs.specs.declared.rule.Rule.TheVariants.{Index, Align, Operand, Slots}
use Rattle.code_specs.specs.Values.{is_same, most_slots}
use Rattle.code_specs.specs.Signatures.{Signature, Function, types_of, is_same_list, signature_of_type, type_of_function, signature_of, access_bytes}

-- ---- tests

-- a rule that fails, and the position of the instruction in the flat body
pub record Failing : Type 0 where
  pub rule : Rule
  pub at : ℕ

-- what is found, or the rule that fails first
abbrev pub Test : Type 0 → Type 0
Test A = Result A Rule

abbrev pub Found : Type 0 → Type 0
Found A = Result A Failing

infixl 10 ◌>>=◌
abbrev pub ◌>>=◌ : {A B E : Type 0} → Result A E → (A → Result B E) → Result B E
(Ok x) >>= f = f x
(Err e) >>= f = Err e

-- a test of the instruction at this position
abbrev pub at : {A : Type 0} → (position : ℕ) → Test A → Found A
at position (Ok x) = Ok x
at position (Err rule) = Err (record { rule = rule; at = position })

abbrev pub needs : Bool → Rule → Test (Unit {0})
needs true rule = Ok tt
needs false rule = Err rule

-- something that an index names
abbrev pub known : {A : Type 0} → Option A → Test A
known o = ok_or o Index

-- ---- types of operands

-- a type, or None for either
abbrev pub OperandType : Type 0
OperandType = Option ValType

-- The operands of a list of instructions so far, and whether anything may stand below them. Behind an instruction that
-- never comes to its end the stack is polymorphic: it has what is asked for.
pub data OperandTypes : Type 0 where
  Stack : (polymorphic : Bool) (types : List OperandType) → OperandTypes

abbrev pub no_operands : OperandTypes
no_operands = Stack false []

abbrev pub any_operands : OperandTypes
any_operands = Stack true []

-- how many are known
abbrev pub height : OperandTypes → ℕ
height (Stack polymorphic types) = length types

abbrev pub may_be : ValType → OperandType → Bool
may_be t None = true
may_be t (Some u) = is_same t u

-- what stands below an operand of a type
abbrev pub below : ValType → OperandTypes → Test OperandTypes
below t (Stack polymorphic (u ∷ types)) = needs (may_be t u) Operand >>= λ _. Ok (Stack polymorphic types)
below t (Stack true []) = Ok any_operands
below t (Stack false []) = Err Operand

-- what stands below operands of these types, the topmost first
abbrev pub below_all : List ValType → OperandTypes → Test OperandTypes
below_all [] s = Ok s
below_all (t ∷ ts) s = below t s >>= below_all ts

-- an operand of some type and what stands below it
pub record Popped : Type 0 where
  pub ty : OperandType
  pub rest : OperandTypes

abbrev pub top_operand : OperandTypes → Test Popped
top_operand (Stack polymorphic (u ∷ types)) = Ok (record { ty = u; rest = Stack polymorphic types })
top_operand (Stack true []) = Ok (record { ty = None; rest = any_operands })
top_operand (Stack false []) = Err Operand

-- with an operand on top
abbrev pub with_operand : OperandType → OperandTypes → OperandTypes
with_operand t (Stack polymorphic types) = Stack polymorphic (t ∷ types)

-- with operands of these types on top, the topmost first
abbrev pub with_operands : List ValType → OperandTypes → OperandTypes
with_operands [] s = s
with_operands (t ∷ ts) s = with_operand (Some t) (with_operands ts s)

-- ---- instructions

-- what code may name (3.1.1): what its module has, the types of the locals, those that a branch to each label carries,
-- the innermost first, and the results of the function
pub record Context : Type 0 where
  pub parts : NestedModule
  pub locals : List ValType
  pub labels : List (List ValType)
  pub results : List ValType

-- an instruction of type [t1*] -> [t2*]
abbrev pub through : Signature → OperandTypes → Test OperandTypes
through g s = below_all g.takes s >>= λ rest. Ok (with_operands g.gives rest)

-- an instruction of type [t* t1*] -> [t2*] for each t* and t2*, as br and return are
abbrev pub never_behind : List ValType → OperandTypes → Test OperandTypes
never_behind ts s = below_all ts s >>= λ rest. Ok any_operands

-- local.get: [] -> [t]; local.set: [t] -> []; local.tee: [t] -> [t] (3.3.3)
abbrev pub local_signature : ℕ → ValType → Signature
local_signature op t =
    if op == 0x20 then record { takes = []; gives = t ∷ [] }
    else if op == 0x21 then record { takes = t ∷ []; gives = [] }
    else record { takes = t ∷ []; gives = t ∷ [] }

-- br_if (3.3.5): [t* i32] -> [t*]
abbrev pub condition_before : List ValType → Signature
condition_before ts = record { takes = I32 ∷ ts; gives = ts }

-- call_indirect (3.3.5): [t1* i32] -> [t2*]
abbrev pub index_before : Signature → Signature
index_before g = record { takes = I32 ∷ g.takes; gives = g.gives }

-- what a branch to each of these labels carries
abbrev pub label_types : Context → List ℕ → Test (List (List ValType))
label_types c [] = Ok []
label_types c (label ∷ labels) =
    known (slice_get c.labels label) >>= λ ts. label_types c labels >>= λ others. Ok (ts ∷ others)

-- br_table (3.3.5): all labels carry the same as the default
abbrev pub table_branch : Context → List ℕ → ℕ → OperandTypes → Test OperandTypes
table_branch c labels default s =
    label_types c labels >>= λ others. known (slice_get c.labels default) >>= λ ts.
    below I32 s >>= λ s. needs (list_all (is_same_list ts) others) Operand >>= λ _. never_behind ts s

-- one type for two operands: that which is known
abbrev pub common : OperandType → OperandType → Test OperandType
common None u = Ok u
common (Some t) u = needs (may_be t u) Operand >>= λ _. Ok (Some t)

-- select (3.3.2): [t t i32] -> [t]
abbrev pub select_type : OperandTypes → Test OperandTypes
select_type s =
    below I32 s >>= λ s. top_operand s >>= λ upper. top_operand upper.rest >>= λ lower.
    common upper.ty lower.ty >>= λ t. Ok (with_operand t lower.rest)

-- the alignment of a load or store isn't over its width (3.3.4)
abbrev pub aligned : Instr → Test (Unit {0})
aligned (Access op align offset) = needs (nat_le (2 ^ align) (access_bytes op)) Align
aligned other = Ok tt

-- an instruction that neither opens nor closes a list: the types that it leaves, or the rule that fails
unfoldable pub instr_type : Context → Instr → OperandTypes → Test OperandTypes
instr_type c Unreachable s = never_behind [] s
instr_type c (Br label) s = known (slice_get c.labels label) >>= λ ts. never_behind ts s
instr_type c (BrIf label) s = known (slice_get c.labels label) >>= λ ts. through (condition_before ts) s
instr_type c (BrTable labels default) s = table_branch c labels default s
instr_type c Return s = never_behind c.results s
instr_type c (Call index) s = known (type_of_function c.parts index) >>= λ f. through (signature_of_type f) s
instr_type c (CallIndirect ty) s =
    known (slice_get c.parts.tables 0) >>= λ _. known (slice_get c.parts.types ty) >>= λ f.
    through (index_before (signature_of_type f)) s
instr_type c Drop s = top_operand s >>= λ p. Ok p.rest
instr_type c Select s = select_type s
instr_type c (Local op index) s = known (slice_get c.locals index) >>= λ t. through (local_signature op t) s
instr_type c i s = known (signature_of c.parts i) >>= λ g. aligned i >>= λ _. through g s

-- ---- lists of instructions (3.3.5 and 3.3.6)

-- the known operands have room over the slots that the frame holds below them
abbrev pub with_room : (held : ℕ) → OperandTypes → Test OperandTypes
with_room held s = needs (nat_le (held + height s) most_slots) Slots >>= λ _. Ok s

-- a list begins over operands
abbrev pub opening : (held : ℕ) → OperandTypes → Test OperandTypes
opening held s = with_room (held + height s) no_operands

abbrev pub is_empty : OperandTypes → Bool
is_empty (Stack polymorphic []) = true
is_empty (Stack polymorphic (t ∷ types)) = false

-- exactly operands of these types
abbrev pub exact : List ValType → OperandTypes → Test (Unit {0})
exact ts s = below_all ts s >>= λ rest. needs (is_empty rest) Operand

-- a list ends with exactly its results, over the operands from before it
abbrev pub closing : (held : ℕ) → List ValType → (end before : OperandTypes) → Test OperandTypes
closing held ts end before = exact ts end >>= λ _. with_room held (with_operands ts before)

abbrev pub with_label : List ValType → Context → Context
with_label ts c = record c { labels = ts ∷ c.labels }

-- the types that a list leaves, and the position of the else or end that closes it
pub record Left : Type 0 where
  pub types : OperandTypes
  pub closer : ℕ

-- A list whose first instruction stands at this position, from left to right, or the first failing rule. Under its
-- operands the frame holds so many slots. An if without an else has an empty second list.
abbrev pub type_of : Context → (held position : ℕ) → Code → OperandTypes → Found Left
type_of c held p Nil s = Ok (record { types = s; closer = p })
type_of c held p (Leaf i rest) s = do
  s ← at p (instr_type c i s >>= with_room held)
  type_of c held (p + 1) rest s
type_of c held p (InBlock r inner rest) s = do
  first ← at p (opening held s)
  left ← type_of (with_label (types_of r) c) (held + height s) (p + 1) inner first
  s ← at left.closer (closing held (types_of r) left.types s)
  type_of c held (left.closer + 1) rest s
type_of c held p (InLoop r inner rest) s = do
  first ← at p (opening held s)
  left ← type_of (with_label [] c) (held + height s) (p + 1) inner first
  s ← at left.closer (closing held (types_of r) left.types s)
  type_of c held (left.closer + 1) rest s
type_of c held p (IfOnly r inner rest) s = do
  s ← at p (below I32 s)
  first ← at p (opening held s)
  left ← type_of (with_label (types_of r) c) (held + height s) (p + 1) inner first
  whole ← at left.closer (exact (types_of r) left.types)
  s ← at left.closer (closing held (types_of r) no_operands s)
  type_of c held (left.closer + 1) rest s
type_of c held p (IfElse r one two rest) s = do
  s ← at p (below I32 s)
  first ← at p (opening held s)
  left ← type_of (with_label (types_of r) c) (held + height s) (p + 1) one first
  whole ← at left.closer (exact (types_of r) left.types)
  second ← at left.closer (opening held s)
  last ← type_of (with_label (types_of r) c) (held + height s) (left.closer + 1) two second
  s ← at last.closer (closing held (types_of r) last.types s)
  type_of c held (last.closer + 1) rest s

-- ---- functions (3.4.1)

-- the parameters are the first locals, and the body is a block with the function's results
abbrev pub context_of : NestedModule → Function → Context
context_of m f = record {
  parts = m;
  locals = f.ty.params ++ f.locals;
  labels = reverse f.ty.results ∷ [];
  results = reverse f.ty.results;
}

-- a body with the end that closes it: what it leaves, which is its results, or the first failing rule
abbrev pub type_of_body : Context → Code → Found OperandTypes
type_of_body c code = do
  left ← type_of c (length c.locals) 0 code no_operands
  at left.closer (closing (length c.locals) c.results left.types no_operands)

unfoldable pub type_of_func : NestedModule → Function → Found OperandTypes
type_of_func m f = type_of_body (context_of m f) f.code
