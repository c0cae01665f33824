-- The shortest spelling of code and bodies (WebAssembly Core 1.0, sections 5.4 and 5.5.13).
use Rattle.std.specs.Prelude.{◌≡◌, ℕ, ◌+◌, Bool, true, false, List, [], ◌∷◌, ◌++◌, negsuc, Some, if◌then◌else◌, refl}
use Rattle.leb_bytes.specs.Writing.{shortest, unsigned_text, signed_text}
use Rattle.wasm_types.specs.declared.instr.ValType.{ValType}
use Rattle.wasm_types.specs.declared.instr.ValType.TheVariants.{I32, I64}
use Rattle.wasm_types.specs.declared.instr.Instr.{Instr}
use Rattle.wasm_types.specs.declared.instr.Instr.TheVariants as instr
use Rattle.wasm_types.specs.Nested.{Code, Nil, Leaf, InBlock, InLoop, IfOnly, IfElse}
use Rattle.wasm_types.specs.Modules.{NestedFunc}
use Rattle.module_specs.specs.Spelling.{block_byte}
use Rattle.wasm_writer.specs.Texts.{vector_text, sized_text, type_text}

-- the opcode of an instruction, and of what opens, splits or closes a list
abbrev pub op_of : Instr → ℕ
op_of instr.Unreachable = 0x00
op_of instr.Nop = 0x01
op_of (instr.Block r e) = 0x02
op_of (instr.Loop r e) = 0x03
op_of (instr.If r q e) = 0x04
op_of (instr.Else e) = 0x05
op_of instr.End = 0x0B
op_of (instr.Br n) = 0x0C
op_of (instr.BrIf n) = 0x0D
op_of (instr.BrTable labels default) = 0x0E
op_of instr.Return = 0x0F
op_of (instr.Call n) = 0x10
op_of (instr.CallIndirect n) = 0x11
op_of instr.Drop = 0x1A
op_of instr.Select = 0x1B
op_of (instr.Local op n) = op
op_of (instr.Globals op n) = op
op_of (instr.Access op align offset) = op
op_of instr.MemorySize = 0x3F
op_of instr.MemoryGrow = 0x40
op_of (instr.I32Const z) = 0x41
op_of (instr.I64Const z) = 0x42
op_of (instr.Numeric op) = op

-- what follows the opcode; the positions that an instruction names aren't spelled
abbrev pub immediates_text : Instr → List ℕ
immediates_text (instr.Block r e) = block_byte r ∷ []
immediates_text (instr.Loop r e) = block_byte r ∷ []
immediates_text (instr.If r q e) = block_byte r ∷ []
immediates_text (instr.Br n) = unsigned_text n
immediates_text (instr.BrIf n) = unsigned_text n
immediates_text (instr.BrTable labels default) = vector_text unsigned_text labels ++ unsigned_text default
immediates_text (instr.Call n) = unsigned_text n
immediates_text (instr.CallIndirect n) = unsigned_text n ++ 0x00 ∷ []
immediates_text (instr.Local op n) = unsigned_text n
immediates_text (instr.Globals op n) = unsigned_text n
immediates_text (instr.Access op align offset) = unsigned_text align ++ unsigned_text offset
immediates_text instr.MemorySize = 0x00 ∷ []
immediates_text instr.MemoryGrow = 0x00 ∷ []
immediates_text (instr.I32Const z) = signed_text z
immediates_text (instr.I64Const z) = signed_text z
immediates_text other = []

abbrev pub instr_text : Instr → List ℕ
instr_text i = op_of i ∷ immediates_text i

-- a list of instructions
abbrev pub code_text : Code → List ℕ
code_text Nil = []
code_text (Leaf i rest) = instr_text i ++ code_text rest
code_text (InBlock r inner rest) = 0x02 ∷ block_byte r ∷ (code_text inner ++ 0x0B ∷ code_text rest)
code_text (InLoop r inner rest) = 0x03 ∷ block_byte r ∷ (code_text inner ++ 0x0B ∷ code_text rest)
code_text (IfOnly r inner rest) = 0x04 ∷ block_byte r ∷ (code_text inner ++ 0x0B ∷ code_text rest)
code_text (IfElse r first second rest) =
    0x04 ∷ block_byte r ∷ (code_text first ++ 0x05 ∷ (code_text second ++ 0x0B ∷ code_text rest))

-- instructions, and the byte that closes a body (5.4.6)
abbrev pub expr_text : Code → List ℕ
expr_text c = code_text c ++ 0x0B ∷ []

abbrev pub same_type : ValType → ValType → Bool
same_type I32 I32 = true
same_type I64 I64 = true
same_type t u = false

-- one local before some runs: it lengthens the first of them, or is a run of its own
abbrev pub joined : ValType → List (ℕ × ValType) → List (ℕ × ValType)
joined t [] = (1, t) ∷ []
joined t (run ∷ runs) = if same_type t run.1 then (run.0 + 1, run.1) ∷ runs else (1, t) ∷ run ∷ runs

-- the longest runs of one type
abbrev pub runs_of : List ValType → List (ℕ × ValType)
runs_of [] = []
runs_of (t ∷ ts) = joined t (runs_of ts)

-- so many locals of a type
abbrev pub run_text : ℕ × ValType → List ℕ
run_text run = unsigned_text run.0 ++ type_text run.1

abbrev pub locals_text : List ValType → List ℕ
locals_text locals = vector_text run_text (runs_of locals)

-- a body: its size, its locals and its code
abbrev pub body_text : NestedFunc → List ℕ
body_text f = sized_text (locals_text f.locals ++ expr_text f.code)

-- two locals of one type are one run, and one of another type is the next
runs_of-three : runs_of (I32 ∷ I32 ∷ I64 ∷ []) ≡ (2, I32) ∷ (1, I64) ∷ []
runs_of-three = refl

-- a block that leaves -1, in a function with two locals
body_text-block :
    body_text (record { ty = 7; locals = I32 ∷ I32 ∷ []; code = InBlock (Some I32) (Leaf (instr.I32Const (negsuc 0)) Nil) Nil })
    ≡ 9 ∷ 1 ∷ 2 ∷ 0x7F ∷ 0x02 ∷ 0x7F ∷ 0x41 ∷ 0x7F ∷ 0x0B ∷ 0x0B ∷ []
unfolding shortest
body_text-block = refl
