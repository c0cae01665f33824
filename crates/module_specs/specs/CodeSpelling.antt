-- The grammar of code and bodies (WebAssembly Core 1.0, sections 5.4 and 5.5.13).
use Rattle.std.specs.Prelude.{◌≡◌, ℕ, ◌-◌, ◌<◌, ◌≤◌, ℤ, List, [], ◌∷◌, ◌++◌, length, replicate}
use Rattle.leb_bytes.specs.Spelling.{SpellsSigned}
use Rattle.wasm_types.specs.declared.instr.ValType.{ValType}
use Rattle.wasm_types.specs.declared.instr.ValType.TheVariants.{I32, I64}
use Rattle.wasm_types.specs.declared.instr.Instr.{Instr}
use Rattle.wasm_types.specs.declared.instr.Instr.TheVariants as instr
use Rattle.wasm_types.specs.Nested.{Code, Nil, Leaf, InBlock, InLoop, IfOnly, IfElse}
use Rattle.wasm_types.specs.Modules.{NestedFunc}
use Rattle.module_specs.specs.declared.opcodes.Group.{Group}
use Rattle.module_specs.specs.declared.opcodes.Group.TheVariants as group
use Rattle.module_specs.specs.Opcodes.{group_of, simple_instr, indexed_instr}
use Rattle.module_specs.specs.Spelling.{Then, SpellsByte, SpellsU32, SpellsVector, SpellsSized, SpellsType, block_byte}

-- the immediates that follow an opcode of this group, for this instruction
abbrev pub SpellsImmediates : ℕ → Group → Instr → List ℕ → Type 0
SpellsImmediates op (group.Bare what) i text = (text ≡ []) × (i ≡ simple_instr op what)
SpellsImmediates op (group.Zero what) i text = SpellsByte 0x00 text × (i ≡ simple_instr op what)
SpellsImmediates op (group.Index what) i text = (n : ℕ) × SpellsU32 n text × (i ≡ indexed_instr op what n)
SpellsImmediates op (group.Access bytes) i text =
    (align : ℕ) × (offset : ℕ) × Then (SpellsU32 align) (SpellsU32 offset) text × (i ≡ instr.Access op align offset)
SpellsImmediates op (group.Constant I32) i text = (z : ℤ) × SpellsSigned 32 text z × (i ≡ instr.I32Const z)
SpellsImmediates op (group.Constant I64) i text = (z : ℤ) × SpellsSigned 64 text z × (i ≡ instr.I64Const z)
SpellsImmediates op group.Indirect i text =
    (type : ℕ) × Then (SpellsU32 type) (SpellsByte 0x00) text × (i ≡ instr.CallIndirect type)
SpellsImmediates op group.Table i text =
    (labels : List ℕ) × (default : ℕ) × Then (SpellsVector SpellsU32 labels) (SpellsU32 default) text
    × (i ≡ instr.BrTable labels default)
SpellsImmediates op other i text = ⊥

-- an instruction that holds no list: its opcode and its immediates
abbrev pub SpellsInstr : Instr → List ℕ → Type 0
SpellsInstr i [] = ⊥
SpellsInstr i (op ∷ text) = SpellsImmediates op (group_of op) i text

-- how deep lists may nest
abbrev pub most_nested : ℕ
most_nested = 1024

-- a list of instructions, in which lists nest up to so many deep
abbrev pub SpellsCode : ℕ → Code → List ℕ → Type 0
SpellsCode room Nil text = text ≡ []
SpellsCode room (Leaf i rest) text = Then (SpellsInstr i) (SpellsCode room rest) text
SpellsCode room (InBlock r inner rest) text =
    (one : List ℕ) × (two : List ℕ) × (text ≡ 0x02 ∷ block_byte r ∷ (one ++ 0x0B ∷ two))
    × (0 < room) × SpellsCode (room - 1) inner one × SpellsCode room rest two
SpellsCode room (InLoop r inner rest) text =
    (one : List ℕ) × (two : List ℕ) × (text ≡ 0x03 ∷ block_byte r ∷ (one ++ 0x0B ∷ two))
    × (0 < room) × SpellsCode (room - 1) inner one × SpellsCode room rest two
SpellsCode room (IfOnly r inner rest) text =
    (one : List ℕ) × (two : List ℕ) × (text ≡ 0x04 ∷ block_byte r ∷ (one ++ 0x0B ∷ two))
    × (0 < room) × SpellsCode (room - 1) inner one × SpellsCode room rest two
SpellsCode room (IfElse r first second rest) text =
    (one : List ℕ) × (two : List ℕ) × (three : List ℕ)
    × (text ≡ 0x04 ∷ block_byte r ∷ (one ++ 0x05 ∷ (two ++ 0x0B ∷ three)))
    × (0 < room) × SpellsCode (room - 1) first one × SpellsCode (room - 1) second two × SpellsCode room rest three

-- instructions up to the byte that closes a body (5.4.6)
abbrev pub SpellsExpr : Code → List ℕ → Type 0
SpellsExpr c text = (one : List ℕ) × (text ≡ one ++ 0x0B ∷ []) × SpellsCode most_nested c one

-- so many locals of a type
abbrev pub SpellsRun : ℕ × ValType → List ℕ → Type 0
SpellsRun run text = Then (SpellsU32 run.0) (SpellsType run.1) text

abbrev pub locals_of : List (ℕ × ValType) → List ValType
locals_of [] = []
locals_of (run ∷ runs) = replicate run.0 run.1 ++ locals_of runs

abbrev pub most_locals : ℕ
most_locals = 4096

-- locals, in any runs
abbrev pub SpellsLocals : List ValType → List ℕ → Type 0
SpellsLocals locals text =
    (runs : List (ℕ × ValType)) × (locals ≡ locals_of runs) × (length locals ≤ most_locals) × SpellsVector SpellsRun runs text

abbrev pub SpellsContent : NestedFunc → List ℕ → Type 0
SpellsContent f text = Then (SpellsLocals f.locals) (SpellsExpr f.code) text

-- a body: its size, its locals and its code
abbrev pub SpellsBody : NestedFunc → List ℕ → Type 0
SpellsBody f text = SpellsSized SpellsContent f text
