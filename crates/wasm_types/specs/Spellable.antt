-- Which instructions and constants the binary format can spell (WebAssembly Core 1.0, sections 5.2.2 and 5.4):
-- each index is a u32, each opcode one of its group, and each constant fits its type.
use Rattle.std.specs.Prelude.{◌≡◌, ℕ, ◌-◌, ◌^◌, ◌<◌, ◌==◌, ◌&&◌, ◌||◌, Bool, true, false, [], ◌∷◌, All, ℤ, pos, neg_ℤ, ◌≤ℤ◌, ◌<ℤ◌, nat_le, length, map, replicate, refl}
use Rattle.std.proofs.Common.{arith}
use Rattle.wasm_types.specs.declared.instr.ValType.{ValType}
use Rattle.wasm_types.specs.declared.instr.ValType.TheVariants.{I32, I64}
use Rattle.wasm_types.specs.declared.instr.Instr.{Instr}
use Rattle.wasm_types.specs.declared.instr.Instr.TheVariants.{Block, Loop, If, Else, End, Br, BrIf, BrTable, Call, CallIndirect, Local, Globals, Access, I32Const, I64Const, Numeric}
use Rattle.wasm_types.specs.declared.module.Constant.{Constant}
use Rattle.wasm_types.specs.declared.module.GlobalVar.{GlobalVar}
use Rattle.wasm_types.specs.declared.module.Element.{Element}
use Rattle.wasm_types.specs.declared.module.Data.{Data}
use Rattle.wasm_types.specs.Nested.{Code, Nil, Leaf, InBlock, InLoop, IfOnly, IfElse, local_get, sample}
use Rattle.wasm_types.specs.Modules.{NestedFunc, NestedModule}

-- the number lies between these, both among them
abbrev pub is_in : (low high n : ℕ) → Bool
is_in low high n = nat_le low n && nat_le n high

-- local.get, local.set and local.tee
abbrev pub is_local_op : ℕ → Bool
is_local_op = is_in 0x20 0x22

-- global.get and global.set
abbrev pub is_global_op : ℕ → Bool
is_global_op = is_in 0x23 0x24

-- loads and stores of integers: i32.load and i64.load; the narrow loads, i32.store and i64.store; the narrow stores
abbrev pub is_access_op : ℕ → Bool
is_access_op op = is_in 0x28 0x29 op || is_in 0x2C 0x37 op || is_in 0x3A 0x3E op

-- tests and comparisons; arithmetic; i32.wrap_i64, and the two extensions of an i32
abbrev pub is_numeric_op : ℕ → Bool
is_numeric_op op = is_in 0x45 0x5A op || is_in 0x67 0x8A op || op == 0xA7 || is_in 0xAC 0xAD op

-- it has 32 bits, as each index has
abbrev pub IsU32 : ℕ → Type 0
IsU32 n = n < 2 ^ 32

-- it is a signed number of 32 bits, or of 64 bits
abbrev pub IsI32 : ℤ → Type 0
IsI32 z = (neg_ℤ (pos (2 ^ 31)) ≤ℤ z) × (z <ℤ pos (2 ^ 31))

abbrev pub IsI64 : ℤ → Type 0
IsI64 z = (neg_ℤ (pos (2 ^ 63)) ≤ℤ z) × (z <ℤ pos (2 ^ 63))

-- an instruction that neither opens nor closes a list, and that can be spelled
abbrev pub IsSpellable : Instr → Type 0
IsSpellable (Block r e) = ⊥
IsSpellable (Loop r e) = ⊥
IsSpellable (If r q e) = ⊥
IsSpellable (Else e) = ⊥
IsSpellable End = ⊥
IsSpellable (Br label) = IsU32 label
IsSpellable (BrIf label) = IsU32 label
IsSpellable (BrTable labels default) = IsU32 (length labels) × All IsU32 labels × IsU32 default
IsSpellable (Call index) = IsU32 index
IsSpellable (CallIndirect index) = IsU32 index
IsSpellable (Local op index) = (is_local_op op ≡ true) × IsU32 index
IsSpellable (Globals op index) = (is_global_op op ≡ true) × IsU32 index
IsSpellable (Access op align offset) = (is_access_op op ≡ true) × IsU32 align × IsU32 offset
IsSpellable (I32Const z) = IsI32 z
IsSpellable (I64Const z) = IsI64 z
IsSpellable (Numeric op) = is_numeric_op op ≡ true
IsSpellable other = Unit {0}

-- each leaf can be spelled, at every depth
abbrev pub HasSpellableLeaves : Code → Type 0
HasSpellableLeaves Nil = Unit {0}
HasSpellableLeaves (Leaf i rest) = IsSpellable i × HasSpellableLeaves rest
HasSpellableLeaves (InBlock r inner rest) = HasSpellableLeaves inner × HasSpellableLeaves rest
HasSpellableLeaves (InLoop r inner rest) = HasSpellableLeaves inner × HasSpellableLeaves rest
HasSpellableLeaves (IfOnly r inner rest) = HasSpellableLeaves inner × HasSpellableLeaves rest
HasSpellableLeaves (IfElse r first second rest) =
    HasSpellableLeaves first × HasSpellableLeaves second × HasSpellableLeaves rest

-- the bits of a type's values
abbrev pub width : ValType → ℕ
width I32 = 32
width I64 = 64

-- a constant whose bits are those of a value of its type
abbrev pub FitsType : Constant → Type 0
FitsType c = c.value < 2 ^ width c.ty

-- each leaf of the functions' code can be spelled, and each constant of a global or a segment fits its type
pub record HasSpellableParts (m : NestedModule) : Type 0 where
  pub funcs : All (λ (f : NestedFunc). HasSpellableLeaves f.code) m.funcs
  pub globals : All (λ (g : GlobalVar). FitsType g.init) m.globals
  pub elements : All (λ (e : Element). FitsType e.offset) m.elements
  pub datas : All (λ (d : Data). FitsType d.offset) m.datas

-- the first and the last of each run of a group's opcodes, with their neighbours outside
is_local_op-ends : map is_local_op (0x1F ∷ 0x20 ∷ 0x22 ∷ 0x23 ∷ []) ≡ false ∷ true ∷ true ∷ false ∷ []
is_local_op-ends = refl

is_global_op-ends : map is_global_op (0x22 ∷ 0x23 ∷ 0x24 ∷ 0x25 ∷ []) ≡ false ∷ true ∷ true ∷ false ∷ []
is_global_op-ends = refl

is_access_op-inside : map is_access_op (0x28 ∷ 0x29 ∷ 0x2C ∷ 0x37 ∷ 0x3A ∷ 0x3E ∷ []) ≡ replicate 6 true
is_access_op-inside = refl

is_access_op-outside : map is_access_op (0x27 ∷ 0x2A ∷ 0x2B ∷ 0x38 ∷ 0x39 ∷ 0x3F ∷ []) ≡ replicate 6 false
is_access_op-outside = refl

is_numeric_op-inside : map is_numeric_op (0x45 ∷ 0x5A ∷ 0x67 ∷ 0x8A ∷ 0xA7 ∷ 0xAC ∷ 0xAD ∷ []) ≡ replicate 7 true
is_numeric_op-inside = refl

is_numeric_op-outside : map is_numeric_op (0x44 ∷ 0x5B ∷ 0x66 ∷ 0x8B ∷ 0xA6 ∷ 0xA8 ∷ 0xAB ∷ 0xAE ∷ []) ≡ replicate 8 false
is_numeric_op-outside = refl

-- the sample's leaves can be spelled
sample-spellable : HasSpellableLeaves sample
sample-spellable = ((leaf, (one, two, again)), tt)
  where
    leaf : IsSpellable (local_get 0)
    leaf = (refl, omega arith)

    one : HasSpellableLeaves (Leaf (I32Const (pos 1)) Nil)
    one = ((omega arith, omega arith), tt)

    two : HasSpellableLeaves (Leaf (local_get 1) Nil)
    two = ((refl, omega arith), tt)

    again : HasSpellableLeaves (Leaf (BrIf 0) Nil)
    again = (omega arith, tt)

-- the opcode of global.get reads no local
global_get-of-local : ¬ IsSpellable (Local 0x23 0)
global_get-of-local s = absurd (let wrong : false ≡ true = s.0 in cc)

-- the largest constant of 32 bits fits its type, and the next one doesn't; as one of 64 bits it does
largest_i32 : FitsType (record { ty = I32; value = 2 ^ 32 - 1 })
largest_i32 = omega arith

over_i32 : ¬ FitsType (record { ty = I32; value = 2 ^ 32 })
over_i32 fits = absurd (omega arith)

over_i32-as-i64 : FitsType (record { ty = I64; value = 2 ^ 32 })
over_i32-as-i64 = omega arith
