-- What the laws say of code.
use Rattle.std.specs.Prelude.{ℕ, suc, ◌<◌, List, [], ◌∷◌}
use Rattle.wasm_types.specs.declared.instr.Instr.{Instr}
use Rattle.wasm_types.specs.declared.instr.Instr.TheVariants.{Br, BrIf, BrTable}
use Rattle.code_specs.specs.Typing.{Found, OperandTypes, Left, Context, ◌>>=◌, type_of}
use Rattle.wasm_types.specs.Nested.{Code, Nil, Leaf, InBlock, InLoop, IfOnly, IfElse}

-- a list of instructions, and then another
abbrev pub then_code : Code → Code → Code
then_code Nil rest = rest
then_code (Leaf i code) rest = Leaf i (then_code code rest)
then_code (InBlock r inner code) rest = InBlock r inner (then_code code rest)
then_code (InLoop r inner code) rest = InLoop r inner (then_code code rest)
then_code (IfOnly r inner code) rest = IfOnly r inner (then_code code rest)
then_code (IfElse r first second code) rest = IfElse r first second (then_code code rest)

-- the first part of a list is typed, and then the second from where it leaves off
abbrev pub type_in_parts : Context → (held position : ℕ) → (front rest : Code) → OperandTypes → Found Left
type_in_parts c held position front rest s =
    type_of c held position front s >>= λ left. type_of c held left.closer rest left.types

-- each of these labels is one of so many
abbrev pub AreLabels : ℕ → List ℕ → Type 0
AreLabels count [] = Unit {0}
AreLabels count (label ∷ labels) = (label < count) × AreLabels count labels

-- each label that the instruction may branch to is one of so many
abbrev pub BranchesWithin : ℕ → Instr → Type 0
BranchesWithin count (Br label) = label < count
BranchesWithin count (BrIf label) = label < count
BranchesWithin count (BrTable labels default) = AreLabels count labels × (default < count)
BranchesWithin count other = Unit {0}

-- each branch leads to a label that is there, where so many are around the list
abbrev pub HasItsLabels : ℕ → Code → Type 0
HasItsLabels labels Nil = Unit {0}
HasItsLabels labels (Leaf i rest) = BranchesWithin labels i × HasItsLabels labels rest
HasItsLabels labels (InBlock r inner rest) = HasItsLabels (suc labels) inner × HasItsLabels labels rest
HasItsLabels labels (InLoop r inner rest) = HasItsLabels (suc labels) inner × HasItsLabels labels rest
HasItsLabels labels (IfOnly r inner rest) = HasItsLabels (suc labels) inner × HasItsLabels labels rest
HasItsLabels labels (IfElse r first second rest) =
    HasItsLabels (suc labels) first × HasItsLabels (suc labels) second × HasItsLabels labels rest
