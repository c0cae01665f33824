-- How deep lists of instructions nest.
use Rattle.std.specs.Prelude.{ℕ, suc, ◌<◌}
use Rattle.wasm_types.specs.Nested.{Code, Nil, Leaf, InBlock, InLoop, IfOnly, IfElse}
use Rattle.module_specs.specs.CodeSpelling.{most_nested}

-- with so many lists open around it, no more are open anywhere in the code than files may have
abbrev pub Nests : (around : ℕ) → Code → Type 0
Nests around Nil = Unit {0}
Nests around (Leaf i rest) = Nests around rest
Nests around (InBlock r inner rest) = (around < most_nested) × Nests (suc around) inner × Nests around rest
Nests around (InLoop r inner rest) = (around < most_nested) × Nests (suc around) inner × Nests around rest
Nests around (IfOnly r inner rest) = (around < most_nested) × Nests (suc around) inner × Nests around rest
Nests around (IfElse r first second rest) =
    (around < most_nested) × Nests (suc around) first × Nests (suc around) second × Nests around rest
