-- The shortest spelling of the grammar's general forms (WebAssembly Core 1.0, section 5.1): each number in its fewest bytes.
use Rattle.std.specs.Prelude.{ℕ, List, [], ◌∷◌, ◌++◌, length}
use Rattle.leb_bytes.specs.Writing.{unsigned_text}
use Rattle.wasm_types.specs.declared.instr.ValType.{ValType}
use Rattle.module_specs.specs.Spelling.{type_byte}

-- items of one kind, one behind another
abbrev pub each_text : {A : Type 0} → (A → List ℕ) → List A → List ℕ
each_text text [] = []
each_text text (x ∷ xs) = text x ++ each_text text xs

-- a vector: how many, and the items (5.1.3)
abbrev pub vector_text : {A : Type 0} → (A → List ℕ) → List A → List ℕ
vector_text text xs = unsigned_text (length xs) ++ each_text text xs

-- a size, and exactly so much content; a vector of bytes is spelled so too
abbrev pub sized_text : List ℕ → List ℕ
sized_text content = unsigned_text (length content) ++ content

-- a value type (5.3.1)
abbrev pub type_text : ValType → List ℕ
type_text t = type_byte t ∷ []
