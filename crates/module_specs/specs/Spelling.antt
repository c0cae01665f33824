-- The grammar's general forms (WebAssembly Core 1.0, section 5.1), as relations between what is spelled and a text of bytes.
use Rattle.std.specs.Prelude.{◌≡◌, ℕ, ◌+◌, ◌≤◌, List, [], ◌∷◌, ◌++◌, length, drop, Option, Some, None, IsUtf8}
use Rattle.leb_bytes.specs.Spelling.{SpellsUnsigned}
use Rattle.wasm_types.specs.declared.instr.ValType.{ValType}
use Rattle.wasm_types.specs.declared.instr.ValType.TheVariants.{I32, I64}

-- one text behind another
abbrev pub Then : (List ℕ → Type 0) → (List ℕ → Type 0) → List ℕ → Type 0
Then P Q text = (one : List ℕ) × (two : List ℕ) × (text ≡ one ++ two) × P one × Q two

-- a byte by itself
abbrev pub SpellsByte : ℕ → List ℕ → Type 0
SpellsByte byte text = text ≡ byte ∷ []

-- an unsigned number of 32 bits, in any spelling (5.2.2)
abbrev pub SpellsU32 : ℕ → List ℕ → Type 0
SpellsU32 n text = SpellsUnsigned 32 text n

-- items of one kind, one behind another
abbrev pub SpellsEach : {A : Type 0} → (A → List ℕ → Type 0) → List A → List ℕ → Type 0
SpellsEach S [] text = text ≡ []
SpellsEach S (x ∷ xs) text = Then (S x) (SpellsEach S xs) text

-- a vector: how many, and the items (5.1.3)
abbrev pub SpellsVector : {A : Type 0} → (A → List ℕ → Type 0) → List A → List ℕ → Type 0
SpellsVector S xs text = Then (SpellsU32 (length xs)) (SpellsEach S xs) text

-- a size, and exactly so much content
abbrev pub SpellsSized : {A : Type 0} → (A → List ℕ → Type 0) → A → List ℕ → Type 0
SpellsSized S x text =
    (size : List ℕ) × (content : List ℕ) × (text ≡ size ++ content) × SpellsU32 (length content) size × S x content

-- a name: a vector of bytes that are UTF-8 (5.2.4)
abbrev pub SpellsName : List ℕ → List ℕ → Type 0
SpellsName name text = IsUtf8 name × SpellsVector SpellsByte name text

-- value types (5.3.1)
abbrev pub type_byte : ValType → ℕ
type_byte I32 = 0x7F
type_byte I64 = 0x7E

abbrev pub SpellsType : ValType → List ℕ → Type 0
SpellsType t text = SpellsByte (type_byte t) text

-- the type of a block: the value that it leaves, if it leaves one (5.3.2)
abbrev pub block_byte : Option ValType → ℕ
block_byte None = 0x40
block_byte (Some t) = type_byte t

-- this text lies in the bytes from one place to another
pub record Here (bytes : List ℕ) (at : ℕ) (text : List ℕ) (next : ℕ) : Type 0 where
  pub whole : drop at bytes ≡ text ++ drop next bytes
  pub size : next ≡ at + length text
  pub within : next ≤ length bytes
