-- The grammar of sections and modules (WebAssembly Core 1.0, section 5.5).
use Rattle.std.specs.Prelude.{◌≡◌, ℕ, ◌<◌, ◌≤◌, ℤ, Bool, true, false, List, [], ◌∷◌, ◌++◌, length, map, Option, Some, None}
use Rattle.std.specs.Int.{cast_unsigned, w32, w64}
use Rattle.leb_bytes.specs.Spelling.{SpellsSigned}
use Rattle.wasm_types.specs.declared.instr.ValType.{ValType}
use Rattle.wasm_types.specs.declared.instr.ValType.TheVariants.{I32, I64}
use Rattle.wasm_types.specs.declared.module.FuncType.{FuncType}
use Rattle.wasm_types.specs.declared.module.Limits.{Limits}
use Rattle.wasm_types.specs.declared.module.Constant.{Constant}
use Rattle.wasm_types.specs.declared.module.GlobalVar.{GlobalVar}
use Rattle.wasm_types.specs.declared.module.Export.{Export}
use Rattle.wasm_types.specs.declared.module.Element.{Element}
use Rattle.wasm_types.specs.declared.module.Data.{Data}
use Rattle.wasm_types.specs.Modules.{NestedFunc, NestedModule}
use Rattle.module_specs.specs.declared.section.SectionKind.{SectionKind}
use Rattle.module_specs.specs.declared.section.SectionKind.TheVariants as kind
use Rattle.module_specs.specs.Spelling.{Then, SpellsByte, SpellsU32, SpellsVector, SpellsSized, SpellsName, SpellsType}
use Rattle.module_specs.specs.CodeSpelling.{SpellsBody}

-- a byte, and what follows it
abbrev pub Behind : ℕ → (List ℕ → Type 0) → List ℕ → Type 0
Behind byte P text = (rest : List ℕ) × (text ≡ byte ∷ rest) × P rest

-- 60, parameters, results (5.3.3)
abbrev pub SpellsFuncType : FuncType → List ℕ → Type 0
SpellsFuncType f text = Behind 0x60 (Then (SpellsVector SpellsType f.params) (SpellsVector SpellsType f.results)) text

-- 00 and the least size, or 01, the least and the greatest (5.3.4)
abbrev pub SpellsSizes : ℕ → Option ℕ → List ℕ → Type 0
SpellsSizes min None text = Behind 0x00 (SpellsU32 min) text
SpellsSizes min (Some max) text = Behind 0x01 (Then (SpellsU32 min) (SpellsU32 max)) text

-- limits whose least size isn't over a limit of its own
abbrev pub SpellsLimits : ℕ → Limits → List ℕ → Type 0
SpellsLimits most l text = (l.min ≤ most) × SpellsSizes l.min l.max text

-- in entries
abbrev pub most_entries : ℕ
most_entries = 65536

-- in pages of 64 KiB
abbrev pub most_pages : ℕ
most_pages = 256

-- 70 and limits (5.3.6)
abbrev pub SpellsTable : Limits → List ℕ → Type 0
SpellsTable l text = Behind 0x70 (SpellsLimits most_entries l) text

abbrev pub SpellsMemory : Limits → List ℕ → Type 0
SpellsMemory l text = SpellsLimits most_pages l text

-- the bits of a constant
abbrev pub i32_constant : ℤ → Constant
i32_constant z = record { ty = I32; value = cast_unsigned w32 z }

abbrev pub i64_constant : ℤ → Constant
i64_constant z = record { ty = I64; value = cast_unsigned w64 z }

-- i32.const or i64.const, by its type
abbrev pub SpellsValue : ValType → Constant → List ℕ → Type 0
SpellsValue I32 c text = (z : ℤ) × (c ≡ i32_constant z) × Behind 0x41 (λ t. SpellsSigned 32 t z) text
SpellsValue I64 c text = (z : ℤ) × (c ≡ i64_constant z) × Behind 0x42 (λ t. SpellsSigned 64 t z) text

-- a constant and end (5.4.6)
abbrev pub SpellsConstant : Constant → List ℕ → Type 0
SpellsConstant c text = Then (SpellsValue c.ty c) (SpellsByte 0x0B) text

-- whether code may set it
abbrev pub mutable_byte : Bool → ℕ
mutable_byte false = 0x00
mutable_byte true = 0x01

-- its type, whether code may set it, and its constant (5.5.9)
abbrev pub SpellsGlobal : GlobalVar → List ℕ → Type 0
SpellsGlobal g text = Then (SpellsType g.ty) (Behind (mutable_byte g.mutable) (SpellsConstant g.init)) text

-- a name, what is exported, and its index (5.5.10)
abbrev pub SpellsExport : Export → List ℕ → Type 0
SpellsExport e text = (e.kind ≤ 3) × Then (SpellsName e.name) (Behind e.kind (SpellsU32 e.index)) text

-- 0, where the segment goes, and functions (5.5.12)
abbrev pub SpellsElement : Element → List ℕ → Type 0
SpellsElement e text = Then (SpellsU32 0) (Then (SpellsConstant e.offset) (SpellsVector SpellsU32 e.funcs)) text

-- 0, where the segment goes, and bytes (5.5.14)
abbrev pub SpellsData : Data → List ℕ → Type 0
SpellsData d text = Then (SpellsU32 0) (Then (SpellsConstant d.offset) (SpellsVector SpellsByte d.bytes)) text

-- what a section holds
pub data Section : Type 0 where
  Custom : Section
  Types : (types : List FuncType) → Section
  Imports : Section
  Funcs : (indices : List ℕ) → Section
  Tables : (tables : List Limits) → Section
  Memories : (memories : List Limits) → Section
  Globals : (globals : List GlobalVar) → Section
  Exports : (exports : List Export) → Section
  Start : (func : ℕ) → Section
  Elements : (elements : List Element) → Section
  Codes : (funcs : List NestedFunc) → Section
  Datas : (datas : List Data) → Section

abbrev pub kind_of : Section → SectionKind
kind_of Custom = kind.Custom
kind_of (Types types) = kind.Type
kind_of Imports = kind.Import
kind_of (Funcs indices) = kind.Function
kind_of (Tables tables) = kind.Table
kind_of (Memories memories) = kind.Memory
kind_of (Globals globals) = kind.Global
kind_of (Exports exports) = kind.Export
kind_of (Start func) = kind.Start
kind_of (Elements elements) = kind.Element
kind_of (Codes funcs) = kind.Code
kind_of (Datas datas) = kind.Data

-- section ids (5.5.2)
abbrev pub id_byte : SectionKind → ℕ
id_byte kind.Custom = 0
id_byte kind.Type = 1
id_byte kind.Import = 2
id_byte kind.Function = 3
id_byte kind.Table = 4
id_byte kind.Memory = 5
id_byte kind.Global = 6
id_byte kind.Export = 7
id_byte kind.Start = 8
id_byte kind.Element = 9
id_byte kind.Code = 10
id_byte kind.Data = 11

-- what was read before a section: the last id that isn't custom, and the types of the functions
pub record Before : Type 0 where
  pub last : ℕ
  pub indices : List ℕ

abbrev pub start : Before
start = record { last = 0; indices = [] }

abbrev pub indices_after : Section → List ℕ → List ℕ
indices_after (Funcs indices) before = indices
indices_after other before = before

abbrev pub last_after : SectionKind → ℕ → ℕ
last_after kind.Custom last = last
last_after other last = id_byte other

abbrev pub after : Section → Before → Before
after x s = record { last = last_after (kind_of x) s.last; indices = indices_after x s.indices }

-- a section's content
abbrev pub SpellsSectionContent : Before → Section → List ℕ → Type 0
SpellsSectionContent s Custom text = (name : List ℕ) × Then (SpellsName name) (λ unread. Unit {0}) text
SpellsSectionContent s (Types types) text = SpellsVector SpellsFuncType types text
SpellsSectionContent s Imports text = SpellsU32 0 text
SpellsSectionContent s (Funcs indices) text = SpellsVector SpellsU32 indices text
SpellsSectionContent s (Tables tables) text = SpellsVector SpellsTable tables text
SpellsSectionContent s (Memories memories) text = SpellsVector SpellsMemory memories text
SpellsSectionContent s (Globals globals) text = SpellsVector SpellsGlobal globals text
SpellsSectionContent s (Exports exports) text = SpellsVector SpellsExport exports text
SpellsSectionContent s (Start func) text = SpellsU32 func text
SpellsSectionContent s (Elements elements) text = SpellsVector SpellsElement elements text
SpellsSectionContent s (Codes funcs) text = (map (λ f. f.ty) funcs ≡ s.indices) × SpellsVector SpellsBody funcs text
SpellsSectionContent s (Datas datas) text = SpellsVector SpellsData datas text

-- but for custom sections, ids rise
abbrev pub Rises : ℕ → SectionKind → Type 0
Rises last kind.Custom = Unit {0}
Rises last other = last < id_byte other

-- its id, its size and its content
abbrev pub SpellsSection : Before → Section → List ℕ → Type 0
SpellsSection s x text =
    Rises s.last (kind_of x) × Behind (id_byte (kind_of x)) (SpellsSized (SpellsSectionContent s) x) text

abbrev pub SpellsSections : Before → List Section → List ℕ → Type 0
SpellsSections s [] text = text ≡ []
SpellsSections s (x ∷ xs) text = Then (SpellsSection s x) (SpellsSections (after x s) xs) text

-- what a section puts into a module
abbrev pub put : Section → NestedModule → NestedModule
put Custom m = m
put (Types types) m = record m { types = types }
put Imports m = m
put (Funcs indices) m = m
put (Tables tables) m = record m { tables = tables }
put (Memories memories) m = record m { memories = memories }
put (Globals globals) m = record m { globals = globals }
put (Exports exports) m = record m { exports = exports }
put (Start func) m = record m { start = Some func }
put (Elements elements) m = record m { elements = elements }
put (Codes funcs) m = record m { funcs = funcs }
put (Datas datas) m = record m { datas = datas }

abbrev pub put_all : List Section → NestedModule → NestedModule
put_all [] m = m
put_all (x ∷ xs) m = put_all xs (put x m)

abbrev pub empty : NestedModule
empty = record {
  types = [];
  funcs = [];
  tables = [];
  memories = [];
  globals = [];
  exports = [];
  start = None;
  elements = [];
  datas = [];
}

-- the module that sections make
abbrev pub module_of : List Section → NestedModule
module_of xs = put_all xs empty

-- the types of the functions that sections declare
abbrev pub declared : List Section → List ℕ → List ℕ
declared [] indices = indices
declared (x ∷ xs) indices = declared xs (indices_after x indices)

-- 00, asm, and version 1 (5.5.15)
abbrev pub magic : List ℕ
magic = 0x00 ∷ 0x61 ∷ 0x73 ∷ 0x6D ∷ []

abbrev pub version : List ℕ
version = 0x01 ∷ 0x00 ∷ 0x00 ∷ 0x00 ∷ []

-- the most bytes of a file: 4 MiB
abbrev pub most_bytes : ℕ
most_bytes = 4194304

-- behind the header: sections that make the module, with a body for each function that they declare
abbrev pub SpellsRest : NestedModule → List ℕ → Type 0
SpellsRest m text =
    (xs : List Section) × (m ≡ module_of xs) × (length m.funcs ≡ length (declared xs [])) × SpellsSections start xs text

abbrev pub SpellsModule : NestedModule → List ℕ → Type 0
SpellsModule m bytes =
    (length bytes ≤ most_bytes) × ((rest : List ℕ) × (bytes ≡ magic ++ (version ++ rest)) × SpellsRest m rest)
