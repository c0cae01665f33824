-- The shortest spelling of a module (WebAssembly Core 1.0, section 5.5): its sections in order, each only where it has something
-- to say, and no custom sections.
use Rattle.std.specs.Prelude.{◌≡◌, ℕ, ◌%◌, ◌^◌, List, [], ◌∷◌, ◌++◌, map, Option, Some, None, refl}
use Rattle.std.specs.Int.{cast_signed, w32, w64}
use Rattle.leb_bytes.specs.Writing.{shortest, unsigned_text, signed_text}
use Rattle.wasm_types.specs.declared.instr.ValType.{ValType}
use Rattle.wasm_types.specs.declared.instr.ValType.TheVariants.{I32, I64}
use Rattle.wasm_types.specs.declared.module.FuncType.{FuncType}
use Rattle.wasm_types.specs.declared.module.Limits.{Limits}
use Rattle.wasm_types.specs.declared.module.Constant.{Constant}
use Rattle.wasm_types.specs.declared.module.GlobalVar.{GlobalVar}
use Rattle.wasm_types.specs.declared.module.Export.{Export}
use Rattle.wasm_types.specs.declared.module.Element.{Element}
use Rattle.wasm_types.specs.declared.module.Data.{Data}
use Rattle.wasm_types.specs.Modules.{NestedModule}
use Rattle.module_specs.specs.declared.section.SectionKind.{SectionKind}
use Rattle.module_specs.specs.declared.section.SectionKind.TheVariants as kind
use Rattle.module_specs.specs.ModuleSpelling.{mutable_byte, id_byte, empty, magic, version}
use Rattle.wasm_writer.specs.Texts.{vector_text, sized_text, type_text}
use Rattle.wasm_writer.specs.CodeTexts.{body_text}

-- 60, parameters, results (5.3.3)
abbrev pub func_type_text : FuncType → List ℕ
func_type_text f = 0x60 ∷ (vector_text type_text f.params ++ vector_text type_text f.results)

-- 00 and the least size, or 01, the least and the greatest (5.3.4)
abbrev pub sizes_text : ℕ → Option ℕ → List ℕ
sizes_text min None = 0x00 ∷ unsigned_text min
sizes_text min (Some max) = 0x01 ∷ (unsigned_text min ++ unsigned_text max)

abbrev pub memory_text : Limits → List ℕ
memory_text l = sizes_text l.min l.max

-- 70 and limits (5.3.6)
abbrev pub table_text : Limits → List ℕ
table_text l = 0x70 ∷ sizes_text l.min l.max

-- i32.const or i64.const, with the bits as a signed number; an i32 lies in the low 32 bits
abbrev pub value_text : ValType → ℕ → List ℕ
value_text I32 bits = 0x41 ∷ signed_text (cast_signed w32 (bits % 2 ^ 32))
value_text I64 bits = 0x42 ∷ signed_text (cast_signed w64 bits)

-- a constant and end (5.4.6)
abbrev pub constant_text : Constant → List ℕ
constant_text c = value_text c.ty c.value ++ 0x0B ∷ []

-- its type, whether code may set it, and its constant (5.5.9)
abbrev pub global_text : GlobalVar → List ℕ
global_text g = type_text g.ty ++ mutable_byte g.mutable ∷ constant_text g.init

-- a name, what is exported, and its index (5.5.10)
abbrev pub export_text : Export → List ℕ
export_text e = sized_text e.name ++ e.kind ∷ unsigned_text e.index

-- 0, where the segment goes, and functions (5.5.12)
abbrev pub element_text : Element → List ℕ
element_text e = 0 ∷ (constant_text e.offset ++ vector_text unsigned_text e.funcs)

-- 0, where the segment goes, and bytes (5.5.14)
abbrev pub data_text : Data → List ℕ
data_text d = 0 ∷ (constant_text d.offset ++ sized_text d.bytes)

-- a section: its id, its size and its content (5.5.2)
abbrev pub section_text : SectionKind → List ℕ → List ℕ
section_text k content = id_byte k ∷ sized_text content

-- a section of items, which isn't written where there are none
abbrev pub items_text : {A : Type 0} → SectionKind → (A → List ℕ) → List A → List ℕ
items_text k text [] = []
items_text k text (x ∷ xs) = section_text k (vector_text text (x ∷ xs))

-- the section of the function that runs first, if there is one (5.5.11)
abbrev pub start_text : Option ℕ → List ℕ
start_text None = []
start_text (Some func) = section_text kind.Start (unsigned_text func)

-- the sections in order of their ids
abbrev pub sections_text : NestedModule → List ℕ
sections_text m =
    items_text kind.Type func_type_text m.types
    ++ (items_text kind.Function unsigned_text (map (λ f. f.ty) m.funcs)
    ++ (items_text kind.Table table_text m.tables
    ++ (items_text kind.Memory memory_text m.memories
    ++ (items_text kind.Global global_text m.globals
    ++ (items_text kind.Export export_text m.exports
    ++ (start_text m.start
    ++ (items_text kind.Element element_text m.elements
    ++ (items_text kind.Code body_text m.funcs
    ++ items_text kind.Data data_text m.datas))))))))

-- the header and the sections
abbrev pub module_text : NestedModule → List ℕ
module_text m = magic ++ (version ++ sections_text m)

-- a module without anything is its header
module_text-empty : module_text empty ≡ magic ++ version
module_text-empty = refl

-- an i32 whose bits are all set is -1
constant_text-ones : constant_text (record { ty = I32; value = 0xFFFFFFFF }) ≡ 0x41 ∷ 0x7F ∷ 0x0B ∷ []
unfolding shortest
constant_text-ones = refl
