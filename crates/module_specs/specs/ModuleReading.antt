-- Reading sections and modules from left to right.
use Rattle.std.specs.Prelude.{ℕ, zero, suc, Bool, false, not, List, [], ◌∷◌, length, take, drop, Option, Some, None, Result, Ok, Err, nat_lt, nat_le, bytes_eq, ◌==◌, if◌then◌else◌}
use Rattle.wasm_types.specs.declared.module.FuncType.{FuncType}
use Rattle.wasm_types.specs.declared.module.Limits.{Limits}
use Rattle.wasm_types.specs.declared.module.Constant.{Constant}
use Rattle.wasm_types.specs.declared.module.GlobalVar.{GlobalVar}
use Rattle.wasm_types.specs.declared.module.Export.{Export}
use Rattle.wasm_types.specs.declared.module.Element.{Element}
use Rattle.wasm_types.specs.declared.module.Data.{Data}
use Rattle.wasm_types.specs.Modules.{NestedFunc, NestedModule}
use Rattle.module_specs.specs.declared.fault.Fault.{Fault}
use Rattle.module_specs.specs.declared.fault.Fault.TheVariants as fault
use Rattle.module_specs.specs.declared.section.SectionKind.{SectionKind}
use Rattle.module_specs.specs.declared.section.SectionKind.TheVariants as kind
use Rattle.module_specs.specs.ModuleSpelling.{most_entries, most_pages, i32_constant, i64_constant, Section, Custom, Types, Imports, Funcs, Tables, Memories, Globals, Exports, Start, Elements, Codes, Datas, id_byte, Before, start, after, module_of, declared, magic, version, most_bytes}
use Rattle.module_specs.specs.Reading.{Read, ◌>>=◌, refuse_if, mapped, byte_at, u32_at, s32_at, s64_at, type_at, name_at, vector_at, sized_at}
use Rattle.module_specs.specs.CodeReading.{body_at}

-- 60, parameters, results
unfoldable pub func_type_at : List ℕ → ℕ → Read FuncType
func_type_at b at = do
  form ← byte_at b at
  fine ← refuse_if (not (form.0 == 0x60)) (fault.Form at)
  params ← vector_at type_at b form.1
  results ← vector_at type_at b params.1
  Ok (record { params = params.0; results = results.0 }, results.1)

-- behind 00 nothing, and behind 01 the greatest size
abbrev pub max_at : ℕ → List ℕ → ℕ → Read (Option ℕ)
max_at flag b at = if flag == 0 then Ok (None, at) else mapped (λ max. Some max) (u32_at b at)

-- limits whose least size may be so much
unfoldable pub limits_at : ℕ → List ℕ → ℕ → Read Limits
limits_at most b at = do
  flag ← byte_at b at
  form ← refuse_if (nat_lt 1 flag.0) (fault.Form at)
  min ← u32_at b flag.1
  fine ← refuse_if (nat_lt most min.0) (fault.Limit flag.1)
  max ← max_at flag.0 b min.1
  Ok (record { min = min.0; max = max.0 }, max.1)

-- 70 and limits
unfoldable pub table_at : List ℕ → ℕ → Read Limits
table_at b at = do
  form ← byte_at b at
  fine ← refuse_if (not (form.0 == 0x70)) (fault.Form at)
  limits_at most_entries b form.1

abbrev pub memory_at : List ℕ → ℕ → Read Limits
memory_at = limits_at most_pages

-- the value behind the first byte of a constant, which stands at a place
abbrev pub value_of : List ℕ → ℕ → ℕ → ℕ → Read Constant
value_of b at next op =
    if op == 0x41 then mapped i32_constant (s32_at b next)
    else if op == 0x42 then mapped i64_constant (s64_at b next)
    else if op == 0x43 then Err (fault.Float at)
    else if op == 0x44 then Err (fault.Float at)
    else Err (fault.Form at)

-- a constant and the end behind it
unfoldable pub constant_at : List ℕ → ℕ → Read Constant
constant_at b at = do
  op ← byte_at b at
  value ← value_of b at op.1 op.0
  end ← byte_at b value.1
  fine ← refuse_if (not (end.0 == 0x0B)) (fault.Form value.1)
  Ok (value.0, end.1)

-- its type, whether code may set it, and its constant
unfoldable pub global_at : List ℕ → ℕ → Read GlobalVar
global_at b at = do
  type ← type_at b at
  mutable ← byte_at b type.1
  fine ← refuse_if (nat_lt 1 mutable.0) (fault.Form type.1)
  init ← constant_at b mutable.1
  Ok (record { ty = type.0; mutable = mutable.0 == 1; init = init.0 }, init.1)

-- a name, what is exported, and its index
unfoldable pub export_at : List ℕ → ℕ → Read Export
export_at b at = do
  name ← name_at b at
  what ← byte_at b name.1
  fine ← refuse_if (nat_lt 3 what.0) (fault.Form name.1)
  index ← u32_at b what.1
  Ok (record { name = name.0; kind = what.0; index = index.0 }, index.1)

-- where a segment goes: the index 0, and a constant
unfoldable pub offset_at : List ℕ → ℕ → Read Constant
offset_at b at = do
  index ← u32_at b at
  fine ← refuse_if (not (index.0 == 0)) (fault.Form at)
  constant_at b index.1

unfoldable pub element_at : List ℕ → ℕ → Read Element
element_at b at = do
  offset ← offset_at b at
  funcs ← vector_at u32_at b offset.1
  Ok (record { offset = offset.0; funcs = funcs.0 }, funcs.1)

unfoldable pub data_at : List ℕ → ℕ → Read Data
data_at b at = do
  offset ← offset_at b at
  bytes ← vector_at byte_at b offset.1
  Ok (record { offset = offset.0; bytes = bytes.0 }, bytes.1)

-- no imports: another count is a fault at the section's id byte
unfoldable pub imports_at : ℕ → List ℕ → ℕ → Read Section
imports_at id b at = do
  count ← u32_at b at
  fine ← refuse_if (nat_lt 0 count.0) (fault.Import id)
  Ok (Imports, count.1)

-- a name, and the rest of the section
unfoldable pub custom_at : List ℕ → ℕ → Read Section
custom_at b at = do
  name ← name_at b at
  Ok (Custom, length b)

-- a body for each function
unfoldable pub bodies_at : List ℕ → List ℕ → ℕ → Read (List NestedFunc)
bodies_at [] b at = Ok ([], at)
bodies_at (ty ∷ indices) b at = do
  first ← body_at ty b at
  others ← bodies_at indices b first.1
  Ok (first.0 ∷ others.0, others.1)

-- bodies for functions of these types: another count is a fault at the section's id byte
unfoldable pub codes_at : ℕ → List ℕ → List ℕ → ℕ → Read (List NestedFunc)
codes_at id indices b at = do
  count ← u32_at b at
  fine ← refuse_if (not (count.0 == length indices)) (fault.Count id)
  bodies_at indices b count.1

-- the content of a section of this kind, whose id byte stands at a place
abbrev pub section_content_at : Before → ℕ → SectionKind → List ℕ → ℕ → Read Section
section_content_at s id kind.Custom b at = custom_at b at
section_content_at s id kind.Type b at = mapped Types (vector_at func_type_at b at)
section_content_at s id kind.Import b at = imports_at id b at
section_content_at s id kind.Function b at = mapped Funcs (vector_at u32_at b at)
section_content_at s id kind.Table b at = mapped Tables (vector_at table_at b at)
section_content_at s id kind.Memory b at = mapped Memories (vector_at memory_at b at)
section_content_at s id kind.Global b at = mapped Globals (vector_at global_at b at)
section_content_at s id kind.Export b at = mapped Exports (vector_at export_at b at)
section_content_at s id kind.Start b at = mapped Start (u32_at b at)
section_content_at s id kind.Element b at = mapped Elements (vector_at element_at b at)
section_content_at s id kind.Code b at = mapped Codes (codes_at id s.indices b at)
section_content_at s id kind.Data b at = mapped Datas (vector_at data_at b at)

-- the kind of section with this id
abbrev pub kind_of_id : ℕ → Option SectionKind
kind_of_id id =
    if id == 0 then Some kind.Custom
    else if id == 1 then Some kind.Type
    else if id == 2 then Some kind.Import
    else if id == 3 then Some kind.Function
    else if id == 4 then Some kind.Table
    else if id == 5 then Some kind.Memory
    else if id == 6 then Some kind.Global
    else if id == 7 then Some kind.Export
    else if id == 8 then Some kind.Start
    else if id == 9 then Some kind.Element
    else if id == 10 then Some kind.Code
    else if id == 11 then Some kind.Data
    else None

-- the section kind of an id that stands at a place
abbrev pub known : ℕ → Option SectionKind → Result SectionKind Fault
known at (Some kind) = Ok kind
known at None = Err (fault.Section at)

-- ids rise, but for custom sections
abbrev pub falls : ℕ → SectionKind → Bool
falls last kind.Custom = false
falls last other = nat_le (id_byte other) last

-- Its id, its size and its content. A size that leads past the file is Short at the end that it states.
unfoldable pub section_at : Before → List ℕ → ℕ → Read Section
section_at s b at = do
  id ← byte_at b at
  kind ← known at (kind_of_id id.0)
  rising ← refuse_if (falls s.last kind) (fault.Order at)
  sized_at (λ end. fault.Short end) (fault.Size at) (section_content_at s at kind) b id.1

abbrev pub with_section : Section → List Section × ℕ → Read (List Section)
with_section x xs = Ok (x ∷ xs.0, xs.1)

-- Sections up to the end of the file. As many as there are bytes are enough.
unfoldable pub sections_at : ℕ → Before → List ℕ → ℕ → Read (List Section)
sections_at zero s b at = Ok ([], at)
sections_at (suc more) s b at =
    if nat_lt at (length b)
    then (section_at s b at >>= λ x. sections_at more (after x.0 s) b x.1 >>= with_section x.0)
    else Ok ([], at)

-- functions without bodies
abbrev pub lacks_bodies : List Section → Bool
lacks_bodies xs = not (length (module_of xs).funcs == length (declared xs []))

-- a module behind its header
unfoldable pub rest_at : List ℕ → ℕ → Result NestedModule Fault
rest_at b at = do
  sections ← sections_at (length b) start b at
  fine ← refuse_if (lacks_bodies sections.0) (fault.Count (length b))
  Ok (module_of sections.0)

-- four bytes of the header aren't these
abbrev pub differs : List ℕ → ℕ → List ℕ → Bool
differs b at these = not (bytes_eq (take 4 (drop at b)) these)

-- the module that a file is, or its first fault
unfoldable pub module_read : List ℕ → Result NestedModule Fault
module_read b = do
  small ← refuse_if (nat_lt most_bytes (length b)) (fault.Size most_bytes)
  wasm ← refuse_if (differs b 0 magic) (fault.Magic 0)
  first ← refuse_if (differs b 4 version) (fault.Version 4)
  rest_at b 8
