-- Worked values: a small module, what it is, and first faults with their places, each by computing.
use Rattle.std.specs.Prelude.{◌≡◌, ℕ, true, List, [], ◌∷◌, ◌++◌, negsuc, Some, None, Ok, Err, refl}
use Rattle.std.specs.Str.{is_utf8, chars}
use Rattle.std.specs.Char.{encode_utf8}
use Rattle.wasm_types.specs.declared.instr.ValType.TheVariants.{I32, I64}
use Rattle.wasm_types.specs.declared.instr.Instr.TheVariants.{Local, I32Const}
use Rattle.wasm_types.specs.Nested.{Nil, Leaf, IfElse}
use Rattle.wasm_types.specs.Modules.{NestedFunc, NestedModule}
use Rattle.module_specs.specs.declared.fault.Fault.TheVariants.{Short, Size, Magic, Version, Section, Order, Number, Import, Float, Form, Utf8, Opcode, Nesting, Count, Limit}
use Rattle.module_specs.specs.ModuleSpelling.{magic, version, empty}
use Rattle.module_specs.specs.Reading.{byte_at, u32_at, s32_at, s64_at, zero_at, each_at, vector_at, sized_at, name_at, type_at, block_type_at}
use Rattle.module_specs.specs.CodeReading.{token_at, code_from, runs_at, locals_at, content_at, body_at}
use Rattle.module_specs.specs.ModuleReading.{func_type_at, limits_at, table_at, constant_at, global_at, export_at, offset_at, element_at, data_at, imports_at, custom_at, bodies_at, codes_at, section_at, sections_at, rest_at, module_read}

-- a file with these sections
abbrev file : List ℕ → List ℕ
file sections = magic ++ (version ++ sections)

-- size 14 in three bytes; two i32 locals; local.get 0, if i32 (local.get 0) else (i32.const -1), end
abbrev if_body : List ℕ
if_body =
    0x8E ∷ 0x80 ∷ 0x00 ∷ 1 ∷ 2 ∷ 0x7F
    ∷ 0x20 ∷ 0 ∷ 0x04 ∷ 0x7F ∷ 0x20 ∷ 0 ∷ 0x05 ∷ 0x41 ∷ 0x7F ∷ 0x0B ∷ 0x0B ∷ []

abbrev if_func : NestedFunc
if_func = record {
  ty = 7;
  locals = I32 ∷ I32 ∷ [];
  code = Leaf (Local 0x20 0) (IfElse (Some I32) (Leaf (Local 0x20 0) Nil) (Leaf (I32Const (negsuc 0)) Nil) Nil);
}

body-if : body_at 7 if_body 0 ≡ Ok (if_func, 17)
unfolding byte_at u32_at s32_at type_at block_type_at sized_at token_at code_from runs_at locals_at content_at body_at
body-if = refl

-- i32.const 0x0FFFFFFF has its number in five bytes, of which the last sets an unused bit
body-number : body_at 0 (8 ∷ 0 ∷ 0x41 ∷ 0xFF ∷ 0xFF ∷ 0xFF ∷ 0xFF ∷ 0x4F ∷ 0x0B ∷ []) 0 ≡ Err (Number 3)
unfolding byte_at u32_at s32_at type_at block_type_at sized_at token_at code_from runs_at locals_at content_at body_at
body-number = refl

-- a custom section, (i32) -> i32, one function, a memory of one page, its export as "m", and the function's body
abbrev small_sections : List ℕ
small_sections =
    0 ∷ 2 ∷ 1 ∷ 0x61
    ∷ 1 ∷ 0x86 ∷ 0 ∷ 1 ∷ 0x60 ∷ 1 ∷ 0x7F ∷ 1 ∷ 0x7F
    ∷ 3 ∷ 2 ∷ 1 ∷ 0
    ∷ 5 ∷ 3 ∷ 1 ∷ 0 ∷ 1
    ∷ 7 ∷ 5 ∷ 1 ∷ 1 ∷ 0x6D ∷ 2 ∷ 0
    ∷ 10 ∷ 6 ∷ 1 ∷ 4 ∷ 0 ∷ 0x20 ∷ 0 ∷ 0x0B
    ∷ []

abbrev small_module : NestedModule
small_module = record empty {
  types = record { params = I32 ∷ []; results = I32 ∷ [] } ∷ [];
  funcs = record { ty = 0; locals = []; code = Leaf (Local 0x20 0) Nil } ∷ [];
  memories = record { min = 1; max = None } ∷ [];
  exports = record { name = 0x6D ∷ []; kind = 2; index = 0 } ∷ [];
}

module-small : module_read (file small_sections) ≡ Ok small_module
unfolding byte_at u32_at s32_at s64_at zero_at each_at vector_at sized_at name_at type_at block_type_at token_at code_from runs_at locals_at content_at body_at func_type_at limits_at table_at constant_at global_at export_at offset_at element_at data_at imports_at custom_at bodies_at codes_at section_at sections_at rest_at module_read is_utf8 chars encode_utf8
module-small = refl

-- a global of type i64 that code may set, with the constant -1; the function that runs first; a segment of one byte at -1
abbrev data_sections : List ℕ
data_sections =
    6 ∷ 6 ∷ 1 ∷ 0x7E ∷ 1 ∷ 0x42 ∷ 0x7F ∷ 0x0B
    ∷ 8 ∷ 1 ∷ 5
    ∷ 11 ∷ 7 ∷ 1 ∷ 0 ∷ 0x41 ∷ 0x7F ∷ 0x0B ∷ 1 ∷ 9
    ∷ []

module-data : module_read (file data_sections) ≡ Ok (record empty {
  globals = record { ty = I64; mutable = true; init = record { ty = I64; value = 0xFFFFFFFFFFFFFFFF } } ∷ [];
  start = Some 5;
  datas = record { offset = record { ty = I32; value = 0xFFFFFFFF }; bytes = 9 ∷ [] } ∷ [];
})
unfolding byte_at u32_at s32_at s64_at zero_at each_at vector_at sized_at name_at type_at block_type_at token_at code_from runs_at locals_at content_at body_at func_type_at limits_at table_at constant_at global_at export_at offset_at element_at data_at imports_at custom_at bodies_at codes_at section_at sections_at rest_at module_read
module-data = refl

-- the file ends in its first four bytes
fault-magic : module_read (0x00 ∷ 0x61 ∷ 0x73 ∷ []) ≡ Err (Magic 0)
unfolding byte_at u32_at s32_at s64_at zero_at each_at vector_at sized_at name_at type_at block_type_at token_at code_from runs_at locals_at content_at body_at func_type_at limits_at table_at constant_at global_at export_at offset_at element_at data_at imports_at custom_at bodies_at codes_at section_at sections_at rest_at module_read
fault-magic = refl

-- version 2
fault-version : module_read (magic ++ 2 ∷ 0 ∷ 0 ∷ 0 ∷ []) ≡ Err (Version 4)
unfolding byte_at u32_at s32_at s64_at zero_at each_at vector_at sized_at name_at type_at block_type_at token_at code_from runs_at locals_at content_at body_at func_type_at limits_at table_at constant_at global_at export_at offset_at element_at data_at imports_at custom_at bodies_at codes_at section_at sections_at rest_at module_read
fault-version = refl

-- section 12
fault-section : module_read (file (12 ∷ 1 ∷ 0 ∷ [])) ≡ Err (Section 8)
unfolding byte_at u32_at s32_at s64_at zero_at each_at vector_at sized_at name_at type_at block_type_at token_at code_from runs_at locals_at content_at body_at func_type_at limits_at table_at constant_at global_at export_at offset_at element_at data_at imports_at custom_at bodies_at codes_at section_at sections_at rest_at module_read
fault-section = refl

-- a type section behind a function section
fault-order : module_read (file (3 ∷ 1 ∷ 0 ∷ 1 ∷ 1 ∷ 0 ∷ [])) ≡ Err (Order 11)
unfolding byte_at u32_at s32_at s64_at zero_at each_at vector_at sized_at name_at type_at block_type_at token_at code_from runs_at locals_at content_at body_at func_type_at limits_at table_at constant_at global_at export_at offset_at element_at data_at imports_at custom_at bodies_at codes_at section_at sections_at rest_at module_read
fault-order = refl

-- a section that leads past the file
fault-long : module_read (file (1 ∷ 9 ∷ 0 ∷ [])) ≡ Err (Short 19)
unfolding byte_at u32_at s32_at s64_at zero_at each_at vector_at sized_at name_at type_at block_type_at token_at code_from runs_at locals_at content_at body_at func_type_at limits_at table_at constant_at global_at export_at offset_at element_at data_at imports_at custom_at bodies_at codes_at section_at sections_at rest_at module_read
fault-long = refl

-- a section's content ends before its size
fault-early : module_read (file (1 ∷ 2 ∷ 0 ∷ 0 ∷ [])) ≡ Err (Size 8)
unfolding byte_at u32_at s32_at s64_at zero_at each_at vector_at sized_at name_at type_at block_type_at token_at code_from runs_at locals_at content_at body_at func_type_at limits_at table_at constant_at global_at export_at offset_at element_at data_at imports_at custom_at bodies_at codes_at section_at sections_at rest_at module_read
fault-early = refl

-- a section's content leads past its size
fault-short : module_read (file (1 ∷ 1 ∷ 1 ∷ [])) ≡ Err (Short 11)
unfolding byte_at u32_at s32_at s64_at zero_at each_at vector_at sized_at name_at type_at block_type_at token_at code_from runs_at locals_at content_at body_at func_type_at limits_at table_at constant_at global_at export_at offset_at element_at data_at imports_at custom_at bodies_at codes_at section_at sections_at rest_at module_read
fault-short = refl

-- an import
fault-import : module_read (file (2 ∷ 1 ∷ 1 ∷ [])) ≡ Err (Import 8)
unfolding byte_at u32_at s32_at s64_at zero_at each_at vector_at sized_at name_at type_at block_type_at token_at code_from runs_at locals_at content_at body_at func_type_at limits_at table_at constant_at global_at export_at offset_at element_at data_at imports_at custom_at bodies_at codes_at section_at sections_at rest_at module_read
fault-import = refl

-- a name of the byte FF
fault-utf8 : module_read (file (0 ∷ 3 ∷ 1 ∷ 0xFF ∷ 9 ∷ [])) ≡ Err (Utf8 10)
unfolding byte_at u32_at s32_at s64_at zero_at each_at vector_at sized_at name_at type_at block_type_at token_at code_from runs_at locals_at content_at body_at func_type_at limits_at table_at constant_at global_at export_at offset_at element_at data_at imports_at custom_at bodies_at codes_at section_at sections_at rest_at module_read is_utf8 chars encode_utf8
fault-utf8 = refl

-- a float as a parameter
fault-float : module_read (file (1 ∷ 4 ∷ 1 ∷ 0x60 ∷ 1 ∷ 0x7D ∷ [])) ≡ Err (Float 13)
unfolding byte_at u32_at s32_at s64_at zero_at each_at vector_at sized_at name_at type_at block_type_at token_at code_from runs_at locals_at content_at body_at func_type_at limits_at table_at constant_at global_at export_at offset_at element_at data_at imports_at custom_at bodies_at codes_at section_at sections_at rest_at module_read
fault-float = refl

-- a segment for table 1
fault-form : module_read (file (9 ∷ 2 ∷ 1 ∷ 1 ∷ [])) ≡ Err (Form 11)
unfolding byte_at u32_at s32_at s64_at zero_at each_at vector_at sized_at name_at type_at block_type_at token_at code_from runs_at locals_at content_at body_at func_type_at limits_at table_at constant_at global_at export_at offset_at element_at data_at imports_at custom_at bodies_at codes_at section_at sections_at rest_at module_read
fault-form = refl

-- a memory of 257 pages
fault-limit : module_read (file (5 ∷ 4 ∷ 1 ∷ 0 ∷ 0x81 ∷ 0x02 ∷ [])) ≡ Err (Limit 12)
unfolding byte_at u32_at s32_at s64_at zero_at each_at vector_at sized_at name_at type_at block_type_at token_at code_from runs_at locals_at content_at body_at func_type_at limits_at table_at constant_at global_at export_at offset_at element_at data_at imports_at custom_at bodies_at codes_at section_at sections_at rest_at module_read
fault-limit = refl

-- a function without a body
fault-count : module_read (file (3 ∷ 2 ∷ 1 ∷ 0 ∷ [])) ≡ Err (Count 12)
unfolding byte_at u32_at s32_at s64_at zero_at each_at vector_at sized_at name_at type_at block_type_at token_at code_from runs_at locals_at content_at body_at func_type_at limits_at table_at constant_at global_at export_at offset_at element_at data_at imports_at custom_at bodies_at codes_at section_at sections_at rest_at module_read
fault-count = refl

-- two bodies for one function
fault-bodies : module_read (file (3 ∷ 2 ∷ 1 ∷ 0 ∷ 10 ∷ 1 ∷ 2 ∷ [])) ≡ Err (Count 12)
unfolding byte_at u32_at s32_at s64_at zero_at each_at vector_at sized_at name_at type_at block_type_at token_at code_from runs_at locals_at content_at body_at func_type_at limits_at table_at constant_at global_at export_at offset_at element_at data_at imports_at custom_at bodies_at codes_at section_at sections_at rest_at module_read
fault-bodies = refl

-- the opcode FF
fault-opcode : module_read (file (3 ∷ 2 ∷ 1 ∷ 0 ∷ 10 ∷ 6 ∷ 1 ∷ 4 ∷ 0 ∷ 0xFF ∷ 0 ∷ 0x0B ∷ [])) ≡ Err (Opcode 17 0xFF)
unfolding byte_at u32_at s32_at s64_at zero_at each_at vector_at sized_at name_at type_at block_type_at token_at code_from runs_at locals_at content_at body_at func_type_at limits_at table_at constant_at global_at export_at offset_at element_at data_at imports_at custom_at bodies_at codes_at section_at sections_at rest_at module_read
fault-opcode = refl

-- an else outside an if
fault-nesting : module_read (file (3 ∷ 2 ∷ 1 ∷ 0 ∷ 10 ∷ 5 ∷ 1 ∷ 3 ∷ 0 ∷ 0x05 ∷ 0x0B ∷ [])) ≡ Err (Nesting 17)
unfolding byte_at u32_at s32_at s64_at zero_at each_at vector_at sized_at name_at type_at block_type_at token_at code_from runs_at locals_at content_at body_at func_type_at limits_at table_at constant_at global_at export_at offset_at element_at data_at imports_at custom_at bodies_at codes_at section_at sections_at rest_at module_read
fault-nesting = refl
