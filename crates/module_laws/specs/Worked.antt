-- Worked values: small modules, and what is left of them up to a place.
use Rattle.std.specs.Prelude.{◌≡◌, ℕ, List, [], ◌∷◌, ◌++◌, take, Some, Ok, Err, refl}
use Rattle.std.specs.Str.{is_utf8, chars}
use Rattle.std.specs.Char.{encode_utf8}
use Rattle.wasm_types.specs.Nested.{Nil}
use Rattle.wasm_types.specs.Modules.{NestedModule}
use Rattle.module_specs.specs.declared.fault.Fault.TheVariants.{Short, Magic, Version, Count}
use Rattle.module_specs.specs.ModuleSpelling.{Start, Funcs, start, empty, magic, version}
use Rattle.module_specs.specs.Reading.{byte_at, u32_at, s32_at, s64_at, zero_at, each_at, vector_at, sized_at, name_at, type_at, block_type_at}
use Rattle.module_specs.specs.CodeReading.{token_at, code_from, runs_at, locals_at, content_at, body_at}
use Rattle.module_specs.specs.ModuleReading.{func_type_at, limits_at, table_at, constant_at, global_at, export_at, offset_at, element_at, data_at, imports_at, custom_at, bodies_at, codes_at, section_at, sections_at, rest_at, module_read}

-- a file with these sections
abbrev pub file : List ℕ → List ℕ
file sections = magic ++ (version ++ sections)

-- a start section that names function 5
abbrev pub start_file : List ℕ
start_file = file (8 ∷ 1 ∷ 5 ∷ [])

abbrev pub start_module : NestedModule
start_module = record empty { start = Some 5 }

pub nothing-is : module_read [] ≡ Err (Magic 0)
unfolding byte_at u32_at s32_at s64_at zero_at each_at vector_at sized_at name_at type_at block_type_at token_at code_from runs_at locals_at content_at body_at func_type_at limits_at table_at constant_at global_at export_at offset_at element_at data_at imports_at custom_at bodies_at codes_at section_at sections_at rest_at module_read
nothing-is = refl

pub start-is : module_read start_file ≡ Ok start_module
unfolding byte_at u32_at s32_at s64_at zero_at each_at vector_at sized_at name_at type_at block_type_at token_at code_from runs_at locals_at content_at body_at func_type_at limits_at table_at constant_at global_at export_at offset_at element_at data_at imports_at custom_at bodies_at codes_at section_at sections_at rest_at module_read
start-is = refl

pub start-section : section_at start start_file 8 ≡ Ok (Start 5, 11)
unfolding byte_at u32_at s32_at s64_at zero_at each_at vector_at sized_at name_at type_at block_type_at token_at code_from runs_at locals_at content_at body_at func_type_at limits_at table_at constant_at global_at export_at offset_at element_at data_at imports_at custom_at bodies_at codes_at section_at sections_at rest_at module_read
start-section = refl

-- cut in the header, behind it, behind the section's id, and behind its size
start-7 : module_read (take 7 start_file) ≡ Err (Version 4)
unfolding byte_at u32_at s32_at s64_at zero_at each_at vector_at sized_at name_at type_at block_type_at token_at code_from runs_at locals_at content_at body_at func_type_at limits_at table_at constant_at global_at export_at offset_at element_at data_at imports_at custom_at bodies_at codes_at section_at sections_at rest_at module_read
start-7 = refl

pub start-8 : module_read (take 8 start_file) ≡ Ok empty
unfolding byte_at u32_at s32_at s64_at zero_at each_at vector_at sized_at name_at type_at block_type_at token_at code_from runs_at locals_at content_at body_at func_type_at limits_at table_at constant_at global_at export_at offset_at element_at data_at imports_at custom_at bodies_at codes_at section_at sections_at rest_at module_read
start-8 = refl

start-9 : module_read (take 9 start_file) ≡ Err (Short 9)
unfolding byte_at u32_at s32_at s64_at zero_at each_at vector_at sized_at name_at type_at block_type_at token_at code_from runs_at locals_at content_at body_at func_type_at limits_at table_at constant_at global_at export_at offset_at element_at data_at imports_at custom_at bodies_at codes_at section_at sections_at rest_at module_read
start-9 = refl

start-10 : module_read (take 10 start_file) ≡ Err (Short 11)
unfolding byte_at u32_at s32_at s64_at zero_at each_at vector_at sized_at name_at type_at block_type_at token_at code_from runs_at locals_at content_at body_at func_type_at limits_at table_at constant_at global_at export_at offset_at element_at data_at imports_at custom_at bodies_at codes_at section_at sections_at rest_at module_read
start-10 = refl

-- a function section, and a code section with the body of its function, which has nothing but its end
abbrev pub funcs_file : List ℕ
funcs_file = file (3 ∷ 2 ∷ 1 ∷ 0 ∷ 10 ∷ 4 ∷ 1 ∷ 2 ∷ 0 ∷ 0x0B ∷ [])

abbrev pub funcs_module : NestedModule
funcs_module = record empty { funcs = record { ty = 0; locals = []; code = Nil } ∷ [] }

pub funcs-is : module_read funcs_file ≡ Ok funcs_module
unfolding byte_at u32_at s32_at s64_at zero_at each_at vector_at sized_at name_at type_at block_type_at token_at code_from runs_at locals_at content_at body_at func_type_at limits_at table_at constant_at global_at export_at offset_at element_at data_at imports_at custom_at bodies_at codes_at section_at sections_at rest_at module_read
funcs-is = refl

pub funcs-section : section_at start funcs_file 8 ≡ Ok (Funcs (0 ∷ []), 12)
unfolding byte_at u32_at s32_at s64_at zero_at each_at vector_at sized_at name_at type_at block_type_at token_at code_from runs_at locals_at content_at body_at func_type_at limits_at table_at constant_at global_at export_at offset_at element_at data_at imports_at custom_at bodies_at codes_at section_at sections_at rest_at module_read
funcs-section = refl

-- cut between its sections
pub funcs-12 : module_read (take 12 funcs_file) ≡ Err (Count 12)
unfolding byte_at u32_at s32_at s64_at zero_at each_at vector_at sized_at name_at type_at block_type_at token_at code_from runs_at locals_at content_at body_at func_type_at limits_at table_at constant_at global_at export_at offset_at element_at data_at imports_at custom_at bodies_at codes_at section_at sections_at rest_at module_read
funcs-12 = refl

-- with a custom section between them it is the same module
funcs-custom : module_read (file (3 ∷ 2 ∷ 1 ∷ 0 ∷ 0 ∷ 3 ∷ 1 ∷ 0x61 ∷ 9 ∷ 10 ∷ 4 ∷ 1 ∷ 2 ∷ 0 ∷ 0x0B ∷ [])) ≡ Ok funcs_module
unfolding byte_at u32_at s32_at s64_at zero_at each_at vector_at sized_at name_at type_at block_type_at token_at code_from runs_at locals_at content_at body_at func_type_at limits_at table_at constant_at global_at export_at offset_at element_at data_at imports_at custom_at bodies_at codes_at section_at sections_at rest_at module_read is_utf8 chars encode_utf8
funcs-custom = refl

-- a start section of size 0, which has no room for an index; more may follow
abbrev pub broken_file : List ℕ → List ℕ
broken_file rest = file (8 ∷ 0 ∷ rest)

pub broken-section : section_at start (broken_file []) 8 ≡ Err (Short 10)
unfolding byte_at u32_at s32_at s64_at zero_at each_at vector_at sized_at name_at type_at block_type_at token_at code_from runs_at locals_at content_at body_at func_type_at limits_at table_at constant_at global_at export_at offset_at element_at data_at imports_at custom_at bodies_at codes_at section_at sections_at rest_at module_read
broken-section = refl

pub broken-is : module_read (broken_file []) ≡ Err (Short 10)
unfolding byte_at u32_at s32_at s64_at zero_at each_at vector_at sized_at name_at type_at block_type_at token_at code_from runs_at locals_at content_at body_at func_type_at limits_at table_at constant_at global_at export_at offset_at element_at data_at imports_at custom_at bodies_at codes_at section_at sections_at rest_at module_read
broken-is = refl

pub broken-more : module_read (broken_file (0 ∷ [])) ≡ Err (Short 10)
unfolding byte_at u32_at s32_at s64_at zero_at each_at vector_at sized_at name_at type_at block_type_at token_at code_from runs_at locals_at content_at body_at func_type_at limits_at table_at constant_at global_at export_at offset_at element_at data_at imports_at custom_at bodies_at codes_at section_at sections_at rest_at module_read
broken-more = refl
