-- The worked module is spelled by its bytes.
use Rattle.std.proofs.Common.{◌≡◌, ◌<◌, refl, arith}
use Rattle.std.specs.Prelude.{Ok}
use Rattle.std.specs.Str.{is_utf8, chars}
use Rattle.std.specs.Char.{encode_utf8}
use Rattle.std.proofs.lemmas.List.Elements.{All-from_recursion}
use Rattle.leb_bytes.proofs.Spelled.{IsBytes, bytes_of_all}
use Rattle.wasm_types.specs.declared.module.Module.{Module}
use Rattle.wasm_types.specs.Modules.{flat_module}
use Rattle.module_specs.specs.Reading.{byte_at, u32_at, s32_at, s64_at, zero_at, each_at, vector_at, sized_at, name_at, type_at, block_type_at}
use Rattle.module_specs.specs.CodeReading.{token_at, code_from, runs_at, locals_at, content_at, body_at}
use Rattle.module_specs.specs.ModuleReading.{func_type_at, limits_at, table_at, constant_at, global_at, export_at, offset_at, element_at, data_at, imports_at, custom_at, bodies_at, codes_at, section_at, sections_at, rest_at, module_read}
use Rattle.module_specs.proofs.Modules.{module_here}
use Rattle.module_specs.specs.Spelled.{IsSpelled}
use Rattle.wasm_writer.specs.Worked.{load_module, load_bytes}
use Rattle.wasm_writer.proofs.Bodies.{tell}

load_is_read : module_read load_bytes ≡ Ok load_module
unfolding byte_at u32_at s32_at s64_at zero_at each_at vector_at sized_at name_at type_at block_type_at token_at code_from runs_at locals_at
    content_at body_at func_type_at limits_at table_at constant_at global_at export_at offset_at element_at data_at imports_at custom_at
    bodies_at codes_at section_at sections_at rest_at module_read is_utf8 chars encode_utf8
load_is_read = refl

load_fits : IsBytes load_bytes
load_fits = bytes_of_all load_bytes (All-from_recursion (λ b. b < 256) load_bytes (search arith))

pub load_is_spelled : (m : Module) → m ≡ flat_module load_module → IsSpelled m
load_is_spelled m is = record {
  nested = load_module;
  flat = is;
  bytes = load_bytes;
  spelled = module_here tell load_module load_bytes
      load_fits load_is_read;
}
