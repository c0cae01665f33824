-- The same over flat code, as the code of this crate goes. No public clause cites this file.
use Rattle.std.specs.Prelude.{ℕ, suc, List, [], ◌∷◌, ◌++◌, if◌then◌else◌}
use Rattle.leb_bytes.specs.Writing.{unsigned_text}
use Rattle.wasm_types.specs.declared.instr.ValType.{ValType}
use Rattle.wasm_types.specs.declared.module.Func.{Func}
use Rattle.wasm_types.specs.declared.module.Module.{Module}
use Rattle.module_specs.specs.declared.section.SectionKind.TheVariants as kind
use Rattle.module_specs.specs.ModuleSpelling.{magic, version}
use Rattle.wasm_writer.specs.Texts.{each_text, sized_text}
use Rattle.wasm_writer.specs.CodeTexts.{instr_text, same_type, locals_text}
use Rattle.wasm_writer.specs.ModuleTexts.{func_type_text, table_text, memory_text, global_text, export_text, element_text, data_text, items_text, start_text}

-- how many of the first locals have this type
abbrev pub alike : ValType → List ValType → ℕ
alike t [] = 0
alike t (u ∷ us) = if same_type t u then suc (alike t us) else 0

-- how many locals the first run takes
abbrev pub first_run : List ValType → ℕ
first_run [] = 0
first_run (t ∷ ts) = suc (alike t ts)

abbrev pub flat_content_text : Func → List ℕ
flat_content_text f = locals_text f.locals ++ each_text instr_text f.body

abbrev pub flat_body_text : Func → List ℕ
flat_body_text f = sized_text (flat_content_text f)

abbrev pub index_text : Func → List ℕ
index_text f = unsigned_text f.ty

abbrev pub flat_sections_text : Module → List ℕ
flat_sections_text m =
    items_text kind.Type func_type_text m.types
    ++ (items_text kind.Function index_text m.funcs
    ++ (items_text kind.Table table_text m.tables
    ++ (items_text kind.Memory memory_text m.memories
    ++ (items_text kind.Global global_text m.globals
    ++ (items_text kind.Export export_text m.exports
    ++ (start_text m.start
    ++ (items_text kind.Element element_text m.elements
    ++ (items_text kind.Code flat_body_text m.funcs
    ++ items_text kind.Data data_text m.datas))))))))

abbrev pub flat_module_text : Module → List ℕ
flat_module_text m = magic ++ (version ++ flat_sections_text m)
