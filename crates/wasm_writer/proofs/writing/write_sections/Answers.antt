use Rattle.module_specs.specs.declared.section.SectionKind.TheVariants as kind
use Rattle.wasm_writer.specs.ModuleTexts.{func_type_text, table_text, memory_text, global_text, export_text, element_text, data_text, start_text}
use Rattle.wasm_writer.specs.FlatTexts.{index_text, flat_body_text}
use Rattle.wasm_writer.proofs.Loops.{section_then, text_then, section_last}
use Rattle.wasm_writer.proofs.writing.write_sections.Goals as goal

pub returns : goal.returns
returns c =
    section_then kind.Type func_type_text _ _ _ _ _ _ c.as_slice.ensures c.in_ok-write_section.ensures
    (section_then kind.Function index_text _ _ _ _ _ _ c.as_slice-2.ensures c.in_ok-write_section-2.ensures
    (section_then kind.Table table_text _ _ _ _ _ _ c.as_slice-3.ensures c.in_ok-write_section-3.ensures
    (section_then kind.Memory memory_text _ _ _ _ _ _ c.as_slice-4.ensures c.in_ok-write_section-4.ensures
    (section_then kind.Global global_text _ _ _ _ _ _ c.as_slice-5.ensures c.in_ok-write_section-5.ensures
    (section_then kind.Export export_text _ _ _ _ _ _ c.as_slice-6.ensures c.in_ok-write_section-6.ensures
    (text_then (start_text c.args.parts.now.start) _ _ _ _ c.in_ok-write_start.ensures
    (section_then kind.Element element_text _ _ _ _ _ _ c.as_slice-7.ensures c.in_ok-write_section-7.ensures
    (section_then kind.Code flat_body_text _ _ _ _ _ _ c.as_slice-8.ensures c.in_ok-write_section-8.ensures
    (section_last kind.Data data_text _ _ _ _ c.as_slice-9.ensures c.in_ok-write_section-9.ensures)))))))))
