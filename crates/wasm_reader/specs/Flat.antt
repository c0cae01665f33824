-- What reading leaves, with flat functions, section by section. No public clause cites this module.
use Rattle.std.specs.Prelude.{ℕ, List, [], ◌∷◌, length, not, ◌==◌, map, Some, Result, Ok, Err}
use Rattle.wasm_types.specs.declared.module.Func.{Func}
use Rattle.wasm_types.specs.declared.module.Module.{Module}
use Rattle.wasm_types.specs.Modules.{NestedFunc, NestedModule, flat_func, flat_module}
use Rattle.module_specs.specs.declared.fault.Fault.{Fault}
use Rattle.module_specs.specs.declared.fault.Fault.TheVariants as fault
use Rattle.module_specs.specs.declared.section.SectionKind.TheVariants as kind
use Rattle.module_specs.specs.ModuleSpelling.{Section, Custom, Types, Imports, Funcs, Tables, Memories, Globals, Exports, Start, Elements, Codes, Datas, id_byte, Before, empty}
use Rattle.module_specs.specs.Reading.{Read, ◌>>=◌, refuse_if, mapped}
use Rattle.wasm_reader.specs.declared.content.Part.{Part}
use Rattle.wasm_reader.specs.declared.content.Part.TheVariants as part
use Rattle.wasm_reader.specs.declared.content.Sofar.{Sofar}

-- a section's content, with flat functions
abbrev pub flat_section : Section → Part
flat_section Custom = part.Custom
flat_section (Types types) = part.Types types
flat_section Imports = part.Imports
flat_section (Funcs indices) = part.Funcs indices
flat_section (Tables tables) = part.Tables tables
flat_section (Memories memories) = part.Memories memories
flat_section (Globals globals) = part.Globals globals
flat_section (Exports exports) = part.Exports exports
flat_section (Start func) = part.Start func
flat_section (Elements elements) = part.Elements elements
flat_section (Codes funcs) = part.Codes (map flat_func funcs)
flat_section (Datas datas) = part.Datas datas

-- what was read, with flat functions
abbrev pub flat_part : Read Section → Read Part
flat_part = mapped flat_section

abbrev pub flat_funcs : Read (List NestedFunc) → Read (List Func)
flat_funcs = mapped (map flat_func)

abbrev pub flat_whole : Result NestedModule Fault → Result Module Fault
flat_whole (Ok m) = Ok (flat_module m)
flat_whole (Err e) = Err e

-- what bears on the next section
abbrev pub before_of : Sofar → Before
before_of p = record { last = id_byte p.last; indices = p.indices }

-- what was read, with one section more
abbrev pub with_part : Part → Sofar → Sofar
with_part part.Custom p = p
with_part (part.Types types) p = record { last = kind.Type; indices = p.indices; made = record p.made { types = types } }
with_part part.Imports p = record { last = kind.Import; indices = p.indices; made = p.made }
with_part (part.Funcs indices) p = record { last = kind.Function; indices = indices; made = p.made }
with_part (part.Tables tables) p = record { last = kind.Table; indices = p.indices; made = record p.made { tables = tables } }
with_part (part.Memories memories) p = record { last = kind.Memory; indices = p.indices; made = record p.made { memories = memories } }
with_part (part.Globals globals) p = record { last = kind.Global; indices = p.indices; made = record p.made { globals = globals } }
with_part (part.Exports exports) p = record { last = kind.Export; indices = p.indices; made = record p.made { exports = exports } }
with_part (part.Start func) p = record { last = kind.Start; indices = p.indices; made = record p.made { start = Some func } }
with_part (part.Elements elements) p = record { last = kind.Element; indices = p.indices; made = record p.made { elements = elements } }
with_part (part.Codes funcs) p = record { last = kind.Code; indices = p.indices; made = record p.made { funcs = funcs } }
with_part (part.Datas datas) p = record { last = kind.Data; indices = p.indices; made = record p.made { datas = datas } }

abbrev pub with_all : List Section → Sofar → Sofar
with_all [] p = p
with_all (x ∷ xs) p = with_all xs (with_part (flat_section x) p)

abbrev pub nothing : Sofar
nothing = record { last = kind.Custom; indices = []; made = flat_module empty }

-- sections that were read, put together behind what was read before
abbrev pub ends_in : Sofar → Read (List Section) → Result Sofar Fault
ends_in p (Ok xs) = Ok (with_all xs.0 p)
ends_in p (Err e) = Err e

-- the module, if each function has a body
abbrev pub finished : ℕ → Sofar → Result Module Fault
finished end p = refuse_if (not (length p.made.funcs == length p.indices)) (fault.Count end) >>= λ fine. Ok p.made
