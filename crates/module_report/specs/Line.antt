-- The line on a module: how many it has of each kind, the function that runs first, and the bytes of its shortest
-- spelling.
use Rattle.std.specs.Prelude.{◌≡◌, ℕ, List, ◌++◌, Option, Some, None, length, codes, decimal, refl}
use Rattle.std.specs.Fmt.{digits}
use Rattle.leb_bytes.specs.Writing.{shortest}
use Rattle.wasm_types.specs.Modules.{NestedModule}
use Rattle.module_specs.specs.ModuleSpelling.{empty}
use Rattle.wasm_writer.specs.ModuleTexts.{module_text}
use Rattle.wasm_writer.specs.Worked.{load_module}

-- an index, or a dash for none
abbrev pub index_or_dash : Option ℕ → List ℕ
index_or_dash None = codes "-"
index_or_dash (Some index) = decimal index

abbrev pub module_line : NestedModule → List ℕ
module_line m =
    codes "types " ++ decimal (length m.types)
    ++ codes " funcs " ++ decimal (length m.funcs)
    ++ codes " tables " ++ decimal (length m.tables)
    ++ codes " memories " ++ decimal (length m.memories)
    ++ codes " globals " ++ decimal (length m.globals)
    ++ codes " exports " ++ decimal (length m.exports)
    ++ codes " start " ++ index_or_dash m.start
    ++ codes " elems " ++ decimal (length m.elements)
    ++ codes " datas " ++ decimal (length m.datas)
    ++ codes " size " ++ decimal (length (module_text m)) ++ codes "\n"

-- a module without anything: the eight bytes of its header
module_line-empty :
    module_line empty
    ≡ codes "types 0 funcs 0 tables 0 memories 0 globals 0 exports 0 start - elems 0 datas 0 size 8\n"
unfolding digits
module_line-empty = refl

-- a function with an i32.load at its argument, exported, and one page of memory
module_line-load :
    module_line load_module
    ≡ codes "types 1 funcs 1 tables 0 memories 1 globals 0 exports 1 start - elems 0 datas 0 size 43\n"
unfolding digits shortest
module_line-load = refl

-- a function that runs first
module_line-start :
    module_line (record load_module { start = Some 0 })
    ≡ codes "types 1 funcs 1 tables 0 memories 1 globals 0 exports 1 start 0 elems 0 datas 0 size 46\n"
unfolding digits shortest
module_line-start = refl
