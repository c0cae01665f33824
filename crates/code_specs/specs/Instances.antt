-- What a module's table, memory and globals hold when it is instantiated (WebAssembly Core 1.0, section 4.5.4), and
-- which segments don't fit.
use Rattle.std.specs.Prelude.{ℕ, ◌+◌, ◌*◌, Bool, List, [], ◌∷◌, Option, Some, None, map, option_map, length, replicate, nat_le, slice_get, if◌then◌else◌}
use Rattle.std.specs.Option.{option_map_or}
use Rattle.wasm_types.specs.declared.module.Limits.{Limits}
use Rattle.wasm_types.specs.declared.module.GlobalVar.{GlobalVar}
use Rattle.wasm_types.specs.declared.module.Element.{Element}
use Rattle.wasm_types.specs.declared.module.Data.{Data}
use Rattle.wasm_types.specs.Modules.{NestedModule}
use Rattle.code_specs.specs.declared.segment.Misfit.{Misfit}
use Rattle.code_specs.specs.declared.segment.Misfit.TheVariants as misfit
use Rattle.code_specs.specs.Stores.{Store, page_size, replaced_at}

-- the least size of a table or memory, 0 where there is none
abbrev pub least : Option Limits → ℕ
least l = option_map_or (λ (l : Limits). l.min) l 0

-- the entries of the table, and the bytes of the memory, at the beginning
abbrev pub table_size : NestedModule → ℕ
table_size m = least (slice_get m.tables 0)

abbrev pub memory_size : NestedModule → ℕ
memory_size m = least (slice_get m.memories 0) * page_size

-- entries with the segments written to them, one after the other
abbrev pub with_elements : List Element → List (Option ℕ) → List (Option ℕ)
with_elements [] entries = entries
with_elements (e ∷ es) entries = with_elements es (replaced_at entries e.offset.value (map Some e.funcs))

abbrev pub with_datas : List Data → List ℕ → List ℕ
with_datas [] bytes = bytes
with_datas (d ∷ ds) bytes = with_datas ds (replaced_at bytes d.offset.value d.bytes)

-- the function at each index of the table, where there is one
unfoldable pub table_of : NestedModule → List (Option ℕ)
table_of m = with_elements m.elements (replicate (table_size m) None)

-- pages of zeros with the data in them, and the constants of the globals
unfoldable pub opening_store : NestedModule → Store
opening_store m = record {
  bytes = with_datas m.datas (replicate (memory_size m) 0);
  globals = map (λ (g : GlobalVar). g.init.value) m.globals;
}

-- the position of the first item, counted on from this one, that doesn't pass a test
abbrev pub first_failing : {A : Type 0} → (A → Bool) → (place : ℕ) → List A → Option ℕ
first_failing test place [] = None
first_failing test place (x ∷ xs) = if test x then first_failing test (place + 1) xs else Some place

abbrev pub element_fits : NestedModule → Element → Bool
element_fits m e = nat_le (e.offset.value + length e.funcs) (table_size m)

abbrev pub data_fits : NestedModule → Data → Bool
data_fits m d = nat_le (d.offset.value + length d.bytes) (memory_size m)

-- the first segment that doesn't fit: an element segment, else a data segment
unfoldable pub first_misfit : NestedModule → Option Misfit
first_misfit m =
    option_map_or (λ place. Some (misfit.Element place)) (first_failing (element_fits m) 0 m.elements)
    (option_map (λ place. misfit.Data place) (first_failing (data_fits m) 0 m.datas))
