-- The guest of a module before its first call has a store that its code may have, where the segments of the module fit.
use Rattle.std.proofs.Common.{◌≡◌, ℕ, ◌+◌, Bool, true, false, List, [], ◌∷◌, length, map, Option, None, Some, slice_get, arith, refl, ◌∙◌}
use Rattle.std.specs.Prelude.{cond, nat_le, replicate, option_map}
use Rattle.std.specs.Option.{option_map_or}
use Rattle.std.proofs.lemmas.Bool.{leb-true, and_parts}
use Rattle.std.proofs.lemmas.List.{length-replicate}
use Rattle.wasm_types.specs.declared.module.Data.{Data}
use Rattle.wasm_types.specs.declared.module.GlobalVar.{GlobalVar}
use Rattle.wasm_types.specs.Modules.{NestedModule}
use Rattle.code_specs.specs.declared.segment.Misfit.TheVariants as misfit
use Rattle.code_specs.specs.Stores.{greatest_pages, replaced_at}
use Rattle.code_specs.specs.Instances.{least, memory_size, with_datas, opening_store, first_failing, element_fits, data_fits, first_misfit}
use Rattle.wasm_machine.specs.Making.{globals_suit, pages_suit}
use Rattle.unit_specs.specs.Description.{Description}
use Rattle.binding_specs.specs.Answers.{fresh_guest}
use Rattle.guest_laws.specs.Words.{Begins}
use Rattle.guest_laws.proofs.Stores.{StoreSuits, size, to-suits}

no-misfit : (elements datas : Option ℕ)
    → option_map_or (λ place. Some (misfit.Element place)) elements (option_map (λ place. misfit.Data place) datas) ≡ None → datas ≡ None
no-misfit None None h = refl
no-misfit None (Some place) h = absurd cc
no-misfit (Some place) datas h = absurd cc

datas-fit : (m : NestedModule) → first_misfit m ≡ None → first_failing (data_fits m) 0 m.datas ≡ None
unfolding first_misfit
datas-fit m h = no-misfit (first_failing (element_fits m) 0 m.elements) (first_failing (data_fits m) 0 m.datas) h

datas-size : (m : NestedModule) (place : ℕ) (ds : List Data) (bytes : List ℕ) → length bytes ≡ memory_size m
    → first_failing (data_fits m) place ds ≡ None → length (with_datas ds bytes) ≡ memory_size m
datas-size m place [] bytes l h = l
datas-size m place (d ∷ ds) bytes l h =
    go (data_fits m d) refl h (λ same rest. datas-size m (place + 1) ds (replaced_at bytes d.offset.value d.bytes) same rest)
  where
    go : (b : Bool) → data_fits m d ≡ b → cond b (first_failing (data_fits m) (place + 1) ds) (Some place) ≡ None
        → (length (replaced_at bytes d.offset.value d.bytes) ≡ memory_size m → first_failing (data_fits m) (place + 1) ds ≡ None
        → length (with_datas ds (replaced_at bytes d.offset.value d.bytes)) ≡ memory_size m)
        → length (with_datas ds (replaced_at bytes d.offset.value d.bytes)) ≡ memory_size m
    go true e h on =
        let le = leb-true (d.offset.value + length d.bytes) (memory_size m) e in
        on (size bytes d.bytes d.offset.value (omega (arith, le, l)) ∙ l) h
    go false e h on = absurd cc

opening-suits : (m : NestedModule) → first_misfit m ≡ None → pages_suit m (least (slice_get m.memories 0)) ≡ true
    → globals_suit m.globals (map (λ (g : GlobalVar). g.init.value) m.globals) ≡ true → StoreSuits m (opening_store m)
unfolding opening_store
opening-suits m fit pages globals =
    let low = least (slice_get m.memories 0) in
    let p = and_parts (nat_le low low) (nat_le low (greatest_pages m)) pages in
    record {
      count = low;
      whole = datas-size m 0 m.datas (replicate (memory_size m) 0) (length-replicate {A = ℕ} (memory_size m) 0) (datas-fit m fit);
      least = omega arith;
      most = leb-true low (greatest_pages m) p.1;
      globals = globals;
    }

pub fresh-begins : (m : NestedModule) (d : Description) (budget : ℕ) → first_misfit m ≡ None
    → pages_suit m (least (slice_get m.memories 0)) ≡ true
    → globals_suit m.globals (map (λ (g : GlobalVar). g.init.value) m.globals) ≡ true → Begins (fresh_guest m d budget)
fresh-begins m d budget fit pages globals = record {
  phase = refl;
  store = to-suits m (opening_store m) (opening-suits m fit pages globals);
}
