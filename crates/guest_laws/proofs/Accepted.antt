-- A module that is spelled by a file, is valid, and whose segments fit has a guest whose store its code may have.
use Rattle.std.proofs.Common.{◌≡◌, ◌≤◌, ◌<◌, ℕ, ◌+◌, ◌^◌, ◌&&◌, ◌||◌, Bool, true, false, List, [], ◌∷◌, map, Option, None, Some}
use Rattle.std.proofs.Common.{All, slice_get, arith, refl, sym, subst, ap, ◌∙◌}
use Rattle.std.specs.Prelude.{cond, nat_le}
use Rattle.std.specs.Option.{option_map_or}
use Rattle.std.proofs.lemmas.Bool.{leb-true, le-leb, lt-ltb, eq-eqb, and_parts}
use Rattle.std.proofs.lemmas.List.Elements.{All-from_recursion, All-nil, All-head, All-tail}
use Rattle.wasm_types.specs.declared.instr.ValType.{ValType}
use Rattle.wasm_types.specs.declared.instr.ValType.TheVariants.{I32, I64}
use Rattle.wasm_types.specs.declared.module.Limits.{Limits}
use Rattle.wasm_types.specs.declared.module.GlobalVar.{GlobalVar}
use Rattle.wasm_types.specs.Modules.{NestedModule}
use Rattle.wasm_types.specs.declared.module.Module.{Module}
use Rattle.wasm_types.specs.Back.{nested_module}
use Rattle.wasm_types.specs.Spellable.{width, FitsType}
use Rattle.wasm_types.proofs.Spelled.{plain_module}
use Rattle.wasm_types.proofs.Whole.{module_back}
use Rattle.module_specs.specs.ModuleSpelling.{most_pages, SpellsMemory, Section, Custom, Types, Imports, Funcs, Tables, Memories, Globals}
use Rattle.module_specs.specs.ModuleSpelling.{Exports, Start, Elements, Codes, Datas, Before, after, SpellsSectionContent, SpellsSections}
use Rattle.module_specs.specs.ModuleSpelling.{put, put_all, empty, SpellsModule}
use Rattle.module_specs.specs.Spelled.{IsSpelled}
use Rattle.module_specs.proofs.SpellableParts.{each_fits, module_fits}
use Rattle.code_specs.specs.declared.rule.Rule.TheVariants as rule
use Rattle.code_specs.specs.Values.{is_same}
use Rattle.code_specs.specs.Stores.{greatest_pages, pages_within}
use Rattle.code_specs.specs.Instances.{least, first_failing, first_misfit}
use Rattle.code_specs.specs.Validity.{IsValid, validity, each, fails_at, has_one_result, has_type, is_ordered, is_memory_type}
use Rattle.code_specs.specs.Validity.{failing_limits, is_initialized}
use Rattle.code_laws.proofs.Tests.{passed}
use Rattle.code_laws.proofs.Parts.{none_fails}
use Rattle.wasm_machine.specs.Making.{global_suits, globals_suit, pages_suit}
use Rattle.unit_specs.specs.Description.{Description}
use Rattle.binding_specs.specs.Answers.{fresh_guest}
use Rattle.guest_laws.specs.Words.{Begins}
use Rattle.guest_laws.proofs.Fresh.{fresh-begins}

-- ---- the least size of a memory that is spelled

abbrev IsSmall : Limits → Type 0
IsSmall l = l.min ≤ most_pages

put-small : (m : NestedModule) → All IsSmall m.memories → (s : Before) (x : Section) (text : List ℕ) → SpellsSectionContent s x text
    → All IsSmall (put x m).memories
put-small m h s (Memories memories) text c =
    All-from_recursion IsSmall memories (each_fits SpellsMemory IsSmall (λ l text k. k.0) memories c.1 c.4)
put-small m h s Custom text c = h
put-small m h s (Types types) text c = h
put-small m h s Imports text c = h
put-small m h s (Funcs indices) text c = h
put-small m h s (Tables tables) text c = h
put-small m h s (Globals globals) text c = h
put-small m h s (Exports exports) text c = h
put-small m h s (Start func) text c = h
put-small m h s (Elements elements) text c = h
put-small m h s (Codes funcs) text c = h
put-small m h s (Datas datas) text c = h

sections-small : (xs : List Section) (s : Before) (m : NestedModule) (text : List ℕ) → All IsSmall m.memories → SpellsSections s xs text
    → All IsSmall (put_all xs m).memories
sections-small [] s m text h t = h
sections-small (x ∷ xs) s m text h t =
    let section = t.3 in
    let sized = section.1.2 in
    sections-small xs (after x s) (put x m) t.1 (put-small m h s x sized.1 sized.4) t.4

memories-small : (m : NestedModule) (bytes : List ℕ) → SpellsModule m bytes → All IsSmall m.memories
memories-small m bytes s =
    let rest = s.1.2 in
    subst (λ (m : NestedModule). All IsSmall m.memories) (sym rest.1)
    (sections-small rest.0 (record { last = 0; indices = [] }) empty s.1.0 (All-nil IsSmall) rest.3)

-- ---- what of validity is needed here

record Parts (m : NestedModule) : Type 0 where
  memories : failing_limits is_memory_type m.memories ≡ None
  globals : first_failing is_initialized 0 m.globals ≡ None

parts-of : (m : NestedModule) → IsValid m → Parts m
unfolding validity
parts-of m is =
    let types = passed (each rule.TypeResult has_one_result m.types) _ tt is in
    let funcs = passed (each rule.FuncType (has_type m) m.funcs) _ tt types.then in
    let tables = passed (fails_at rule.Limits (failing_limits is_ordered m.tables)) _ tt funcs.then in
    let memories = passed (fails_at rule.Limits (failing_limits is_memory_type m.memories)) _ tt tables.then in
    let globals = passed (each rule.Global is_initialized m.globals) _ tt memories.then in
    record {
      memories = none_fails rule.Limits (failing_limits is_memory_type m.memories) memories.it memories.is;
      globals = none_fails rule.Global (first_failing is_initialized 0 m.globals) globals.it globals.is;
    }

-- ---- pages

within : (low : ℕ) (o : Option ℕ) → low ≤ most_pages → option_map_or (λ max. nat_le low max) o true ≡ true → low ≤ pages_within o
within low None l h = l
within low (Some max) l h = let k = leb-true low max h in omega (arith, k, l)

least-low : (m : NestedModule) (ls : List Limits) → m.memories ≡ ls → All IsSmall ls → failing_limits is_memory_type ls ≡ None
    → least (slice_get m.memories 0) ≤ greatest_pages m
least-low m [] e small h = rw e (omega arith)
least-low m (l ∷ []) e small h = rw e (go (is_memory_type l) refl h)
  where
    go : (b : Bool) → is_memory_type l ≡ b → cond {A = Option ℕ} b None (Some 0) ≡ None → l.min ≤ pages_within l.max
    go true t h = within l.min l.max (All-head IsSmall l [] small)
        (and_parts (is_ordered l) (option_map_or (λ max. nat_le max 65536) l.max true) t).0
    go false t h = absurd cc
least-low m (l ∷ other ∷ rest) e small h = absurd (go (is_memory_type l) h)
  where
    go : (b : Bool) → cond {A = Option ℕ} b (Some 1) (Some 0) ≡ None → ⊥
    go true h = absurd cc
    go false h = absurd cc

pages-suit : (m : NestedModule) → least (slice_get m.memories 0) ≤ greatest_pages m → pages_suit m (least (slice_get m.memories 0)) ≡ true
pages-suit m h =
    let low = least (slice_get m.memories 0) in rw (le-leb low low (omega arith), le-leb low (greatest_pages m) h) refl

-- ---- globals

same-type : (t u : ValType) → is_same t u ≡ true → t ≡ u
same-type I32 I32 h = refl
same-type I64 I64 h = refl
same-type I32 I64 h = absurd cc
same-type I64 I32 h = absurd cc

one-suits : (g : GlobalVar) → FitsType g.init → is_initialized g ≡ true → global_suits g g.init.value ≡ true
one-suits g fits same =
    let ty = same-type g.ty g.init.ty same in
    let low : g.init.value < 2 ^ width g.ty = subst (λ (t : ValType). g.init.value < 2 ^ width t) (sym ty) fits in
    rw (lt-ltb g.init.value (2 ^ width g.ty) low, eq-eqb g.init.value g.init.value refl) (either g.mutable)
  where
    either : (b : Bool) → (true && (b || true)) ≡ true
    either true = refl
    either false = refl

globals-suit : (place : ℕ) (gs : List GlobalVar) → All (λ (g : GlobalVar). FitsType g.init) gs
    → first_failing is_initialized place gs ≡ None → globals_suit gs (map (λ (g : GlobalVar). g.init.value) gs) ≡ true
globals-suit place [] fits h = refl
globals-suit place (g ∷ gs) fits h =
    go (is_initialized g) refl h (λ rest. globals-suit (place + 1) gs (All-tail (λ (g : GlobalVar). FitsType g.init) g gs fits) rest)
  where
    go : (b : Bool) → is_initialized g ≡ b → cond b (first_failing is_initialized (place + 1) gs) (Some place) ≡ None
        → (first_failing is_initialized (place + 1) gs ≡ None → globals_suit gs (map (λ (g : GlobalVar). g.init.value) gs) ≡ true)
        → (global_suits g g.init.value && globals_suit gs (map (λ (g : GlobalVar). g.init.value) gs)) ≡ true
    go true e h on = rw (one-suits g (All-head (λ (g : GlobalVar). FitsType g.init) g gs fits) e, on h) refl
    go false e h on = absurd cc

-- ---- the whole

pub module-begins : (m : NestedModule) (bytes : List ℕ) (d : Description) (budget : ℕ) → SpellsModule m bytes → IsValid m
    → first_misfit m ≡ None → Begins (fresh_guest m d budget)
module-begins m bytes d budget spelled valid fit =
    let parts = parts-of m valid in
    fresh-begins m d budget fit
    (pages-suit m (least-low m m.memories refl (memories-small m bytes spelled) parts.memories))
    (globals-suit 0 m.globals (module_fits m bytes spelled).globals parts.globals)

-- so it is of the flat form of such a module
pub spelled-begins : (m : Module) (d : Description) (budget : ℕ) → IsSpelled m → IsValid (nested_module m)
    → first_misfit (nested_module m) ≡ None → Begins (fresh_guest (nested_module m) d budget)
spelled-begins m d budget s valid fit =
    let plain = plain_module s.nested (module_fits s.nested s.bytes s.spelled) in
    let same : s.nested ≡ nested_module m = sym (ap nested_module s.flat ∙ module_back s.nested plain) in
    module-begins (nested_module m) s.bytes d budget (subst (λ (n : NestedModule). SpellsModule n s.bytes) same s.spelled) valid fit
