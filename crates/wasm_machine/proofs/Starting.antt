-- The function that runs first takes no arguments.
use Rattle.std.specs.Prelude.{◌≡◌, ℕ, Bool, true, false, ◌&&◌, List, [], ◌∷◌, Option, None, Some, refl, option_map, if◌then◌else◌}
use Rattle.std.proofs.Common.{sym, ap, ◌∙◌, subst}
use Rattle.wasm_types.specs.declared.instr.ValType.{ValType}
use Rattle.wasm_types.specs.declared.module.Module.{Module}
use Rattle.wasm_types.specs.Modules.{NestedModule}
use Rattle.wasm_types.specs.Back.{nested_module}
use Rattle.code_specs.specs.declared.rule.Rule.TheVariants as rule
use Rattle.code_specs.specs.Signatures.{Function, function_at, type_of_function, is_same_list}
use Rattle.code_specs.specs.Validity.{fails_at, each, has_one_result, has_type, is_ordered, is_memory_type, failing_limits, is_initialized, failing_export, can_start, failing_start, validity, IsValid}
use Rattle.code_laws.specs.Answers.{Fit}
use Rattle.code_laws.proofs.Tests.{passed}
use Rattle.code_laws.proofs.Parts.{none_fails}
use Rattle.wasm_machine.specs.Calls.{Fits}

start_passes : (m : NestedModule) → IsValid m → failing_start m m.start ≡ None
unfolding validity
start_passes m is =
    let types = passed (each rule.TypeResult has_one_result m.types) _ tt is in
    let funcs = passed (each rule.FuncType (has_type m) m.funcs) _ tt types.then in
    let tables = passed (fails_at rule.Limits (failing_limits is_ordered m.tables)) _ tt funcs.then in
    let memories = passed (fails_at rule.Limits (failing_limits is_memory_type m.memories)) _ tt tables.then in
    let globals = passed (each rule.Global is_initialized m.globals) _ tt memories.then in
    let exports = passed (fails_at rule.Export (failing_export m [] 0 m.exports)) _ tt globals.then in
    let start = passed (fails_at rule.Start (failing_start m m.start)) _ tt exports.then in
    none_fails rule.Start (failing_start m m.start) start.it start.is

empty_fits : (ps rs : List ValType) → (is_same_list ps [] && is_same_list rs []) ≡ true → Fit ps []
empty_fits [] rs h = tt
empty_fits (p ∷ ps) rs h = cc h

by_function : (m : Module) (index : ℕ) (o : Option Function) → function_at (nested_module m) index ≡ o
    → can_start (option_map (λ (f : Function). f.ty) o) ≡ true → Fits m index []
by_function m index None is h = cc h
by_function m index (Some f) is h = record { f = f; is = is; fit = empty_fits f.ty.params f.ty.results h }

can_start_is : (m : NestedModule) (index : ℕ) (b : Bool) → can_start (type_of_function m index) ≡ b → failing_start m (Some index) ≡ None
    → b ≡ true
can_start_is m index true is h = refl
can_start_is m index false is h = absurd (let wrong : Some 0 ≡ None = sym (ap (λ b. if b then None else Some 0) is) ∙ h in cc)

pub start_fits : (m : Module) (index : ℕ) → IsValid (nested_module m) → m.start ≡ Some index → Fits m index []
start_fits m index valid is =
    let passes : failing_start (nested_module m) (Some index) ≡ None = subst (λ o. failing_start (nested_module m) o ≡ None) is
    (start_passes (nested_module m) valid) in
    let can = can_start_is (nested_module m) index (can_start (type_of_function (nested_module m) index)) refl passes in
    by_function m index (function_at (nested_module m) index) refl can
