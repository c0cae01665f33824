-- What the bytes of a file are answered with.
use Rattle.std.proofs.Common.{◌≡◌, ◌⊎◌, inl, inr, ℕ, List, refl, sym, ap, subst, ◌∙◌}
use Rattle.std.specs.Prelude.{Option, Some, None, Result, Ok, Err}
use Rattle.unit_specs.specs.Description.{Description}
use Rattle.description_specs.specs.declared.field.Field.{Field}
use Rattle.description_specs.specs.Variables.{refusal as description_refusal}
use Rattle.description_specs.specs.Descriptions.{description_of}
use Rattle.wasm_types.specs.declared.module.Module.{Module}
use Rattle.wasm_types.specs.Modules.{NestedModule, flat_module}
use Rattle.wasm_types.specs.Back.{nested_module}
use Rattle.wasm_types.proofs.Whole.{module_back}
use Rattle.wasm_types.proofs.Spelled.{plain_module}
use Rattle.module_specs.specs.declared.fault.Fault.{Fault}
use Rattle.module_specs.specs.ModuleSpelling.{SpellsModule}
use Rattle.module_specs.specs.ModuleReading.{module_read}
use Rattle.module_specs.proofs.SpellableParts.{module_fits}
use Rattle.module_specs.proofs.Modules.{module_again}
use Rattle.wasm_writer.proofs.Bodies.{tell}
use Rattle.wasm_reader.specs.declared.error.ReadError.{ReadError}
use Rattle.wasm_reader.specs.declared.error.ReadError.TheVariants as error
use Rattle.wasm_reader.specs.Outcome.{error_of, outcome_of as read_outcome, Returns}
use Rattle.code_specs.specs.Validity.{Invalid, IsValid, validity}
use Rattle.code_specs.specs.declared.segment.Misfit.{Misfit}
use Rattle.code_specs.specs.Instances.{first_misfit}
use Rattle.binding_specs.specs.declared.error.BindError.{BindError}
use Rattle.binding_specs.specs.Exports.{binding_fault}
use Rattle.bench_outside.specs.declared.refusal.FileId.TheVariants as id
use Rattle.bench_outside.specs.declared.refusal.Refusal.{Refusal}
use Rattle.refusal_names.specs.Fields.{why_of_network, why_of_description}
use Rattle.refusal_names.specs.Modules.{refusal, refusal_of_error, refusal_of_fault, refusal_of_invalid, refusal_of_misfit, refusal_of_unbound}
use Rattle.network_specs.specs.declared.field.NetworkField.{NetworkField}
use Rattle.network_specs.specs.Settings.{refusal as network_refusal}
use Rattle.network_specs.specs.NetworkFiles.{NetworkFile, network_file_of}
use Rattle.network_specs.specs.Judging.{refused_as, judged}
use Rattle.network_specs.specs.Networks.{InNetworkFile, InDescription}
use Rattle.network_folder.specs.declared.error.NetError.{NetError}
use Rattle.network_folder.specs.declared.error.NetError.TheVariants as answer
use Rattle.network_folder.specs.Outcomes.{refused_if, answer_of}
use Rattle.network_folder.specs.Parts.{Answers, file_said, description_said, module_said}

-- a refusal is answered
answered : {X Y : Type 0} (view : X → Y) (said : Result Y NetError) (e : NetError) (r : Refusal) → e ≡ answer.Refused r → said ≡ Err (answer.Refused r) → Answers view (Err e) said
answered view said e r is h = subst (λ x. Answers view (Err x) said) (sym is) h

pub file_says : {X : Type 0} (view : X → NetworkFile) (bytes : List ℕ) (f : NetworkField) (at : ℕ) (e : NetError) → network_file_of bytes ≡ Err (network_refusal f at) → e ≡ answer.Refused (refusal id.Main (why_of_network f) at)
    → Answers view (Err e) (file_said bytes)
file_says view bytes f at e known is = answered view (file_said bytes) e (refusal id.Main (why_of_network f) at) is (ap (refused_as (λ x. answer_of (InNetworkFile x))) known)

pub description_says : {X : Type 0} (view : X → Description) (place : ℕ) (bytes : List ℕ) (f : Field) (at : ℕ) (e : NetError) → description_of bytes ≡ Err (description_refusal f at) → e ≡ answer.Refused (refusal (id.Description place) (why_of_description f) at)
    → Answers view (Err e) (description_said place bytes)
description_says view place bytes f at e known is = answered view (description_said place bytes) e (refusal (id.Description place) (why_of_description f) at) is (ap (refused_as (λ x. answer_of (InDescription place x))) known)

-- ---- a module that isn't read

told : (error : ReadError) (r : Result NestedModule Fault) → Err error ≡ read_outcome r → (fault : Fault) × (r ≡ Err fault) × (error ≡ error_of fault)
told error (Ok m) h = absurd (cc h)
told error (Err f) h = (f, refl, cc h)

fault_of : (e : ReadError) (r : Result NestedModule Fault) → Returns (Err e) (read_outcome r) → (e ≡ error.Memory) ⊎ ((fault : Fault) × (r ≡ Err fault) × (e ≡ error_of fault))
fault_of error.Memory r h = inl refl
fault_of (error.Short at) r h = inr (told (error.Short at) r h)
fault_of (error.Size at) r h = inr (told (error.Size at) r h)
fault_of (error.Magic at) r h = inr (told (error.Magic at) r h)
fault_of (error.Version at) r h = inr (told (error.Version at) r h)
fault_of (error.Section at) r h = inr (told (error.Section at) r h)
fault_of (error.Order at) r h = inr (told (error.Order at) r h)
fault_of (error.Number at) r h = inr (told (error.Number at) r h)
fault_of (error.Import at) r h = inr (told (error.Import at) r h)
fault_of (error.Float at) r h = inr (told (error.Float at) r h)
fault_of (error.Form at) r h = inr (told (error.Form at) r h)
fault_of (error.Utf8 at) r h = inr (told (error.Utf8 at) r h)
fault_of (error.Opcode at) r h = inr (told (error.Opcode at) r h)
fault_of (error.Nesting at) r h = inr (told (error.Nesting at) r h)
fault_of (error.Count at) r h = inr (told (error.Count at) r h)
fault_of (error.Limit at) r h = inr (told (error.Limit at) r h)

perhaps : (o : Option Refusal) (said : Result NestedModule NetError) → said ≡ Err (refused_if o) → Answers nested_module (Err (refused_if o)) said
perhaps None said h = tt
perhaps (Some r) said h = h

unread : (place : ℕ) (d : Description) (bytes : List ℕ) (f : Fault) → module_read bytes ≡ Err f → module_said place d bytes ≡ Err (refused_if (refusal_of_fault (id.Module place) f))
unfolding judged
unread place d bytes f is = rw is refl

pub unreadable : (place : ℕ) (d : Description) (bytes : List ℕ) (error : ReadError) (e : NetError) → Returns (Err error) (read_outcome (module_read bytes)) → e ≡ refused_if (refusal_of_error (id.Module place) error)
    → Answers nested_module (Err e) (module_said place d bytes)
unreadable place d bytes e' e h is = subst (λ x. Answers nested_module (Err x) (module_said place d bytes)) (sym is) (go (fault_of e' (module_read bytes) h))
  where
    go : (e' ≡ error.Memory) ⊎ ((fault : Fault) × (module_read bytes ≡ Err fault) × (e' ≡ error_of fault)) → Answers nested_module (Err (refused_if (refusal_of_error (id.Module place) e'))) (module_said place d bytes)
    go (inl none) = subst (λ x. Answers nested_module (Err (refused_if (refusal_of_error (id.Module place) x))) (module_said place d bytes)) (sym none) tt
    go (inr k) = perhaps (refusal_of_error (id.Module place) e') (module_said place d bytes) (unread place d bytes k.0 k.1 ∙ ap (λ x. Err (refused_if (refusal_of_error (id.Module place) x))) (sym k.2))

-- ---- a module that is read

read_is : (m : NestedModule) (b : List ℕ) → SpellsModule m b → module_read b ≡ Ok m
read_is m b s = module_again tell m b s

nested_is : (m : NestedModule) (b : List ℕ) (flat : Module) → flat ≡ flat_module m → SpellsModule m b → nested_module flat ≡ m
nested_is m b flat is s = ap nested_module is ∙ module_back m (plain_module m (module_fits m b s))

-- the module that was read, as its flat form tells it
as_read : (bytes : List ℕ) (flat : Module) → (m : NestedModule) × (flat ≡ flat_module m) × SpellsModule m bytes → module_read bytes ≡ Ok (nested_module flat)
as_read bytes flat h = read_is h.0 bytes h.2 ∙ ap (λ m. Ok m) (sym (nested_is h.0 bytes flat h.1 h.2))

pub invalid_said : (place : ℕ) (d : Description) (bytes : List ℕ) (flat : Module) (x : Invalid) → (m : NestedModule) × (flat ≡ flat_module m) × SpellsModule m bytes → validity (nested_module flat) ≡ Err x
    → module_said place d bytes ≡ Err (answer.Refused (refusal_of_invalid (id.Module place) x))
unfolding judged
invalid_said place d bytes flat x h is = rw (as_read bytes flat h, is) refl

pub misfit_said : (place : ℕ) (d : Description) (bytes : List ℕ) (flat code : Module) (x : Misfit) → (m : NestedModule) × (flat ≡ flat_module m) × SpellsModule m bytes → (code ≡ flat) × IsValid (nested_module flat)
    → first_misfit (nested_module code) ≡ Some x → module_said place d bytes ≡ Err (answer.Refused (refusal_of_misfit (id.Module place) x))
unfolding judged
misfit_said place d bytes flat code x h valid is = rw (as_read bytes flat h, valid.1, sym (ap (λ c. first_misfit (nested_module c)) valid.0) ∙ is) refl

pub unbound_said : (place : ℕ) (d : Description) (bytes : List ℕ) (flat code : Module) (x : BindError) → (m : NestedModule) × (flat ≡ flat_module m) × SpellsModule m bytes → (code ≡ flat) × IsValid (nested_module flat)
    → first_misfit (nested_module code) ≡ None → binding_fault (nested_module code) ≡ Some x → module_said place d bytes ≡ Err (answer.Refused (refusal_of_unbound (id.Module place) x))
unfolding judged
unbound_said place d bytes flat code x h valid fits is =
    rw (as_read bytes flat h, valid.1, sym (ap (λ c. first_misfit (nested_module c)) valid.0) ∙ fits, sym (ap (λ c. binding_fault (nested_module c)) valid.0) ∙ is) refl

pub unit_said : (place : ℕ) (d : Description) (bytes : List ℕ) (flat code : Module) → (m : NestedModule) × (flat ≡ flat_module m) × SpellsModule m bytes → (code ≡ flat) × IsValid (nested_module flat)
    → first_misfit (nested_module code) ≡ None → binding_fault (nested_module code) ≡ None → module_said place d bytes ≡ Ok (nested_module code)
unfolding judged
unit_said place d bytes flat code h valid fits is =
    rw (as_read bytes flat h, valid.1, sym (ap (λ c. first_misfit (nested_module c)) valid.0) ∙ fits, sym (ap (λ c. binding_fault (nested_module c)) valid.0) ∙ is) (ap (λ c. Ok (nested_module c)) (sym valid.0))
