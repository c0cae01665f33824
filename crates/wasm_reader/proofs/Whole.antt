-- What a module's reader promises.
use Rattle.std.proofs.Common.{◌≡◌, ℕ, List, Result, Ok, Err, refl, sym, ap, subst}
use Rattle.leb_bytes.proofs.Spelled.{IsBytes}
use Rattle.wasm_types.specs.declared.module.Module.{Module}
use Rattle.wasm_types.specs.Modules.{NestedModule, flat_module}
use Rattle.module_specs.specs.declared.fault.Fault.{Fault}
use Rattle.module_specs.specs.declared.fault.Fault.TheVariants.{Short, Size, Magic, Version, Section, Order, Number, Import, Float, Form, Utf8, Opcode, Nesting, Count, Limit, Memory}
use Rattle.module_specs.specs.ModuleSpelling.{SpellsModule}
use Rattle.module_specs.specs.Reading.{Fails}
use Rattle.module_specs.specs.ModuleReading.{module_read}
use Rattle.module_specs.proofs.Places.{ok_is}
use Rattle.module_specs.proofs.Sections.{BodiesTell}
use Rattle.module_specs.proofs.Modules.{module_again, module_here}
use Rattle.wasm_code.proofs.Whole.{body_again, body_here}
use Rattle.wasm_reader.specs.declared.error.ReadError.{ReadError}
use Rattle.wasm_reader.specs.Outcome.{error_of, outcome_of, Returns}
use Rattle.wasm_reader.specs.Flat.{flat_whole}

tell : BodiesTell
tell = record {
  again = λ b f at next text s h. body_again b f at next text s h;
  here = λ b fits ty at next f le e. body_here b fits ty at next f le e;
}

named : (e : Fault) (read : Result NestedModule Fault) → flat_whole read ≡ Err e → Err (error_of e) ≡ outcome_of read
named e (Ok m) h = absurd cc
named e (Err d) h = let same : d ≡ e = cc in ap (λ (e : Fault). outcome_of (Err e)) (sym same)

pub failed : (e : Fault) (read : Result NestedModule Fault) → Fails e (flat_whole read) → Returns (Err (error_of e)) (outcome_of read)
failed (Short at) read h = named (Short at) read h
failed (Size at) read h = named (Size at) read h
failed (Magic at) read h = named (Magic at) read h
failed (Version at) read h = named (Version at) read h
failed (Section at) read h = named (Section at) read h
failed (Order at) read h = named (Order at) read h
failed (Number at) read h = named (Number at) read h
failed (Import at) read h = named (Import at) read h
failed (Float at) read h = named (Float at) read h
failed (Form at) read h = named (Form at) read h
failed (Utf8 at) read h = named (Utf8 at) read h
failed (Opcode at byte) read h = named (Opcode at byte) read h
failed (Nesting at) read h = named (Nesting at) read h
failed (Count at) read h = named (Count at) read h
failed (Limit at) read h = named (Limit at) read h
failed Memory read h = tt

pub was_read : (m : Module) (read : Result NestedModule Fault) → flat_whole read ≡ Ok m → Returns (Ok m) (outcome_of read)
was_read m (Ok n) h = let same : flat_module n ≡ m = ok_is (flat_module n) m h in ap (λ (m : Module). outcome m) (sym same)
  where
    outcome : Module → Result Module ReadError
    outcome m = Ok m
was_read m (Err e) h = absurd cc

module _ (b : List ℕ) where
  pub is_found : IsBytes b → (m : Module) → flat_whole (module_read b) ≡ Ok m → (n : NestedModule) × (m ≡ flat_module n) × SpellsModule n b
  is_found fits m h = by_read (module_read b) refl h
    where
      by_read : (read : Result NestedModule Fault) → module_read b ≡ read → flat_whole read ≡ Ok m
          → (n : NestedModule) × (m ≡ flat_module n) × SpellsModule n b
      by_read (Err e) is h = absurd cc
      by_read (Ok n) is h = (n, sym (ok_is (flat_module n) m h), module_here tell n b fits is)

  pub is_read : (result : Result Module ReadError) → Returns result (outcome_of (module_read b)) → (n : NestedModule) → SpellsModule n b
      → Returns result (Ok (flat_module n))
  is_read result h n s = subst (Returns result) (ap outcome_of (module_again tell n b s)) h
