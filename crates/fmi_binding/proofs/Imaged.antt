-- Guests as images, and images as guests.
use Rattle.std.proofs.Common.{◌≡◌, ◌≢◌, ◌≤◌, ℕ, ◌+◌, ◌*◌, ◌==◌, ◌&&◌, Bool, true, false, length, arith, refl, ap}
use Rattle.std.specs.Prelude.{nat_le}
use Rattle.std.proofs.lemmas.Bool.{and_parts, leb-true, eqb-true}
use Rattle.fmi_states.specs.declared.phase.Phase.{Phase}
use Rattle.fmi_states.specs.declared.phase.Phase.TheVariants.{Fresh, Instantiated, Init, Event, Step, Terminated, Failed, Gone}
use Rattle.unit_specs.specs.Description.{Description}
use Rattle.wasm_types.specs.declared.module.Module.{Module}
use Rattle.wasm_types.specs.Modules.{NestedModule}
use Rattle.wasm_types.specs.Back.{nested_module}
use Rattle.code_specs.specs.Stores.{pages, page_size}
use Rattle.wasm_machine.specs.Making.{globals_suit, pages_suit, suits}
use Rattle.binding_specs.specs.Guests.{area_size}
use Rattle.fmi_binding.specs.declared.state.GuestState.{GuestState}
use Rattle.fmi_binding.specs.declared.image.Image.{Image}
use Rattle.fmi_binding.specs.Images.{image_of, is_step, image_suits, state_from}

pub same-again : (s : GuestState) → state_from s.code s.description s.budget (image_of s) ≡ s
same-again s = refl

no-step : (p : Phase) (b : Bool) → p ≢ Step → (is_step p && b) ≡ false
no-step Step b other = absurd (other refl)
no-step Fresh b other = refl
no-step Instantiated b other = refl
no-step Init b other = refl
no-step Event b other = refl
no-step Terminated b other = refl
no-step Failed b other = refl
no-step Gone b other = refl

pub step-alone : (m : NestedModule) (d : Description) (i : Image) → i.phase ≢ Step → image_suits m d i ≡ false
step-alone m d i other = no-step i.phase (suits m i.pages i.bytes i.globals && nat_le (i.area + area_size d) (length i.bytes)) other

-- ---- an image that suits

module _ (m : NestedModule) (d : Description) (i : Image) (is : image_suits m d i ≡ true) where
  first : (suits m i.pages i.bytes i.globals && nat_le (i.area + area_size d) (length i.bytes)) ≡ true
  first = (and_parts (is_step i.phase) _ is).1

  pub store-is : suits m i.pages i.bytes i.globals ≡ true
  store-is = (and_parts (suits m i.pages i.bytes i.globals) (nat_le (i.area + area_size d) (length i.bytes)) first).0

  pub area-is : i.area + area_size d ≤ length i.bytes
  area-is = leb-true (i.area + area_size d) (length i.bytes)
      (and_parts (suits m i.pages i.bytes i.globals) (nat_le (i.area + area_size d) (length i.bytes)) first).1

  sizes : (pages_suit m i.pages ≡ true) × ((length i.bytes == i.pages * page_size) ≡ true)
  sizes = and_parts (pages_suit m i.pages) (length i.bytes == i.pages * page_size)
      (and_parts (pages_suit m i.pages && length i.bytes == i.pages * page_size) (globals_suit m.globals i.globals) store-is).0

  bytes-are : length i.bytes ≡ i.pages * page_size
  bytes-are = eqb-true (length i.bytes) (i.pages * page_size) sizes.1

  pub same-pages : pages (record { bytes = i.bytes; globals = i.globals }) ≡ i.pages
  same-pages = let whole = bytes-are in omega (arith, whole)

pub saved-again : (m : Module) (d : Description) (fuel : ℕ) (i : Image) → image_suits (nested_module m) d i ≡ true
    → image_of (state_from m d fuel i) ≡ i
saved-again m d fuel i is = ap (λ (n : ℕ). record i { pages = n }) (same-pages (nested_module m) d i is)
