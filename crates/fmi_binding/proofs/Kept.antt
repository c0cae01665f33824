-- What calls keep of guests over what they share, and what guests that are made have.
use Rattle.std.proofs.Common.{◌≡◌, ℕ, ◌+◌, ◌&&◌, Bool, true, None, length, refl, sym, subst}
use Rattle.std.specs.Prelude.{IsTrue, nat_le}
use Rattle.std.proofs.lemmas.Bool.{le-leb}
use Rattle.fmi_states.specs.declared.phase.Phase.{Phase}
use Rattle.fmi_states.specs.declared.phase.Phase.TheVariants.{Step}
use Rattle.fmi_states.specs.declared.call.Call.{Call}
use Rattle.fmi_states.specs.declared.reply.Reply.{Reply}
use Rattle.fmi_states.specs.Phase.{is_permitted}
use Rattle.unit_specs.specs.Description.{Description}
use Rattle.wasm_types.specs.declared.module.Module.{Module}
use Rattle.wasm_types.specs.Back.{nested_module}
use Rattle.code_specs.specs.Instances.{first_misfit}
use Rattle.wasm_validate.specs.Valid.{IsChecked}
use Rattle.wasm_machine.specs.Making.{suits}
use Rattle.binding_specs.specs.Guests.{Guest, area_size}
use Rattle.binding_specs.specs.Answers.{answer}
use Rattle.binding_laws.specs.Words.{HasArea}
use Rattle.guest_laws.specs.Words.{HasStore, IsPlaced}
use Rattle.guest_laws.proofs.Placed.{in-any, call-area, store-suited}
use Rattle.guest_laws.proofs.Accepted.{spelled-begins}
use Rattle.fmi_binding.specs.declared.image.Image.{Image}
use Rattle.fmi_binding.specs.declared.state.GuestState.{GuestState}
use Rattle.fmi_binding.specs.States.{guest_of, state_answer}
use Rattle.fmi_binding.specs.Ecus.{opening_state}
use Rattle.fmi_binding.specs.Images.{image_of, is_step, image_suits, state_from}
use Rattle.fmi_binding.proofs.Units.{guest_behind}
use Rattle.fmi_binding.proofs.Imaged.{store-is, area-is, same-pages}

-- ---- behind a call

module _ (s new : GuestState) (c : Call) (r : Reply) (is : state_answer s c ≡ (r, new)) where
  behind : (P : Guest → Type 0) → P (answer (guest_of s) c).1 → P (guest_of new)
  behind P h = subst (λ (q : Reply × GuestState). P (guest_of q.1)) is (subst P (sym (guest_behind s c)) h)

  pub store-behind : HasStore (guest_of s) → HasStore (guest_of new)
  store-behind h = behind HasStore (store-suited (guest_of s) c h)

  pub placed-behind : IsTrue (is_permitted s.phase c) → IsPlaced s.phase (guest_of s) → IsPlaced new.phase (guest_of new)
  placed-behind may h = behind (λ (g : Guest). IsPlaced g.phase g) (call-area (guest_of s) c s.phase may h)

-- ---- guests that are made

pub store-opens : (m : Module) (d : Description) (fuel : ℕ) → IsChecked m → first_misfit (nested_module m) ≡ None
    → HasStore (guest_of (opening_state m d fuel))
store-opens m d fuel checked fit = (spelled-begins m d fuel checked.spelled checked.valid fit).store

pub store-made : (m : Module) (d : Description) (fuel : ℕ) (i : Image) → image_suits (nested_module m) d i ≡ true
    → HasStore (guest_of (state_from m d fuel i))
store-made m d fuel i is =
    subst (λ (n : ℕ). suits (nested_module m) n i.bytes i.globals ≡ true) (sym (same-pages (nested_module m) d i is))
    (store-is (nested_module m) d i is)

pub placed-made : (m : Module) (d : Description) (fuel : ℕ) (i : Image) → image_suits (nested_module m) d i ≡ true
    → IsPlaced i.phase (guest_of (state_from m d fuel i))
placed-made m d fuel i is = in-any i.phase (guest_of (state_from m d fuel i)) (area-is (nested_module m) d i is)

-- ---- guests that are saved

all-three : (p : Phase) (b c : Bool) → p ≡ Step → b ≡ true → c ≡ true → (is_step p && (b && c)) ≡ true
all-three p b c e f g = rw (e, f, g) refl

pub suits-saved : (s : GuestState) → HasStore (guest_of s) → IsPlaced s.phase (guest_of s) → s.phase ≡ Step
    → image_suits (nested_module s.code) s.description (image_of s) ≡ true
suits-saved s store placed step =
    let area : HasArea (guest_of s) = subst (λ (p : Phase). IsPlaced p (guest_of s)) step placed in
    all-three s.phase _ (nat_le (s.area + area_size s.description) (length s.bytes)) step store
    (le-leb (s.area + area_size s.description) (length s.bytes) area)
