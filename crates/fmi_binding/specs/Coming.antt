-- What a piece of an exchange comes to, from a store and the address of an area, whatever ran before it has used.
use Rattle.std.specs.Prelude.{◌≡◌, ℕ, List, [], ◌∷◌, Option, None, Some, Result, Ok, Err, length, slice_get, nat_le, ◌+◌, ◌*◌, ◌<◌, ◌^◌, if◌then◌else◌}
use Rattle.fmi_states.specs.declared.phase.Phase.{Phase}
use Rattle.fmi_states.specs.declared.status.FmiStatus.{FmiStatus}
use Rattle.fmi_states.specs.declared.call.Call.{Call}
use Rattle.fmi_states.specs.declared.call.Call.TheVariants as call
use Rattle.fmi_states.specs.declared.reply.Broken.{Broken}
use Rattle.fmi_states.specs.declared.reply.Broken.TheVariants.{BadReply, BadBuffer}
use Rattle.wasm_types.specs.Back.{nested_module}
use Rattle.code_specs.specs.Stores.{Store, page_size}
use Rattle.wasm_memory.specs.Pools.{Tables}
use Rattle.wasm_machine.specs.declared.instance.Instance.{Instance}
use Rattle.wasm_machine.specs.Instances.{store_in}
use Rattle.wasm_machine.specs.Seen.{values_of}
use Rattle.binding_specs.specs.Guests.{Guest}
use Rattle.binding_specs.specs.Pieces.{Work, Piece}
use Rattle.binding_specs.specs.Exchanges.{statuses}
use Rattle.fmi_binding.specs.declared.bound_unit.BoundUnit.{BoundUnit}

-- what a piece works on, but for what was used
pub record Held : Type 0 where
  pub store : Store
  pub area : ℕ

abbrev pub work_with : Held → (used : List ℕ) → Work
work_with h used = record { store = h.store; area = h.area; used = used }

-- the piece comes to this, and leaves that
pub record Comes {A : Type 0} (piece : Piece A) (old new : Held) (r : Result A Broken) : Type 0 where
  pub each : (used : List ℕ) → (more : List ℕ) × (piece (work_with old used) ≡ (r, work_with new more))

-- an instance whose memory lies in this pool, with the area at this address
abbrev pub held : Tables → Instance → (area : ℕ) → Held
held pool i area = record { store = store_in pool i; area = area }

-- a guest of a bound unit
abbrev pub guest_with : BoundUnit → Phase → (area : ℕ) → Store → Guest
guest_with b phase area s = record {
  code = nested_module b.code;
  description = b.description;
  budget = b.budget;
  phase = phase;
  area = area;
  store = s;
}

-- what breaks a guest breaks it, and what is there is looked at further
abbrev pub then_in : {A B : Type 0} → Result A Broken → (A → Result B Broken) → Result B Broken
then_in (Ok x) next = next x
then_in (Err why) next = Err why

abbrev pub wanted_in : {A : Type 0} → Broken → Option A → Result A Broken
wanted_in why None = Err why
wanted_in why (Some x) = Ok x

-- the numbers that a function returned: none or one
abbrev pub numbers_in : Result (Option ℕ) Broken → Result (List ℕ) Broken
numbers_in r = then_in r (λ v. Ok (values_of v))

abbrev pub number_in : List ℕ → Result ℕ Broken
number_in (n ∷ []) = Ok n
number_in other = Err BadReply

-- the status that they are
abbrev pub status_in : List ℕ → Result FmiStatus Broken
status_in numbers = then_in (number_in numbers) (λ n. wanted_in BadReply (slice_get statuses n))

-- the address that they are of an area of this size, in a memory of so many pages
abbrev pub address_in : (size pages : ℕ) → List ℕ → Result ℕ Broken
address_in size pages numbers =
    then_in (number_in numbers) (λ n. if nat_le (n + size) (pages * page_size) then Ok n else Err BadBuffer)

-- where the area lies then
abbrev pub area_after : (area : ℕ) → Result ℕ Broken → ℕ
area_after area (Ok address) = address
area_after area (Err why) = area

abbrev pub done_in : {A : Type 0} → Result A Broken → Result (Unit {0}) Broken
done_in r = then_in r (λ x. Ok tt)

-- the bytes that come in are few enough for a number of 32 bits
abbrev pub HasLength : Call → Type 0
HasLength (call.SetBinary reference bytes) = length bytes < 2 ^ 32
HasLength other = Unit {0}
