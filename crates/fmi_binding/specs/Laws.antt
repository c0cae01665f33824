-- What every unit keeps, of guests. No public clause cites this file: the impl of the trait of units does.
use Rattle.std.specs.Prelude.{◌≡◌, ◌≢◌, ℕ, List, [], Option, None, Some, IsSome, IsTrue, length, unwrap_or, refl}
use Rattle.std.proofs.Common.{sym, ap, ◌∙◌, subst, inl, inr}
use Rattle.fmi_states.specs.declared.call.Call.{Call}
use Rattle.fmi_states.specs.Phase.{is_permitted, next_phase}
use Rattle.fmi_states.specs.Reply.{bytes_in, AreBytes, is_suitable}
use Rattle.fmi_states.specs.Parts.{Among, Shares}
use Rattle.wasm_memory.specs.Pools.{Tables, Extent, table_at, IsThere}
use Rattle.binding_laws.proofs.Sound.{reply_suits, reply_is_bytes, phase_moves}
use Rattle.guest_laws.specs.Words.{HasStore, IsPlaced}
use Rattle.fmi_binding.specs.declared.guests.Guests.{Guests}
use Rattle.fmi_binding.specs.declared.state.GuestState.{GuestState}
use Rattle.fmi_binding.specs.declared.wasm_ecu.WasmEcu.{WasmEcu}
use Rattle.fmi_binding.specs.States.{guest_of, state_answer}
use Rattle.fmi_binding.specs.Ecus.{part_at, parts_of, state_of, IsIn}

-- ---- states

pub moves : (s : GuestState) (c : Call) → IsTrue (is_permitted s.phase c)
    → (state_answer s c).1.phase ≡ next_phase s.phase c (state_answer s c).0
unfolding state_answer
moves s c permitted = phase_moves (guest_of s) c

pub suits : (s : GuestState) (c : Call) → IsTrue (is_permitted s.phase c) → IsTrue (is_suitable c (state_answer s c).0)
unfolding state_answer
suits s c permitted = reply_suits (guest_of s) c

pub are_bytes : (s : GuestState) (c : Call) → AreBytes (bytes_in (state_answer s c).0)
unfolding state_answer
are_bytes s c = reply_is_bytes (guest_of s) c

-- ---- guests over what they share

pub same_state : (e : WasmEcu) (s t : Guests) → Shares part_at (parts_of e) s t → state_of e t ≡ state_of e s
same_state e s t shares =
    ap (λ (o : Option (List ℕ)). record (state_of e s) { bytes = unwrap_or o [] }) (shares e.instance.memory.table (inl refl))

memory_stays : (pool new : Tables) (m : Extent) → table_at new m.table ≡ table_at pool m.table → IsThere pool m → IsThere new m
memory_stays pool new m same here = record {
  table = subst (λ (o : Option (List ℕ)). IsSome o) (sym same) here.table;
  size = ap (λ (o : Option (List ℕ)). length (unwrap_or o [])) same ∙ here.size;
}

pub same_place : (e : WasmEcu) (s t : Guests) → IsIn e s → Shares part_at (parts_of e) s t → IsIn e t
same_place e s t here shares = record {
  stands = record {
    made = here.stands.made;
    there = memory_stays s.pool t.pool e.instance.memory (shares e.instance.memory.table (inl refl)) here.stands.there;
  };
  bound = here.bound;
  sizes = here.sizes;
  area = here.area;
  store = subst (λ (x : GuestState). HasStore (guest_of x)) (sym (same_state e s t shares)) here.store;
  placed = subst (λ (x : GuestState). IsPlaced e.phase (guest_of x)) (sym (same_state e s t shares)) here.placed;
}

some_is : {A : Type 0} (o : Option A) → IsSome o → o ≢ None
some_is None is = λ none. cc is
some_is (Some x) is = λ none. cc none

pub is_there : (e : WasmEcu) (s : Guests) (p : ℕ) → IsIn e s → Among p (parts_of e) → part_at p s ≢ None
is_there e s p here (inl same) = λ none.
    some_is (table_at s.pool e.instance.memory.table) here.stands.there.table (ap (λ n. table_at s.pool n) (sym same) ∙ none)
is_there e s p here (inr none) = absurd none
