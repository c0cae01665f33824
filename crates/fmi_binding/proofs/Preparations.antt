-- What is written into an area, and what comes before the function of a call, as pieces.
use Rattle.std.specs.Prelude.{◌≡◌, ℕ, ◌+◌, true, false, List, [], Result, Ok, Err, length, nat_le, refl, if◌then◌else◌}
use Rattle.std.proofs.Common.{sym, ap, ◌∙◌, subst}
use Rattle.fmi_states.specs.declared.status.FmiStatus.{FmiStatus}
use Rattle.fmi_states.specs.declared.status.FmiStatus.TheVariants as status
use Rattle.fmi_states.specs.declared.call.Call.{Call}
use Rattle.fmi_states.specs.declared.call.Call.TheVariants as call
use Rattle.fmi_states.specs.declared.reply.Broken.{Broken}
use Rattle.fmi_states.specs.declared.reply.Broken.TheVariants.{BadBuffer}
use Rattle.wasm_types.specs.declared.module.Module.{Module}
use Rattle.code_specs.specs.Stores.{Store, replaced_at}
use Rattle.wasm_memory.specs.Pools.{Tables}
use Rattle.wasm_machine.specs.declared.instance.Instance.{Instance}
use Rattle.wasm_machine.specs.Instances.{Stands, Leaves}
use Rattle.binding_specs.specs.declared.function.Function.{Function}
use Rattle.binding_specs.specs.declared.function.Function.TheVariants as function
use Rattle.binding_specs.specs.Guests.{Guest}
use Rattle.binding_specs.specs.Pieces.{gives, writes}
use Rattle.binding_specs.specs.Exchanges.{calls, prepares, function_of, arguments_of, status_of, status_by}
use Rattle.binding_laws.specs.Words.{is_instantiation}
use Rattle.fmi_binding.specs.Coming.{Held, work_with, Comes, HasLength}
use Rattle.fmi_binding.proofs.Coming.{comes_on, comes_broken, gives_comes}

pub written : (address : ℕ) (bytes : List ℕ) (s : Store) (area : ℕ) (bs gs : List ℕ)
    → nat_le (address + length bytes) (length s.bytes) ≡ true
    → bs ≡ replaced_at s.bytes address bytes → gs ≡ s.globals
    → Comes (writes address bytes) (record { store = s; area = area }) (record { store = record { bytes = bs; globals = gs }; area = area })
    (Ok tt)
written address bytes s area bs gs fits now same = record {
  each = λ used. (
    used,
    ap (λ b. if b then (
      Ok tt,
      work_with (record {
        store = record { bytes = replaced_at s.bytes address bytes; globals = s.globals };
        area
            = area;
      }) used,
    )
        else (Err BadBuffer, work_with (record { store = s; area = area }) used)) fits
        ∙ ap (λ (xs : List ℕ). (Ok tt, work_with (record { store = record { bytes = xs; globals = s.globals }; area = area }) used))
        (sym now)
        ∙ ap (λ (xs : List ℕ). (Ok tt, work_with (record { store = record { bytes = bs; globals = xs }; area = area }) used)) (sym same),
  );
}

pub not_written : (address : ℕ) (bytes : List ℕ) (s : Store) (area : ℕ) (bs gs : List ℕ)
    → nat_le (address + length bytes) (length s.bytes) ≡ false
    → bs ≡ s.bytes → gs ≡ s.globals
    → Comes (writes address bytes) (record { store = s; area = area }) (record { store = record { bytes = bs; globals = gs }; area = area })
    (Err BadBuffer)
not_written address bytes s area bs gs fits now same = record {
  each = λ used. (
    used,
    ap (λ b. if b then (
      Ok tt,
      work_with (record {
        store = record { bytes = replaced_at s.bytes address bytes; globals = s.globals };
        area
            = area;
      }) used,
    )
        else (Err BadBuffer, work_with (record { store = s; area = area }) used)) fits
        ∙ ap (λ (xs : List ℕ). (Err BadBuffer, work_with (record { store = record { bytes = xs; globals = s.globals }; area = area }) used))
        (sym now)
        ∙ ap (λ (xs : List ℕ). (Err BadBuffer, work_with (record { store = record { bytes = bs; globals = xs }; area = area }) used))
        (sym same),
  );
}

-- nothing comes before another call
pub unprepared : (g : Guest) (c : Call) (h : Held) → is_instantiation c ≡ false
    → ((reference : ℕ) (bytes : List ℕ) → c ≡ call.SetBinary reference bytes → ⊥)
    → Comes (prepares g c) h h (Ok tt)
unprepared g call.Instantiate h other set = cc other
unprepared g (call.SetBinary reference bytes) h other set = absurd (set reference bytes refl)
unprepared g call.EnterInit h other set = gives_comes tt h
unprepared g call.ExitInit h other set = gives_comes tt h
unprepared g call.EnterEvent h other set = gives_comes tt h
unprepared g call.EnterStep h other set = gives_comes tt h
unprepared g (call.SetClock reference) h other set = gives_comes tt h
unprepared g (call.GetClock reference) h other set = gives_comes tt h
unprepared g (call.GetBinary reference) h other set = gives_comes tt h
unprepared g call.Update h other set = gives_comes tt h
unprepared g (call.GetInterval reference) h other set = gives_comes tt h
unprepared g (call.DoStep from size) h other set = gives_comes tt h
unprepared g call.Terminate h other set = gives_comes tt h
unprepared g call.Free h other set = gives_comes tt h

pub has_length : (c : Call) → ((reference : ℕ) (bytes : List ℕ) → c ≡ call.SetBinary reference bytes → ⊥) → HasLength c
has_length (call.SetBinary reference bytes) set = absurd (set reference bytes refl)
has_length call.Instantiate set = tt
has_length call.EnterInit set = tt
has_length call.ExitInit set = tt
has_length call.EnterEvent set = tt
has_length call.EnterStep set = tt
has_length (call.SetClock reference) set = tt
has_length (call.GetClock reference) set = tt
has_length (call.GetBinary reference) set = tt
has_length call.Update set = tt
has_length (call.GetInterval reference) set = tt
has_length (call.DoStep from size) set = tt
has_length call.Terminate set = tt
has_length call.Free set = tt

pub freed : (g : Guest) (h k : Held) (numbers : List ℕ) → Comes (calls g function.Free []) h k (Ok numbers)
    → Comes (status_by g call.Free) h k (Ok status.Ok)
freed g h k numbers called = comes_on (calls g function.Free []) (λ numbers. gives status.Ok) h k k numbers (Ok status.Ok) called
    (gives_comes status.Ok k)

pub not_freed : (g : Guest) (h k : Held) (why : Broken) → Comes (calls g function.Free []) h k (Err why)
    → Comes (status_by g call.Free) h k (Err why)
not_freed g h k why called = comes_broken (calls g function.Free []) (λ numbers. gives status.Ok) h k why called

-- another function than fmi3FreeInstance returns its status
by_status : (g : Guest) (c : Call) (h k : Held) (r : Result FmiStatus Broken) → (c ≡ call.Free → ⊥)
    → Comes (status_of g (function_of c) (arguments_of c)) h k r → Comes (status_by g c) h k r
by_status g call.Instantiate h k r other ran = ran
by_status g call.EnterInit h k r other ran = ran
by_status g call.ExitInit h k r other ran = ran
by_status g call.EnterEvent h k r other ran = ran
by_status g call.EnterStep h k r other ran = ran
by_status g (call.SetClock reference) h k r other ran = ran
by_status g (call.SetBinary reference bytes) h k r other ran = ran
by_status g (call.GetClock reference) h k r other ran = ran
by_status g (call.GetBinary reference) h k r other ran = ran
by_status g call.Update h k r other ran = ran
by_status g (call.GetInterval reference) h k r other ran = ran
by_status g (call.DoStep from size) h k r other ran = ran
by_status g call.Terminate h k r other ran = ran
by_status g call.Free h k r other ran = absurd (other refl)

pub named_status : (g : Guest) (c : Call) (f : Function) (numbers : List ℕ) (h k : Held) (r : Result FmiStatus Broken)
    → (c ≡ call.Free → ⊥) → f ≡ function_of c → numbers ≡ arguments_of c
    → Comes (status_of g f numbers) h k r → Comes (status_by g c) h k r
named_status g c f numbers h k r other named same ran =
    by_status g c h k r other
    (subst (λ (ns : List ℕ). Comes (status_of g (function_of c) ns) h k r) same
    (subst (λ (f : Function). Comes (status_of g f numbers) h k r) named ran))

-- ---- what is left

pub leaves_all : (m : Module) (p : Tables) (i : Instance) → Stands m p i → Leaves m p p i i
leaves_all m p i x = record { made = x.made; there = x.there; table = refl; others = λ u ne. refl; unshared = λ t h. h }

pub leaves_on : {m : Module} {p q r : Tables} {i j k : Instance} → Leaves m p q i j → Leaves m q r j k → Leaves m p r i k
leaves_on x y = record {
  made = y.made;
  there = y.there;
  table = y.table ∙ x.table;
  others = λ u ne. y.others u (λ e. ne (e ∙ x.table)) ∙ x.others u ne;
  unshared = λ t h. y.unshared t (x.unshared t h);
}
