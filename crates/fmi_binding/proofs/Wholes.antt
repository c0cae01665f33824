-- Whole exchanges.
use Rattle.std.specs.Prelude.{◌≡◌, ℕ, ◌+◌, ◌*◌, ◌≤◌, Bool, true, false, List, [], ◌∷◌, Option, None, Some, Result, Ok, Err, length, nat_le, refl, if◌then◌else◌}
use Rattle.std.proofs.Common.{sym, ap, ◌∙◌, subst, arith}
use Rattle.fmi_states.specs.declared.status.FmiStatus.{FmiStatus}
use Rattle.fmi_states.specs.declared.call.Call.{Call}
use Rattle.fmi_states.specs.declared.call.Call.TheVariants as call
use Rattle.fmi_states.specs.declared.reply.Reply.{Reply}
use Rattle.fmi_states.specs.declared.reply.Reply.TheVariants.{Plain}
use Rattle.fmi_states.specs.declared.reply.Broken.{Broken}
use Rattle.fmi_states.specs.declared.reply.Broken.TheVariants.{BadBuffer}
use Rattle.wasm_types.specs.declared.module.Module.{Module}
use Rattle.wasm_types.specs.Modules.{NestedModule}
use Rattle.wasm_types.specs.Back.{nested_module}
use Rattle.std.proofs.Math.Nat.{min-le_right}
use Rattle.wasm_types.specs.declared.module.Limits.{Limits}
use Rattle.code_specs.specs.Stores.{page_size, pages_within, greatest_pages}
use Rattle.wasm_machine.specs.declared.instance.Instance.{Instance}
use Rattle.wasm_machine.specs.Instances.{IsMadeFrom}
use Rattle.binding_specs.specs.declared.function.Function.TheVariants as function
use Rattle.binding_specs.specs.Guests.{Guest, area_size}
use Rattle.binding_specs.specs.Pieces.{◌>>=◌, gives, run}
use Rattle.binding_specs.specs.Exchanges.{calls, the_number, place_area, asks_area, is_fine, reply_if, starts, prepares, status_by, exchange}
use Rattle.binding_laws.specs.Words.{is_instantiation}
use Rattle.fmi_binding.specs.Coming.{Held, work_with, Comes, then_in, number_in, address_in, area_after, done_in}
use Rattle.fmi_binding.proofs.Coming.{comes_on, comes_broken, gives_comes, number_comes}

-- ---- the exchange of a call

module _ (g : Guest) (c : Call) (h k : Held) where
  pub not_prepared : (why : Broken) → Comes (prepares g c) h k (Err why) → Comes (exchange g c) h k (Err why)
  unfolding exchange
  not_prepared why first = comes_broken (prepares g c) (λ prepared. status_by g c >>= λ status. reply_if (is_fine status) g c status) h k
      why first

  pub no_status : (l : Held) (why : Broken) → Comes (prepares g c) h k (Ok tt) → Comes (status_by g c) k l (Err why)
      → Comes (exchange g c) h l (Err why)
  unfolding exchange
  no_status l why first second =
      comes_on (prepares g c) (λ prepared. status_by g c >>= λ status. reply_if (is_fine status) g c status) h k l tt (Err why) first
      (comes_broken (status_by g c) (λ status. reply_if (is_fine status) g c status) k l why second)

  pub exchanged : (l m : Held) (status : FmiStatus) (r : Result Reply Broken) → Comes (prepares g c) h k (Ok tt)
      → Comes (status_by g c) k l (Ok status)
      → Comes (reply_if (is_fine status) g c status) l m r → Comes (exchange g c) h m r
  unfolding exchange
  exchanged l m status r first second third =
      comes_on (prepares g c) (λ prepared. status_by g c >>= λ status. reply_if (is_fine status) g c status) h k m tt r first
      (comes_on (status_by g c) (λ status. reply_if (is_fine status) g c status) k l m status r second third)

-- ---- the start function

pub started : (g : Guest) (index : ℕ) (h k : Held) (numbers : List ℕ) → g.code.start ≡ Some index
    → Comes (run g.code g.budget index []) h k (Ok numbers)
    → Comes (prepares g call.Instantiate) h k (Ok tt)
started g index h k numbers is ran =
    subst (λ o. Comes (starts g o) h k (Ok tt)) (sym is) (comes_on (run g.code g.budget index []) (λ numbers. gives tt) h k k numbers
    (Ok tt) ran (gives_comes tt k))

pub not_started : (g : Guest) (index : ℕ) (h k : Held) (why : Broken) → g.code.start ≡ Some index
    → Comes (run g.code g.budget index []) h k (Err why)
    → Comes (prepares g call.Instantiate) h k (Err why)
not_started g index h k why is ran =
    subst (λ o. Comes (starts g o) h k (Err why)) (sym is) (comes_broken (run g.code g.budget index []) (λ numbers. gives tt) h k why ran)

pub no_start : (g : Guest) (h : Held) → g.code.start ≡ None → Comes (prepares g call.Instantiate) h h (Ok tt)
no_start g h is = subst (λ o. Comes (starts g o) h h (Ok tt)) (sym is) (gives_comes tt h)

-- ---- the area

placed : (size pages address : ℕ) (h : Held) (b : Bool) → length h.store.bytes ≡ pages * page_size
    → nat_le (address + size) (pages * page_size) ≡ b
    → Comes (place_area size address) h (record h { area = area_after h.area (if b then Ok address else Err BadBuffer) })
    (done_in (if b then Ok address else Err BadBuffer))
placed size pages address h b long fits = record { each = λ used. (used, go b (ap (nat_le (address + size)) long ∙ fits) used) }
  where
    go : (b : Bool) → nat_le (address + size) (length h.store.bytes) ≡ b → (used : List ℕ)
        → place_area size address (work_with h used) ≡ (
          done_in (if b then Ok address else Err BadBuffer),
          work_with
              (record h { area = area_after h.area (if b then Ok address else Err BadBuffer) }) used,
        )
    go true is used = ap (λ b. if b then (Ok tt, record (work_with h used) { area = address }) else (Err BadBuffer, work_with h used)) is
    go false is used = ap (λ b. if b then (Ok tt, record (work_with h used) { area = address }) else (Err BadBuffer, work_with h used)) is

behind_number : (size pages : ℕ) (numbers : List ℕ) (h : Held) (r : Result ℕ Broken) → length h.store.bytes ≡ pages * page_size
    → Comes (the_number numbers) h h r
    → Comes (the_number numbers >>= λ address. place_area size address) h
    (record h { area = area_after h.area (then_in r (λ n. if nat_le (n + size) (pages * page_size) then Ok n else Err BadBuffer)) })
    (done_in (then_in r (λ n. if nat_le (n + size) (pages * page_size) then Ok n else Err BadBuffer)))
behind_number size pages numbers h (Err why) long first = comes_broken (the_number numbers) (λ address. place_area size address) h h why
    first
behind_number size pages numbers h (Ok n) long first =
    comes_on (the_number numbers) (λ address. place_area size address) h h _ n _ first
    (placed size pages n h (nat_le (n + size) (pages * page_size)) long refl)

pub area_by_numbers : (g : Guest) (h k : Held) (pages : ℕ) (r : Result (List ℕ) Broken) → length k.store.bytes ≡ pages * page_size
    → Comes (calls g function.Area (area_size g.description ∷ [])) h k r
    → Comes (asks_area g) h (record k { area = area_after k.area (then_in r (address_in (area_size g.description) pages)) })
    (done_in (then_in r (address_in (area_size g.description) pages)))
area_by_numbers g h k pages (Err why) long called =
    comes_broken (calls g function.Area (area_size g.description ∷ []))
    (λ numbers. the_number numbers >>= λ address. place_area (area_size g.description) address) h k why called
area_by_numbers g h k pages (Ok numbers) long called =
    comes_on (calls g function.Area (area_size g.description ∷ []))
    (λ numbers. the_number numbers >>= λ address. place_area (area_size g.description) address) h k _ numbers _ called
    (behind_number (area_size g.description) pages numbers k (number_in numbers) long (number_comes numbers k))

-- ---- the size of a memory

few_of : (o : Option ℕ) → pages_within o ≤ 256
few_of None = omega arith
few_of (Some most) = min-le_right most 256

few_pages : (m : NestedModule) (ms : List Limits) → greatest_pages (record m { memories = ms }) ≤ 256
few_pages m [] = omega arith
few_pages m (l ∷ ls) = few_of l.max

pub pages_few : (m : Module) (i : Instance) → IsMadeFrom m i → i.memory.pages ≤ 256
pages_few m i x = omega (arith, x.within, x.greatest, few_pages (nested_module m) m.memories)

-- ---- the instantiation

module _ (g : Guest) (status : FmiStatus) (h k : Held) where
  pub placed_reply : is_fine status ≡ true → Comes (asks_area g) h k (Ok tt)
      → Comes (reply_if (is_fine status) g call.Instantiate status) h k (Ok (Plain status))
  placed_reply fine asked =
      subst (λ b. Comes (reply_if b g call.Instantiate status) h k (Ok (Plain status))) (sym fine)
      (comes_on (asks_area g) (λ done. gives (Plain status)) h k k tt (Ok (Plain status)) asked (gives_comes (Plain status) k))

  pub not_placed : (why : Broken) → is_fine status ≡ true → Comes (asks_area g) h k (Err why)
      → Comes (reply_if (is_fine status) g call.Instantiate status) h k (Err why)
  not_placed why fine asked =
      subst (λ b. Comes (reply_if b g call.Instantiate status) h k (Err why)) (sym fine)
      (comes_broken (asks_area g) (λ done. gives (Plain status)) h k why asked)

pub another_call : (c : Call) → (c ≡ call.Instantiate → ⊥) → is_instantiation c ≡ false
another_call call.Instantiate other = absurd (other refl)
another_call call.EnterInit other = refl
another_call call.ExitInit other = refl
another_call call.EnterEvent other = refl
another_call call.EnterStep other = refl
another_call (call.SetClock reference) other = refl
another_call (call.SetBinary reference bytes) other = refl
another_call (call.GetClock reference) other = refl
another_call (call.GetBinary reference) other = refl
another_call call.Update other = refl
another_call (call.GetInterval reference) other = refl
another_call (call.DoStep from size) other = refl
another_call call.Terminate other = refl
another_call call.Free other = refl
