-- What holds of an accepted network file.
use Rattle.std.proofs.Common.{◌≡◌, ℕ, ◌*◌, ◌-◌, ◌/◌, ◌%◌, ◌^◌, ◌≤◌, true, List, [], length, Option, Some, None, Ok, IfSome, refl, subst, arith, codes, div-add-mod'}
use Rattle.std.specs.Prelude.{option_and_then, option_map}
use Rattle.std.specs.List.{AllByRecursion}
use Rattle.std.proofs.lemmas.Bool.Decides.{nat_tests}
use Rattle.toml.specs.Data.{Data, Members, get_member}
use Rattle.document_specs.specs.Checks.{each}
use Rattle.document_specs.specs.Documents.{that, absent_or, number, number_of, tables}
use Rattle.world_specs.specs.Plan.{Between}
use Rattle.network_specs.specs.declared.field.NetworkField.TheVariants as field
use Rattle.network_specs.specs.Settings.{refusal, number_or, Settings, settings_of}
use Rattle.network_specs.specs.Buses.{Rate, divides, rate_of_bits, rate_of, rate, optional_rate, Bus, new_bus_name, bus_at, bus_of, buses_of}
use Rattle.description_laws.proofs.Steps.{needs_ok, that_ok, that_is, some_of, number_ok, number_at_ok, tables_ok, each_keeps, each_length, all_more}
use Rattle.network_laws.specs.Ranges.{IsRate, IsBus}

-- a number that may be left out
pub number_or_ok : (otherwise low high : ℕ) (key : List ℕ) (t : Members) (n : ℕ) → low ≤ otherwise → otherwise ≤ high → number_or otherwise low high key t ≡ Some n → Between low high n
number_or_ok otherwise low high key t n least most h = by_value (get_member key t) h
  where
    by_value : (o : Option Data) → absent_or otherwise (number_of low high) o ≡ Some n → Between low high n
    by_value None k = let e : otherwise ≡ n = cc k in subst (Between low high) e (least, most)
    by_value (Some d) k = number_ok low high d n k

pub record AreSettings (s : Settings) : Type 0 where
  pub resolution : Between 1 (10 ^ 12) s.resolution
  pub stop : s.stop ≤ 2 ^ 62
  pub events : Between 1 (10 ^ 8) s.events
  pub fuel : Between 1 (10 ^ 9) s.fuel

pub settings_ranged : (t : Members) (s : Settings) → settings_of t ≡ Ok s → AreSettings s
unfolding settings_of
settings_ranged t s h =
    let resolution = needs_ok (refusal field.Resolution 0) (number 1 (10 ^ 12) (codes "resolution") t) _ s h in
    let stop = needs_ok (refusal field.Stop 0) (number 0 (2 ^ 62) (codes "stop") t) _ s resolution.2 in
    let events = needs_ok (refusal field.Events 0) (number_or 1000000 1 (10 ^ 8) (codes "events") t) _ s stop.2 in
    let fuel = needs_ok (refusal field.Fuel 0) (number_or 1000000 1 (10 ^ 9) (codes "fuel") t) _ s events.2 in
    let same : record { resolution = resolution.0; stop = stop.0; events = events.0; fuel = fuel.0 } ≡ s = cc fuel.2 in
    subst AreSettings same (record {
      resolution = number_at_ok 1 (10 ^ 12) (codes "resolution") t resolution.0 resolution.1;
      stop = (number_at_ok 0 (2 ^ 62) (codes "stop") t stop.0 stop.1).1;
      events = number_or_ok 1000000 1 (10 ^ 8) (codes "events") t events.0 (omega arith) (omega arith) events.1;
      fuel = number_or_ok 1000000 1 (10 ^ 9) (codes "fuel") t fuel.0 (omega arith) (omega arith) fuel.1;
    })

-- what a map over an Option gave
pub mapped_ok : {A B : Type 0} (f : A → B) (o : Option A) (y : B) → option_map f o ≡ Some y → (x : A) × (o ≡ Some x) × (f x ≡ y)
mapped_ok f None y h = absurd (cc)
mapped_ok f (Some x) y h = (x, refl, cc)

whole : (n d : ℕ) → divides n d ≡ true → n / d * d ≡ n
whole n d h = let none : n % d ≡ 0 = grind (arith, nat_tests) in omega (arith, none, div-add-mod' n d)

rate_ranged : (resolution : ℕ) (d : Data) (r : Rate) → rate_of resolution d ≡ Some r → IsRate resolution r
rate_ranged resolution d r h =
    let k = mapped_ok (rate_of_bits resolution) (option_and_then (that (divides resolution)) (number_of 1 (2 ^ 32 - 1) d)) r h in
    let divided = that_ok (divides resolution) (number_of 1 (2 ^ 32 - 1) d) k.0 k.1 in
    let ranged = number_ok 1 (2 ^ 32 - 1) d k.0 (that_is (divides resolution) (number_of 1 (2 ^ 32 - 1) d) k.0 k.1) in
    subst (IsRate resolution) k.2 (record { in_range = ranged; exact = whole resolution k.0 divided })

rate_at_ranged : (resolution : ℕ) (key : List ℕ) (t : Members) (r : Rate) → rate resolution key t ≡ Some r → IsRate resolution r
rate_at_ranged resolution key t r h = let d = some_of (rate_of resolution) (get_member key t) r h in rate_ranged resolution d.0 r d.2

optional_ranged : (resolution : ℕ) (key : List ℕ) (t : Members) (o : Option Rate) → optional_rate resolution key t ≡ Some o → IfSome o (IsRate resolution)
optional_ranged resolution key t o h = by_value (get_member key t) h
  where
    by_value : (v : Option Data) → absent_or None (λ d. option_map Some (rate_of resolution d)) v ≡ Some o → IfSome o (IsRate resolution)
    by_value None k = let e : None ≡ o = cc k in subst (λ p. IfSome p (IsRate resolution)) e tt
    by_value (Some d) k = let r = mapped_ok Some (rate_of resolution d) o k in subst (λ p. IfSome p (IsRate resolution)) r.2 (rate_ranged resolution d r.0 r.1)

bus_ranged : (resolution place : ℕ) (before : List Bus) (t : Members) (b : Bus) → bus_at resolution place before t ≡ Ok b → IsBus resolution b
unfolding bus_at
bus_ranged resolution place before t b h =
    let name = needs_ok (refusal field.BusName place) (new_bus_name before t) _ b h in
    let nominal = needs_ok (refusal field.BusRate place) (rate resolution (codes "rate") t) _ b name.2 in
    let fd = needs_ok (refusal field.BusFdRate place) (optional_rate resolution (codes "fd_rate") t) _ b nominal.2 in
    let same : record { name = name.0; rate = nominal.0; fd_rate = fd.0 } ≡ b = cc fd.2 in
    subst (IsBus resolution) same (record { rate = rate_at_ranged resolution (codes "rate") t nominal.0 nominal.1; fd_rate = optional_ranged resolution (codes "fd_rate") t fd.0 fd.1 })

pub buses_ranged : (resolution : ℕ) (t : Members) (bs : List Bus) → buses_of resolution t ≡ Ok bs → Between 1 4 (length bs) × AllByRecursion (IsBus resolution) bs
unfolding buses_of
buses_ranged resolution t bs h =
    let rows = needs_ok (refusal field.Bus 0) (tables 1 4 (codes "bus") t) (each (bus_of resolution) []) bs h in
    let many = tables_ok 1 4 (codes "bus") t rows.0 rows.1 in
    let same = each_length (bus_of resolution) [] rows.0 bs rows.2 in (
      (omega (arith, many.0, same), omega (arith, many.1, same)),
      each_keeps (AllByRecursion (IsBus resolution)) (bus_of resolution)
          (λ before row b all is. all_more (IsBus resolution) before b all (bus_ranged resolution (length before) before row b is)) [] rows.0 bs tt rows.2,
    )
