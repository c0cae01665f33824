-- The binaries that are accepted.
use Rattle.std.proofs.Common.{◌≡◌, ℕ, ◌-◌, ◌^◌, ◌<◌, ◌==◌, ◌&&◌, ◌||◌, not, Bool, true, false, List, [], ◌∷◌, ◌++◌, length, Some, Ok, refl, sym, ap, subst, ◌∙◌, arith, codes, append_assoc, inl, inr}
use Rattle.std.specs.Prelude.{option_and_then}
use Rattle.std.specs.List.{list_any}
use Rattle.std.proofs.lemmas.Bool.{and_parts}
use Rattle.std.proofs.lemmas.Bool.Decides.{nat_tests}
use Rattle.std.proofs.lemmas.List.{append-nil}
use Rattle.std.proofs.lemmas.List.Folds.{list_any-append}
use Rattle.toml.specs.Data.{Members, as_array, get_member}
use Rattle.document_specs.specs.Checks.{each}
use Rattle.document_specs.specs.Documents.{text, number, number_of, only, optional_tables}
use Rattle.description_specs.specs.declared.variable.ClockVariable.{ClockVariable}
use Rattle.description_specs.specs.declared.variable.BinaryVariable.{BinaryVariable}
use Rattle.description_specs.specs.declared.variable.Causality.{Causality}
use Rattle.description_specs.specs.declared.variable.Causality.TheVariants.{Input, Output}
use Rattle.description_specs.specs.declared.variable.IntervalVariability.{IntervalVariability}
use Rattle.description_specs.specs.declared.variable.IntervalVariability.TheVariants.{Triggered, Countdown}
use Rattle.description_specs.specs.declared.field.Field.TheVariants.{Binary, BinaryName, BinaryValueReference, BinaryCausality, BinaryClocks, BinaryMaxSize}
use Rattle.description_specs.specs.Variables.{refusal, is_countdown, same_causality, has_clock, has_binary, causality, reference}
use Rattle.description_specs.specs.Binaries.{binaries_of, binary_at, binary_of, new_reference, trigger, clock_in, ticks_with}
use Rattle.description_laws.specs.Fit.{AreDifferent, AreClocks, AreBinaries, IsBinaryInRange, HasClock, IsAmong, of_clocks, of_binaries}
use Rattle.description_laws.proofs.Steps.{needs_ok, that_ok, that_is, some_of, number_ok, number_at_ok, reference_ok, each_keeps, different_more, any_of_map, map_more, all_more}

-- a list that has one that passes
found_in : {A : Type 0} (p : A → Bool) (y : A) (ys : List A) → ((x : A) × IsAmong x ys × (p x ≡ true)) → (x : A) × IsAmong x (y ∷ ys) × (p x ≡ true)
found_in p y ys h = (h.0, inr h.1, h.2)

first_or : {A : Type 0} (p : A → Bool) (y : A) (ys : List A) (b : Bool) → p y ≡ b → (b || list_any p ys) ≡ true → (list_any p ys ≡ true → (x : A) × IsAmong x ys × (p x ≡ true))
    → (x : A) × IsAmong x (y ∷ ys) × (p x ≡ true)
first_or p y ys true e h rest = (y, inl refl, e)
first_or p y ys false e h rest = found_in p y ys (rest h)

found : {A : Type 0} (p : A → Bool) (xs : List A) → list_any p xs ≡ true → (x : A) × IsAmong x xs × (p x ≡ true)
found p [] h = absurd (cc)
found p (y ∷ ys) h = first_or p y ys (p y) refl h (found p ys)

triggered : (i : IntervalVariability) → not (is_countdown i) ≡ true → i ≡ Triggered
triggered Triggered h = refl
triggered Countdown h = absurd (cc)

pub alike : (c d : Causality) → same_causality c d ≡ true → d ≡ c
alike Input Input h = refl
alike Output Output h = refl
alike Input Output h = absurd (cc)
alike Output Input h = absurd (cc)

pub named : (m n : ℕ) → (m == n) ≡ true → m ≡ n
named m n h = grind (arith, nat_tests)

clock_of_binary : (clocks : List ClockVariable) (b : BinaryVariable) → list_any (ticks_with b.causality b.clock) clocks ≡ true → HasClock clocks b
clock_of_binary clocks b h =
    let k = found (ticks_with b.causality b.clock) clocks h in
    let one = and_parts (k.0.reference == b.clock) (not (is_countdown k.0.interval) && same_causality b.causality k.0.causality) k.2 in
    let two = and_parts (not (is_countdown k.0.interval)) (same_causality b.causality k.0.causality) one.1 in
    record { clock = k.0; there = k.1; named = named k.0.reference b.clock one.0; triggered = triggered k.0.interval two.0; alike = alike b.causality k.0.causality two.1 }

neither_has : (a b : Bool) → not (a || b) ≡ true → (a || b) ≡ false
neither_has true b h = absurd (cc)
neither_has false true h = absurd (cc)
neither_has false false h = refl

-- no clock and no binary has it
none_has : (clocks : List ClockVariable) (before : List BinaryVariable) (r : ℕ) → not (has_clock clocks r || has_binary before r) ≡ true
    → list_any (λ y. y == r) (of_clocks clocks ++ of_binaries before) ≡ false
none_has clocks before r h =
    list_any-append (λ y. y == r) (of_clocks clocks) (of_binaries before)
    ∙ rw (any_of_map (λ (c : ClockVariable). c.reference) r clocks, any_of_map (λ (b : BinaryVariable). b.reference) r before) (neither_has (has_clock clocks r) (has_binary before r) h)

one_more : (clocks : List ClockVariable) (before : List BinaryVariable) (b : BinaryVariable) → AreBinaries clocks before
    → not (has_clock clocks b.reference || has_binary before b.reference) ≡ true → list_any (ticks_with b.causality b.clock) clocks ≡ true → IsBinaryInRange b → AreBinaries clocks (before ++ b ∷ [])
one_more clocks before b fit new ticks small =
    record {
      different = subst AreDifferent
          (append_assoc (of_clocks clocks) (of_binaries before) (b.reference ∷ []) ∙ ap (λ rs. of_clocks clocks ++ rs) (sym (map_more (λ (x : BinaryVariable). x.reference) before b)))
          (different_more (of_clocks clocks ++ of_binaries before) b.reference fit.different (none_has clocks before b.reference new));
      clocked = all_more (HasClock clocks) before b fit.clocked (clock_of_binary clocks b ticks);
      ranged = all_more IsBinaryInRange before b fit.ranged small;
    }

triggers : (clocks : List ClockVariable) (c : Causality) (t : Members) (r : ℕ) → trigger clocks c t ≡ Some r → list_any (ticks_with c r) clocks ≡ true
triggers clocks c t r h =
    let d = some_of (λ d. option_and_then (clock_in clocks c) (as_array d)) (get_member (codes "clocks") t) r h in
    let ds = some_of (clock_in clocks c) (as_array d.0) r d.2 in
    that_ok (λ k. list_any (ticks_with c k) clocks) (option_and_then (number_of 0 (2 ^ 32 - 1)) (only ds.0)) r ds.2

names_a_clock : (clocks : List ClockVariable) (c : Causality) (t : Members) (r : ℕ) → trigger clocks c t ≡ Some r → r < 2 ^ 32
names_a_clock clocks c t r h =
    let d = some_of (λ d. option_and_then (clock_in clocks c) (as_array d)) (get_member (codes "clocks") t) r h in
    let ds = some_of (clock_in clocks c) (as_array d.0) r d.2 in
    let one = some_of (number_of 0 (2 ^ 32 - 1)) (only ds.0) r (that_is (λ k. list_any (ticks_with c k) clocks) (option_and_then (number_of 0 (2 ^ 32 - 1)) (only ds.0)) r ds.2) in
    let k = (number_ok 0 (2 ^ 32 - 1) one.0 r one.2).1 in
    omega (arith, k)

is_small : (clocks : List ClockVariable) (before : List BinaryVariable) (t : Members) (r : ℕ) → new_reference clocks before t ≡ Some r → r < 2 ^ 32
is_small clocks before t r h = reference_ok (codes "valueReference") t r (that_is (λ k. not (has_clock clocks k || has_binary before k)) (reference (codes "valueReference") t) r h)

is_new : (clocks : List ClockVariable) (before : List BinaryVariable) (t : Members) (r : ℕ) → new_reference clocks before t ≡ Some r → not (has_clock clocks r || has_binary before r) ≡ true
is_new clocks before t r h = that_ok (λ k. not (has_clock clocks k || has_binary before k)) (reference (codes "valueReference") t) r h

binary_step : (clocks : List ClockVariable) (before : List BinaryVariable) (t : Members) (x : BinaryVariable) → AreBinaries clocks before → binary_of clocks before t ≡ Ok x → AreBinaries clocks (before ++ x ∷ [])
unfolding binary_at
binary_step clocks before t x fit h =
    let name = needs_ok (refusal BinaryName (length before)) (text (codes "name") t) _ x h in
    let r = needs_ok (refusal BinaryValueReference (length before)) (new_reference clocks before t) _ x name.2 in
    let c = needs_ok (refusal BinaryCausality (length before)) (causality t) _ x r.2 in
    let clock = needs_ok (refusal BinaryClocks (length before)) (trigger clocks c.0 t) _ x c.2 in
    let most = needs_ok (refusal BinaryMaxSize (length before)) (number 256 65536 (codes "maxSize") t) _ x clock.2 in
    let same : record { reference = r.0; causality = c.0; clock = clock.0; max_size = most.0 } ≡ x = cc most.2 in
    let long = number_at_ok 256 65536 (codes "maxSize") t most.0 most.1 in
    let small : IsBinaryInRange (record { reference = r.0; causality = c.0; clock = clock.0; max_size = most.0 }) =
    record { reference = is_small clocks before t r.0 r.1; clock = names_a_clock clocks c.0 t clock.0 clock.1; least = long.0; most = long.1 } in
    subst (λ y. AreBinaries clocks (before ++ y ∷ [])) same
    (one_more clocks before (record { reference = r.0; causality = c.0; clock = clock.0; max_size = most.0 }) fit (is_new clocks before t r.0 r.1) (triggers clocks c.0 t clock.0 clock.1) small)

pub binaries_fit : (clocks : List ClockVariable) (t : Members) (binaries : List BinaryVariable) → AreClocks clocks → binaries_of clocks t ≡ Ok binaries → AreBinaries clocks binaries
unfolding binaries_of
binaries_fit clocks t binaries fit h =
    let rows = needs_ok (refusal Binary 0) (optional_tables 64 (codes "Binary") t) (each (binary_of clocks) []) binaries h in
    each_keeps (AreBinaries clocks) (binary_of clocks) (binary_step clocks) [] rows.0 binaries
    (record { different = subst AreDifferent (sym (append-nil (of_clocks clocks))) fit.different; clocked = tt; ranged = tt }) rows.2
