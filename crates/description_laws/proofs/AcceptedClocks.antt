-- The clocks that are accepted.
use Rattle.std.proofs.Common.{◌≡◌, ℕ, ◌+◌, ◌^◌, ◌<◌, ◌≤◌, not, Bool, true, false, nat_lt, List, [], ◌∷◌, ◌++◌, length, Some, Ok, refl, ap, subst, ◌∙◌, arith, cond, codes}
use Rattle.std.specs.Prelude.{option_and_then}
use Rattle.std.proofs.lemmas.Bool.{and_parts}
use Rattle.std.proofs.lemmas.List.Sums.{sum_by-append, sum_by-cons}
use Rattle.std.proofs.lemmas.Bool.Decides.{nat_tests}
use Rattle.toml.specs.Data.{Members}
use Rattle.document_specs.specs.Checks.{each}
use Rattle.document_specs.specs.Documents.{text, optional_tables}
use Rattle.description_specs.specs.declared.variable.ClockVariable.{ClockVariable}
use Rattle.description_specs.specs.declared.variable.Causality.{Causality}
use Rattle.description_specs.specs.declared.variable.IntervalVariability.{IntervalVariability}
use Rattle.description_specs.specs.declared.variable.IntervalVariability.TheVariants.{Triggered, Countdown}
use Rattle.description_specs.specs.declared.field.Field.TheVariants.{Clock, ClockName, ClockValueReference, ClockCausality, ClockIntervalVariability}
use Rattle.description_specs.specs.Variables.{refusal, is_countdown, is_input, has_clock, causality, interval_of, reference}
use Rattle.description_specs.specs.Clocks.{clocks_of, clock_at, clock_of, countdowns, may_tick, new_among_clocks, interval}
use Rattle.description_laws.specs.Fit.{AreClocks, TicksIn, of_clocks}
use Rattle.description_laws.proofs.Steps.{needs_ok, that_ok, that_is, reference_ok, each_keeps, different_more, any_of_map, map_more, all_more}

pub not_true : (b : Bool) → not b ≡ true → b ≡ false
not_true true h = absurd (cc)
not_true false h = refl

-- the count after one more clock
countdowns_more : (cs : List ClockVariable) (c : ClockVariable) → countdowns (cs ++ c ∷ []) ≡ countdowns cs + (cond (is_countdown c.interval) 1 0)
countdowns_more cs c =
    let f = λ (x : ClockVariable). cond (is_countdown x.interval) 1 0 in
    sum_by-append f cs (c ∷ []) ∙ ap (λ n. countdowns cs + n) (sum_by-cons f c [] ∙ omega arith)

few_more : (i : IntervalVariability) (c : Causality) (before : List ClockVariable) → countdowns before ≤ 8 → may_tick c before i ≡ true → countdowns before + (cond (is_countdown i) 1 0) ≤ 8
few_more Triggered c before few h = omega arith
few_more Countdown c before few h = let k = and_parts (is_input c) (nat_lt (countdowns before) 8) h in let l = k.1 in grind (arith, nat_tests)

ticks : (i : IntervalVariability) (c : Causality) (before : List ClockVariable) → may_tick c before i ≡ true → is_countdown i ≡ true → is_input c ≡ true
ticks Triggered c before h e = absurd (cc)
ticks Countdown c before h e = (and_parts (is_input c) (nat_lt (countdowns before) 8) h).0

one_more : (before : List ClockVariable) (r : ℕ) (c : Causality) (i : IntervalVariability) → AreClocks before → has_clock before r ≡ false → r < 2 ^ 32 → may_tick c before i ≡ true
    → AreClocks (before ++ (record { reference = r; causality = c; interval = i }) ∷ [])
one_more before r c i fit new small may =
    let x : ClockVariable = record { reference = r; causality = c; interval = i } in
    record {
      different = rw (map_more (λ (k : ClockVariable). k.reference) before x) (different_more (of_clocks before) r fit.different (any_of_map (λ (k : ClockVariable). k.reference) r before ∙ new));
      few = rw (countdowns_more before x) (few_more i c before fit.few may);
      inputs = all_more TicksIn before x fit.inputs (ticks i c before may);
      ranged = all_more (λ (k : ClockVariable). k.reference < 2 ^ 32) before x fit.ranged small;
    }

is_new : (before : List ClockVariable) (t : Members) (r : ℕ) → new_among_clocks before t ≡ Some r → has_clock before r ≡ false
is_new before t r h = not_true (has_clock before r) (that_ok (λ k. not (has_clock before k)) (reference (codes "valueReference") t) r h)

is_small : (before : List ClockVariable) (t : Members) (r : ℕ) → new_among_clocks before t ≡ Some r → r < 2 ^ 32
is_small before t r h = reference_ok (codes "valueReference") t r (that_is (λ k. not (has_clock before k)) (reference (codes "valueReference") t) r h)

may : (before : List ClockVariable) (t : Members) (c : Causality) (i : IntervalVariability) → interval c before t ≡ Some i → may_tick c before i ≡ true
may before t c i h = that_ok (may_tick c before) (option_and_then interval_of (text (codes "intervalVariability") t)) i h

clock_step : (before : List ClockVariable) (t : Members) (x : ClockVariable) → AreClocks before → clock_of before t ≡ Ok x → AreClocks (before ++ x ∷ [])
unfolding clock_at
clock_step before t x fit h =
    let name = needs_ok (refusal ClockName (length before)) (text (codes "name") t) _ x h in
    let r = needs_ok (refusal ClockValueReference (length before)) (new_among_clocks before t) _ x name.2 in
    let c = needs_ok (refusal ClockCausality (length before)) (causality t) _ x r.2 in
    let i = needs_ok (refusal ClockIntervalVariability (length before)) (interval c.0 before t) _ x c.2 in
    let same : record { reference = r.0; causality = c.0; interval = i.0 } ≡ x = cc i.2 in
    subst (λ y. AreClocks (before ++ y ∷ [])) same
    (one_more before r.0 c.0 i.0 fit (is_new before t r.0 r.1) (is_small before t r.0 r.1) (may before t c.0 i.0 i.1))

pub clocks_fit : (t : Members) (clocks : List ClockVariable) → clocks_of t ≡ Ok clocks → AreClocks clocks
unfolding clocks_of
clocks_fit t clocks h =
    let rows = needs_ok (refusal Clock 0) (optional_tables 64 (codes "Clock") t) (each clock_of []) clocks h in
    each_keeps AreClocks clock_of clock_step [] rows.0 clocks (record { different = tt; few = omega arith; inputs = tt; ranged = tt }) rows.2
