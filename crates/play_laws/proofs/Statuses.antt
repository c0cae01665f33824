-- The status of a run, and what one event more in its budget changes.
use Rattle.std.proofs.Common.{◌≡◌, ◌≤◌, ℕ, zero, suc, ◌+◌, Bool, true, false, ◌++◌, [], ◌∷◌, Option, Some, None, refl, arith, sym, ap, subst, ◌∙◌}
use Rattle.std.specs.Prelude.{if◌then◌else◌, nat_le, option_map}
use Rattle.std.proofs.lemmas.Bool.{leb-true}
use Rattle.log_specs.specs.Line.{End}
use Rattle.bus_specs.specs.Due.{Due, next_due}
use Rattle.run_specs.specs.Run.{behind, head, then_from}
use Rattle.play_specs.specs.Scenario.{Scenario, World, machine, next_event, opening, or_asked, scenario_lines, scenario_status, status, up_to, world_behind}
use Rattle.log_laws.proofs.Endings.{goes-on}
use Rattle.play_laws.specs.Ends.{TellsEvents, left_behind}

up-to-stop : (stop : ℕ) (o : Option Due) (d : Due) → up_to stop o ≡ Some d → d.moment ≤ stop
up-to-stop stop None d e = absurd cc
up-to-stop stop (Some x) d e = go (nat_le x.moment stop) refl e
  where
    go : (t : Bool) → nat_le x.moment stop ≡ t → (if t then Some x else None) ≡ Some d → d.moment ≤ stop
    go true l k = let same : x ≡ d = cc in subst (λ (y : Due). y.moment ≤ stop) same (leb-true x.moment stop l)
    go false l k = absurd cc

next-within : (stop : ℕ) (w : World) (d : Due) → next_event stop w ≡ Some d → d.moment ≤ stop
unfolding next_event
next-within stop w d e = up-to-stop stop (or_asked (next_due w.bus w.now) w.ahead) d e

pub status-spent : (budget : ℕ) (p : Scenario) (d : Due) → left_behind budget p ≡ Some d → (scenario_status budget p ≡ 8) × (d.moment ≤ p.stop)
status-spent budget p d e = (ap status e, next-within p.stop (behind (machine p.stop) budget (opening p)) d e)

pub status-done : (budget : ℕ) (p : Scenario) → left_behind budget p ≡ None → scenario_status budget p ≡ 0
status-done budget p e = ap status e

-- each event that is left is counted
one-event : (stop k : ℕ) (w : World) → status (next_event stop (behind (machine stop) k w)) ≡ 8 → (behind (machine stop) (suc k) w).events ≡ w.events + suc k
unfolding behind
one-event stop zero w e = go (next_event stop w) refl e
  where
    go : (o : Option Due) → next_event stop w ≡ o → status o ≡ 8 → (behind (machine stop) (suc zero) w).events ≡ w.events + suc zero
    go None q s = absurd (omega (arith, s))
    go (Some d) q s = ap (λ o. (then_from w (λ x. behind (machine stop) zero x.0) (option_map (world_behind w) o)).events) q
one-event stop (suc k) w e = go (next_event stop w) refl e (λ v. one-event stop k v)
  where
    from : Option Due → World
    from o = then_from w (λ x. behind (machine stop) k x.0) (option_map (world_behind w) o)

    next : Option Due → World
    next o = then_from w (λ x. behind (machine stop) (suc k) x.0) (option_map (world_behind w) o)

    go : (o : Option Due) → next_event stop w ≡ o → status (next_event stop (behind (machine stop) (suc k) w)) ≡ 8
        → ((v : World) → status (next_event stop (behind (machine stop) k v)) ≡ 8 → (behind (machine stop) (suc k) v).events ≡ v.events + suc k)
        → (behind (machine stop) (suc (suc k)) w).events ≡ w.events + suc (suc k)
    go None q s on =
        let here : next_event stop (from (next_event stop w)) ≡ None = ap (λ o. next_event stop (from o)) q ∙ q in
        absurd (let z : 0 ≡ 8 = sym (ap status here) ∙ s in omega (arith, z))
    go (Some d) q s on =
        let counted = on (world_behind w d).0 (subst (λ o. status (next_event stop (from o)) ≡ 8) q s) in
        let sum : (next (Some d)).events ≡ w.events + suc (suc k) = omega (arith, counted) in
        ap (λ o. (next o).events) q ∙ sum

pub one-more : (budget : ℕ) (p : Scenario) → scenario_status budget p ≡ 8 → TellsEvents (budget + 1) (scenario_lines (budget + 1) p)
one-more budget p e = record {
  before = head (machine p.stop) (budget + 1) (opening p);
  status = status (next_event p.stop last);
  split = ap (λ n. head (machine p.stop) (budget + 1) (opening p) ++ End (status (next_event p.stop last)) n ∷ []) counted;
}
  where
    last : World
    last = behind (machine p.stop) (budget + 1) (opening p)

    plus : suc budget ≡ budget + 1
    plus = omega arith

    whole : (behind (machine p.stop) (suc budget) (opening p)).events ≡ suc budget
    whole = let c = one-event p.stop budget (opening p) e in omega (arith, c)

    counted : last.events ≡ budget + 1
    counted = subst (λ n. (behind (machine p.stop) n (opening p)).events ≡ n) plus whole

pub no-more : (budget : ℕ) (p : Scenario) → scenario_status budget p ≡ 0 → scenario_lines (budget + 1) p ≡ scenario_lines budget p
no-more budget p e = (goes-on p budget 1).nothing e
