-- The units of a world are guests: its log is that of the ideal world.
use Rattle.std.proofs.Common.{◌≡◌, ◌<◌, ℕ, zero, suc, List, [], ◌∷◌, All, get_or, length, map, refl, sym, ap, ◌∙◌, arith}
use Rattle.wasm_types.specs.declared.module.Module.{Module}
use Rattle.wasm_types.specs.Back.{nested_module}
use Rattle.binding_specs.specs.Answers.{answer}
use Rattle.world_specs.specs.Plan.{NodePlan, Plan, opening_of, units_of}
use Rattle.world_specs.specs.Network.{run_lines, run_status}
use Rattle.held_states.specs.Held.{IsHeldAs, world_as}
use Rattle.held_states.proofs.Runs.{lines-held, status-held, opening-held}
use Rattle.fmi_binding.specs.declared.guests.Guests.{Guests}
use Rattle.fmi_binding.specs.declared.state.GuestState.{GuestState}
use Rattle.fmi_binding.specs.States.{guest_of, state_answer}
use Rattle.world_core.specs.Seen.{Seen, opened}
use Rattle.guest_worlds.specs.Opening.{IsUnitCode, opening_states}
use Rattle.network_folder.specs.Outcomes.{IsUnit}
use Rattle.ideal_specs.specs.Ideal.{guest_units, guests_from}

guests-answer : IsHeldAs guest_of state_answer (λ s. s.phase) answer (λ g. g.phase)
unfolding state_answer answer
guests-answer = record { answers = λ s c. refl; phases = λ s. refl }

same-guests : (fuel : ℕ) (ms : List Module) (ns : List NodePlan) → map guest_of (opening_states fuel ms ns) ≡ guests_from fuel (map nested_module ms) ns
same-guests fuel [] ns = refl
same-guests fuel (m ∷ ms) [] = refl
same-guests fuel (m ∷ ms) (n ∷ ns) = rw (same-guests fuel ms ns) refl

same-world : (p : Plan) (ms : List Module) → world_as guest_of (opening_of p (opening_states p.fuel ms p.nodes)) ≡ opening_of p (guests_from p.fuel (map nested_module ms) p.nodes)
same-world p ms = sym (opening-held guest_of p (opening_states p.fuel ms p.nodes)) ∙ ap (opening_of p) (same-guests p.fuel ms p.nodes)

pub ideal-lines : (p : Plan) (ms : List Module) (stop budget : ℕ)
    → run_lines (units_of state_answer (λ s. s.phase) p) stop budget (opening_of p (opening_states p.fuel ms p.nodes))
    ≡ run_lines (guest_units p) stop budget (opening_of p (guests_from p.fuel (map nested_module ms) p.nodes))
ideal-lines p ms stop budget =
    sym (lines-held guest_of state_answer (λ s. s.phase) answer (λ g. g.phase) guests-answer p stop budget (opening_of p (opening_states p.fuel ms p.nodes)))
    ∙ ap (run_lines (guest_units p) stop budget) (same-world p ms)

pub ideal-status : (p : Plan) (ms : List Module) (stop budget : ℕ)
    → run_status (units_of state_answer (λ s. s.phase) p) stop budget (opening_of p (opening_states p.fuel ms p.nodes))
    ≡ run_status (guest_units p) stop budget (opening_of p (guests_from p.fuel (map nested_module ms) p.nodes))
ideal-status p ms stop budget =
    sym (status-held guest_of state_answer (λ s. s.phase) answer (λ g. g.phase) guests-answer p stop budget (opening_of p (opening_states p.fuel ms p.nodes)))
    ∙ ap (run_status (guest_units p) stop budget) (same-world p ms)

-- what is left of a world that was opened so
pub lines-of : (p : Plan) (ms : List Module) (w : Seen GuestState Guests) (budget : ℕ)
    → w ≡ opened p (opening_states p.fuel ms p.nodes) w.parts w.shared → budget ≡ p.events
    → run_lines (units_of state_answer (λ s. s.phase) w.plan) w.plan.stop budget w.network
    ≡ run_lines (guest_units p) p.stop p.events (opening_of p (guests_from p.fuel (map nested_module ms) p.nodes))
lines-of p ms w budget e all =
    ap (λ (v : Seen GuestState Guests). run_lines (units_of state_answer (λ s. s.phase) v.plan) v.plan.stop budget v.network) e
    ∙ ideal-lines p ms p.stop budget
    ∙ ap (λ n. run_lines (guest_units p) p.stop n (opening_of p (guests_from p.fuel (map nested_module ms) p.nodes))) all

pub status-of : (p : Plan) (ms : List Module) (w : Seen GuestState Guests) (budget : ℕ)
    → w ≡ opened p (opening_states p.fuel ms p.nodes) w.parts w.shared → budget ≡ p.events
    → run_status (units_of state_answer (λ s. s.phase) w.plan) w.plan.stop budget w.network
    ≡ run_status (guest_units p) p.stop p.events (opening_of p (guests_from p.fuel (map nested_module ms) p.nodes))
status-of p ms w budget e all =
    ap (λ (v : Seen GuestState Guests). run_status (units_of state_answer (λ s. s.phase) v.plan) v.plan.stop budget v.network) e
    ∙ ideal-status p ms p.stop budget
    ∙ ap (λ n. run_status (guest_units p) p.stop n (opening_of p (guests_from p.fuel (map nested_module ms) p.nodes))) all

-- the codes of a network are those of units
pub units-of-codes : (ms : List Module) → All IsUnit (map nested_module ms) → All IsUnitCode ms
units-of-codes [] h = λ k d lt. absurd (omega (arith, lt))
units-of-codes (m ∷ ms) h = λ k d. at (units-of-codes ms (λ i e l. h (suc i) e (omega (arith, l)))) k d
  where
    at : All IsUnitCode ms → (k : ℕ) (d : Module) → k < length (m ∷ ms) → IsUnitCode (get_or (m ∷ ms) k d)
    at rest zero d lt = let u = h 0 (nested_module m) (omega arith) in record { fits = u.fits; bound = u.bound }
    at rest (suc k) d lt = rest k d (omega (arith, lt))
