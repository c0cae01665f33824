-- What is shown of every state of a run, whatever its units are.
use Rattle.std.proofs.Common.{◌≡◌, ◌≤◌, ℕ, zero, suc, ◌+◌, ◌*◌, List, [], ◌∷◌, length, Option, Some, None, refl, sym, ap, ◌∙◌, arith}
use Rattle.std.specs.Prelude.{option_map}
use Rattle.std.proofs.lemmas.List.{length-map}
use Rattle.run_specs.specs.Run.{behind, then_from}
use Rattle.bus_specs.specs.Bus.{Bus}
use Rattle.world_specs.specs.Units.{Units}
use Rattle.world_specs.specs.World.{World, Node}
use Rattle.world_specs.specs.Next.{Event, next_event}
use Rattle.world_specs.specs.Step.{world_behind, event_lines}
use Rattle.world_specs.specs.Network.{network, step}
use Rattle.world_specs.specs.Plan.{Plan, IsPlan, NodePlan, new_nodes, opening_of}
use Rattle.world_specs.specs.Fits.{UnitsFit, Fits}
use Rattle.world_laws.proofs.Changed.{along}
use Rattle.world_laws.proofs.Counted.{counted-step, counted-opens}
use Rattle.world_laws.proofs.Lists.{all-more}
use Rattle.state_laws.proofs.Planned.{planned-along}

-- ---- how many nodes there are

pub new-each : {S : Type 0} (place : ℕ) (ns : List NodePlan) (ss : List S) → length ss ≡ length ns
    → length (new_nodes place ns ss) ≡ length ns
new-each place [] [] e = refl
new-each place [] (s ∷ ss) e = absurd (omega (arith, e))
new-each place (n ∷ ns) [] e = absurd (omega (arith, e))
new-each place (n ∷ ns) (s ∷ ss) e = let r = new-each (place + 1) ns ss (omega (arith, e)) in omega (arith, r)

-- as many as at the opening
pub count-along : {S : Type 0} (u : Units S) (p : Plan) (states : List S) (stop k : ℕ)
    → length (behind (network u stop) k (opening_of p states)).nodes ≡ length (new_nodes 0 p.nodes states)
count-along {S} u p states stop k =
    let w = behind (network u stop) k (opening_of p states) in
    let h = planned-along u p states stop k in
    sym (length-map w.nodes (λ (n : Node S). n.number))
    ∙ ap (λ (ns : List ℕ). length ns) h.numbers
    ∙ length-map (new_nodes 0 p.nodes states) (λ (n : Node S). n.number)
