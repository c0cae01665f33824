-- The step of a network by its next event, and what it does to a world.
use Rattle.std.proofs.Common.{◌≡◌, ◌∙◌, ℕ, false, Ok, Err, List, Result, Some, ap, refl}
use Rattle.std.specs.Prelude.{IfOk, OnOk}
use Rattle.fmi_states.specs.declared.ecu.Ecu.{Ghosts}
use Rattle.log_specs.specs.Line.{Line}
use Rattle.world_specs.specs.Network.{step}
use Rattle.world_specs.specs.Next.{Event, next_event}
use Rattle.world_specs.specs.Plan.{units_of}
use Rattle.world_specs.specs.Step.{event_lines, world_behind}
use Rattle.world_specs.specs.Units.{Units}
use Rattle.world_specs.specs.World.{World}
use Rattle.world_core.specs.Happened.{Happened}
use Rattle.world_core.specs.Left.{KeepsShared, units_behind}
use Rattle.world_core.specs.Seen.{Seen}

step-is : {S : Type 0} (u : Units S) (stop : ℕ) (w after : World S) (e : Event) (lines : List Line)
    → next_event stop w ≡ Some e → after ≡ world_behind u w e → lines ≡ event_lines u w e
    → step u stop w ≡ Some (after, lines)
unfolding step
step-is u stop w after e lines n a l = rw (n, a, l) refl

module _ {E G S X : Type 0} (g : Ghosts E G S) where
  pub happened : (old new : Seen S G) (e : Event) (r : Result (List Line) X) → old.failed ≡ false → next_event old.plan.stop old.network ≡ Some e
      → OnOk r (new ≡ record old {
        network = world_behind (units_of g.answer g.phase_of old.plan) old.network e;
        units = units_behind (units_of g.answer g.phase_of old.plan) old.network e old.units;
        shared = new.shared;
      })
      → OnOk r (KeepsShared e.what old.shared new.shared) → IfOk r (λ lines. lines ≡ event_lines (units_of g.answer g.phase_of old.plan) old.network e)
      → IfOk r (λ lines. Happened g old e lines new)
  happened old new e (Ok lines) goes next behind kept said = record {
    step = step-is (units_of g.answer g.phase_of old.plan) old.plan.stop old.network new.network e lines next (ap (λ (w : Seen S G). w.network) behind) said;
    units = ap (λ (w : Seen S G). w.units) behind;
    parts = ap (λ (w : Seen S G). w.parts) behind;
    shared = kept;
    plan = ap (λ (w : Seen S G). w.plan) behind;
    goes_on = ap (λ (w : Seen S G). w.failed) behind ∙ goes;
  }
  happened old new e (Err why) goes next behind kept said = tt
