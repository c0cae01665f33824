-- A node of a network as its code reads it: what holds of the network, and the plan and the standing at the node's place.
use Rattle.std.proofs.Common.{◌≡◌, ◌<◌, ℕ, List, length, get_or, Some, slice_get, arith, sym, subst}
use Rattle.std.proofs.lemmas.Option.{slice_get_read}
use Rattle.fmi_states.specs.declared.ecu.Ecu.{Ghosts}
use Rattle.world_specs.specs.Plan.{NodePlan}
use Rattle.world_core.specs.Courses.{Course}
use Rattle.world_core.specs.Held.{IsHeld}
use Rattle.world_core.specs.declared.standing.Standing.{Standing}

pub record IsPlaced {E G S : Type 0} (g : Ghosts E G S) (x : Course) (es : List E) (shared : G)
    (node : ℕ) (n : NodePlan) (t : Standing) : Type 0 where
  pub held : IsHeld g x es shared
  pub here : slice_get x.plan.nodes node ≡ Some n
  pub standing : slice_get x.standings node ≡ Some t

pub placed : {E G S : Type 0} (g : Ghosts E G S) (x y : Course) (es : List E) (shared : G) (node : ℕ) (n : NodePlan) (t : Standing)
    (nodes standings : ℕ)
    → x ≡ y → IsHeld g y es shared → node < length y.plan.nodes
    → nodes ≡ length x.plan.nodes → n ≡ get_or x.plan.nodes node n
    → standings ≡ length x.standings → t ≡ get_or x.standings node t
    → IsPlaced g x es shared node n t
placed g x y es shared node n t nodes standings view is there many at many-stand stands =
    let held : IsHeld g x es shared = subst (λ (c : Course). IsHeld g c es shared) (sym view) is in
    let within : node < length x.plan.nodes = subst (λ (c : Course). node < length c.plan.nodes) (sym view) there in
    let as-many = held.arranged.standings in
    record {
      held = held;
      here = slice_get_read x.plan.nodes nodes node n many (omega (arith, within, many)) at;
      standing = slice_get_read x.standings standings node t many-stand (omega (arith, within, as-many, many-stand)) stands;
    }
