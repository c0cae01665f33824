-- What holds of nodes and units between the sessions of one moment. No public clause cites this file.
use Rattle.std.specs.Prelude.{◌≡◌, ◌≤◌, ℕ, All, List, length, ⊤}
use Rattle.fmi_states.specs.declared.ecu.Ecu.{Ghosts}
use Rattle.world_specs.specs.Plan.{IsPlan}
use Rattle.world_core.specs.Courses.{Course}
use Rattle.world_core.specs.Kept.{IsArranged, IsInPhase, Pairwise}
use Rattle.world_core.specs.Units.{AreApart}
use Rattle.world_core.specs.declared.standing.Standing.{Standing}
use Rattle.world_core.specs.declared.standing.Standing.TheVariants.{New, Live, Down, Over}

pub record IsHeld {E G S : Type 0} (g : Ghosts E G S) (c : Course) (es : List E) (shared : G) : Type 0 where
  pub plan : IsPlan c.plan
  pub arranged : IsArranged c
  pub each : length es ≡ length c.plan.nodes
  pub phases : Pairwise (λ t e. IsInPhase t (g.phase_of (g.state e shared))) c.standings es
  pub apart : AreApart g es shared

-- the last session of a live node was no later
abbrev pub LastIsBy : ℕ → Standing → Type 0
LastIsBy now New = ⊤
LastIsBy now (Live last) = last ≤ now
LastIsBy now Down = ⊤
LastIsBy now Over = ⊤

abbrev pub LastsAreBy : ℕ → List Standing → Type 0
LastsAreBy now ts = All (LastIsBy now) ts
