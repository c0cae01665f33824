-- What a world keeps while it hasn't failed. No public clause cites this file.
use Rattle.std.specs.Prelude.{◌≡◌, ◌≤◌, ◌*◌, ℕ, All, List, [], ◌∷◌, Option, None, drop, length, take, ⊤}
use Rattle.fmi_states.specs.declared.ecu.Ecu.{Ghosts}
use Rattle.fmi_states.specs.declared.phase.Phase.{Phase}
use Rattle.fmi_states.specs.declared.phase.Phase.TheVariants.{Fresh, Step}
use Rattle.world_specs.specs.Plan.{NodePlan, IsPlan}
use Rattle.state_laws.specs.Words.{IsShort}
use Rattle.state_laws.specs.Within.{IsWithin}
use Rattle.world_core.specs.Courses.{Course, network_of}
use Rattle.world_core.specs.Units.{AreApart, states_of}
use Rattle.world_core.specs.declared.standing.Standing.{Standing}
use Rattle.world_core.specs.declared.standing.Standing.TheVariants.{New, Live, Down, Over}

-- a unit is Fresh while its node is new, and in Step Mode exactly while it is live
abbrev pub IsInPhase : Standing → Phase → Type 0
IsInPhase New phase = phase ≡ Fresh
IsInPhase (Live last) phase = phase ≡ Step
IsInPhase Down phase = ¬ (phase ≡ Step)
IsInPhase Over phase = ¬ (phase ≡ Step)

-- each by its place, and as many of one as of the other
abbrev pub Pairwise : {X Y : Type 0} → (X → Y → Type 0) → List X → List Y → Type 0
Pairwise P [] [] = ⊤
Pairwise P (x ∷ xs) (y ∷ ys) = P x y × Pairwise P xs ys
Pairwise P [] (y ∷ ys) = ⊥
Pairwise P (x ∷ xs) [] = ⊥

-- of the eight entries of a node, those that are no clock of it
abbrev pub unused : NodePlan → Standing → List (Option ℕ) → List (Option ℕ)
unused n (Live last) cs = drop (length n.description.countdown) cs
unused n New cs = cs
unused n Down cs = cs
unused n Over cs = cs

-- and these aren't set
abbrev pub AreUnset : List NodePlan → List Standing → List (Option ℕ) → Type 0
AreUnset (n ∷ ns) (t ∷ ts) cs = All (λ c. c ≡ None) (unused n t (take 8 cs)) × AreUnset ns ts (drop 8 cs)
AreUnset ns ts cs = ⊤

-- the clock entries and the standings, by the nodes
pub record IsArranged (c : Course) : Type 0 where
  pub standings : length c.standings ≡ length c.plan.nodes
  pub clocks : length c.clocks ≡ length c.plan.nodes * 8
  pub unset : AreUnset c.plan.nodes c.standings c.clocks

pub record IsKept {E G S : Type 0} (g : Ghosts E G S) (c : Course) (es : List E) (shared : G) : Type 0 where
  pub plan : IsPlan c.plan
  pub arranged : IsArranged c
  pub within : IsWithin c.plan (states_of g es shared) (network_of c (states_of g es shared))
  pub short : All IsShort c.buses
  pub each : length es ≡ length c.plan.nodes
  pub phases : Pairwise (λ t e. IsInPhase t (g.phase_of (g.state e shared))) c.standings es
  pub apart : AreApart g es shared
