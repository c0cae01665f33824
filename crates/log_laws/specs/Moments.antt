-- When the lines of a log are, and how it ends.
use Rattle.std.specs.Prelude.{◌≡◌, ◌≤◌, ◌<◌, ◌⊎◌, ℕ, ◌+◌, Some, None, Bool, true, false, All, List, [], ◌∷◌, ◌++◌, ⊤}
use Rattle.log_specs.specs.Line.{Line, On, Down, Over, End, Told}
use Rattle.play_specs.specs.Scenario.{Action, Scenario, scenario_lines, scenario_status}
use Rattle.log_laws.specs.Mirror.{OnWire, mirror}
use Rattle.log_laws.specs.Starts.{last_moment, contenders}
use Rattle.log_laws.specs.Deliveries.{time_on_wire, time_to_error}

-- from this moment on, none is earlier than one before it
abbrev pub Rising : ℕ → List Action → Type 0
Rising from [] = ⊤
Rising from (a ∷ as') = (from ≤ a.moment) × Rising a.moment as'

abbrev pub ByMoment : Scenario → Type 0
ByMoment p = Rising 0 p.actions

-- No line is earlier than the one before it.
abbrev pub MomentsNeverFall : List Line → Type 0
MomentsNeverFall lines = (before rest : List Line) (t bus node : ℕ) (told : Told) → lines ≡ before ++ On t bus node told ∷ rest → last_moment before ≤ t

-- Each line is up to the stop and of this bus.
pub record IsOf (p : Scenario) (t bus : ℕ) : Type 0 where
  pub within : t ≤ p.stop
  pub here : bus ≡ p.setup.number

abbrev pub LinesAreOf : Scenario → List Line → Type 0
LinesAreOf p lines = (before rest : List Line) (t bus node : ℕ) (told : Told) → lines ≡ before ++ On t bus node told ∷ rest → IsOf p t bus

abbrev pub is_told : Line → Bool
is_told (On t bus node told) = true
is_told (Down t node cause) = false
is_told (Over t node) = false
is_told (End status events) = false

-- The last line, and no other, is an end line with this status: 0, or 8 where the budget of events is spent.
pub record EndsWith (status budget : ℕ) (lines : List Line) : Type 0 where
  pub body : List Line
  pub events : ℕ
  pub split : lines ≡ body ++ End status events ∷ []
  pub told : All (λ line. is_told line ≡ true) body
  pub within : events ≤ budget
  pub spent : status ≡ 8 → events ≡ budget

-- What a larger budget adds stands in the place of the end line, and there is nothing where the status is 0.
pub record GoesOn (budget more : ℕ) (p : Scenario) : Type 0 where
  pub body : List Line
  pub events : ℕ
  pub rest : List Line
  pub smaller : scenario_lines budget p ≡ body ++ End (scenario_status budget p) events ∷ []
  pub larger : scenario_lines (budget + more) p ≡ body ++ rest
  pub nothing : scenario_status budget p ≡ 0 → scenario_lines (budget + more) p ≡ scenario_lines budget p

-- Where a run ends with status 0: no frame is on the wire, and nothing that waits could start up to the stop; or the frame on the wire
-- ends after the stop.
pub record NothingIsLeft (p : Scenario) (lines : List Line) : Type 0 where
  pub idle : (before : List Line) (events : ℕ) → lines ≡ before ++ End 0 events ∷ [] → (mirror p.setup p.nodes before).running ≡ None
      → (moment : ℕ) → last_moment before ≤ moment → moment ≤ p.stop → contenders p.setup (mirror p.setup p.nodes before) moment ≡ []
  pub busy : (before : List Line) (events : ℕ) (w : OnWire) → lines ≡ before ++ End 0 events ∷ [] → (mirror p.setup p.nodes before).running ≡ Some w
      → (p.stop < w.since + time_on_wire p.setup w.frame) ⊎ ((bit : ℕ) × (p.stop < w.since + time_to_error p.setup w.frame bit))
