-- What happens on one of several buses that have their places as their numbers. No public clause cites this file.
use Rattle.std.specs.Prelude.{◌≡◌, ◌==◌, ℕ, Contains, List, [], Some, flat_map, map, if◌then◌else◌}
use Rattle.log_specs.specs.Line.{Line}
use Rattle.bus_specs.specs.Bus.{Bus}
use Rattle.bus_specs.specs.Due.{Due, next_due}
use Rattle.world_specs.specs.Plan.{AllFrom}

abbrev pub HasNumber : ℕ → Bus → Type 0
HasNumber place b = b.setup.number ≡ place

abbrev pub AreNumbered : List Bus → Type 0
AreNumbered bs = AllFrom 0 HasNumber bs

-- this is what the bus of this number does next
pub record IsDueOn (bs : List Bus) (bus : ℕ) (d : Due) : Type 0 where
  pub on : Bus
  pub there : Contains bs on
  pub number : on.setup.number ≡ bus
  pub since : ℕ
  pub next : next_due on since ≡ Some d

-- the buses behind a step of one of them, and its lines
abbrev pub buses_with : ℕ → (Bus → Bus × List Line) → List Bus → List Bus
buses_with bus step bs = map (λ b. if b.setup.number == bus then (step b).0 else b) bs

abbrev pub lines_with : ℕ → (Bus → Bus × List Line) → List Bus → List Line
lines_with bus step bs = flat_map (λ b. if b.setup.number == bus then (step b).1 else []) bs
