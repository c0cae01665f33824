-- How far a step raises the next request number and the number of attempts.
use Rattle.std.specs.Prelude.{◌≤◌, ◌+◌, ℕ}
use Rattle.bus_specs.specs.Bus.{Bus}

pub record Rises (b after : Bus) (given tried : ℕ) : Type 0 where
  pub next : after.next ≤ b.next + given
  pub attempts : after.attempts ≤ b.attempts + tried
