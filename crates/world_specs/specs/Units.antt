-- What a network knows of the units in its nodes: what comes of a session of each, and of its close. S is the state of a unit.
use Rattle.std.specs.Prelude.{ℕ, List}
use Rattle.session_specs.specs.Outcome.{SessionOut, End}

-- What a session is given: its moment, that of the node's last session, the places of the countdown clocks that tick, and for each
-- terminal the bytes that came in.
pub record Given : Type 0 where
  pub moment : ℕ
  pub last : ℕ
  pub ticked : List ℕ
  pub inbox : List (List ℕ)

-- by the number of the node: what comes of it, and the state behind it
pub record Units (S : Type 0) : Type 0 where
  pub session : (node : ℕ) → Given → S → SessionOut × S
  pub close : (node : ℕ) → S → End × S
