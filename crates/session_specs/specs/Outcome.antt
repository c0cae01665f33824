-- What a session of a unit is given, and what comes of it. Contracts cite this module.
use Rattle.std.specs.Prelude.{ℕ, List}
use Rattle.log_specs.specs.Line.{Cause}

-- What a session is given: its moment and that of the unit's last session, the ticks of a second, the value references
-- of the countdown clocks that tick, and for each terminal the bytes that came in, none where nothing came.
pub record SessionIn : Type 0 where
  pub moment : ℕ
  pub last : ℕ
  pub resolution : ℕ
  pub ticked : List ℕ
  pub inbox : List (List ℕ)

-- bytes that a unit transmits, and the place of their terminal in its description
pub record Emission : Type 0 where
  pub terminal : ℕ
  pub bytes : List ℕ

-- The moment at which a countdown clock is due stays, is there no more, or is this one.
pub data DueChange : Type 0 where
  Keep Clear : DueChange
  At : (due : ℕ) → DueChange

-- The unit goes on, it ended the simulation by its own wish, or it is down.
pub data End : Type 0 where
  Live Over : End
  Down : (why : Cause) → End

-- What comes of a session: what the unit transmitted, one change for each countdown clock, and the end.
pub record SessionOut : Type 0 where
  pub emitted : List Emission
  pub dues : List DueChange
  pub end : End
