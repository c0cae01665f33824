-- What a session leaves of its node's standing and clock entries. No public clause cites this file.
use Rattle.std.specs.Prelude.{ℕ, List, Option, replicate}
use Rattle.session_specs.specs.Outcome as session
use Rattle.session_specs.specs.Outcome.{DueChange, End}
use Rattle.world_core.specs.Clocks.{settled}
use Rattle.world_core.specs.declared.standing.Standing.{Standing}
use Rattle.world_core.specs.declared.standing.Standing.TheVariants.{Live, Down, Over}

abbrev pub standing_behind : ℕ → End → Standing
standing_behind now session.Live = Live now
standing_behind now session.Over = Over
standing_behind now (session.Down cause) = Down

-- the entries of a node with so many clocks, from this first one on: those of a node that is live no longer are cleared
abbrev pub entries_behind : ℕ → ℕ → ℕ → End → List DueChange → List (Option ℕ) → List (Option ℕ)
entries_behind now first clocks session.Live dues cs = settled now first dues cs
entries_behind now first clocks session.Over dues cs = settled 0 first (replicate clocks session.Clear) cs
entries_behind now first clocks (session.Down cause) dues cs = settled 0 first (replicate clocks session.Clear) cs
