-- What is told of a node that is down or over.
use Rattle.std.specs.Prelude.{◌≡◌, ℕ, false, ⊤}
use Rattle.bus_specs.specs.Bus.{among}
use Rattle.log_specs.specs.Line.{Line, On, Down, Over, End, Told, Done, Fail, Hurt, State, Back}

-- the end of a frame that was running, and the return of a node that was off
abbrev pub IsOfAnEnd : Told → Type 0
IsOfAnEnd (Done f receivers) = ⊤
IsOfAnEnd (Fail f kind by) = ⊤
IsOfAnEnd (Hurt kind) = ⊤
IsOfAnEnd (State level) = ⊤
IsOfAnEnd Back = ⊤
IsOfAnEnd other = ⊥

-- the node isn't among those that received a frame
abbrev pub IsNotTo : ℕ → Told → Type 0
IsNotTo node (Done f receivers) = among receivers node ≡ false
IsNotTo node other = ⊤

-- a line that tells nothing else of the node
abbrev pub IsSilentOf : ℕ → Line → Type 0
IsSilentOf node (On moment bus n told) = (n ≡ node → IsOfAnEnd told) × IsNotTo node told
IsSilentOf node (Down moment n cause) = n ≡ node → ⊥
IsSilentOf node (Over moment n) = n ≡ node → ⊥
IsSilentOf node (End status events) = ⊤
