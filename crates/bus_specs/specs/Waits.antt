-- What waits to be sent, read off a log alone.
use Rattle.std.specs.Prelude.{ℕ, ◌==◌, ◌&&◌, Bool, true, false, not, List, [], ◌∷◌, ◌++◌, filter, fold, map, bytes_eq, if◌then◌else◌}
use Rattle.std.specs.Bool.{beq}
use Rattle.frame_specs.specs.Frame.{Frame, Kind, Data, Remote, Fd}
use Rattle.operation_specs.specs.Operation.{Declared, Active, Passive, Off}
use Rattle.bus_specs.specs.Bus.{Request}
use Rattle.log_specs.specs.Line.{Line, On, Down, Over, End, Told, Req, LostGone, Done, State}

abbrev pub same_kind : Kind → Kind → Bool
same_kind Data Data = true
same_kind Remote Remote = true
same_kind (Fd brs esi) (Fd brs' esi') = beq brs brs' && beq esi esi'
same_kind k l = false

abbrev pub same_frame : Frame → Frame → Bool
same_frame f g = (f.id == g.id) && beq f.ext g.ext && same_kind f.kind g.kind && bytes_eq f.bytes g.bytes

-- a frame of a node
pub record Waiting : Type 0 where
  pub node : ℕ
  pub frame : Frame

abbrev pub is_meant : ℕ → Frame → Waiting → Bool
is_meant node f w = (w.node == node) && same_frame w.frame f

abbrev pub without_first : {X : Type 0} → (X → Bool) → List X → List X
without_first test [] = []
without_first test (x ∷ xs) = if test x then xs else x ∷ without_first test xs

abbrev pub without_node : ℕ → List Waiting → List Waiting
without_node node ws = filter (λ w. not (w.node == node)) ws

abbrev pub at_level : ℕ → List Waiting → Declared → List Waiting
at_level node ws Off = without_node node ws
at_level node ws Active = ws
at_level node ws Passive = ws

-- what is told of a node of this bus
abbrev pub heard : ℕ → List Waiting → Told → List Waiting
heard node ws (Req f) = ws ++ record { node = node; frame = f } ∷ []
heard node ws (LostGone f) = without_first (is_meant node f) ws
heard node ws (Done f receivers) = without_first (is_meant node f) ws
heard node ws (State level) = at_level node ws level
heard node ws other = ws

abbrev pub waiting_after : ℕ → List Waiting → Line → List Waiting
waiting_after bus ws (On moment b node told) = if b == bus then heard node ws told else ws
waiting_after bus ws (Down moment node cause) = without_node node ws
waiting_after bus ws (Over moment node) = without_node node ws
waiting_after bus ws (End status events) = ws

abbrev pub waiting_by_log : ℕ → List Line → List Waiting
waiting_by_log bus lines = fold (waiting_after bus) [] lines

-- the same of a bus
abbrev pub waiting_of : List Request → List Waiting
waiting_of rs = map (λ r. record { node = r.node; frame = r.frame }) rs
