-- How many events a log tells of.
use Rattle.std.specs.Prelude.{◌≡◌, ℕ, ◌+◌, List, [], ◌∷◌, ◌++◌, fold, Option, Some, None, if◌then◌else◌}
use Rattle.bus_specs.specs.Bus.{is}
use Rattle.log_specs.specs.Line.{Line, On, Down, Over, End, Told, Start, LostKept, LostGone, Back, State, Done, Fail, Hurt}

-- the events so far, and the moment whose lines go on
pub record Count : Type 0 where
  pub events : ℕ
  pub open_at : Option ℕ

abbrev pub one_event : Count → Count
one_event c = record { events = c.events + 1; open_at = None }

-- the lines of nodes at one moment are one event
abbrev pub lines_at : Count → ℕ → Count
lines_at c moment = if is moment c.open_at then c else record { events = c.events + 1; open_at = Some moment }

-- A start, an end and a return are an event each. The losers of a start and the states behind an end belong to it.
abbrev pub count_told : Count → ℕ → Told → Count
count_told c moment (Start f) = one_event c
count_told c moment (Done f receivers) = one_event c
count_told c moment (Fail f kind by) = one_event c
count_told c moment Back = one_event c
count_told c moment (LostKept f) = record c { open_at = None }
count_told c moment (LostGone f) = record c { open_at = None }
count_told c moment (Hurt kind) = record c { open_at = None }
count_told c moment (State level) = record c { open_at = None }
count_told c moment other = lines_at c moment

abbrev pub count_line : Count → Line → Count
count_line c (On moment bus node told) = count_told c moment told
count_line c (Down moment node cause) = lines_at c moment
count_line c (Over moment node) = lines_at c moment
count_line c (End status events) = c

-- starts, ends, returns, and moments with lines of nodes
abbrev pub events_in : List Line → ℕ
events_in lines = (fold count_line (record { events = 0; open_at = None }) lines).events

-- The end line tells as many events as stand before it.
abbrev pub EndTellsEvents : List Line → Type 0
EndTellsEvents lines = (before : List Line) (status events : ℕ) → lines ≡ before ++ End status events ∷ [] → events ≡ events_in before
