-- Units that are tables: what they transmit at first, at each tick, and for what they receive.
use Rattle.std.specs.Prelude.{ℕ, zero, suc, ◌+◌, ◌==◌, ◌&&◌, Bool, true, false, not, List, [], ◌∷◌, ◌++◌, flat_map, slice_get, bytes_eq, Option, Some, None, if◌then◌else◌}
use Rattle.operation_specs.specs.Operation.{Operation, FormatError}
use Rattle.operation_specs.specs.Spelling.{spell}
use Rattle.bus_specs.specs.Bus.{Bus, new_bus}
use Rattle.session_specs.specs.Outcome.{Emission, DueChange, Keep, At, End, SessionOut}
use Rattle.session_specs.specs.Outcome as session
use Rattle.world_specs.specs.Units.{Units, Given}
use Rattle.world_specs.specs.World.{Node, New}

-- this operation, by this terminal
abbrev pub by : ℕ → Operation → Emission
by terminal op = record { terminal = terminal; bytes = spell op }

-- these bytes at this terminal are answered so
pub record Rule : Type 0 where
  pub terminal : ℕ
  pub bytes : List ℕ
  pub answer : Emission

pub record Table : Type 0 where
  pub first : List Emission
  -- of the one countdown clock; with 0 there is none
  pub period : ℕ
  pub ticks : List Emission
  pub rules : List Rule
  -- the ends of the sessions, Live behind them, and that of the close
  pub ends : List End
  pub close : End
  -- whether the clock ticks once alone, and whether a tick also reports the moment of the last session, as a format error
  pub once : Bool
  pub reports : Bool

abbrev pub is_read : Option (List ℕ) → List ℕ → Bool
is_read None bytes = false
is_read (Some read) bytes = bytes_eq read bytes

abbrev pub answers : Given → Rule → List Emission
answers g r = if is_read (slice_get g.inbox r.terminal) r.bytes then r.answer ∷ [] else []

abbrev pub has_ticked : List ℕ → Bool
has_ticked [] = false
has_ticked (place ∷ places) = true

abbrev pub first_end : List End → End
first_end [] = session.Live
first_end (e ∷ es) = e

abbrev pub later_ends : List End → List End
later_ends [] = []
later_ends (e ∷ es) = es

-- a session that fails emits nothing
abbrev pub unless_down : End → List Emission → List Emission
unless_down session.Live emitted = emitted
unless_down session.Over emitted = emitted
unless_down (session.Down cause) emitted = []

abbrev pub changes : ℕ → ℕ → Bool → List DueChange
changes zero now set = []
changes (suc p) now true = At (now + suc p) ∷ []
changes (suc p) now false = Keep ∷ []

abbrev pub at_first : Table → Given → List Emission
at_first s g = if g.moment == 0 then s.first else []

abbrev pub at_tick : Table → Given → List Emission
at_tick s g = if has_ticked g.ticked then s.ticks ++ (if s.reports then by 0 (FormatError (g.last ∷ [])) ∷ [] else []) else []

abbrev pub session_of : Given → Table → SessionOut × Table
session_of g s = (
  record {
    emitted = unless_down (first_end s.ends) (at_first s g ++ at_tick s g ++ flat_map (answers g) s.rules);
    dues = changes s.period g.moment (if g.moment == 0 then true else has_ticked g.ticked && not s.once);
    end = first_end s.ends;
  },
  record s { ends = later_ends s.ends },
)

abbrev pub tables : Units Table
tables = record { session = λ node g s. session_of g s; close = λ node s. (s.close, s) }

abbrev pub quiet : Table
quiet = record { first = []; period = 0; ticks = []; rules = []; ends = []; close = session.Over; once = false; reports = false }

abbrev pub node : ℕ → List ℕ → Table → Node Table
node number buses table = record { number = number; buses = buses; standing = New table }

-- 500 kbit/s, and a resolution of a nanosecond
abbrev pub bus : ℕ → List ℕ → Bus
bus number members = new_bus (record { number = number; rate = 500000; fd_rate = None; nominal = 2000; data_bit_time = None; errors = [] }) members

abbrev pub line : List ℕ → List ℕ
line text = text ++ 10 ∷ []
