-- The exchange of each call: what the bench does before a function of the guest is run, which one is run, with which
-- arguments, and what the bench reads behind it. This is the project's own binding of FMI 3.0's C API (section 2.3) to
-- functions over numbers: what is no number is exchanged in an area of the guest's memory.
use Rattle.std.specs.Prelude.{ℕ, ◌+◌, Bool, true, false, List, [], ◌∷◌, Option, None, Some, Ok, Err, length, nat_le, slice_get, if◌then◌else◌}
use Rattle.fmi_states.specs.declared.status.FmiStatus.{FmiStatus}
use Rattle.fmi_states.specs.declared.status.FmiStatus.TheVariants as status
use Rattle.fmi_states.specs.declared.call.Call.{Call}
use Rattle.fmi_states.specs.declared.call.Call.TheVariants as call
use Rattle.fmi_states.specs.declared.reply.Reply.{Reply}
use Rattle.fmi_states.specs.declared.reply.Reply.TheVariants.{Plain, Clock, Data, Updated, Interval}
use Rattle.fmi_states.specs.declared.reply.Qualifier.{Qualifier}
use Rattle.fmi_states.specs.declared.reply.Qualifier.TheVariants.{NotYetKnown, Unchanged, Changed}
use Rattle.fmi_states.specs.declared.reply.Broken.TheVariants.{Trap, BadReply, BadBuffer}
use Rattle.code_specs.specs.Stores.{number_of_bytes}
use Rattle.binding_specs.specs.declared.function.Function.{Function}
use Rattle.binding_specs.specs.declared.function.Function.TheVariants as function
use Rattle.binding_specs.specs.Exports.{index_of}
use Rattle.binding_specs.specs.Guests.{Guest, most_bytes, bytes_place, area_size}
use Rattle.binding_specs.specs.Pieces.{Piece, ◌>>=◌, gives, breaks, wanted, run, bytes_from, writes}

-- ---- what a function returns

-- a function of the guest is run; one that isn't there counts as trapped, and a module of a unit has all
abbrev pub calls : Guest → Function → (arguments : List ℕ) → Piece (List ℕ)
calls g f arguments = do
  index ← wanted Trap (index_of g.code f)
  run g.code g.budget index arguments

-- the one number that was returned
abbrev pub the_number : List ℕ → Piece ℕ
the_number (n ∷ []) = gives n
the_number other = breaks BadReply

-- the numbers of statuses, 0 to 4 (fmi3Status, section 2.2.3)
abbrev pub statuses : List FmiStatus
statuses = status.Ok ∷ status.Warning ∷ status.Discard ∷ status.Error ∷ status.Fatal ∷ []

-- a function that returns its status is run
abbrev pub status_of : Guest → Function → (arguments : List ℕ) → Piece FmiStatus
status_of g f arguments = do
  numbers ← calls g f arguments
  n ← the_number numbers
  wanted BadReply (slice_get statuses n)

-- the call did what was asked
abbrev pub is_fine : FmiStatus → Bool
is_fine status.Ok = true
is_fine status.Warning = true
is_fine status.Discard = false
is_fine status.Error = false
is_fine status.Fatal = false

-- ---- what is read of the area, at a place in it

abbrev pub bytes_in_area : (place count : ℕ) → Piece (List ℕ)
bytes_in_area place count w = bytes_from (w.area + place) count w

abbrev pub number_in_area : (place count : ℕ) → Piece ℕ
number_in_area place count = do
  bytes ← bytes_in_area place count
  gives (number_of_bytes bytes)

-- four bytes that are 0 or 1
abbrev pub flag_in_area : (place : ℕ) → Piece Bool
flag_in_area place = do
  n ← number_in_area place 4
  wanted BadReply (slice_get (false ∷ true ∷ []) n)

-- four bytes that are 0, 1 or 2 (fmi3IntervalQualifier, section 2.2.9)
abbrev pub qualifier_in_area : (place : ℕ) → Piece Qualifier
qualifier_in_area place = do
  n ← number_in_area place 4
  wanted BadReply (slice_get (NotYetKnown ∷ Unchanged ∷ Changed ∷ []) n)

-- so many bytes, if a variable may have so many
abbrev pub bytes_if : (fits : Bool) → (count : ℕ) → Piece (List ℕ)
bytes_if true count = bytes_in_area bytes_place count
bytes_if false count = breaks BadBuffer

-- a length in four bytes, and so many bytes of a variable that has at most so many
abbrev pub binary_in_area : (most : ℕ) → Piece (List ℕ)
binary_in_area most = do
  count ← number_in_area 0 4
  bytes_if (nat_le count most) count

-- the area of this size begins at this address from now on, if it lies in the memory
abbrev pub place_area : (size address : ℕ) → Piece (Unit {0})
place_area size address w =
    if nat_le (address + size) (length w.store.bytes) then (Ok tt, record w { area = address }) else (Err BadBuffer, w)

-- the guest says where its area is
abbrev pub asks_area : Guest → Piece (Unit {0})
asks_area g = do
  numbers ← calls g function.Area (area_size g.description ∷ [])
  address ← the_number numbers
  place_area (area_size g.description) address

-- ---- replies

-- what is replied with a status that isn't fine, with nothing read
abbrev pub bare_reply : Call → FmiStatus → Reply
bare_reply (call.GetClock reference) status = Clock status false
bare_reply (call.GetBinary reference) status = Data status []
bare_reply call.Update status = Updated status false false
bare_reply (call.GetInterval reference) status = Interval status 0 0 Unchanged
bare_reply other status = Plain status

-- what is replied with a status that is fine
abbrev pub full_reply : Guest → Call → FmiStatus → Piece Reply
full_reply g call.Instantiate status = do
  placed ← asks_area g
  gives (Plain status)
full_reply g (call.GetClock reference) status = do
  ticks ← flag_in_area 0
  gives (Clock status ticks)
full_reply g (call.GetBinary reference) status = do
  bytes ← binary_in_area (most_bytes g.description.terminals reference)
  gives (Data status bytes)
full_reply g call.Update status = do
  another_update ← flag_in_area 0
  end ← flag_in_area 4
  gives (Updated status another_update end)
full_reply g (call.GetInterval reference) status = do
  counter ← number_in_area 0 8
  resolution ← number_in_area 8 8
  qualifier ← qualifier_in_area 16
  gives (Interval status counter resolution qualifier)
full_reply g other status = gives (Plain status)

abbrev pub reply_if : (fine : Bool) → Guest → Call → FmiStatus → Piece Reply
reply_if true g c status = full_reply g c status
reply_if false g c status = gives (bare_reply c status)

-- ---- calls

-- the start function, if there is one
abbrev pub starts : Guest → Option ℕ → Piece (Unit {0})
starts g None = gives tt
starts g (Some index) = do
  numbers ← run g.code g.budget index []
  gives tt

-- what is done before the call's function is run
abbrev pub prepares : Guest → Call → Piece (Unit {0})
prepares g call.Instantiate = starts g g.code.start
prepares g (call.SetBinary reference bytes) = writes (g.area + bytes_place) bytes
prepares g other = gives tt

abbrev pub function_of : Call → Function
function_of call.Instantiate = function.Instantiate
function_of call.EnterInit = function.EnterInit
function_of call.ExitInit = function.ExitInit
function_of call.EnterEvent = function.EnterEvent
function_of call.EnterStep = function.EnterStep
function_of (call.SetClock reference) = function.SetClock
function_of (call.SetBinary reference bytes) = function.SetBinary
function_of (call.GetClock reference) = function.GetClock
function_of (call.GetBinary reference) = function.GetBinary
function_of call.Update = function.Update
function_of (call.GetInterval reference) = function.GetInterval
function_of (call.DoStep from size) = function.DoStep
function_of call.Terminate = function.Terminate
function_of call.Free = function.Free

-- a clock that is set is on
abbrev pub arguments_of : Call → List ℕ
arguments_of (call.SetClock reference) = reference ∷ 1 ∷ []
arguments_of (call.SetBinary reference bytes) = reference ∷ length bytes ∷ []
arguments_of (call.GetClock reference) = reference ∷ []
arguments_of (call.GetBinary reference) = reference ∷ []
arguments_of (call.GetInterval reference) = reference ∷ []
arguments_of (call.DoStep from size) = from ∷ size ∷ []
arguments_of other = []

-- the status of a call; fmi3FreeInstance returns none
abbrev pub status_by : Guest → Call → Piece FmiStatus
status_by g call.Free = do
  numbers ← calls g function.Free []
  gives status.Ok
status_by g c = status_of g (function_of c) (arguments_of c)

-- the exchange of a call
unfoldable pub exchange : Guest → Call → Piece Reply
exchange g c = do
  prepared ← prepares g c
  status ← status_by g c
  reply_if (is_fine status) g c status
