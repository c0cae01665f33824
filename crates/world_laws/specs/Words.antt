-- The words of the laws of networks.
use Rattle.std.specs.Prelude.{◌≡◌, ◌≤◌, ℕ, ◌+◌, ◌*◌, ◌==◌, true, false, All, List, [], ◌∷◌, ◌++◌, filter, fold, length, map, if◌then◌else◌, ⊤}
use Rattle.log_specs.specs.Line.{Line, On, Down, Over, End}
use Rattle.fmi_states.specs.declared.call.Call.{Call}
use Rattle.fmi_states.specs.declared.reply.Reply.{Reply}
use Rattle.fmi_states.specs.Reply.{bytes_in, AreBytes}
use Rattle.bus_specs.specs.Bus.{Bus, among, has_request}
use Rattle.bus_specs.specs.Sound.{HasNothing}
use Rattle.bus_specs.specs.Inbox.{has_inbox}
use Rattle.world_specs.specs.Units.{Units}
use Rattle.world_specs.specs.World.{World, Node, Standing, New, Live}
use Rattle.world_specs.specs.World as world
use Rattle.world_specs.specs.Next.{What, Finish, Return, Sessions, Start, enabled}
use Rattle.world_specs.specs.Sessions.{Turn, turns, node_after, takes_part}

abbrev pub IsNewOrLive : {S : Type 0} → Standing S → Type 0
IsNewOrLive (New s) = ⊤
IsNewOrLive (Live s last clocks) = ⊤
IsNewOrLive world.Down = ⊥
IsNewOrLive world.Over = ⊥

abbrev pub IsDownOrOver : {S : Type 0} → Standing S → Type 0
IsDownOrOver (New s) = ⊥
IsDownOrOver (Live s last clocks) = ⊥
IsDownOrOver world.Down = ⊤
IsDownOrOver world.Over = ⊤

abbrev pub IsNew : {S : Type 0} → Standing S → Type 0
IsNew (New s) = ⊤
IsNew (Live s last clocks) = ⊥
IsNew world.Down = ⊥
IsNew world.Over = ⊥

-- a live node has had its last session at this moment
abbrev pub LastAt : {S : Type 0} → ℕ → Standing S → Type 0
LastAt t (New s) = ⊥
LastAt t (Live s last clocks) = last ≡ t
LastAt t world.Down = ⊤
LastAt t world.Over = ⊤

abbrev pub IsSessions : What → Type 0
IsSessions (Finish bus) = ⊥
IsSessions (Return bus node) = ⊥
IsSessions Sessions = ⊤
IsSessions (Start bus) = ⊥

-- nothing that is enabled is before the last event
abbrev pub NothingIsLate : {S : Type 0} → World S → Type 0
NothingIsLate w = All (λ e. w.now ≤ e.moment) (enabled w)

-- no mail and no due notice is there for any node
abbrev pub NothingWaits : ℕ → Bus → Type 0
NothingWaits t b = (node : ℕ) → has_inbox b t node ≡ false

-- ---- the sessions of one moment, one after another

-- the nodes with the one of this number changed
abbrev pub with_node : {S : Type 0} → (Node S → Node S) → List (Node S) → ℕ → List (Node S)
with_node change nodes number = map (λ n. if number == n.number then change n else n) nodes

-- each session from what its node is by then; the buses stay as they were before the event
abbrev pub nodes_in_order : {S : Type 0} → Units S → List Bus → ℕ → List (Node S) → List ℕ → List (Node S)
nodes_in_order u buses t nodes order = fold (with_node (node_after u buses t)) nodes order

-- all that take part stand in the order
abbrev pub Covers : {S : Type 0} → List Bus → ℕ → List (Node S) → List ℕ → Type 0
Covers buses t nodes order = All (λ n. takes_part buses t n ≡ true → among order n.number ≡ true) nodes

-- the sessions of the nodes of one number
abbrev pub turns_of : {S : Type 0} → Units S → List Bus → ℕ → List (Node S) → ℕ → List (Turn S)
turns_of u buses t nodes number = turns u buses t (filter (λ n. number == n.number) nodes)

-- the nodes by now, and the sessions so far
pub record Progress (S : Type 0) : Type 0 where
  pub nodes : List (Node S)
  pub turns : List (Turn S)

abbrev pub one_more : {S : Type 0} → Units S → List Bus → ℕ → Progress S → ℕ → Progress S
one_more u buses t p number = record { nodes = with_node (node_after u buses t) p.nodes number; turns = p.turns ++ turns_of u buses t p.nodes number }

abbrev pub progress_in_order : {S : Type 0} → Units S → List Bus → ℕ → List (Node S) → List ℕ → Progress S
progress_in_order u buses t nodes order = fold (one_more u buses t) (record { nodes = nodes; turns = [] }) order

-- the node has no request on this bus, no notice and no mail
pub record IsLeft (node : ℕ) (b : Bus) : Type 0 where
  pub requests : has_request b.requests node ≡ false
  pub members : All (λ m. m.node ≡ node → HasNothing m) b.members

-- ---- the lines of a log

-- a line of this moment
abbrev pub IsAt : ℕ → Line → Type 0
IsAt t (On moment bus node told) = moment ≡ t
IsAt t (Down moment node cause) = moment ≡ t
IsAt t (Over moment node) = moment ≡ t
IsAt t (End status events) = ⊥

-- the moment behind a line; the end line has none of its own
abbrev pub moment_after : ℕ → Line → ℕ
moment_after last (On moment bus node told) = moment
moment_after last (Down moment node cause) = moment
moment_after last (Over moment node) = moment
moment_after last (End status events) = last

-- no line is earlier than the one before it, the first not before this moment
abbrev pub LinesRise : ℕ → List Line → Type 0
LinesRise last [] = ⊤
LinesRise last (line ∷ lines) = (last ≤ moment_after last line) × LinesRise (moment_after last line) lines

-- ---- units

-- a unit whose binary replies are bytes
abbrev pub AnswersBytes : {S : Type 0} → (S → Call → Reply × S) → Type 0
AnswersBytes {S} answer = (s : S) (c : Call) → AreBytes (bytes_in (answer s c).0)

-- The last line tells the status, and so many events: with those that a run began with at most its budget more, and all of it where
-- the status is 8.
pub record EndsWith (status before budget : ℕ) (lines : List Line) : Type 0 where
  pub body : List Line
  pub events : ℕ
  pub split : lines ≡ body ++ End status events ∷ []
  pub within : events ≤ before + budget
  pub spent : status ≡ 8 → events ≡ before + budget

-- ---- numbers

-- Each attempt took an event, and each event gave out 256 request numbers a node at most.
pub record IsCounted (nodes events : ℕ) (b : Bus) : Type 0 where
  pub attempts : b.attempts ≤ events
  pub numbers : b.next ≤ events * (256 * nodes)

abbrev pub AllCounted : {S : Type 0} → World S → Type 0
AllCounted w = All (IsCounted (length w.nodes) w.events) w.buses
