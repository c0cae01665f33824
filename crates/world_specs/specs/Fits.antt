-- What holds of a network in every state that a run comes to.
use Rattle.std.specs.Prelude.{◌≡◌, ◌≤◌, ◌<◌, ◌==◌, ◌&&◌, ℕ, Bool, true, false, All, IfSome, List, is_some, map, ⊤}
use Rattle.std.specs.List.{list_any}
use Rattle.fmi_states.specs.Reply.{AreBytes}
use Rattle.session_specs.specs.Outcome.{DueChange, Keep, Clear, At}
use Rattle.bus_specs.specs.Bus.{Bus, among, member_is}
use Rattle.bus_specs.specs.Sound.{Sound}
use Rattle.bus_specs.specs.InTime.{InTime}
use Rattle.world_specs.specs.Units.{Given, Units}
use Rattle.world_specs.specs.World.{AreDistinct, Node, Standing, New, Live, Down, Over, World}

-- ---- what each unit does

-- a clock is set behind the moment of its session
abbrev pub IsSetBehind : ℕ → DueChange → Type 0
IsSetBehind moment Keep = ⊤
IsSetBehind moment Clear = ⊤
IsSetBehind moment (At due) = moment < due

-- A session sets clocks behind its moment, and what it emits are bytes.
pub record UnitsFit {S : Type 0} (u : Units S) : Type 0 where
  pub clocks : (node : ℕ) (g : Given) (s : S) → All (IsSetBehind g.moment) ((u.session node g s).0).dues
  pub bytes : (node : ℕ) (g : Given) (s : S) → All (λ e. AreBytes e.bytes) ((u.session node g s).0).emitted

-- ---- what each node is

-- its last session was at this moment or before it, and before it
abbrev pub LastBy : {S : Type 0} → ℕ → Standing S → Type 0
LastBy t (New s) = ⊤
LastBy t (Live s last clocks) = last ≤ t
LastBy t Down = ⊤
LastBy t Over = ⊤

abbrev pub LastBefore : {S : Type 0} → ℕ → Standing S → Type 0
LastBefore t (New s) = ⊤
LastBefore t (Live s last clocks) = last < t
LastBefore t Down = ⊤
LastBefore t Over = ⊤

-- its clocks tick at this moment or behind it
abbrev pub ClocksFrom : {S : Type 0} → ℕ → Standing S → Type 0
ClocksFrom t (New s) = ⊤
ClocksFrom t (Live s last clocks) = All (λ c. IfSome c (λ due. t ≤ due)) clocks
ClocksFrom t Down = ⊤
ClocksFrom t Over = ⊤

abbrev pub is_live : {S : Type 0} → Standing S → Bool
is_live (New s) = false
is_live (Live s last clocks) = true
is_live Down = false
is_live Over = false

-- ---- what they are together

-- a live node of this number
abbrev pub is_live_node : {S : Type 0} → List (Node S) → ℕ → Bool
is_live_node nodes number = list_any (λ n. (n.number == number) && is_live n.standing) nodes

-- each session was before this moment
abbrev pub AllBefore : {S : Type 0} → ℕ → List (Node S) → Type 0
AllBefore t nodes = All (λ n. LastBefore t n.standing) nodes

-- where a frame ends at this moment, each session was before it
abbrev pub EndsBehind : {S : Type 0} → ℕ → List (Node S) → Bus → Type 0
EndsBehind t nodes b = IfSome b.running (λ r. r.end ≡ t → AllBefore t nodes)

-- where mail is there, each session was before this moment
abbrev pub MailBehind : {S : Type 0} → ℕ → List (Node S) → Bus → Type 0
MailBehind t nodes b = All (λ m. is_some m.mail ≡ true → AllBefore t nodes) b.members

-- a member is live exactly where it is a live node
abbrev pub IsJoined : {S : Type 0} → List (Node S) → Bus → Type 0
IsJoined nodes b = All (λ m. m.live ≡ is_live_node nodes m.node) b.members

-- the node is a member of the bus where one of its terminals names the bus
abbrev pub IsAttached : {S : Type 0} → Bus → Node S → Type 0
IsAttached b n = among n.buses b.setup.number ≡ true → member_is (λ m. true) b.members n.number ≡ true

pub record Fits {S : Type 0} (w : World S) : Type 0 where
  -- each bus is sound, a nominal bit takes a tick at least, and nothing that is still to happen is past
  pub sound : All Sound w.buses
  pub bits : All (λ b. 1 ≤ b.setup.nominal) w.buses
  pub in_time : All (InTime w.now) w.buses
  pub clocks : All (λ n. ClocksFrom w.now n.standing) w.nodes
  -- no session was after the last event; each was before it where a frame ends at its moment, or mail is there
  pub lasts : All (λ n. LastBy w.now n.standing) w.nodes
  pub endings : All (EndsBehind w.now w.nodes) w.buses
  pub mail : All (MailBehind w.now w.nodes) w.buses
  -- the nodes are on their buses, and live there exactly while they are live
  pub attached : All (λ b. All (IsAttached b) w.nodes) w.buses
  pub joined : All (IsJoined w.nodes) w.buses
  -- each bus and each node has a number of its own
  pub bus_numbers : AreDistinct (map (λ b. b.setup.number) w.buses)
  pub node_numbers : AreDistinct (map (λ n. n.number) w.nodes)
