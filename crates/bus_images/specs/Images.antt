-- What is saved of a bus: its state, without its setup, its nodes' numbers and who is live. Contracts cite this module.
use Rattle.std.specs.Prelude.{ℕ, Bool, List, [], ◌∷◌, filter_map, map, if◌then◌else◌, Option, Some, None}
use Rattle.bus_specs.specs.Counters.{Counters}
use Rattle.bus_specs.specs.Bus.{Bus, Setup, Member, Request, Running, LostNotice, FormatNotice, Mail, among}

-- a node of a bus, without its number and whether it is live there
pub record MemberImage : Type 0 where
  pub awake : Bool
  pub discards : Bool
  pub counters : Counters
  pub occurrences : Option ℕ
  pub lost : Option LostNotice
  pub format : Option FormatNotice
  pub wake : Option ℕ
  pub mail : Option Mail

-- a bus without its setup
pub record BusImage : Type 0 where
  pub attempts : ℕ
  pub next : ℕ
  pub idle : ℕ
  pub last_sender : Option ℕ
  pub running : Option Running
  pub requests : List Request
  pub members : List MemberImage

-- ---- what is saved

abbrev pub member_image : Member → MemberImage
member_image m = record {
  awake = m.awake;
  discards = m.discards;
  counters = m.counters;
  occurrences = m.occurrences;
  lost = m.lost;
  format = m.format;
  wake = m.wake;
  mail = m.mail;
}

abbrev pub bus_image : Bus → BusImage
bus_image b = record {
  attempts = b.attempts;
  next = b.next;
  idle = b.idle;
  last_sender = b.last_sender;
  running = b.running;
  requests = b.requests;
  members = map member_image b.members;
}

-- the nodes that are live on a bus
abbrev pub live_nodes : Bus → List ℕ
live_nodes b = filter_map (λ m. if m.live then Some m.node else None) b.members

-- ---- the way back, where it is told which nodes the bus has and who of them is live

abbrev pub member_from : (live : List ℕ) → (node : ℕ) → MemberImage → Member
member_from live node i = record {
  node = node;
  live = among live node;
  awake = i.awake;
  discards = i.discards;
  counters = i.counters;
  occurrences = i.occurrences;
  lost = i.lost;
  format = i.format;
  wake = i.wake;
  mail = i.mail;
}

-- each image is that of the node in its place
abbrev pub members_from : (live nodes : List ℕ) → List MemberImage → List Member
members_from live (n ∷ ns) (i ∷ is) = member_from live n i ∷ members_from live ns is
members_from live ns is = []

abbrev pub bus_from : Setup → (nodes live : List ℕ) → BusImage → Bus
bus_from s nodes live i = record {
  setup = s;
  members = members_from live nodes i.members;
  requests = i.requests;
  next = i.next;
  attempts = i.attempts;
  idle = i.idle;
  last_sender = i.last_sender;
  running = i.running;
}
