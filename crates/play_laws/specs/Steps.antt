-- A step of a sound bus: a frame that starts where it is due, one that ends, and what becomes of a node.
use Rattle.std.specs.Prelude.{◌≡◌, ◌≤◌, ℕ, ◌+◌, ◌-◌, ◌*◌, ◌/◌, true, false, Contains, Some, None}
use Rattle.bus_specs.specs.Bus.{Bus, Member, Running, Fault, off}
use Rattle.bus_specs.specs.Start.{start}
use Rattle.bus_specs.specs.Due.{Due, next_due, at, Start}
use Rattle.bus_specs.specs.Sound.{Sound}

-- a start is due, the last event was before, and this frame runs then
pub record Starts (b : Bus) (since now : ℕ) (r : Running) : Type 0 where
  pub sound : Sound b
  pub due : next_due b since ≡ Some (at Start now)
  pub runs : ((start b now).0).running ≡ Some r

-- this frame runs
pub record Runs (b : Bus) (r : Running) : Type 0 where
  pub sound : Sound b
  pub runs : b.running ≡ Some r

-- one node before and behind a step
pub record Becomes (b after : Bus) (m m' : Member) : Type 0 where
  pub before : Contains b.members m
  pub behind : Contains after.members m'
  pub same : m'.node ≡ m.node

-- live, awake and not off
pub record TakesPart (m : Member) : Type 0 where
  pub live : m.live ≡ true
  pub awake : m.awake ≡ true
  pub on : off m ≡ false

-- the sender finds no acknowledgement
abbrev pub unacknowledged : ℕ → Fault
unacknowledged sender = record { kind = 5; by = sender }

-- a span of 11 bits, and the whole ones since the idle moment
abbrev pub span : Bus → ℕ
span b = 11 * b.setup.nominal

abbrev pub idle_spans : Bus → ℕ → ℕ
idle_spans b now = (now - b.idle) / span b

-- a node that has seen so many occurrences of 11 recessive bits returns when 128 are reached, counting those since the idle moment
pub record Returns (b : Bus) (returning t : ℕ) : Type 0 where
  pub member : Member
  pub among : Contains b.members member
  pub node : member.node ≡ returning
  pub seen : ℕ
  pub count : member.occurrences ≡ Some seen
  pub free : b.running ≡ None
  pub moment : t ≡ b.idle + (128 - seen) * span b
  pub reached : 1 ≤ b.setup.nominal → seen + idle_spans b t ≡ 128

-- an off node has seen one occurrence more
pub record OneMore (m m' : Member) : Type 0 where
  pub seen : ℕ
  pub before : m.occurrences ≡ Some seen
  pub behind : m'.occurrences ≡ Some (seen + 1)
  pub counters : m'.counters ≡ m.counters

-- what comes next comes up to this moment
pub record NextUpTo (b : Bus) (since moment : ℕ) : Type 0 where
  pub due : Due
  pub next : next_due b since ≡ Some due
  pub within : due.moment ≤ moment
