-- What a node is told of a frame, from the end of the frame to the sessions of that moment.
use Rattle.std.specs.Prelude.{◌≡◌, ℕ, zero, suc, true, Contains, ◌++◌, flat_map, Option, Some, None}
use Rattle.operation_specs.specs.Spelling.{spell}
use Rattle.bus_specs.specs.Bus.{Bus, Mail, Member}
use Rattle.bus_specs.specs.Inbox.{items_of, operation_of_mail}
use Rattle.world_specs.specs.Units.{Units}
use Rattle.world_specs.specs.World.{World, Node}
use Rattle.world_specs.specs.Next.{What, Finish, Return, Sessions, Start, Event, next_event}
use Rattle.world_specs.specs.Sessions.{takes_part, inbox_on}
use Rattle.world_specs.specs.Step.{world_behind}

-- mail waits for a node on a bus, on which no frame runs
pub record Waits {S : Type 0} (w : World S) (bus node : ℕ) (x : Mail) : Type 0 where
  pub on : Bus
  pub there : Contains w.buses on
  pub number : on.setup.number ≡ bus
  pub free : on.running ≡ None
  pub member : Member
  pub among : Contains on.members member
  pub own : member.node ≡ node
  pub mail : member.mail ≡ Some x

-- The node takes part in the sessions of this moment, and what it is given of the bus begins with the mail; the rest is what a node
-- with no mail is given.
pub record IsGiven {S : Type 0} (w : World S) (bus node : ℕ) (x : Mail) : Type 0 where
  pub part : (n : Node S) → Contains w.nodes n → n.number ≡ node → takes_part w.buses w.now n ≡ true
  pub rest : Member
  pub none : rest.mail ≡ None
  pub inbox : inbox_on w.buses w.now node bus ≡ spell (operation_of_mail x) ++ flat_map spell (items_of w.now rest)

abbrev pub AtSessions : Type 0 → Type 0 → What → Type 0
AtSessions then_ else_ (Finish bus) = else_
AtSessions then_ else_ (Return bus node) = else_
AtSessions then_ else_ Sessions = then_
AtSessions then_ else_ (Start bus) = else_

-- there is a next event, at this moment; where it is Sessions the node is given the mail, else it goes on so
abbrev pub GoesOn : ℕ → Type 0 → (Event → Type 0) → Option Event → Type 0
GoesOn now given behind None = ⊥
GoesOn now given behind (Some e) = (e.moment ≡ now) × AtSessions given (behind e) e.what

-- up to so many events the mail waits, or the node has been given it, at this moment
unfoldable pub Hears : {S : Type 0} → Units S → ℕ → ℕ → ℕ → Mail → ℕ → World S → Type 0
Hears u stop bus node x zero w = Waits w bus node x
Hears u stop bus node x (suc k) w = GoesOn w.now (IsGiven w bus node x) (λ e. Hears u stop bus node x k (world_behind u w e)) (next_event stop w)
