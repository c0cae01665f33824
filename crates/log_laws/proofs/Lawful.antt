-- What holds at each line of a log, by what its reader knows; and what agrees with a bus.
use Rattle.std.proofs.Common.{◌≡◌, ℕ, ◌+◌, true, false, not, List, [], ◌∷◌, ◌++◌, map, filter, fold, Option, Some, None, sym, subst, append_assoc}
use Rattle.std.specs.Prelude.{option_map, ⊤}
use Rattle.std.specs.List.{list_any}
use Rattle.std.proofs.lemmas.List.Sums.{fold-append}
use Rattle.frame_specs.specs.Frame.{Frame}
use Rattle.run_specs.specs.Order.{IsForemost}
use Rattle.bus_specs.specs.Counters.{level}
use Rattle.bus_specs.specs.Bus.{Bus, Setup, Member, Running, Fault, is}
use Rattle.bus_specs.specs.Waits.{is_meant, waiting_of}
use Rattle.log_specs.specs.Line.{Line, On, Down, Over, End, Told, Start, Req, Full, Drop, LostKept, LostGone, Done, Fail}
use Rattle.log_laws.specs.Mirror.{Seen, OnWire, Mirror, mirror_after, takes_part, seen_is}
use Rattle.log_laws.specs.Starts.{stronger, contenders, IsFree}
use Rattle.log_laws.specs.Deliveries.{IsDelivery, IsFailure, hurt_next, time_on_wire, time_to_error}
use Rattle.log_laws.specs.Losers.{losses, losing, loss_next}
use Rattle.log_laws.specs.Queues.{HasRoom, IsFull, node_off}

-- the lines behind these open no loss and no hurt
pub record Opens (lines : List Line) : Type 0 where
  pub loss : loss_next lines ≡ false
  pub hurt : hurt_next lines ≡ None

pub record StartIs (s : Setup) (m : Mirror) (t bus node : ℕ) (f : Frame) (rest : List Line) : Type 0 where
  pub foremost : IsForemost stronger (contenders s m t) (record { node = node; frame = f })
  pub takes_part : seen_is takes_part m.nodes node ≡ true
  pub free : IsFree m t
  pub losers : losses rest ≡ losing s m t bus node

abbrev pub LawfulTold : Setup → Mirror → ℕ → ℕ → ℕ → Told → List Line → Type 0
LawfulTold s m t bus node (Start f) rest = StartIs s m t bus node f rest
LawfulTold s m t bus node (LostKept f) rest = ⊤
LawfulTold s m t bus node (LostGone f) rest = list_any (is_meant node f) m.waits ≡ true
LawfulTold s m t bus node (Done f ns) rest = IsDelivery s m t node f ns rest × (loss_next rest ≡ false)
LawfulTold s m t bus node (Fail f kind by) rest = IsFailure s m t node f × (loss_next rest ≡ false)
LawfulTold s m t bus node (Req f) rest = HasRoom m node × (loss_next rest ≡ false)
LawfulTold s m t bus node (Full f) rest = IsFull m node × (loss_next rest ≡ false)
LawfulTold s m t bus node (Drop f) rest = (node_off m node ≡ true) × (loss_next rest ≡ false)
LawfulTold s m t bus node other rest = loss_next rest ≡ false

abbrev pub Lawful : Setup → Mirror → Line → List Line → Type 0
Lawful s m (On t bus node told) rest = LawfulTold s m t bus node told rest
Lawful s m (Down t node cause) rest = loss_next rest ≡ false
Lawful s m (Over t node) rest = loss_next rest ≡ false
Lawful s m (End status events) rest = loss_next rest ≡ false

-- lines that are lawful where others follow
abbrev pub Within : Setup → Mirror → List Line → List Line → Type 0
Within s m [] after = ⊤
Within s m (line ∷ lines) after = Lawful s m line (lines ++ after) × Within s (mirror_after s m line) lines after

abbrev pub follow : Setup → Mirror → List Line → Mirror
follow s m lines = fold (mirror_after s) m lines

abbrev pub seen : Member → Seen
seen m = record { node = m.node; awake = m.awake; discards = m.discards; level = level m.counters }

abbrev pub less : Option ℕ → List ℕ → List ℕ
less hurt ns = filter (λ n. not (is n hurt)) ns

abbrev pub hurt_of : Running → Option ℕ
hurt_of r = option_map (λ h. h.node) r.hurt

-- when an attempt ends that started then
abbrev pub EndsBy : Setup → ℕ → Frame → Option Fault → ℕ → Type 0
EndsBy s since f None end = end ≡ since + time_on_wire s f
EndsBy s since f (Some e) end = (bit : ℕ) × (end ≡ since + time_to_error s f bit)

pub record SameFrame (s : Setup) (w : OnWire) (r : Running) : Type 0 where
  pub sender : w.sender ≡ r.sender
  pub frame : w.frame ≡ r.frame
  pub listeners : r.listeners ≡ less (hurt_of r) w.listeners
  pub ends : EndsBy s w.since w.frame r.fault r.end

abbrev pub SameRunning : Setup → Option OnWire → Option Running → Type 0
SameRunning s None None = ⊤
SameRunning s None (Some r) = ⊥
SameRunning s (Some w) None = ⊥
SameRunning s (Some w) (Some r) = SameFrame s w r

pub record Agrees (m : Mirror) (b : Bus) : Type 0 where
  pub nodes : m.nodes ≡ map seen b.members
  pub waits : m.waits ≡ waiting_of b.requests
  pub idle : m.idle ≡ b.idle
  pub last : m.last_sender ≡ b.last_sender
  pub running : SameRunning b.setup m.running b.running

-- the lines of a step that takes a bus to another
pub record Follows (m : Mirror) (s : Setup) (lines : List Line) (b : Bus) : Type 0 where
  pub agrees : Agrees (follow s m lines) b
  pub lawful : (after : List Line) → Opens after → Within s m lines after
  pub opens : (after : List Line) → Opens after → Opens (lines ++ after)

pub within-append : (s : Setup) (m : Mirror) (xs ys after : List Line) → Within s m xs (ys ++ after) → Within s (follow s m xs) ys after → Within s m (xs ++ ys) after
within-append s m [] ys after h k = k
within-append s m (x ∷ xs) ys after h k =
    (subst (λ l. Lawful s m x l) (sym (append_assoc xs ys after)) h.0, within-append s (mirror_after s m x) xs ys after h.1 k)

pub follows-none : (m : Mirror) (s : Setup) (b : Bus) → Agrees m b → Follows m s [] b
follows-none m s b a = record { agrees = a; lawful = λ after o. tt; opens = λ after o. o }

pub follows-append : (m : Mirror) (s : Setup) (xs ys : List Line) (b c : Bus) → Follows m s xs b → Follows (follow s m xs) s ys c → Follows m s (xs ++ ys) c
follows-append m s xs ys b c h k = record {
  agrees = subst (λ x. Agrees x c) (sym (fold-append (mirror_after s) m xs ys)) k.agrees;
  lawful = λ after o. within-append s m xs ys after (h.lawful (ys ++ after) (k.opens after o)) (k.lawful after o);
  opens = λ after o. subst Opens (sym (append_assoc xs ys after)) (h.opens (ys ++ after) (k.opens after o));
}
