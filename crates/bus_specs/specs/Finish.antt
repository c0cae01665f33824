-- The end of a frame, and the return of a node that was off (ISO 11898-1, fault confinement and bus-off recovery).
use Rattle.std.specs.Prelude.{ℕ, ◌+◌, ◌-◌, ◌*◌, ◌==◌, ◌&&◌, Bool, true, false, not, List, [], ◌∷◌, ◌++◌, filter, map, flat_map, Option, Some, None, if◌then◌else◌}
use Rattle.frame_specs.specs.Frame.{Frame}
use Rattle.operation_specs.specs.Operation.{Declared, Active, Passive, Off}
use Rattle.bus_specs.specs.Counters.{Counters, is_off, level, Role, Sender, LoneSender, Primary, Secondary, Happening, Sent, Received, Nothing, Missed, count}
use Rattle.bus_specs.specs.Bus.{Request, Mail, Confirm, BusError, Member, Fault, Hurt, Running, Bus, bits, off, among, member_is, with_member}
use Rattle.bus_specs.specs.Bus as bus
use Rattle.log_specs.specs.Line as log
use Rattle.log_specs.specs.Line.{Line, On}

-- what a node is in a running frame
pub data Part : Type 0 where
  Sending Listening Apart : Part
  Hurting : (kind : ℕ) → Part

abbrev pub hurt_part : Option Hurt → ℕ → Part
hurt_part None node = Apart
hurt_part (Some h) node = if h.node == node then Hurting h.kind else Apart

abbrev pub part : Running → ℕ → Part
part r node = if r.sender == node then Sending else if among r.listeners node then Listening else hurt_part r.hurt node

-- kind 5: nobody acknowledges
abbrev pub sender_role : Fault → Role
sender_role e = if e.kind == 5 then LoneSender else Sender

abbrev pub listener_role : Fault → ℕ → Role
listener_role e node = if e.by == node then Primary else Secondary

-- what happens to the counters of a node: a frame is received by who is live and awake, an error is counted by each that takes part
abbrev pub happening : Option Fault → Part → Member → Happening
happening None Sending m = Sent
happening None Listening m = if m.live && m.awake then Received else Nothing
happening (Some e) Sending m = Missed (sender_role e)
happening (Some e) Listening m = Missed (listener_role e m.node)
happening fault (Hurting kind) m = if m.live then Missed Primary else Nothing
happening fault Apart m = Nothing

-- what a live node is told
abbrev pub mail : Frame → Option Fault → Part → Member → Option Mail
mail f None Sending m = Some (Confirm f.id)
mail f None Listening m = if m.awake then Some (bus.Received f) else None
mail f (Some e) Sending m = Some (BusError f.id e.kind (e.by == m.node) true)
mail f (Some e) Listening m = Some (BusError f.id e.kind (e.by == m.node) false)
mail f fault (Hurting kind) m = Some (BusError f.id kind true false)
mail f fault Apart m = None

-- new mail of a live node, else what stands there
abbrev pub mail_after : Bool → Option Mail → Option Mail → Option Mail
mail_after live stands None = stands
mail_after live stands (Some x) = if live then Some x else stands

-- one occurrence more for a node that was off, 0 for one that becomes off
abbrev pub one_more : Option ℕ → ℕ
one_more None = 0
one_more (Some n) = n + 1

abbrev pub occurrences : Counters → Option ℕ → Option ℕ
occurrences c before = if is_off c then Some (one_more before) else None

abbrev pub counters_after : Running → Member → Counters
counters_after r m = count m.counters (happening r.fault (part r m.node) m)

abbrev pub member_after_finish : Running → Member → Member
member_after_finish r m = let c = counters_after r m in record m {
  counters = c;
  occurrences = occurrences c m.occurrences;
  mail = mail_after m.live m.mail (mail r.frame r.fault (part r m.node) m);
}

-- a frame that is delivered waits no longer
abbrev pub is_sent : Running → Option Fault → Request → Bool
is_sent r None q = (q.node == r.sender) && (q.number == r.number)
is_sent r (Some e) q = false

-- an intermission of three bits follows, and a node that is off has no requests
abbrev pub bus_after_finish : Bus → ℕ → Running → Bus
bus_after_finish b now r = let ms = map (member_after_finish r) b.members in record b {
  members = ms;
  requests = filter (λ q. not (is_sent r r.fault q) && not (member_is off ms q.node)) b.requests;
  idle = now + bits b 3;
  last_sender = Some r.sender;
  running = None;
}

-- the listeners to which it is delivered
abbrev pub receivers : Bus → Running → List ℕ
receivers b r = map (λ m. m.node) (filter (λ m. among r.listeners m.node && m.live && m.awake) b.members)

abbrev pub outcome_line : Bus → ℕ → Running → Option Fault → Line
outcome_line b now r None = On now b.setup.number r.sender (log.Done r.frame (receivers b r))
outcome_line b now r (Some e) = On now b.setup.number r.sender (log.Fail r.frame e.kind e.by)

abbrev pub hurt_lines : Bus → ℕ → Option Hurt → List Line
hurt_lines b now None = []
hurt_lines b now (Some h) = On now b.setup.number h.node (log.Hurt h.kind) ∷ []

abbrev pub same_level : Declared → Declared → Bool
same_level Active Active = true
same_level Passive Passive = true
same_level Off Off = true
same_level k l = false

abbrev pub state_lines : Bus → ℕ → Running → Member → List Line
state_lines b now r m = let after = level (counters_after r m) in
    if same_level (level m.counters) after then [] else On now b.setup.number m.node (log.State after) ∷ []

abbrev pub finish_lines : Bus → ℕ → Running → List Line
finish_lines b now r = outcome_line b now r r.fault ∷ hurt_lines b now r.hurt ++ flat_map (state_lines b now r) b.members

abbrev pub finish_with : Bus → ℕ → Option Running → Bus × List Line
finish_with b now None = (b, [])
finish_with b now (Some r) = (bus_after_finish b now r, finish_lines b now r)

-- the bus behind a finish at this moment, and the lines of the finish
unfoldable pub finish : Bus → ℕ → Bus × List Line
finish b now = finish_with b now b.running

-- bus-off recovery takes 128 occurrences of 11 recessive bits
abbrev pub return_moment : Bus → ℕ → ℕ
return_moment b seen = b.idle + (128 - seen) * bits b 11

abbrev pub member_after_return : Member → Member
member_after_return m = record m { counters = record { tec = 0; rec = 0 }; occurrences = None }

-- the bus behind a return at this moment, and its line
unfoldable pub recover : Bus → ℕ → ℕ → Bus × List Line
recover b now node = (with_member b node member_after_return, On now b.setup.number node log.Back ∷ [])
