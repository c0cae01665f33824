-- What holds of a bus in every history.
use Rattle.std.specs.Prelude.{◌≡◌, ◌≤◌, ℕ, ◌+◌, ◌&&◌, Bool, true, false, not, All, IfSome, List, [], ◌∷◌, length, map, Option, Some, None, is_some, ⊤}
use Rattle.frame_specs.specs.Frame.{Frame, is_fd, is_well_formed}
use Rattle.bus_specs.specs.Bus.{Setup, Request, Member, Mail, Received, Confirm, BusError, Running, Fault, Hurt, Bus, off, has_fd, member_is, among, waiting}
use Rattle.bus_specs.specs.Submit.{Submission, Transmit, FormatError, Unfit}

-- numbers that rise strictly, from a first one on, and below a last one
abbrev pub Rise : ℕ → List ℕ → ℕ → Type 0
Rise from [] below = from ≤ below
Rise from (n ∷ ns) below = (from ≤ n) × Rise (n + 1) ns below

-- a kind of error from 1 on: bit, stuffing, form, CRC, acknowledgement
pub record IsKind (kind most : ℕ) : Type 0 where
  pub some : 1 ≤ kind
  pub within : kind ≤ most

abbrev pub IsSetup : Setup → Type 0
IsSetup s = All (λ e. IsKind e.kind 4) s.errors

-- a frame that can stand on this bus
pub record IsFrame (s : Setup) (f : Frame) : Type 0 where
  pub well_formed : is_well_formed f ≡ true
  pub rate : is_fd f.kind ≡ true → has_fd s ≡ true

pub record IsEcho (bytes : List ℕ) : Type 0 where
  pub some : 1 ≤ length bytes
  pub cut : length bytes ≤ 64

abbrev pub IsMail : Setup → Mail → Type 0
IsMail s (Received f) = IsFrame s f
IsMail s (Confirm id) = ⊤
IsMail s (BusError id kind primary sender) = IsKind kind 5

-- what a bus takes from a node
abbrev pub IsSubmission : Setup → Submission → Type 0
IsSubmission s (Transmit f) = IsFrame s f
IsSubmission s (FormatError bytes) = length bytes ≤ 64
IsSubmission s (Unfit bytes) = IsEcho bytes
IsSubmission s other = ⊤

-- no notice, no mail
pub record HasNothing (m : Member) : Type 0 where
  pub lost : m.lost ≡ None
  pub format : m.format ≡ None
  pub wake : m.wake ≡ None
  pub mail : m.mail ≡ None

-- the occurrences of 11 recessive bits that an off node has seen at most
abbrev pub most_seen : Option Running → ℕ
most_seen None = 128
most_seen (Some r) = 127

pub record SoundMember (s : Setup) (running : Option Running) (m : Member) : Type 0 where
  pub tec : m.counters.tec ≤ 263
  pub rec : m.counters.rec ≤ 255
  pub off : is_some m.occurrences ≡ off m
  pub seen : IfSome m.occurrences (λ n. n ≤ most_seen running)
  pub absent : m.live ≡ false → HasNothing m
  pub echo : IfSome m.format (λ n. IsEcho n.bytes)
  pub mail : IfSome m.mail (IsMail s)

-- a member that is not off
abbrev pub on : List Member → ℕ → Bool
on ms node = member_is (λ m. not (off m)) ms node

-- a member that may send: live and not off
abbrev pub may_send : List Member → ℕ → Bool
may_send ms node = member_is (λ m. m.live && not (off m)) ms node

pub record SoundRequest (s : Setup) (ms : List Member) (q : Request) : Type 0 where
  pub sender : may_send ms q.node ≡ true
  pub frame : IsFrame s q.frame

-- with a fault: its node and kind, and nobody hears what nobody acknowledges; with none somebody hears it
abbrev pub SoundOutcome : List Member → List ℕ → Option Fault → Type 0
SoundOutcome ms heard None = 1 ≤ length heard
SoundOutcome ms heard (Some e) = (on ms e.by ≡ true) × IsKind e.kind 5 × (e.kind ≡ 5 → heard ≡ [])

pub record SoundHurt (ms : List Member) (heard : List ℕ) (h : Hurt) : Type 0 where
  pub on : on ms h.node ≡ true
  pub kind : IsKind h.kind 4
  pub apart : among heard h.node ≡ false

pub record SoundRunning (s : Setup) (ms : List Member) (r : Running) : Type 0 where
  pub sender : on ms r.sender ≡ true
  pub listeners : All (λ n. on ms n ≡ true) r.listeners
  pub rise : (last : ℕ) × Rise 0 r.listeners last
  pub apart : among r.listeners r.sender ≡ false
  pub outcome : SoundOutcome ms r.listeners r.fault
  pub hurt : IfSome r.hurt (SoundHurt ms r.listeners)
  pub frame : IsFrame s r.frame

pub record Sound (b : Bus) : Type 0 where
  pub setup : IsSetup b.setup
  pub nodes : (last : ℕ) × Rise 0 (map (λ m. m.node) b.members) last
  pub numbers : Rise 0 (map (λ q. q.number) b.requests) b.next
  pub requests : All (SoundRequest b.setup b.members) b.requests
  pub at_most : (node : ℕ) → waiting b.requests node ≤ 256
  pub members : All (SoundMember b.setup b.running) b.members
  pub running : IfSome b.running (SoundRunning b.setup b.members)
  pub last : IfSome b.last_sender (λ n. member_is (λ m. true) b.members n ≡ true)
