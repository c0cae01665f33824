-- What became of the requests that were accepted, read off a log.
use Rattle.std.specs.Prelude.{◌≡◌, ℕ, ◌+◌, ◌==◌, ◌&&◌, Bool, List, [], ◌∷◌, ◌++◌, count_by, if◌then◌else◌}
use Rattle.frame_specs.specs.Frame.{Frame}
use Rattle.operation_specs.specs.Operation.{Declared, Active, Passive, Off}
use Rattle.bus_specs.specs.Bus.{Setup}
use Rattle.bus_specs.specs.Waits.{Waiting}
use Rattle.log_specs.specs.Line.{Line, On, Down, Over, End, Told, Req, Done, LostGone, State}
use Rattle.log_laws.specs.Mirror.{Mirror, mirror, mirror_after, new_mirror}

-- of the frames that are meant: how many were accepted, delivered and discarded, and fell when their node went off
pub record Account : Type 0 where
  pub accepted : ℕ
  pub delivered : ℕ
  pub discarded : ℕ
  pub fallen : ℕ

abbrev pub new_account : Account
new_account = record { accepted = 0; delivered = 0; discarded = 0; fallen = 0 }

abbrev pub one_if : Bool → ℕ
one_if test = if test then 1 else 0

-- the frames that wait and are meant, and those of one node
abbrev pub meant_waiting : (ℕ → Frame → Bool) → List Waiting → ℕ
meant_waiting is_meant ws = count_by (λ w. is_meant w.node w.frame) ws

abbrev pub meant_of_node : (ℕ → Frame → Bool) → ℕ → List Waiting → ℕ
meant_of_node is_meant node ws = count_by (λ w. (w.node == node) && is_meant w.node w.frame) ws

abbrev pub account_level : (ℕ → Frame → Bool) → List Waiting → ℕ → Account → Declared → Account
account_level is_meant ws node a Off = record a { fallen = a.fallen + meant_of_node is_meant node ws }
account_level is_meant ws node a Active = a
account_level is_meant ws node a Passive = a

abbrev pub account_told : (ℕ → Frame → Bool) → List Waiting → ℕ → Account → Told → Account
account_told is_meant ws node a (Req f) = record a { accepted = a.accepted + one_if (is_meant node f) }
account_told is_meant ws node a (Done f receivers) = record a { delivered = a.delivered + one_if (is_meant node f) }
account_told is_meant ws node a (LostGone f) = record a { discarded = a.discarded + one_if (is_meant node f) }
account_told is_meant ws node a (State level) = account_level is_meant ws node a level
account_told is_meant ws node a other = a

abbrev pub account_line : Setup → (ℕ → Frame → Bool) → List Waiting → Account → Line → Account
account_line s is_meant ws a (On moment bus node told) = if bus == s.number then account_told is_meant ws node a told else a
account_line s is_meant ws a (Down moment node cause) = record a { fallen = a.fallen + meant_of_node is_meant node ws }
account_line s is_meant ws a (Over moment node) = record a { fallen = a.fallen + meant_of_node is_meant node ws }
account_line s is_meant ws a (End status events) = a

abbrev pub account_after : Setup → (ℕ → Frame → Bool) → Mirror → Account → List Line → Account
account_after s is_meant m a [] = a
account_after s is_meant m a (line ∷ lines) = account_after s is_meant (mirror_after s m line) (account_line s is_meant m.waits a line) lines

abbrev pub account : Setup → List ℕ → (ℕ → Frame → Bool) → List Line → Account
account s nodes is_meant lines = account_after s is_meant (new_mirror nodes) new_account lines

-- Whichever frames are meant: those accepted were delivered, were discarded, fell, or wait.
abbrev pub NothingIsForgotten : Setup → List ℕ → List Line → Type 0
NothingIsForgotten s nodes lines = (is_meant : ℕ → Frame → Bool) (before rest : List Line) → lines ≡ before ++ rest
    → (account s nodes is_meant before).accepted
    ≡ (account s nodes is_meant before).delivered + (account s nodes is_meant before).discarded + (account s nodes is_meant before).fallen
    + meant_waiting is_meant (mirror s nodes before).waits
