-- What the end of a frame makes of each member, and what it tells, by the parts of a bus. No public clause cites this file.
use Rattle.std.specs.Prelude.{◌≤◌, ℕ, ◌&&◌, List, [], ◌∷◌, IfSome, Option, Some, None, if◌then◌else◌}
use Rattle.std.specs.Option.{option_or}
use Rattle.bus_specs.specs.Counters.{Counters, level}
use Rattle.bus_specs.specs.Bus.{Member, Mail, Running, Fault, Hurt, among}
use Rattle.bus_specs.specs.Finish as model
use Rattle.bus_specs.specs.Finish.{counters_after, occurrences, same_level}
use Rattle.log_specs.specs.Line as log
use Rattle.log_specs.specs.Line.{Line, On}

-- counters and occurrences that can be counted on
pub record IsCounted (m : Member) : Type 0 where
  pub tec : m.counters.tec ≤ 263
  pub rec : m.counters.rec ≤ 255
  pub seen : IfSome m.occurrences (λ n. n ≤ 128)

-- what a member becomes: its counters, and new mail
pub record After : Type 0 where
  pub counters : Counters
  pub mail : Option Mail

abbrev pub mail_of_live : Running → model.Part → Member → Option Mail
mail_of_live r p m = if m.live then model.mail r.frame r.fault p m else None

abbrev pub after : Running → Member → After
after r m = record { counters = counters_after r m; mail = mail_of_live r (model.part r m.node) m }

abbrev pub with_after : After → Member → Member
with_after a m = record m { counters = a.counters; occurrences = occurrences a.counters m.occurrences; mail = option_or a.mail m.mail }

-- each member with what it becomes
abbrev pub with_afters : List After → List Member → List Member
with_afters [] ms = ms
with_afters (a ∷ as') [] = []
with_afters (a ∷ as') (m ∷ ms) = with_after a m ∷ with_afters as' ms

abbrev pub receiver : Running → Member → List ℕ
receiver r m = if among r.listeners m.node && m.live && m.awake then m.node ∷ [] else []

abbrev pub state_line : ℕ → ℕ → Counters → Member → List Line
state_line now bus c m = if same_level (level m.counters) (level c) then [] else On now bus m.node (log.State (level c)) ∷ []

abbrev pub outcome : ℕ → ℕ → Running → List ℕ → Option Fault → Line
outcome now bus r receivers None = On now bus r.sender (log.Done r.frame receivers)
outcome now bus r receivers (Some e) = On now bus r.sender (log.Fail r.frame e.kind e.by)

abbrev pub hurt_line : ℕ → ℕ → Option Hurt → List Line
hurt_line now bus None = []
hurt_line now bus (Some h) = On now bus h.node (log.Hurt h.kind) ∷ []
