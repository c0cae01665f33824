-- The laws of logs, line by line.
use Rattle.std.proofs.Common.{◌≡◌, ℕ, false, List, [], ◌∷◌, ◌++◌, subst}
use Rattle.bus_specs.specs.Bus.{Setup}
use Rattle.log_specs.specs.Line.{Line, On, Down, Over, End, Told, Req, Full, Drop, Start, LostKept, LostGone, Keep, Discard, Wake, Sleep, ToldWake, Back, Rate, FdRate, Status, State, FormatError, Bad, ToldFormat, ToldLost, Done, Fail, Hurt}
use Rattle.play_specs.specs.Scenario.{Scenario, scenario_lines}
use Rattle.log_laws.specs.Scenarios.{IsScenario}
use Rattle.log_laws.specs.Mirror.{Mirror, mirror, new_mirror}
use Rattle.log_laws.specs.Starts.{StartsAreForemost, StartersTakePart, StartsWhereFree}
use Rattle.log_laws.specs.Deliveries.{DeliveriesReachListeners, FailuresAreOfTheFrame}
use Rattle.log_laws.specs.Losers.{LosersAreTold, LossesStandBehindStarts, DiscardedFramesWait, is_start, is_loss, tells_start, tells_loss, loss_next}
use Rattle.log_laws.proofs.Lawful.{Lawful, LawfulTold, Within}
use Rattle.log_laws.proofs.Followed.{lines-lawful, lines-open, lawful-at}

pub at-line : (k : ℕ) (p : Scenario) → IsScenario p → (before rest : List Line) (line : Line) → scenario_lines k p ≡ before ++ line ∷ rest
    → Lawful p.setup (mirror p.setup p.nodes before) line rest
at-line k p h before rest line e = lawful-at p.setup (new_mirror p.nodes) before line rest (subst (λ l. Within p.setup (new_mirror p.nodes) l []) e (lines-lawful p k h))

pub starts-foremost : (k : ℕ) (p : Scenario) → IsScenario p → StartsAreForemost p.setup p.nodes (scenario_lines k p)
starts-foremost k p h before rest t bus node f e = (at-line k p h before rest (On t bus node (Start f)) e).foremost

pub starters-take-part : (k : ℕ) (p : Scenario) → IsScenario p → StartersTakePart p.setup p.nodes (scenario_lines k p)
starters-take-part k p h before rest t bus node f e = (at-line k p h before rest (On t bus node (Start f)) e).takes_part

pub starts-free : (k : ℕ) (p : Scenario) → IsScenario p → StartsWhereFree p.setup p.nodes (scenario_lines k p)
starts-free k p h before rest t bus node f e = (at-line k p h before rest (On t bus node (Start f)) e).free

pub deliveries-reach : (k : ℕ) (p : Scenario) → IsScenario p → DeliveriesReachListeners p.setup p.nodes (scenario_lines k p)
deliveries-reach k p h before rest t bus node f ns e = (at-line k p h before rest (On t bus node (Done f ns)) e).0

pub failures-of : (k : ℕ) (p : Scenario) → IsScenario p → FailuresAreOfTheFrame p.setup p.nodes (scenario_lines k p)
failures-of k p h before rest t bus node kind by f e = (at-line k p h before rest (On t bus node (Fail f kind by)) e).0

pub losers-told : (k : ℕ) (p : Scenario) → IsScenario p → LosersAreTold p.setup p.nodes (scenario_lines k p)
losers-told k p h before rest t bus node f e = (at-line k p h before rest (On t bus node (Start f)) e).losers

pub discarded-wait : (k : ℕ) (p : Scenario) → IsScenario p → DiscardedFramesWait p.setup p.nodes (scenario_lines k p)
discarded-wait k p h before rest t bus node f e = at-line k p h before rest (On t bus node (LostGone f)) e

no-loss-told : (s : Setup) (m : Mirror) (t bus node : ℕ) (told : Told) (rest : List Line) → LawfulTold s m t bus node told rest
    → tells_start told ≡ false → tells_loss told ≡ false → loss_next rest ≡ false
no-loss-told s m t bus node (Req f) rest l a b = l.1
no-loss-told s m t bus node (Full f) rest l a b = l.1
no-loss-told s m t bus node (Drop f) rest l a b = l.1
no-loss-told s m t bus node (Start f) rest l a b = absurd cc
no-loss-told s m t bus node (LostKept f) rest l a b = absurd cc
no-loss-told s m t bus node (LostGone f) rest l a b = absurd cc
no-loss-told s m t bus node Keep rest l a b = l
no-loss-told s m t bus node Discard rest l a b = l
no-loss-told s m t bus node Wake rest l a b = l
no-loss-told s m t bus node Sleep rest l a b = l
no-loss-told s m t bus node ToldWake rest l a b = l
no-loss-told s m t bus node Back rest l a b = l
no-loss-told s m t bus node (Rate v) rest l a b = l
no-loss-told s m t bus node (FdRate v) rest l a b = l
no-loss-told s m t bus node (Status v) rest l a b = l
no-loss-told s m t bus node (State v) rest l a b = l
no-loss-told s m t bus node (FormatError v) rest l a b = l
no-loss-told s m t bus node (Bad v) rest l a b = l
no-loss-told s m t bus node (ToldFormat v) rest l a b = l
no-loss-told s m t bus node (ToldLost v) rest l a b = l
no-loss-told s m t bus node (Done f ns) rest l a b = l.1
no-loss-told s m t bus node (Fail f kind by) rest l a b = l.1
no-loss-told s m t bus node (Hurt kind) rest l a b = l

no-loss : (s : Setup) (m : Mirror) (line : Line) (rest : List Line) → Lawful s m line rest → is_start line ≡ false → is_loss line ≡ false → loss_next rest ≡ false
no-loss s m (On t bus node told) rest l a b = no-loss-told s m t bus node told rest l a b
no-loss s m (Down t node cause) rest l a b = l
no-loss s m (Over t node) rest l a b = l
no-loss s m (End status events) rest l a b = l

pub losses-behind : (k : ℕ) (p : Scenario) → IsScenario p → LossesStandBehindStarts (scenario_lines k p)
losses-behind k p h = record {
  first = (lines-open p k h).loss;
  behind = λ before rest line e a b. no-loss p.setup (mirror p.setup p.nodes before) line rest (at-line k p h before rest line e) a b;
}
