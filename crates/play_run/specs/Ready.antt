-- What lasts through a run: the bus can carry out every action that is still ahead.
use Rattle.std.specs.Prelude.{◌≡◌, ◌≤◌, ◌<◌, ◌+◌, ◌^◌, ℕ, true, List, [], ◌∷◌, All, length, ⊤}
use Rattle.operation_specs.specs.Reading.{IsWhole}
use Rattle.bus_specs.specs.Bus.{Bus, member_is}
use Rattle.play_specs.specs.Scenario.{Action, World}

-- no moment is before the one in front of it, the first not before this one
abbrev pub Rises : ℕ → List Action → Type 0
Rises last [] = ⊤
Rises last (a ∷ as') = (last ≤ a.moment) × Rises a.moment as'

-- the node is a live member, and what it emits is whole
pub record IsTaken (b : Bus) (a : Action) : Type 0 where
  pub live : member_is (λ m. m.live) b.members a.node ≡ true
  pub item : IsWhole a.item
  pub moment : a.moment ≤ 2 ^ 62

-- every one of these actions can be carried out, and there are numbers for all of them
pub record Takes (ahead : List Action) (b : Bus) : Type 0 where
  pub possible : All (IsTaken b) ahead
  pub numbered : b.next + length ahead < 2 ^ 63

-- the actions that are ahead stand by moment, and no attempt is without its event
pub record IsReady (w : World) : Type 0 where
  pub takes : Takes w.ahead w.bus
  pub rises : Rises 0 w.ahead
  pub attempted : w.bus.attempts ≤ w.events
