-- The state of a network, and how it opens.
use Rattle.std.specs.Prelude.{◌≡◌, ℕ, false, List, [], ◌∷◌, Option, ⊤}
use Rattle.bus_specs.specs.Bus.{Bus, among}

-- What a node is. A live one has the state of its unit, the moment of its last session, and for each countdown clock the moment at
-- which it ticks next.
pub data Standing (S : Type 0) : Type 0 where
  New : (state : S) → Standing S
  Live : (state : S) (last : ℕ) (clocks : List (Option ℕ)) → Standing S
  Down Over : Standing S

-- a node, with the bus of each of its terminals
pub record Node (S : Type 0) : Type 0 where
  pub number : ℕ
  pub buses : List ℕ
  pub standing : Standing S

-- the events so far, the moment of the last, the buses and the nodes by their numbers
pub record World (S : Type 0) : Type 0 where
  pub events : ℕ
  pub now : ℕ
  pub buses : List Bus
  pub nodes : List (Node S)

-- nothing has happened yet
abbrev pub opening : {S : Type 0} → List Bus → List (Node S) → World S
opening buses nodes = record { events = 0; now = 0; buses = buses; nodes = nodes }

-- each number once
abbrev pub AreDistinct : List ℕ → Type 0
AreDistinct [] = ⊤
AreDistinct (n ∷ ns) = (among ns n ≡ false) × AreDistinct ns
