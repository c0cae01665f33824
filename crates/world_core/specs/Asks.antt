-- What a node may ask of a bus. No public clause cites this file.
use Rattle.std.specs.Prelude.{◌≡◌, ◌<◌, ◌+◌, ◌^◌, ℕ, true, All, List, fold}
use Rattle.log_specs.specs.Line.{Line}
use Rattle.operation_specs.specs.Reading.{Item, IsWhole}
use Rattle.bus_specs.specs.Bus.{Bus, member_is, waiting}
use Rattle.bus_specs.specs.Sound.{Sound}
use Rattle.world_specs.specs.Sessions.{submission_step}

-- items are submitted, in order
abbrev pub submitted : ℕ → ℕ → Bus × List Line → List Item → Bus × List Line
submitted now node so_far items = fold (submission_step now node) so_far items

-- the node is live there, and there are numbers for its requests
pub record MayAsk (node : ℕ) (b : Bus) : Type 0 where
  pub live : member_is (λ m. m.live) b.members node ≡ true
  pub sound : Sound b
  pub room : b.next + 256 < 2 ^ 63 + waiting b.requests node

pub record MaySubmit (node : ℕ) (items : List Item) (b : Bus) : Type 0 where
  pub asks : MayAsk node b
  pub whole : All IsWhole items
