use Rattle.std.proofs.Common.{◌≡◌, take}
use Rattle.std.specs.Prelude.{All, map}
use Rattle.bus_medium.specs.Offers.{request_at, offers_of, IsPlaceIn, may_start}
use Rattle.bus_medium.proofs.medium.Medium.offers.Given as goal

-- What the nodes offer of the requests so far.
abbrev pub invariant-loop-index : goal.invariant-loop-index
invariant-loop-index l = record {
  places : All (IsPlaceIn l.self.requests) l.offers.items;
  offers : map (request_at l.self.requests) l.offers.items ≡ offers_of (may_start l.self l.now) (take l.index l.self.requests) l.self.members;
}
