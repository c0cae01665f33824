use Rattle.std.proofs.Common.{◌≡◌, drop}
use Rattle.std.specs.Prelude.{fold, map}
use Rattle.run_specs.specs.Order.{foremost}
use Rattle.bus_medium.specs.Offers.{request_at, somes, IsPlaceIn}
use Rattle.bus_medium.proofs.Offering.{before, choose}
use Rattle.bus_medium.proofs.offers.foremost_offer.Given as goal

-- What is left to look at leads to the foremost of all.
abbrev pub invariant-loop-offer : goal.invariant-loop-offer
invariant-loop-offer l = record {
  place : IsPlaceIn l.requests l.best;
  best : fold choose (request_at l.requests l.best) (somes (map (request_at l.requests) (drop l.offer-index l.offers)))
      ≡ foremost before (somes (map (request_at l.requests) l.offers));
}
