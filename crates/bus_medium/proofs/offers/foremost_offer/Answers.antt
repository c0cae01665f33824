use Rattle.std.proofs.Common.{◌+◌, ap, sym, ◌∙◌, drop, None, fold, map}
use Rattle.std.proofs.lemmas.List.{drop_more}
use Rattle.bus_medium.specs.Offers.{request_at, somes}
use Rattle.bus_medium.proofs.Offering.{choose, one-more}
use Rattle.bus_medium.proofs.offers.foremost_offer.Goals as goal

pub loop-offer-preserved : goal.loop-offer-preserved
loop-offer-preserved c =
    let rs = c.args.requests.now in
    let os = c.args.offers.now in
    let i = c.loop-offer.offer-index in
    record {
      place = c.better_offer-best.ensures.place;
      best =
          one-more rs c.loop-offer.best c.better_offer-best.result _ (drop (i + 1) os) c.better_offer-best.ensures.value
          ∙ ap (λ l. fold choose (request_at rs c.loop-offer.best) (somes (map (request_at rs) l))) (sym (drop_more os i None c.loop-offer-test.true))
          ∙ c.loop-offer.invariant.best;
    }
