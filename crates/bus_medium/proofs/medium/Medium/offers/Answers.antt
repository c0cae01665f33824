use Rattle.std.proofs.Common.{arith, ◌≡◌, ◌≤◌, ◌∙◌, ap, length, map, None}
use Rattle.std.proofs.lemmas.List.{take_all}
use Rattle.std.proofs.lemmas.List.Elements.{All-map}
use Rattle.bus_specs.specs.Bus.{Bus}
use Rattle.bus_medium.specs.Offers.{IsPlaceIn, offers_of, somes, may_start}
use Rattle.bus_medium.proofs.Offering.{no-offers, offers-are}
use Rattle.bus_medium.proofs.medium.Medium.offers.Goals as goal

pub loop-index-init : goal.loop-index-init
loop-index-init c =
    let rs = c.args.self.now.requests in
    let ms = c.args.self.now.members in
    let members : c.deref.result.now ≡ ms = c.deref.ensures.value ∙ ap (λ (v : Bus). v.members) c.self.view_is in
    let items : c.in_ok-offers.offers.items ≡ map (λ m. None) ms = rw members at c.in_ok-offers.ensures in
    record {
      places = rw items (All-map (IsPlaceIn rs) (λ m. None) ms (λ k d h. tt));
      offers = rw items (no-offers (may_start c.args.self.now c.args.now) rs ms);
    }

pub returns-clause-offers : goal.returns-clause-offers
returns-clause-offers c =
    let b = c.args.self.now in
    let requests : length c.self.inside.requests.items ≡ length b.requests = ap (λ (v : Bus). length v.requests) c.self.view_is in
    let whole : length b.requests ≤ c.loop-index.index = omega (arith, requests, c.len-index-end.ensures) in
    ap somes (c.loop-index.invariant.offers ∙ ap (λ l. offers_of (may_start b c.args.now) l b.members) (take_all c.loop-index.index b.requests whole))
    ∙ offers-are b c.args.now
