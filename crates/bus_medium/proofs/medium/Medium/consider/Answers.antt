use Rattle.std.proofs.Common.{◌≡◌, ◌<◌, slice_get, length, Some, None, get_or, true, false, sym, ◌∙◌, ap, refl, take, subst}
use Rattle.std.proofs.lemmas.List.{get_or_default}
use Rattle.std.proofs.lemmas.Option.{slice_get_read}
use Rattle.bus_specs.specs.Bus.{Bus, Request, member_is}
use Rattle.bus_specs.specs.Sound.{Rise}
use Rattle.bus_sound.proofs.Members.{nodes_of}
use Rattle.bus_medium.specs.Places.{holds}
use Rattle.bus_medium.specs.Offers.{request_at, may_start}
use Rattle.bus_medium.proofs.Offering.{passed, considered, within, choose}
use Rattle.bus_medium.proofs.medium.Medium.consider.Goals as goal

pub returns-else-may_start-clause-offers : goal.returns-else-may_start-clause-offers
returns-else-may_start-clause-offers c =
    let rs = c.args.self.now.requests in
    let ms = c.args.self.now.members in
    let may = may_start c.args.self.now c.args.now in
    let r = c.index-request.result.now in
    let m = c.index.result.now in
    let p = c.in-Some.place in
    let requests : c.self.inside.requests.items ≡ rs = ap (λ (v : Bus). v.requests) c.self.view_is in
    let members : c.self.inside.members.items ≡ ms = ap (λ (v : Bus). v.members) c.self.view_is in
    let node : c.request.inside.node ≡ r.node = ap (λ (q : Request). q.node) c.request.view_is in
    let at : slice_get rs c.args.index ≡ Some r = slice_get_read rs (length rs) c.args.index r refl c.requires.index (c.index-request.ensures ∙ ap (λ l. get_or l c.args.index r) requests) in
    let same : c.deref.result.now ≡ ms = c.deref.ensures.value ∙ members in
    let there : p < length ms = rw same at c.in-Some.ensures.place in
    let here : slice_get ms p ≡ Some m = slice_get_read ms (length ms) p m refl there (c.index.ensures ∙ ap (λ l. get_or l p m) members) in
    let test : member_is may ms r.node ≡ holds may (slice_get ms p) = rw (same, node) at (c.in-Some.ensures.test may) in
    let none : member_is may ms r.node ≡ false = test ∙ ap (holds may) here ∙ sym c.may_start.ensures ∙ c.if-may_start.false in
    c.requires.offers ∙ sym (passed may rs c.args.index r ms at none)

pub returns-then-may_start-clause-offers : goal.returns-then-may_start-clause-offers
returns-then-may_start-clause-offers c =
    let rs = c.args.self.now.requests in
    let ms = c.args.self.now.members in
    let os = c.args.offers.now.items in
    let may = may_start c.args.self.now c.args.now in
    let r = c.index-request.result.now in
    let m = c.index.result.now in
    let p = c.in-Some.place in
    let j = c.better-offer.result in
    let o = c.index-then-may_start.result.now in
    let requests : c.self.inside.requests.items ≡ rs = ap (λ (v : Bus). v.requests) c.self.view_is in
    let members : c.self.inside.members.items ≡ ms = ap (λ (v : Bus). v.members) c.self.view_is in
    let node : c.request.inside.node ≡ r.node = ap (λ (q : Request). q.node) c.request.view_is in
    let at : slice_get rs c.args.index ≡ Some r = slice_get_read rs (length rs) c.args.index r refl c.requires.index (c.index-request.ensures ∙ ap (λ l. get_or l c.args.index r) requests) in
    let same : c.deref.result.now ≡ ms = c.deref.ensures.value ∙ members in
    let there : p < length ms = rw same at c.in-Some.ensures.place in
    let here : slice_get ms p ≡ Some m = slice_get_read ms (length ms) p m refl there (c.index.ensures ∙ ap (λ l. get_or l p m) members) in
    let its : m.node ≡ r.node = (rw same at c.in-Some.ensures.node) m here ∙ node in
    let can : may m ≡ true = sym c.may_start.ensures ∙ c.if-may_start.true in
    let nodes = c.self.invariant.sound.nodes in
    let up : Rise 0 (nodes_of ms) nodes.0 = subst (λ l. Rise 0 (nodes_of l) nodes.0) members nodes.1 in
    let room : p < length os = within may rs os (take c.args.index rs) ms p m c.requires.offers here in
    let all : c.deref-then-may_start.result.now ≡ rs = c.deref-then-may_start.ensures.value ∙ requests in
    let best : slice_get rs j ≡ choose (request_at rs o) r = (rw all at c.better-offer.ensures.value) r at in
    let old : o ≡ get_or os p None = c.index-then-may_start.ensures ∙ get_or_default os p o None room in
    considered may rs c.args.index p j r os ms m nodes.0 up at here its can c.requires.offers (best ∙ ap (λ x. choose (request_at rs x) r) old)
