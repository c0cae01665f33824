use Rattle.std.proofs.Common.{◌≡◌, ◌<◌, Some, None, slice_get, length, get_or, ap, sym, ◌∙◌, refl}
use Rattle.std.proofs.lemmas.Option.{slice_get_read}
use Rattle.bus_specs.specs.Bus.{Bus, winner}
use Rattle.bus_specs.specs.Start.{running_frame, course}
use Rattle.bus_medium.proofs.Behind.{chosen-wins, same-winner, not-lost, lines-of, gone-of}
use Rattle.bus_medium.proofs.medium.Medium.plan.Goals as goal

pub unreachable-requires : goal.unreachable-requires
unreachable-requires c =
    let b = c.args.self.now in
    let all : c.deref.result.now ≡ b.requests = c.deref.ensures.value ∙ ap (λ (v : Bus). v.requests) c.self.view_is in
    let none : None ≡ winner b c.args.now = chosen-wins b c.args.now c.deref.result.now c.in_ok-offers.offers.items c.deref-2.result.now None all
    c.deref-2.ensures.value c.in_ok-offers.ensures.offers c.in_default.ensures.best in
    not-lost b c.args.now c.requires.due (sym none)

pub returns-clause-running : goal.returns-clause-running
returns-clause-running c w e =
    let b = c.args.self.now in
    let v = c.index-request.result.now in
    let p = c.in-Some.place in
    let requests : c.self.inside.requests.items ≡ b.requests = ap (λ (x : Bus). x.requests) c.self.view_is in
    let all : c.deref.result.now ≡ b.requests = c.deref.ensures.value ∙ requests in
    let there : p < length b.requests = rw all at c.in-Some.ensures.place in
    let found : slice_get b.requests p ≡ Some v = slice_get_read b.requests (length b.requests) p v refl there (c.index-request.ensures ∙ ap (λ l. get_or l p v) requests) in
    let wins : Some v ≡ winner b c.args.now = chosen-wins b c.args.now c.deref.result.now c.in_ok-offers.offers.items c.deref-2.result.now (Some v) all
    c.deref-2.ensures.value c.in_ok-offers.ensures.offers (sym found ∙ ap (λ l. slice_get l p) (sym all) ∙ c.in-Some.ensures.best) in
    c.in_ok-running.ensures ∙ ap (λ x. running_frame x (course b c.args.now x)) (same-winner b c.args.now v w wins e)

pub returns-clause-lines : goal.returns-clause-lines
returns-clause-lines c w e =
    let b = c.args.self.now in
    let v = c.index-request.result.now in
    let p = c.in-Some.place in
    let requests : c.self.inside.requests.items ≡ b.requests = ap (λ (x : Bus). x.requests) c.self.view_is in
    let all : c.deref.result.now ≡ b.requests = c.deref.ensures.value ∙ requests in
    let there : p < length b.requests = rw all at c.in-Some.ensures.place in
    let found : slice_get b.requests p ≡ Some v = slice_get_read b.requests (length b.requests) p v refl there (c.index-request.ensures ∙ ap (λ l. get_or l p v) requests) in
    let wins : Some v ≡ winner b c.args.now = chosen-wins b c.args.now c.deref.result.now c.in_ok-offers.offers.items c.deref-2.result.now (Some v) all
    c.deref-2.ensures.value c.in_ok-offers.ensures.offers (sym found ∙ ap (λ l. slice_get l p) (sym all) ∙ c.in-Some.ensures.best) in
    lines-of b c.args.now v w c.in_ok-offers.offers.items c.deref-3.result.now _ (same-winner b c.args.now v w wins e)
    c.deref-3.ensures.value c.in_ok-offers.ensures.offers c.in_ok-losses.ensures.lines

pub returns-clause-gone : goal.returns-clause-gone
returns-clause-gone c w e =
    let b = c.args.self.now in
    let v = c.index-request.result.now in
    let p = c.in-Some.place in
    let requests : c.self.inside.requests.items ≡ b.requests = ap (λ (x : Bus). x.requests) c.self.view_is in
    let all : c.deref.result.now ≡ b.requests = c.deref.ensures.value ∙ requests in
    let there : p < length b.requests = rw all at c.in-Some.ensures.place in
    let found : slice_get b.requests p ≡ Some v = slice_get_read b.requests (length b.requests) p v refl there (c.index-request.ensures ∙ ap (λ l. get_or l p v) requests) in
    let wins : Some v ≡ winner b c.args.now = chosen-wins b c.args.now c.deref.result.now c.in_ok-offers.offers.items c.deref-2.result.now (Some v) all
    c.deref-2.ensures.value c.in_ok-offers.ensures.offers (sym found ∙ ap (λ l. slice_get l p) (sym all) ∙ c.in-Some.ensures.best) in
    gone-of b c.args.now v w c.in_ok-offers.offers.items c.deref-3.result.now _ (same-winner b c.args.now v w wins e)
    c.deref-3.ensures.value c.in_ok-offers.ensures.offers c.in_ok-losses.ensures.gone
