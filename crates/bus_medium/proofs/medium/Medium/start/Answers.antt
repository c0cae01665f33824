use Rattle.std.proofs.Common.{◌≡◌, ◌+◌, ◌++◌, Some, take, drop, length, map, filter, not, ap, sym, ◌∙◌, subst}
use Rattle.std.proofs.lemmas.List.{length-map}
use Rattle.bus_specs.specs.Bus.{Bus}
use Rattle.bus_medium.specs.Losers.{member_from, is_among_gone}
use Rattle.bus_medium.specs.Setups.{IsKept}
use Rattle.bus_medium.proofs.Behind.{won, start-found, start-log, start-kept, whole-slice}
use Rattle.bus_medium.proofs.medium.Medium.start.Goals as goal

pub returns-clause-state : goal.returns-clause-state
returns-clause-state c =
    let b = c.args.self.now in
    let now = c.args.now in
    let win = won b now c.requires.due in
    let old = c.self.inside.members.items in
    let new = c.see_starts.new.members in
    let gone = c.in_ok-running.field-0.losses.gone.items in
    let run = c.in_ok-running.field-0.running in
    let n = c.spans-spans.result in
    let t = c.bits.result in
    let left = c.drop_gone.new.requests.items in
    let members : old ≡ b.members = ap (λ (v : Bus). v.members) c.self.view_is in
    let requests : c.self.inside.requests.items ≡ b.requests = ap (λ (v : Bus). v.requests) c.self.view_is in
    let changed : new ≡ map (member_from n (now + t) c.deref.result.now) c.deref_mut.result.now = c.see_starts.ensures in
    let on_old : new ≡ map (member_from n (now + t) gone) old =
    changed ∙ ap (λ g. map (member_from n (now + t) g) c.deref_mut.result.now) c.deref.ensures.value ∙ ap (map (member_from n (now + t) gone)) c.deref_mut.ensures.value in
    let size : length new ≡ length old = ap length on_old ∙ length-map old (member_from n (now + t) gone) in
    let whole : take c.self.inside.members.len (new ++ drop (length new) old) ≡ new =
    whole-slice old new c.self.inside.members.len (sym c.deref_mut.ensures.len ∙ ap length c.deref_mut.ensures.value) size in
    let kept : left ≡ filter (λ q. not (is_among_gone c.deref-2.result.now q)) c.self.inside.requests.items = c.drop_gone.ensures in
    let kept_of : left ≡ filter (λ q. not (is_among_gone gone q)) b.requests =
    kept ∙ ap (λ g. filter (λ q. not (is_among_gone g q)) c.self.inside.requests.items) c.deref-2.ensures.value ∙ ap (filter (λ q. not (is_among_gone gone q))) requests in
    let all = take c.self.inside.members.len (new ++ drop (length new) old) in
    ap {A = Bus} {B = Bus} (λ v. record v { members = all; requests = left; attempts = v.attempts + 1; running = Some run }) c.self.view_is
    ∙ start-found b now win.0 gone run all left n t win.1 (c.in_ok-running.ensures.gone win.0 win.1) (c.in_ok-running.ensures.running win.0 win.1)
    c.spans-spans.ensures.value c.bits.ensures.value (whole ∙ on_old ∙ ap (map (member_from n (now + t) gone)) members) kept_of

pub invariant_of-self : goal.invariant_of-self
invariant_of-self c =
    subst IsKept (sym (returns-clause-state c)) (start-kept c.args.self.now c.args.now (subst IsKept c.self.view_is c.self.invariant) c.requires.due)

pub returns-clause-lines : goal.returns-clause-lines
returns-clause-lines c =
    let b = c.args.self.now in
    let win = won b c.args.now c.requires.due in
    c.of.ensures ∙ c.in_ok-running.ensures.lines win.0 win.1 ∙ start-log b c.args.now win.0 win.1
