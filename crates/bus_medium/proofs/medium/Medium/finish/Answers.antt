use Rattle.std.proofs.Common.{◌≡◌, ◌∙◌, ◌++◌, length, map, flat_map, take, drop, ap, sym, subst, Some, None, arith, ◌*◌}
use Rattle.log_lines.specs.Lines.{line_of}
use Rattle.bus_specs.specs.Bus.{Bus, Running}
use Rattle.bus_specs.specs.Finish.{member_after_finish, counters_after}
use Rattle.bus_medium.specs.Finishing.{after, receiver, state_line}
use Rattle.bus_medium.specs.Setups.{IsKept}
use Rattle.bus_medium.proofs.Ended.{finish-runs, one_running, rising-after, members-after, finish-state, finish-log, finish-kept}
use Rattle.bus_medium.proofs.medium.Medium.finish.Goals as goal

pub unreachable-requires : goal.unreachable-requires
unreachable-requires c = finish-runs c.args.self.now c.requires.due.0 c.args.now c.requires.due.1
    (ap (λ (b : Bus). b.running) (sym c.self.view_is) ∙ c.in_default.is)

pub drop_requests-requires : goal.drop_requests-requires
drop_requests-requires c =
    let r = c.in-Some-take.running in
    let old = c.self.inside.members.items in
    let new = c.apply.new.members in
    let afters = c.in_ok-plan.plan.afters.items in
    let taken : Some r ≡ c.self.inside.running = c.in-Some-take.ensures.value in
    let same : c.in-Some.running ≡ r = one_running c.self.inside.running c.in-Some.running r c.in-Some.is taken in
    let planned : afters ≡ map (after c.in-Some.running) c.deref.result.now = c.in_ok-plan.ensures.afters in
    let members : take c.self.inside.members.len (new ++ drop (length new) old) ≡ map (member_after_finish r) old =
    members-after r old c.deref.result.now c.deref_mut.result.now new c.self.inside.members.len afters (omega (arith, c.self.inside.members.ok.0))
    c.deref.ensures.value c.deref_mut.ensures.value (planned ∙ ap (λ x. map (after x) c.deref.result.now) same) c.apply.ensures in
    rising-after r old c.deref-2.result.now c.self.invariant.sound.nodes (c.deref-2.ensures.value ∙ members)

pub returns-clause-state : goal.returns-clause-state
returns-clause-state c =
    let r = c.in-Some-take.running in
    let old = c.self.inside.members.items in
    let new = c.apply.new.members in
    let afters = c.in_ok-plan.plan.afters.items in
    let taken : Some r ≡ c.self.inside.running = c.in-Some-take.ensures.value in
    let free : c.take.new.self ≡ None = c.in-Some-take.ensures.after in
    let same : c.in-Some.running ≡ r = one_running c.self.inside.running c.in-Some.running r c.in-Some.is taken in
    let planned : afters ≡ map (after c.in-Some.running) c.deref.result.now = c.in_ok-plan.ensures.afters in
    let members : take c.self.inside.members.len (new ++ drop (length new) old) ≡ map (member_after_finish r) old =
    members-after r old c.deref.result.now c.deref_mut.result.now new c.self.inside.members.len afters (omega (arith, c.self.inside.members.ok.0))
    c.deref.ensures.value c.deref_mut.ensures.value (planned ∙ ap (λ x. map (after x) c.deref.result.now) same) c.apply.ensures in
    finish-state c.args.self.now _ c.args.now r (take c.self.inside.members.len (new ++ drop (length new) old)) c.deref-2.result.now
    c.drop_requests.new.requests.items c.bits.result c.running.inside.sender c.take.new.self c.self.view_is (sym taken) members
    c.deref-2.ensures.value c.drop_requests.ensures c.bits.ensures.value (ap (λ (x : Running). x.sender) c.running.view_is) free

pub invariant_of-self : goal.invariant_of-self
invariant_of-self c = subst IsKept (sym (returns-clause-state c))
    (finish-kept c.args.self.now c.args.now c.bits.result (subst IsKept c.self.view_is c.self.invariant) c.requires.moment
    (c.bits.ensures.value ∙ ap (λ (b : Bus). 3 * b.setup.nominal) c.self.view_is) (omega (arith, c.bits.ensures.value, c.bits.ensures.high)))

pub returns-clause-lines : goal.returns-clause-lines
returns-clause-lines c =
    let r = c.in-Some-take.running in
    let seen = c.deref.result.now in
    let number = c.self.inside.number in
    let taken : Some r ≡ c.self.inside.running = c.in-Some-take.ensures.value in
    let same : c.in-Some.running ≡ r = one_running c.self.inside.running c.in-Some.running r c.in-Some.is taken in
    let heard : c.in_ok-plan.plan.receivers.items ≡ flat_map (receiver c.in-Some.running) seen = c.in_ok-plan.ensures.receivers in
    let changed : map line_of c.in_ok-plan.plan.states.items
    ≡ flat_map (λ m. state_line c.args.now number (counters_after c.in-Some.running m) m) seen = c.in_ok-plan.ensures.states in
    c.lines_of.ensures ∙ finish-log c.args.self.now _ c.args.now r seen c.in_ok-plan.plan.receivers.items (map line_of c.in_ok-plan.plan.states.items)
    c.self.view_is (sym taken) c.deref.ensures.value (heard ∙ ap (λ x. flat_map (receiver x) seen) same)
    (changed ∙ ap (λ x. flat_map (λ m. state_line c.args.now number (counters_after x m) m) seen) same)
