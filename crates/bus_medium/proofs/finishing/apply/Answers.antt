use Rattle.std.proofs.Common.{rules, arith, ◌≡◌, ◌+◌, ◌-◌, Some, vec_len, get_or, sym}
use Rattle.bus_medium.proofs.Ending.{apply-step, left-step}
use Rattle.bus_medium.proofs.finishing.apply.Goals as goal

pub loop-after-preserved : goal.loop-after-preserved
loop-after-preserved c =
    let len : vec_len c.loop-after.afters ≡ vec_len c.pop.new.self + 1 = sym c.in-Some.ensures.len in
    let last : Some c.in-Some.after ≡ Some (get_or c.loop-after.afters.items (vec_len c.loop-after.afters - 1) c.in-Some.after) =
    c.in-Some.ensures.value c.in-Some.after (omega (arith, len)) in
    record {
      left = left-step c.args.afters.items c.loop-after.afters.items c.pop.new.self.items (vec_len c.pop.new.self) (vec_len c.loop-after.afters)
          len c.loop-after.invariant.left c.in-Some.ensures.rest;
      within = omega (arith, len, c.loop-after.invariant.within);
      done = apply-step c.args.members.now c.loop-after.members c.args.afters.items c.loop-after.afters.items (vec_len c.pop.new.self)
          (vec_len c.loop-after.afters) c.len-place.result c.in-Some.after c.index-members-place.result c.finish.new.self
          len c.len-place.ensures c.loop-after.invariant.within (search rules) c.loop-after.invariant.left (cc)
          c.loop-after.invariant.done c.index-members-place.is c.finish.ensures;
    }
