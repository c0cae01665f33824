use Rattle.std.specs.Prelude.{ℕ, Result}
use Rattle.std.proofs.Common.{subst, sym}
use Rattle.fmi_states.specs.declared.reply.Broken.{Broken}
use Rattle.binding_specs.specs.Exchanges.{asks_area}
use Rattle.fmi_binding.specs.Coming.{Comes, held, guest_with, numbers_in, area_after, done_in}
use Rattle.fmi_binding.proofs.Wholes.{area_by_numbers}
use Rattle.fmi_binding.proofs.asking.ask_area.Goals as goal

pub returns-clause-comes : goal.returns-clause-comes
returns-clause-comes c = λ phase s area.
    let g = guest_with c.args.bound.now phase area s in
    let h = held c.args.guests.now.pool c.args.instance.now area in
    let k = held c.call_function.new.guests.pool c.call_function.new.instance area in
    let size = c.area_size-size.ensures in
    let called = rw (c.from.ensures, size) at c.in_ok-returned.ensures.comes in
    let is = rw (size, c.pages.ensures) at c.address_in.ensures.address in
    subst (λ (q : Result ℕ Broken). Comes (asks_area g) h (held c.call_function.new.guests.pool c.call_function.new.instance
    (area_after area q)) (done_in q)) (sym is)
    (area_by_numbers g h k c.call_function.new.instance.memory.pages (numbers_in c.in_ok-returned.returned)
    c.in_ok-returned.ensures.leaves.there.size (called phase s area))
