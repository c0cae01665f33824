use Rattle.std.specs.Prelude.{Ok}
use Rattle.std.proofs.Common.{subst, sym}
use Rattle.binding_specs.specs.Exchanges.{number_in_area}
use Rattle.fmi_binding.specs.Coming.{Comes, held}
use Rattle.fmi_binding.proofs.Areas.{no_number, number_there}
use Rattle.fmi_binding.proofs.reading.number_in_area.Goals as goal

pub returns-in-Err : goal.returns-in-Err
returns-in-Err c =
    no_number c.args.place c.args.count (held c.args.guests.now.pool c.args.instance.now c.args.area) c.in-Err.why
    (rw c.in-Err.is at c.in_ok-why.ensures.comes)

pub returns-in-Ok : goal.returns-in-Ok
returns-in-Ok c =
    let h = held c.args.guests.now.pool c.args.instance.now c.args.area in
    subst (λ n. Comes (number_in_area c.args.place c.args.count) h h (Ok n)) (sym (rw c.as_slice.ensures at c.number_of.ensures.number))
    (number_there c.args.place c.args.count h c.in-Ok.bytes (rw c.in-Ok.is at c.in_ok-why.ensures.comes))
