use Rattle.std.specs.Prelude.{Ok, Err}
use Rattle.std.proofs.Common.{subst, sym}
use Rattle.binding_specs.specs.Exchanges.{qualifier_in_area}
use Rattle.fmi_binding.specs.Coming.{Comes, held}
use Rattle.fmi_binding.proofs.Areas.{qualifier_there}
use Rattle.fmi_binding.proofs.reading.qualifier_in_area.Goals as goal

pub returns-in-Err : goal.returns-in-Err
returns-in-Err c =
    qualifier_there c.args.place (held c.args.guests.now.pool c.args.instance.now c.args.area) (Err c.in-Err.why)
    (rw c.in-Err.is at c.in_ok-why.ensures)

pub returns-in-Ok : goal.returns-in-Ok
returns-in-Ok c =
    let h = held c.args.guests.now.pool c.args.instance.now c.args.area in
    subst (Comes (qualifier_in_area c.args.place) h h) (sym c.qualifier_of.ensures)
    (qualifier_there c.args.place h (Ok c.in-Ok.number) (rw c.in-Ok.is at c.in_ok-why.ensures))
