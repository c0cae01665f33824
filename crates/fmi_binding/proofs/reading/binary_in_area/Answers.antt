use Rattle.std.proofs.lemmas.Bool.{le-leb}
use Rattle.fmi_binding.proofs.Areas.{leb_not}
use Rattle.fmi_binding.specs.Coming.{held}
use Rattle.fmi_binding.proofs.Functions.{if_ok}
use Rattle.fmi_binding.proofs.Areas.{no_count, binary_there, too_many_bytes}
use Rattle.fmi_binding.proofs.reading.binary_in_area.Goals as goal

pub returns-in-Err : goal.returns-in-Err
returns-in-Err c =
    no_count c.args.most (held c.args.guests.now.pool c.args.instance.now c.args.area) c.in-Err.why (rw c.in-Err.is at c.in_ok-why.ensures)

pub returns-in-Ok : goal.returns-in-Ok
returns-in-Ok c =
    let h = held c.args.guests.now.pool c.args.instance.now c.args.area in
    let counted = rw c.in-Ok.is at c.in_ok-why.ensures in
    if_ok c.bytes_in_area.result c.bytes_in_area.ensures.comes (λ r bytes.
    binary_there c.args.most c.in-Ok.count h r counted (le-leb c.in-Ok.count c.args.most (rw c.from.ensures at c.if-count-from.true)) bytes)

pub returns-in-Ok-2 : goal.returns-in-Ok-2
returns-in-Ok-2 c =
    let counted = rw c.in-Ok.is at c.in_ok-why.ensures in
    too_many_bytes c.args.most c.in-Ok.count (held c.args.guests.now.pool c.args.instance.now c.args.area) counted
    (leb_not c.in-Ok.count c.args.most (rw c.from.ensures at c.if-count-from.false))
