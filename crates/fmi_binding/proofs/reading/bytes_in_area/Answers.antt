use Rattle.std.specs.Prelude.{List, ℕ, Ok}
use Rattle.std.proofs.Common.{subst, sym}
use Rattle.binding_specs.specs.Exchanges.{bytes_in_area}
use Rattle.fmi_binding.specs.Coming.{Comes, held}
use Rattle.fmi_binding.proofs.Areas.{nothing_there, bytes_there}
use Rattle.fmi_binding.proofs.reading.bytes_in_area.Goals as goal

pub returns-in-None-clause-comes : goal.returns-in-None-clause-comes
returns-in-None-clause-comes c =
    nothing_there c.args.place c.args.count (held c.args.guests.now.pool c.args.instance.now c.args.area)
    (rw c.in-None.is at c.in_ok-read.ensures.bytes)

pub returns-in-Some-clause-comes : goal.returns-in-Some-clause-comes
returns-in-Some-clause-comes c =
    let h = held c.args.guests.now.pool c.args.instance.now c.args.area in
    subst (λ (l : List ℕ). Comes (bytes_in_area c.args.place c.args.count) h h (Ok l)) (sym c.of.ensures)
    (bytes_there c.args.place c.args.count h c.in-Some.bytes.items (rw c.in-Some.is at c.in_ok-read.ensures.bytes)
    (rw c.deref.ensures.value at c.bytes_hold.ensures))
