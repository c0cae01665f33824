-- Nothing is left.
use Rattle.std.proofs.Common.{ℕ, ◌<◌, ◌∙◌, sym, get_or, arith}
use Rattle.std.proofs.lemmas.Bool.{eqb-true}
use Rattle.std.proofs.lemmas.List.{nil_from_length}
use Rattle.bus_ops.specs.ItemsIn.{items_in}
use Rattle.bus_ops.specs.Views.{items_of}
use Rattle.bus_ops.proofs.ReadingLaws.{reads_all, readings_same, reading_of}
use Rattle.bus_ops.proofs.reading.read_ops.Goals as goal

pub returns-clause-reading : goal.returns-clause-reading
returns-clause-reading c =
    let rest = c.loop-rest.rest.now in
    let none = nil_from_length rest (eqb-true _ _ (sym c.is_empty.ensures ∙ c.loop-rest-test.false)) in
    reads_all c.args.bytes.now rest (items_of c.loop-rest.list.items) _ c.loop-rest.invariant none c.of.ensures

pub returns-clause-items : goal.returns-clause-items
returns-clause-items c =
    let fit = λ (i : ℕ). let h : get_or c.args.bytes.now i 0 < 256 = omega (arith, c.type_inv.bytes i) in h in
    readings_same c.args.bytes.now c.of.result (items_in c.args.bytes.now) (returns-clause-reading c) (reading_of c.args.bytes.now fit)
