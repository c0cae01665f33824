-- What is taken is spelled by the bytes, and where nothing is taken nothing is.
use Rattle.std.proofs.Common.{◌∙◌, sym, ap, arith}
use Rattle.std.specs.Prelude.{option_map}
use Rattle.std.proofs.lemmas.Grind.{common_steps}
use Rattle.bus_ops.specs.Views.{operation_of}
use Rattle.bus_ops.proofs.OperationLaws.{operation_takes}
use Rattle.bus_ops.proofs.ReadingLaws.{none_spelled}
use Rattle.bus_ops.proofs.reading.item.Goals as goal

pub returns-in-Some : goal.returns-in-Some
returns-in-Some c =
    operation_takes c.args.bytes.now (operation_of c.in-Some.op) (λ i. omega (arith, c.type_inv.bytes i))
    (sym c.in_ok-op.ensures ∙ ap (option_map operation_of) c.in-Some.is)

pub returns-in_ok-to_vec-in-None : goal.returns-in_ok-to_vec-in-None
returns-in_ok-to_vec-in-None c =
    (grind (arith, common_steps), none_spelled c.args.bytes.now (sym c.in_ok-op.ensures ∙ ap (option_map operation_of) c.in-None.is))
