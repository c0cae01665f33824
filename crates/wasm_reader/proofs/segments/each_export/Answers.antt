use Rattle.std.proofs.lemmas.Result.{err_from_is_err_and}
use Rattle.module_specs.specs.Reading.{each_at}
use Rattle.module_specs.specs.ModuleReading.{export_at}
use Rattle.module_specs.proofs.Loops.{goes_on, ends, is_done}
use Rattle.wasm_reader.proofs.segments.each_export.Goals as goal

pub returns-in_err-item-clause-is : goal.returns-in_err-item-clause-is
returns-in_err-item-clause-is c =
    let p = err_from_is_err_and c.from_residual.result c.from_residual.ensures.1 in
    rw (p.1, p.2) (ends export_at c.args.bytes.now c.loop.items.items c.args.count c.loop.counter c.loop.place (each_at export_at c.args.bytes.now c.args.count c.args.at) c.in_err-item.field-0.0 c.loop-test.true c.in_err-item.ensures.is c.loop.invariant.is)

pub loop-preserved : goal.loop-preserved
loop-preserved c = record {
  place = c.in_ok-item.ensures.next;
  is = rw c.in_ok-push.ensures.items (goes_on export_at c.args.bytes.now c.loop.items.items c.args.count c.loop.counter c.loop.place (each_at export_at c.args.bytes.now c.args.count c.args.at) c.in_ok-item.item c.in_ok-item.next c.loop-test.true c.in_ok-item.ensures.is c.loop.invariant.is);
}

pub returns-clause-is : goal.returns-clause-is
returns-clause-is c = is_done export_at c.args.bytes.now c.loop.items.items c.args.count c.loop.counter c.loop.place (each_at export_at c.args.bytes.now c.args.count c.args.at) c.loop-test.false c.loop.invariant.is
