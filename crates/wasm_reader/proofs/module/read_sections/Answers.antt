use Rattle.std.proofs.lemmas.Result.{err_from_is_err_and}
use Rattle.module_specs.specs.ModuleSpelling.{start}
use Rattle.module_specs.specs.ModuleReading.{sections_at}
use Rattle.wasm_reader.specs.Flat.{ends_in, nothing}
use Rattle.wasm_reader.proofs.Rest.{ends, at_end, runs_out, put_on}
use Rattle.wasm_reader.proofs.module.read_sections.Goals as goal

pub returns-then-place-bytes : goal.returns-then-place-bytes
returns-then-place-bytes c = at_end c.args.bytes.now c.loop.sofar _ c.loop.counter c.loop.place (ends_in nothing (sections_at _ start c.args.bytes.now c.args.at)) c.if-place-bytes.true c.loop.invariant.is

pub returns-in_err-part : goal.returns-in_err-part
returns-in_err-part c =
    let p = err_from_is_err_and c.from_residual.result c.from_residual.ensures.1 in
    rw (p.1, p.2) (ends c.args.bytes.now c.loop.sofar _ c.loop.counter c.loop.place (ends_in nothing (sections_at _ start c.args.bytes.now c.args.at)) c.in_err-part.field-0.0 c.loop-test.true c.if-place-bytes.false c.in_err-part.ensures.is c.loop.invariant.is)

pub loop-preserved : goal.loop-preserved
loop-preserved c = record {
  place = c.in_ok-part.ensures.next;
  is = put_on c.args.bytes.now c.loop.sofar c.put.new.self _ c.loop.counter c.loop.place (ends_in nothing (sections_at _ start c.args.bytes.now c.args.at)) c.in_ok-part.part c.in_ok-part.next c.put.ensures c.loop-test.true c.if-place-bytes.false c.in_ok-part.ensures.is c.loop.invariant.is;
}

pub returns : goal.returns
returns c = runs_out c.args.bytes.now c.loop.sofar _ c.loop.counter c.loop.place (ends_in nothing (sections_at _ start c.args.bytes.now c.args.at)) c.loop-test.false c.loop.invariant.is
