use Rattle.std.proofs.Common.{arith}
use Rattle.std.proofs.lemmas.Result.{err_from_is_err_and}
use Rattle.wasm_code.proofs.States.{all_inside}
use Rattle.wasm_code.proofs.Loop.{reads_begin, no_token, refused, reads_on, reads_all, runs_out}
use Rattle.wasm_code.proofs.flat.read_code.Goals as goal

pub loop-init : goal.loop-init
loop-init c = record {
  state = rw (c.in_ok-code.ensures.items, c.new-pending.ensures.items) (reads_begin c.args.bytes.now c.args.at _ (omega arith));
  place = c.requires.place;
  size = rw c.in_ok-code.ensures.items (omega arith);
}

pub returns-in_err-token-clause-is : goal.returns-in_err-token-clause-is
returns-in_err-token-clause-is c =
    let p = err_from_is_err_and c.from_residual-in_err-token.result c.from_residual-in_err-token.ensures.1 in
    rw (p.1, p.2) (no_token c.args.bytes.now c.args.at c.loop.place c.loop.code.items c.loop.pending.items _ c.loop.counter c.in_err-token.field-0.0 c.loop-test.true c.loop.invariant.state c.in_err-token.ensures.is)

pub put-requires-clause-inside : goal.put-requires-clause-inside
put-requires-clause-inside c =
    let s = c.loop.invariant.state in
    all_inside s.0 s.1 c.loop.code.items c.loop.pending.items s.2

pub returns-in_err-next-clause-is : goal.returns-in_err-next-clause-is
returns-in_err-next-clause-is c =
    let p = err_from_is_err_and c.from_residual-in_err-next.result c.from_residual-in_err-next.ensures.1 in
    rw (p.1, p.2) (refused c.args.bytes.now c.args.at c.loop.place c.loop.code.items c.loop.pending.items _ c.loop.counter (c.in_ok-token.token, c.in_ok-token.next) c.in_err-next.field-0.0 c.loop-test.true c.loop.invariant.state c.in_ok-token.ensures.is c.in_err-next.ensures.is)

pub returns-in-Done-clause-is : goal.returns-in-Done-clause-is
returns-in-Done-clause-is c =
    reads_all c.args.bytes.now c.args.at c.loop.place c.loop.code.items c.loop.pending.items _ c.loop.counter c.in_ok-token.next c.in-Done.next c.in_ok-token.token c.put.new.code.items c.put.new.pending.items c.loop-test.true c.loop.invariant.state c.in_ok-token.ensures.is (rw c.in-Done.is at c.in_ok-next.ensures.is)

pub loop-preserved : goal.loop-preserved
loop-preserved c =
    let place = rw c.in-On.is at c.in_ok-next.ensures.place in
    record {
      state = reads_on c.args.bytes.now c.args.at c.loop.place c.loop.code.items c.loop.pending.items _ c.loop.counter c.in_ok-token.next c.in-On.next c.in_ok-token.token c.put.new.code.items c.put.new.pending.items c.loop-test.true c.loop.invariant.state c.in_ok-token.ensures.is (rw c.in-On.is at c.in_ok-next.ensures.is);
      place = place.1;
      size = omega (arith, place.0, c.in_ok-next.ensures.more, c.in_ok-token.ensures.next, c.loop.invariant.size);
    }

pub returns-clause-is : goal.returns-clause-is
returns-clause-is c = runs_out c.args.bytes.now c.args.at c.loop.place c.loop.code.items c.loop.pending.items _ c.loop.counter c.loop-test.false c.loop.invariant.state
