use Rattle.std.proofs.Common.{◌<◌, sym, ◌∙◌, arith}
use Rattle.std.proofs.lemmas.Result.{err_from_is_err_and}
use Rattle.ecu_session.proofs.Sixteen.{enough, ended, stops, none_left}
use Rattle.ecu_session.proofs.iterating.iterate.Goals as goal

pub returns-in-NoUpdate-clause-gives : goal.returns-in-NoUpdate-clause-gives
returns-in-NoUpdate-clause-gives g c = let lt : c.loop-done.done < 16 = omega arith in sym c.loop-done.invariant.gives ∙ enough _ _ _ _ _ _ _ lt (rw c.in-NoUpdate.is at c.in_ok-iterate_once.ensures.gives)

pub returns-in-TheEnd-clause-gives : goal.returns-in-TheEnd-clause-gives
returns-in-TheEnd-clause-gives g c = let lt : c.loop-done.done < 16 = omega arith in sym c.loop-done.invariant.gives ∙ ended _ _ _ _ _ _ _ lt (rw c.in-TheEnd.is at c.in_ok-iterate_once.ensures.gives)

pub returns-clause-gives : goal.returns-clause-gives
returns-clause-gives g c = sym c.loop-done.invariant.gives ∙ none_left _ _ _ _ _ c.loop-done-test.false

pub returns-in_err-iterate_once-clause-gives : goal.returns-in_err-iterate_once-clause-gives
returns-in_err-iterate_once-clause-gives g c =
    let lt : c.loop-done.done < 16 = omega arith in
    let p = err_from_is_err_and c.from_residual.result c.from_residual.ensures.1 in
    rw (p.1, p.2) (stops _ _ _ _ _ c.in_err-iterate_once.field-0.0 _ _ lt c.in_err-iterate_once.ensures.gives c.loop-done.invariant.gives)
