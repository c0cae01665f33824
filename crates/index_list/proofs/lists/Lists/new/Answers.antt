use Rattle.std.proofs.Common.{◌≡◌, ap, ◌∙◌, arith, [], replicate}
use Rattle.index_list.proofs.Ties.{seen}
use Rattle.index_list.proofs.Calls.{bare}
use Rattle.index_list.proofs.lists.Lists.new.Goals as goal

pub invariant_of-result : goal.invariant_of-result
invariant_of-result g c = rw c.loop.invariant (record { lists = _; linked = bare _ _ c.new.ensures.empty })

pub returns : goal.returns
returns g c =
    let e : c.loop.counter ≡ c.args.lists = omega (arith, c.loop-test.false, c.loop.auto.counter-end) in
    rw c.loop.invariant (seen c.new.result _ _ (bare c.new.result c.loop.counter c.new.ensures.empty) ∙ ap (λ n. replicate n []) e)
