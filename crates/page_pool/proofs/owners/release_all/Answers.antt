use Rattle.std.proofs.Common.{◌+◌, arith, get_or}
use Rattle.page_pool.proofs.Sound.{one_same}
use Rattle.page_pool.proofs.Kept.{count_more, count_part}
use Rattle.page_pool.proofs.owners.release_all.Goals as goal

pub release-requires-clause-owned : goal.release-requires-clause-owned
release-requires-clause-owned c =
    let p = get_or c.args.names.now c.loop-name.name-index 0 in
    let a = count_more p c.args.names.now c.loop-name.name-index 0 c.loop-name-test.true in
    let b = one_same p in
    let d = count_part p c.args.names.now (c.loop-name.name-index + 1) in
    let e = c.requires.owned p in
    let f = c.loop-name.invariant.owners p in
    omega (arith, a, b, d, e, f)
