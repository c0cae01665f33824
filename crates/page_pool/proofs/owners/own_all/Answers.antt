use Rattle.std.proofs.lemmas.List.{get_or_default}
use Rattle.std.proofs.Common.{◌≡◌, ◌+◌, ◌∙◌, arith, get_or}
use Rattle.page_pool.proofs.Sound.{one_same}
use Rattle.page_pool.proofs.Kept.{count_more, count_part}
use Rattle.page_pool.proofs.owners.own_all.Goals as goal

pub overflow_add-index_mut : goal.overflow_add-index_mut
overflow_add-index_mut c =
    let p = get_or c.args.names.now c.loop-name.name-index 0 in
    let a = count_more p c.args.names.now c.loop-name.name-index 0 c.loop-name-test.true in
    let b = one_same p in
    let d = count_part p c.args.names.now (c.loop-name.name-index + 1) in
    let e = c.requires.fits p in
    let f = c.loop-name.invariant.owners p in
    let w = c.requires.within c.loop-name.name-index 0 c.loop-name-test.true in
    let v : c.index_mut.result.now ≡ get_or c.loop-name.owners.items p 0 = c.index_mut.ensures.value
    ∙ get_or_default c.loop-name.owners.items p c.index_mut.result.now 0 (omega (arith, w, c.loop-name.invariant.len)) in
    omega (arith, a, b, d, e, f, v)
