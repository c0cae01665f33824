use Rattle.std.proofs.Common.{ap, ◌∙◌, arith, ◌++◌, ◌∷◌, []}
use Rattle.page_pool.proofs.Kept.{added}
use Rattle.page_pool.proofs.pages.add_page.Goals as goal

pub returns-clause-kept : goal.returns-clause-kept
returns-clause-kept c =
    added c.args.owners.now.items _ _ _ _ _ c.len-page.result _ c.requires.kept c.reserve-2.ensures.lists c.in_ok-reserve-2.ensures.room
    c.push_back.ensures.lists c.push_back.ensures.spare
    (c.in_ok-push-2.ensures.items ∙ ap (λ l. l ++ 0 ∷ []) c.reserve.ensures.items) (omega (arith, c.requires.same, c.len-page.ensures))
    (omega (arith, c.if-page.false))
