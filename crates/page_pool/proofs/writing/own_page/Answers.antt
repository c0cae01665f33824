use Rattle.std.proofs.Common.{◌<◌, length, get_or, sym, ap, ◌∙◌, arith, set, ◌+◌}
use Rattle.page_pool.specs.Slots.{names_of}
use Rattle.page_pool.specs.Shared.{table_at, name_in, renamed, uses}
use Rattle.page_pool.proofs.Sound.{owned, page_within}
use Rattle.page_pool.proofs.Kept.{ready_small}
use Rattle.page_pool.proofs.Handed.{handed, alone_already}
use Rattle.page_pool.proofs.Owning.{kept_handed, count_at, two_owners, other_one, long_set}
use Rattle.page_pool.proofs.writing.own_page.Goals as goal

pub index-requires : goal.index-requires
index-requires c =
    let h = page_within _ _ _ _ _ c.requires.sound c.requires.place in
    omega (arith, h, c.name_of-page.ensures, c.requires.sound.same, c.args.owners.now.ok.0)

pub hand_over-requires-clause-page : goal.hand_over-requires-clause-page
hand_over-requires-clause-page c =
    let h = page_within _ _ _ _ _ c.requires.sound c.requires.place in
    omega (arith, h, c.name_of-page.ensures, c.in_ok-fresh.ensures.pages.no_shorter)

pub hand_over-requires-clause-fresh : goal.hand_over-requires-clause-fresh
hand_over-requires-clause-fresh c =
    let h = ready_small _ _ _ _ c.in_ok-fresh.ensures.ready in
    omega (arith, h.0, c.in_ok-fresh.ensures.same)

pub hand_over-requires-clause-small : goal.hand_over-requires-clause-small
hand_over-requires-clause-small c =
    let h = ready_small _ _ _ _ c.in_ok-fresh.ensures.ready in
    omega (arith, h.0, c.in_ok-fresh.ensures.ready.few)

pub hand_over-requires-clause-owned : goal.hand_over-requires-clause-owned
hand_over-requires-clause-owned c =
    let h = owned _ _ _ _ _ c.requires.sound c.requires.place in
    omega (
      arith,
      h,
      ap (λ i. get_or c.args.owners.now.items i 0) c.name_of-page.ensures,
      c.in_ok-fresh.ensures.owners c.name_of-page.result,
    )

pub returns-then-index-eq1-clause-ok : goal.returns-then-index-eq1-clause-ok
returns-then-index-eq1-clause-ok c =
    let h = page_within _ _ _ _ _ c.requires.sound c.requires.place in
    alone_already _ _ _ _ _ _ _ c.index.result.now c.requires.place c.requires.sound c.requires.kept.list c.name_of-page.ensures
    (omega (arith, h, c.name_of-page.ensures, c.requires.sound.same)) c.index.ensures c.if-index-eq1.true

pub returns-then-index-eq1-clause-live : goal.returns-then-index-eq1-clause-live
returns-then-index-eq1-clause-live c =
    let u = count_at _ _ _ _ _ _ _ c.requires.sound c.requires.place c.name_of-page.ensures c.index.ensures in
    rw (sym u ∙ c.if-index-eq1.true) (omega arith)

pub returns-in_err-fresh-clause-alone : goal.returns-in_err-fresh-clause-alone
returns-in_err-fresh-clause-alone c =
    λ one. absurd (c.if-index-eq1.false
    (count_at _ _ _ _ _ _ _ c.requires.sound c.requires.place c.name_of-page.ensures c.index.ensures ∙ one))

pub returns-clause-ok : goal.returns-clause-ok
returns-clause-ok c =
    handed _ _ _ _ _ _ _ _ _ c.requires.place c.requires.sound c.in_ok-fresh.ensures.ready.list c.in_ok-fresh.ensures.same
    c.in_ok-fresh.ensures.owners c.in_ok-fresh.ensures.pages _ _ _
    c.hand_over.ensures.tables (rw c.name_of-page.ensures at c.hand_over.ensures.pages)
    (rw c.name_of-page.ensures at c.hand_over.ensures.owners)

pub returns-clause-kept : goal.returns-clause-kept
returns-clause-kept c =
    let o = handed _ _ _ _ _ _ _ _ _ c.requires.place c.requires.sound c.in_ok-fresh.ensures.ready.list c.in_ok-fresh.ensures.same
    c.in_ok-fresh.ensures.owners c.in_ok-fresh.ensures.pages _ _ _
    c.hand_over.ensures.tables (rw c.name_of-page.ensures at c.hand_over.ensures.pages)
    (rw c.name_of-page.ensures at c.hand_over.ensures.owners) in
    let w = two_owners _ _ _ _ _ _ _ c.requires.sound c.requires.place c.name_of-page.ensures c.index.ensures c.if-index-eq1.false in
    kept_handed c.spare_page.new.owners.items c.hand_over.new.owners.items c.spare_page.new.free c.args.live.now c.name_of-page.result
    c.in_ok-fresh.fresh c.in_ok-fresh.ensures.ready (omega (arith, w, c.in_ok-fresh.ensures.owners c.name_of-page.result))
    c.hand_over.ensures.owners o.free

pub returns-clause-shape : goal.returns-clause-shape
returns-clause-shape c =
    let o = handed _ _ _ _ _ _ _ _ _ c.requires.place c.requires.sound c.in_ok-fresh.ensures.ready.list c.in_ok-fresh.ensures.same
    c.in_ok-fresh.ensures.owners c.in_ok-fresh.ensures.pages _ _ _
    c.hand_over.ensures.tables (rw c.name_of-page.ensures at c.hand_over.ensures.pages)
    (rw c.name_of-page.ensures at c.hand_over.ensures.owners) in
    let names = names_of c.args.tables.now.items in
    c.hand_over.ensures.tables ∙ ap (λ p. set names c.args.table (renamed (table_at names c.args.table) c.args.at p)) (sym o.name)

pub returns-clause-live : goal.returns-clause-live
returns-clause-live c =
    let u = count_at _ _ _ _ _ _ _ c.requires.sound c.requires.place c.name_of-page.ensures c.index.ensures in
    ap (λ n. c.args.live.now + n)
    (sym (other_one (uses (names_of c.args.tables.now.items)
    (name_in (table_at (names_of c.args.tables.now.items) c.args.table) c.args.at)) (λ q. c.if-index-eq1.false (u ∙ q))))

pub returns-clause-long : goal.returns-clause-long
returns-clause-long c = λ long.
    let h = page_within _ _ _ _ _ c.requires.sound c.requires.place in
    let long' = c.in_ok-fresh.ensures.long long in
    let w : c.name_of-page.result < length c.spare_page.new.pages.items = omega
    (arith, h, c.name_of-page.ensures, c.in_ok-fresh.ensures.pages.no_shorter) in
    rw c.hand_over.ensures.pages (long_set 4096 c.spare_page.new.pages.items c.in_ok-fresh.fresh _ long' (long' c.name_of-page.result w))
