use Rattle.std.specs.Prelude.{if◌then◌else◌, ◌==◌}
use Rattle.std.proofs.Common.{◌/◌, ◌%◌, ◌+◌, ◌*◌, set, [], sym, ap, ◌∙◌, subst, arith}
use Rattle.page_pool.specs.Slots.{names_of}
use Rattle.page_pool.specs.Shared.{table_at, name_in, uses, WritesAt}
use Rattle.page_pool.specs.Kept.{Pooled, bytes_at, live_of}
use Rattle.page_pool.proofs.Handed.{others_kept, page_there}
use Rattle.page_pool.proofs.Owning.{bytes_stay, live_is, sound_stays, live_set, on_err, page_here, place_again}
use Rattle.page_pool.proofs.Bytes.{writes_at}
use Rattle.page_pool.proofs.pool.Pool.write.Goals as goal

pub returns-in_err-page-clause-others : goal.returns-in_err-page-clause-others
returns-in_err-page-clause-others c = λ u ne. bytes_stay _ _ _ _ _ c.self.invariant.sound c.in_err-page.ensures.names
    c.in_err-page.ensures.pages u ∙ ap (λ (p : Pooled). bytes_at p u) c.self.view_is

pub returns-in_err-page-clause-err : goal.returns-in_err-page-clause-err
returns-in_err-page-clause-err c = on_err _ c.from_residual.result
    (λ u. bytes_stay _ _ _ _ _ c.self.invariant.sound c.in_err-page.ensures.names c.in_err-page.ensures.pages u
    ∙ ap (λ (p : Pooled). bytes_at p u) c.self.view_is)

pub returns-in_err-page-clause-alone : goal.returns-in_err-page-clause-alone
returns-in_err-page-clause-alone c = λ one. let h = c.in_err-page.ensures.alone
    (ap (λ (p : Pooled). uses p.tables (name_in (table_at p.tables c.args.table) (c.args.at / 4096))) c.self.view_is ∙ one) in absurd (cc)

pub returns-in_err-page-clause-same : goal.returns-in_err-page-clause-same
returns-in_err-page-clause-same c =
    let inv = c.self.invariant in
    let s = sound_stays _ _ _ _ _ _ inv.sound c.in_err-page.ensures.names c.in_err-page.ensures.owners c.in_err-page.ensures.same in
    on_err _ c.from_residual.result
    (live_is _ _ _ _ _ s c.in_err-page.ensures.kept ∙ c.in_err-page.ensures.none ∙ sym (live_is _ _ _ _ _ inv.sound inv.kept)
    ∙ ap live_of c.self.view_is)

pub index_mut-requires : goal.index_mut-requires
index_mut-requires c = let h = page_there _ _ _ _ _ _ _ _ _ c.in_ok-page.ensures.ok in omega (arith, h, c.own_page.new.pages.ok.0)

pub returns-clause-others : goal.returns-clause-others
returns-clause-others c = λ u ne. others_kept _ _ _ _ _ _ _ _ _ _ c.in_ok-page.ensures.ok u ne
    ∙ ap (λ (p : Pooled). bytes_at p u) c.self.view_is

pub returns-clause-live : goal.returns-clause-live
returns-clause-live c =
    let inv = c.self.invariant in
    let names = names_of c.own_page.new.tables.items in
    let a = live_set names c.own_page.new.pages.items c.in_ok-page.page _ in
    let b = live_is names c.own_page.new.pages.items _ _ _ c.in_ok-page.ensures.ok.sound c.in_ok-page.ensures.kept in
    let d = live_is (names_of c.self.inside.tables.items) c.self.inside.pages.items _ _ _ inv.sound inv.kept in
    let e = c.in_ok-page.ensures.live in
    rw (← c.self.view_is)
    (a ∙ b ∙ e ∙ ap (λ n. n +
    (if uses (names_of c.self.inside.tables.items)
    (name_in (table_at (names_of c.self.inside.tables.items) c.args.table) (c.args.at / 4096)) == 1 then 0 else 1)) (sym d))

pub returns-clause-byte : goal.returns-clause-byte
returns-clause-byte c =
    let o = c.in_ok-page.ensures.ok in
    let w = page_there _ _ _ _ _ _ _ _ _ o in
    let names = names_of c.own_page.new.tables.items in
    let pages = c.own_page.new.pages.items in
    let e = page_here pages c.in_ok-page.page _ c.index_mut.ensures.value w in
    let h = writes_at names pages c.own_page.new.owners.items c.args.table 4096 (c.args.at / 4096)
    (c.args.at % 4096) c.args.byte c.in_ok-page.page c.index_mut.result.now o.sound
    (c.in_ok-page.ensures.long c.self.invariant.long) o.place (omega arith) o.name o.alone e in
    let new = bytes_at (record {
      tables = names;
      rooms = [];
      pages = set pages c.in_ok-page.page (set c.index_mut.result.now (c.args.at % 4096) c.args.byte);
    }) c.args.table in
    let before = o.bytes c.args.table ∙ ap (λ (p : Pooled). bytes_at p c.args.table) c.self.view_is in
    subst (λ a. WritesAt (bytes_at c.args.self.now c.args.table) a c.args.byte new) (place_again c.args.at)
    (subst (λ b. WritesAt b (c.args.at / 4096 * 4096 + c.args.at % 4096) c.args.byte new) before h)
