use Rattle.std.proofs.Common.{◌≡◌, ◌+◌, ℕ, IsSome, sym, ap, ◌∙◌, subst, arith}
use Rattle.page_pool.specs.Slots.{names_of}
use Rattle.page_pool.specs.Shared.{table_at, IsSound, joined_all}
use Rattle.page_pool.specs.Kept.{Pooled, bytes_at, live_of, longer, AreFew}
use Rattle.page_pool.proofs.Kept.{ready_small}
use Rattle.page_pool.proofs.Owning.{bytes_stay, live_is, sound_stays, on_err}
use Rattle.page_pool.proofs.Grown.{grown_others, grown_here, grown, zeros, zeros_long}
use Rattle.page_pool.proofs.pool.Pool.push_page.Goals as goal

pub returns-in_err-page-clause-others : goal.returns-in_err-page-clause-others
returns-in_err-page-clause-others c = λ u ne. bytes_stay _ _ _ _ _ c.self.invariant.sound c.reserve_at.ensures.names
    c.spare_page.ensures.pages u ∙ ap (λ (p : Pooled). bytes_at p u) c.self.view_is

pub returns-in_err-page-clause-err : goal.returns-in_err-page-clause-err
returns-in_err-page-clause-err c = on_err _ c.from_residual-in_err-page.result
    (λ u. bytes_stay _ _ _ _ _ c.self.invariant.sound c.reserve_at.ensures.names c.spare_page.ensures.pages u
    ∙ ap (λ (p : Pooled). bytes_at p u) c.self.view_is)

pub returns-in_err-page-clause-same : goal.returns-in_err-page-clause-same
returns-in_err-page-clause-same c =
    let inv = c.self.invariant in
    let s = sound_stays _ _ _ _ _ _ inv.sound c.reserve_at.ensures.names c.spare_page.ensures.owners c.spare_page.ensures.same in
    on_err _ c.from_residual-in_err-page.result
    (live_is _ _ _ _ _ s c.in_err-page.ensures.err ∙ sym (live_is _ _ _ _ _ inv.sound inv.kept) ∙ ap live_of c.self.view_is)

pub append-requires-clause-page : goal.append-requires-clause-page
append-requires-clause-page c = let h = ready_small _ _ _ _ c.in_ok-page.ensures.ready in omega (arith, h.0, c.in_ok-page.ensures.same)

pub append-requires-clause-owner : goal.append-requires-clause-owner
append-requires-clause-owner c = (ready_small _ _ _ _ c.in_ok-page.ensures.ready).0

pub append-requires-clause-small : goal.append-requires-clause-small
append-requires-clause-small c = let h = ready_small _ _ _ _ c.in_ok-page.ensures.ready in
    omega (arith, h.0, c.in_ok-page.ensures.ready.few)

pub invariant_of-self-2 : goal.invariant_of-self-2
invariant_of-self-2 c =
    let inv = c.self.invariant in
    let names = names_of c.reserve_at.new.tables.items in
    let e = c.reserve_at.ensures.names in
    let pages = c.self.inside.pages.items in
    let owners = c.self.inside.owners.items in
    let sound : IsSound names pages owners = subst (λ l. IsSound l pages owners) (sym e) inv.sound in
    let there : IsSome (table_at names c.args.table) = subst (λ l. IsSome (table_at l c.args.table))
    (ap (λ (p : Pooled). p.tables) (sym c.self.view_is) ∙ sym e) c.requires in
    let s = c.in_ok-page.ensures in
    let few : AreFew names = subst AreFew (sym e) inv.few in
    rw (c.append.ensures.tables, c.append.ensures.pages, c.append.ensures.owners)
    (grown names pages owners c.spare_page.new.pages.items c.spare_page.new.owners.items c.spare_page.new.free c.self.inside.live
    c.args.table c.in_ok-page.page (zeros 4096) there sound s.ready s.same s.owners s.pages few c.in_ok-reserve_at.ensures.short
    4096 (s.long inv.long) (zeros_long 4096))

pub returns-clause-bytes : goal.returns-clause-bytes
returns-clause-bytes c =
    let inv = c.self.invariant in
    let names = names_of c.reserve_at.new.tables.items in
    let e = c.reserve_at.ensures.names in
    let pages = c.self.inside.pages.items in
    let owners = c.self.inside.owners.items in
    let sound : IsSound names pages owners = subst (λ l. IsSound l pages owners) (sym e) inv.sound in
    let there : IsSome (table_at names c.args.table) = subst (λ l. IsSome (table_at l c.args.table))
    (ap (λ (p : Pooled). p.tables) (sym c.self.view_is) ∙ sym e) c.requires in
    let s = c.in_ok-page.ensures in
    let view : (u : ℕ) → joined_all pages (table_at names u) ≡ bytes_at c.args.self.now u = λ u. ap
    (λ l. joined_all pages (table_at l u)) e ∙ ap (λ (p : Pooled). bytes_at p u) c.self.view_is in
    rw (c.append.ensures.tables, c.append.ensures.pages)
    (grown_here names pages owners c.spare_page.new.pages.items c.spare_page.new.owners.items c.spare_page.new.free c.self.inside.live
    c.args.table c.in_ok-page.page (zeros 4096) there sound s.ready s.same s.owners s.pages ∙ ap (λ b. longer b (zeros 4096))
    (view c.args.table))

pub returns-clause-others : goal.returns-clause-others
returns-clause-others c = λ u ne.
    let inv = c.self.invariant in
    let names = names_of c.reserve_at.new.tables.items in
    let e = c.reserve_at.ensures.names in
    let pages = c.self.inside.pages.items in
    let owners = c.self.inside.owners.items in
    let sound : IsSound names pages owners = subst (λ l. IsSound l pages owners) (sym e) inv.sound in
    let there : IsSome (table_at names c.args.table) = subst (λ l. IsSome (table_at l c.args.table))
    (ap (λ (p : Pooled). p.tables) (sym c.self.view_is) ∙ sym e) c.requires in
    let s = c.in_ok-page.ensures in
    let view : (u : ℕ) → joined_all pages (table_at names u) ≡ bytes_at c.args.self.now u = λ u. ap
    (λ l. joined_all pages (table_at l u)) e ∙ ap (λ (p : Pooled). bytes_at p u) c.self.view_is in
    rw (c.append.ensures.tables, c.append.ensures.pages)
    (grown_others names pages owners c.spare_page.new.pages.items c.spare_page.new.owners.items c.spare_page.new.free c.self.inside.live
    c.args.table c.in_ok-page.page (zeros 4096) there sound s.ready s.same s.owners s.pages u ne ∙ view u)

pub returns-clause-live : goal.returns-clause-live
returns-clause-live c =
    let inv = c.self.invariant in
    let names = names_of c.reserve_at.new.tables.items in
    let e = c.reserve_at.ensures.names in
    let pages = c.self.inside.pages.items in
    let owners = c.self.inside.owners.items in
    let sound : IsSound names pages owners = subst (λ l. IsSound l pages owners) (sym e) inv.sound in
    let there : IsSome (table_at names c.args.table) = subst (λ l. IsSome (table_at l c.args.table))
    (ap (λ (p : Pooled). p.tables) (sym c.self.view_is) ∙ sym e) c.requires in
    let s = c.in_ok-page.ensures in
    let few : AreFew names = subst AreFew (sym e) inv.few in
    let g = grown names pages owners c.spare_page.new.pages.items c.spare_page.new.owners.items c.spare_page.new.free c.self.inside.live
    c.args.table c.in_ok-page.page (zeros 4096) there sound s.ready s.same s.owners s.pages few c.in_ok-reserve_at.ensures.short
    4096 (s.long inv.long) (zeros_long 4096) in
    rw (c.append.ensures.tables, c.append.ensures.pages, ← c.self.view_is)
    (live_is _ _ _ _ _ g.sound g.kept ∙ ap (λ n. n + 1) (sym (live_is _ _ _ _ _ inv.sound inv.kept)))
