use Rattle.std.proofs.Common.{length}
use Rattle.page_pool.specs.Slots.{names_of}
use Rattle.page_pool.proofs.Live.{names_within, fork_fits, forked, forked_live_all, fork_names}
use Rattle.page_pool.proofs.pool.Pool.fork.Goals as goal

pub own_all-requires-clause-within : goal.own_all-requires-clause-within
own_all-requires-clause-within c =
    let names = names_of c.self.inside.tables.items in
    let s = c.smallest-spare.ensures.spare in
    names_within names _ _ c.args.table _ c.self.invariant.sound
    (fork_names names _ c.args.table c.smallest-spare.result _ s.there c.copy_names.ensures.names c.names_in.ensures)

pub own_all-requires-clause-fits : goal.own_all-requires-clause-fits
own_all-requires-clause-fits c =
    let names = names_of c.self.inside.tables.items in
    let s = c.smallest-spare.ensures.spare in
    fork_fits names _ _ c.args.table c.smallest-spare.result _ c.self.invariant.sound c.self.invariant.few s.there s.unused
    (fork_names names _ c.args.table c.smallest-spare.result _ s.there c.copy_names.ensures.names c.names_in.ensures)

pub invariant_of-self : goal.invariant_of-self
invariant_of-self c =
    let names = names_of c.self.inside.tables.items in
    let s = c.smallest-spare.ensures.spare in
    rw c.copy_names.ensures.names
    (forked names _ _ _ _ _ c.args.table c.smallest-spare.result _ c.self.invariant s.there s.unused
    (fork_names names _ c.args.table c.smallest-spare.result _ s.there c.copy_names.ensures.names c.names_in.ensures)
    c.own_all.ensures.owners c.own_all.ensures.len)

pub returns-clause-live : goal.returns-clause-live
returns-clause-live c =
    let names = names_of c.self.inside.tables.items in
    let s = c.smallest-spare.ensures.spare in
    rw (c.copy_names.ensures.names, ← c.self.view_is)
    (forked_live_all names c.args.table c.smallest-spare.result (length c.self.inside.pages.items) s.there s.unused)
