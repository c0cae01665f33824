use Rattle.std.proofs.Common.{◌≡◌, ◌<◌, None, length}
use Rattle.page_pool.specs.Shared.{table_at}
use Rattle.page_pool.specs.Slots.{names_of}
use Rattle.page_pool.proofs.Live.{begun_live}
use Rattle.page_pool.proofs.pool.Pool.start_table.Goals as goal

pub returns-clause-live : goal.returns-clause-live
returns-clause-live c =
    let names = names_of c.self.inside.tables.items in
    let lt : c.args.table < length names = rw (← c.self.view_is) at c.requires.there in
    let z : table_at names c.args.table ≡ None = rw (← c.self.view_is) at c.requires.unused in
    rw (c.begin_at.ensures.names, ← c.self.view_is) (begun_live names c.args.table (length c.self.inside.pages.items) lt z)
