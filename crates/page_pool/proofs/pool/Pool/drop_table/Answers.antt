use Rattle.std.proofs.Common.{length, IsSome}
use Rattle.page_pool.proofs.Lists.{some_within}
use Rattle.page_pool.specs.Shared.{table_at}
use Rattle.page_pool.specs.Slots.{names_of}
use Rattle.page_pool.proofs.Live.{dropped_live}
use Rattle.page_pool.proofs.pool.Pool.drop_table.Goals as goal

pub returns-clause-live : goal.returns-clause-live
returns-clause-live c =
    let names = names_of c.self.inside.tables.items in
    let h : IsSome (table_at names c.args.table) = rw (← c.self.view_is) at c.requires in
    rw (c.clear_at.ensures.names, ← c.self.view_is)
    (dropped_live names c.args.table (length c.self.inside.pages.items) (some_within names c.args.table h))
