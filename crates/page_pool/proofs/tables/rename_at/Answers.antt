use Rattle.std.proofs.Common.{ap, ◌∙◌}
use Rattle.page_pool.specs.Slots.{Slot}
use Rattle.page_pool.specs.Shared.{renamed}
use Rattle.page_pool.proofs.Lists.{names_set, rooms_set, entry_names, place_within}
use Rattle.page_pool.proofs.tables.rename_at.Goals as goal

pub returns-clause-names : goal.returns-clause-names
returns-clause-names c =
    let lt = place_within c.args.tables.now.items c.args.table c.args.at c.requires in
    names_set _ _ _ _ (ap (λ (s : Slot). s.names) c.rename.ensures
    ∙ ap (λ n. renamed n c.args.at c.args.page) (entry_names c.args.tables.now.items c.args.table _ c.index_mut-entry.ensures.value lt))

pub returns-clause-rooms : goal.returns-clause-rooms
returns-clause-rooms c = rooms_set _ _ _ _ c.index_mut-entry.ensures.value
    (place_within c.args.tables.now.items c.args.table c.args.at c.requires) (ap (λ (s : Slot). s.room) c.rename.ensures)
