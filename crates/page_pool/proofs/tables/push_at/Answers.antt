use Rattle.std.proofs.Common.{ap, ◌∙◌}
use Rattle.page_pool.specs.Slots.{Slot}
use Rattle.page_pool.specs.Kept.{pushed}
use Rattle.page_pool.proofs.Lists.{names_set, rooms_set, entry_names, slot_within}
use Rattle.page_pool.proofs.tables.push_at.Goals as goal

pub returns-clause-names : goal.returns-clause-names
returns-clause-names c =
    let lt = slot_within c.args.tables.now.items c.args.table c.requires.there in
    names_set _ _ _ _ (ap (λ (s : Slot). s.names) c.push.ensures
    ∙ ap (λ n. pushed n c.args.page) (entry_names c.args.tables.now.items c.args.table _ c.index_mut-entry.ensures.value lt))

pub returns-clause-rooms : goal.returns-clause-rooms
returns-clause-rooms c = rooms_set _ _ _ _ c.index_mut-entry.ensures.value
    (slot_within c.args.tables.now.items c.args.table c.requires.there) (ap (λ (s : Slot). s.room) c.push.ensures)
