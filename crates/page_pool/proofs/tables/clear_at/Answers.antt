use Rattle.std.proofs.Common.{ap}
use Rattle.page_pool.specs.Slots.{Slot}
use Rattle.page_pool.proofs.Lists.{names_set, rooms_set}
use Rattle.page_pool.proofs.tables.clear_at.Goals as goal

pub returns-clause-names : goal.returns-clause-names
returns-clause-names c = names_set _ _ _ _ (ap (λ (s : Slot). s.names) c.clear.ensures)

pub returns-clause-rooms : goal.returns-clause-rooms
returns-clause-rooms c = rooms_set _ _ _ _ c.index_mut-entry.ensures.value c.requires (ap (λ (s : Slot). s.room) c.clear.ensures)
