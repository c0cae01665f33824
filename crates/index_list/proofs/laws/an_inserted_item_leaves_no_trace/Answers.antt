use Rattle.index_list.proofs.Behind.{inserted_next, inserted_out}
use Rattle.index_list.proofs.laws.an_inserted_item_leaves_no_trace.Goals as goal

pub returns-clause-next : goal.returns-clause-next
returns-clause-next g c = inserted_next

pub returns-clause-unlinked : goal.returns-clause-unlinked
returns-clause-unlinked g c = inserted_out
