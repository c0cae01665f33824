use Rattle.index_list.proofs.Behind.{last_pushed, item_pushed, others_pushed}
use Rattle.index_list.proofs.laws.a_pushed_item_is_last.Goals as goal

pub returns-clause-last : goal.returns-clause-last
returns-clause-last g c = last_pushed

pub returns-clause-item : goal.returns-clause-item
returns-clause-item g c = item_pushed

pub returns-clause-others : goal.returns-clause-others
returns-clause-others g c = λ list place other item ne. others_pushed list place other item ne
