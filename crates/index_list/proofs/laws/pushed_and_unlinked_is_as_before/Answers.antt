use Rattle.index_list.proofs.Behind.{all_as_before}
use Rattle.index_list.proofs.laws.pushed_and_unlinked_is_as_before.Goals as goal

pub returns : goal.returns
returns g c = all_as_before
