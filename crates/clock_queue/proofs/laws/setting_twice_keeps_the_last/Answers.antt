use Rattle.std.proofs.Common.{Some}
use Rattle.std.proofs.lemmas.List.{set-set}
use Rattle.clock_queue.proofs.laws.setting_twice_keeps_the_last.Goals as goal

pub returns : goal.returns
returns g c = λ dues entry first last. set-set dues entry (Some first) (Some last)
