use Rattle.clock_queue.proofs.Dues.{kept_behind, behind_kept}
use Rattle.clock_queue.proofs.laws.a_taking_leaves_the_others.Goals as goal

pub returns-clause-each : goal.returns-clause-each
returns-clause-each g c = λ dues moment entry due.
    let rank = g.D.Due.rank in
    (kept_behind rank moment dues entry due, λ h. behind_kept rank moment dues entry due h.0 h.1)
