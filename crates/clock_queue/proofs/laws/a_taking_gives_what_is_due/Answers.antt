use Rattle.clock_queue.specs.Dues.{entries_at}
use Rattle.clock_queue.proofs.Consequences.{contains_among, among_contains, increasing}
use Rattle.clock_queue.proofs.Dues.{in_entries_at, entries_at_has, rising_entries_at}
use Rattle.clock_queue.proofs.laws.a_taking_gives_what_is_due.Goals as goal

pub returns-clause-each : goal.returns-clause-each
returns-clause-each g c = λ dues moment entry.
    let rank = g.D.Due.rank in (
      λ a. in_entries_at rank moment dues entry (contains_among (entries_at rank moment dues) entry a),
      λ h. among_contains (entries_at rank moment dues) entry (entries_at_has rank moment dues entry h.0 h.1 h.2),
    )

pub returns-clause-rising : goal.returns-clause-rising
returns-clause-rising g c = λ dues moment.
    let rank = g.D.Due.rank in
    increasing (entries_at rank moment dues) (rising_entries_at rank moment dues)
