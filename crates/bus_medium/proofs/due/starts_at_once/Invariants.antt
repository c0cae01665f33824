use Rattle.std.proofs.Common.{◌≡◌, drop}
use Rattle.std.specs.List.{list_any}
use Rattle.bus_specs.specs.Bus.{member_is}
use Rattle.bus_medium.specs.FirstDues.{starts_at_once}
use Rattle.bus_medium.proofs.due.starts_at_once.Given as goal

abbrev pub invariant-loop-request : goal.invariant-loop-request
invariant-loop-request l = list_any (λ q. member_is (starts_at_once l.last) l.members q.node) (drop l.request-index l.requests)
    ≡ list_any (λ q. member_is (starts_at_once l.last) l.members q.node) l.requests
