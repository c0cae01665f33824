use Rattle.std.proofs.Common.{◌≡◌, false}
use Rattle.world_cases.proofs.logs.push_events.Given as goal

abbrev pub invariant-loop : goal.invariant-loop
invariant-loop l = record {
  goes_on : l.world.failed ≡ false;
  plan : l.world.plan ≡ l.fn.world.plan;
}
