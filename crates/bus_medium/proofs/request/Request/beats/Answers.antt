use Rattle.std.proofs.Common.{rules}
use Rattle.arbitration.proofs.KeyOrder.{beats-by_key}
use Rattle.bus_medium.proofs.request.Request.beats.Goals as goal

pub returns : goal.returns
returns c = search (rules, beats-by_key)
