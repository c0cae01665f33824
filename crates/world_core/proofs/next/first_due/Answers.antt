-- The number of a bus is its place.
use Rattle.std.proofs.Common.{ap, arith}
use Rattle.bus_specs.specs.Bus.{Bus}
use Rattle.world_core.proofs.Buses.{numbered-at}
use Rattle.world_core.proofs.next.first_due.Goals as goal

pub first_on-requires : goal.first_on-requires
first_on-requires c =
    let number = ap (λ (b : Bus). b.setup.number) c.index-buses-place.is in
    let place = numbered-at 0 c.args.buses.now c.loop-place.place c.index-buses-place.result c.requires.numbers c.loop-place-test.true in
    omega (arith, number, place)
