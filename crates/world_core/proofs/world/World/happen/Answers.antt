use Rattle.world_core.specs.Events.{event_of}
use Rattle.world_core.proofs.Stepping.{happened}
use Rattle.world_core.proofs.world.World.happen.Goals as goal

pub returns-clause-happened : goal.returns-clause-happened
returns-clause-happened g c =
    happened g.E.Ecu c.args.self.now c.act.new.self (event_of c.args.event) c.act.result c.requires.goes_on c.requires.next
    c.act.ensures.state c.act.ensures.shared c.act.ensures.lines
