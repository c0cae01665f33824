use Rattle.std.proofs.Common.{◌∙◌, ap}
use Rattle.world_core.specs.Seen.{Seen}
use Rattle.world_core.proofs.Coming.{seen-next}
use Rattle.world_core.proofs.world.World.next_event.Goals as goal

pub returns : goal.returns
returns g c =
    let failed = ap (λ (x : Seen _ _). x.failed) c.self.view_is ∙ c.requires.goes_on in
    seen-next g.E.Ecu c.self.inside.course c.self.inside.ecus.items c.self.inside.shared c.self.inside.failed c.args.self.now c.self.view_is
    (c.self.invariant failed) _ c.next_event.ensures
