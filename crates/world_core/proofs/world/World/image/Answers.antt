use Rattle.std.proofs.Common.{◌≡◌, ◌∙◌, IfOk, ap, subst}
use Rattle.std.proofs.lemmas.List.{length-map}
use Rattle.network_images.specs.Images.{network_image}
use Rattle.world_core.specs.Seen.{Seen}
use Rattle.world_core.specs.Units.{states_of}
use Rattle.world_core.proofs.Acting.{goes-on}
use Rattle.world_core.proofs.Imaging.{course-image}
use Rattle.world_core.proofs.world.World.image.Goals as goal

pub returns : goal.returns
returns g c =
    let is = c.self.view_is in
    let kept = c.self.invariant (goes-on g.E.Ecu c.self.inside.course c.self.inside.ecus.items c.self.inside.shared c.self.inside.failed c.args.self.now is c.requires.goes_on) in
    let states = states_of g.E.Ecu c.self.inside.ecus.items c.self.inside.shared in
    let many = length-map c.self.inside.ecus.items (λ x. (g.E.Ecu).state x c.self.inside.shared) ∙ kept.each in
    subst (λ j. IfOk c.image.result (λ i. i ≡ j))
    (course-image c.self.inside.course states many ∙ ap (λ (x : Seen _ _). network_image (λ s. tt) x.network) is) c.image.ensures
