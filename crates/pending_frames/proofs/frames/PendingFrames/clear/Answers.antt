use Rattle.std.proofs.Common.{◌<◌, ap, refl, arith, length, []}
use Rattle.std.proofs.lemmas.List.{length-set}
use Rattle.pending_frames.specs.Pending.{Waiting}
use Rattle.pending_frames.proofs.Kept.{kept_cleared, below_cleared, counts_cleared}
use Rattle.pending_frames.proofs.Leaving.{requests_cleared}
use Rattle.pending_frames.proofs.frames.PendingFrames.clear.Goals as goal

pub invariant_of-self : goal.invariant_of-self
invariant_of-self c =
    let lists = c.self.inside.lists.lists in
    let node = c.args.node in
    let h = c.self.invariant in
    let within : node < length lists = omega (arith, c.requires, ap (λ (w : Waiting). w.nodes) c.self.view_is) in
    rw (c.empty.ensures, h.2)
    (kept_cleared lists node within h.0, below_cleared lists node within c.self.inside.next h.1, counts_cleared lists node within)

pub returns : goal.returns
returns c =
    let lists = c.self.inside.lists.lists in
    let node = c.args.node in
    let within : node < length lists = omega (arith, c.requires, ap (λ (w : Waiting). w.nodes) c.self.view_is) in
    rw (← c.self.view_is, c.empty.ensures, requests_cleared lists c.self.invariant.0 node within, length-set lists node []) refl
