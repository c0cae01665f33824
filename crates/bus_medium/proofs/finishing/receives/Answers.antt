use Rattle.std.proofs.Common.{◌≡◌, ◌∙◌, true, false, ap, sym, refl}
use Rattle.bus_specs.specs.Bus.{Member, among}
use Rattle.bus_specs.specs.Finish.{part}
use Rattle.bus_specs.specs.Finish as model
use Rattle.bus_medium.specs.Parts.{part_of}
use Rattle.bus_medium.specs.declared.part.Part.{Part}
use Rattle.bus_medium.specs.declared.part.Part.TheVariants.{Sending, Listening, Hurting, Apart}
use Rattle.bus_medium.proofs.Ending.{listening-among, other-among}
use Rattle.bus_medium.proofs.finishing.receives.Goals as goal

not-listening : (p : Part) → (p ≡ Listening → ⊥) → part_of p ≡ model.Listening → ⊥
not-listening Sending n e = cc
not-listening Listening n e = n refl
not-listening (Hurting kind) n e = cc
not-listening Apart n e = cc

pub returns-in_default : goal.returns-in_default
returns-in_default c =
    let outside : among c.args.running.now.listeners c.args.member.now.node ≡ false = other-among c.args.running.now c.args.member.now.node
    c.requires.apart (λ e. not-listening c.args.part c.in_default.not-Listening (c.requires.part ∙ e)) in
    rw outside refl

pub returns-then-member : goal.returns-then-member
returns-then-member c =
    let inside : among c.args.running.now.listeners c.args.member.now.node ≡ true = listening-among c.args.running.now c.args.member.now.node
    (sym c.requires.part ∙ ap part_of c.in-Listening.is) in
    let live : c.args.member.now.live ≡ true = sym (ap (λ (m : Member). m.live) c.member.view_is) ∙ c.if-member.true in
    rw (inside, live) (ap (λ (m : Member). m.awake) c.member.view_is)

pub returns-else-member : goal.returns-else-member
returns-else-member c =
    let inside : among c.args.running.now.listeners c.args.member.now.node ≡ true = listening-among c.args.running.now c.args.member.now.node
    (sym c.requires.part ∙ ap part_of c.in-Listening.is) in
    let live : c.args.member.now.live ≡ false = sym (ap (λ (m : Member). m.live) c.member.view_is) ∙ c.if-member.false in
    rw (inside, live) c.if-member.false
