use Rattle.std.proofs.Common.{◌∙◌, ap, sym, true, ◌++◌, map}
use Rattle.log_specs.specs.Line.{On}
use Rattle.log_lines.specs.Lines.{line_of}
use Rattle.bus_specs.specs.Inbox.{told_notices}
use Rattle.bus_medium.proofs.Taking.{told-found, told-missing}
use Rattle.bus_medium.proofs.medium.Medium.told.Goals as goal

pub returns-in_default : goal.returns-in_default
returns-in_default c =
    c.of.ensures ∙ ap (map line_of) c.new-lines.ensures.items ∙ sym (told-missing c.args.self.now c.deref.result.now c.args.now c.args.node
    (c.deref.ensures.value ∙ ap (λ v. v.members) c.self.view_is) (c.in_default.ensures.test (λ m. true)))

pub returns : goal.returns
returns c =
    let m = c.index.result.now in
    c.of-2.ensures ∙ c.in_ok-push_told.ensures ∙ ap (λ xs. map line_of xs ++ map (On c.args.now c.self.inside.number m.node) (told_notices c.args.now m)) c.new-lines.ensures.items
    ∙ sym (told-found c.args.self.now c.deref.result.now c.self.inside.members.items c.args.now c.args.node c.in-Some.place c.self.inside.number m
    c.deref.ensures.value (ap (λ v. v.members) c.self.view_is) c.self.invariant.sound.nodes c.in-Some.ensures.place c.index.ensures c.in-Some.ensures.node
    (ap (λ v. v.setup.number) c.self.view_is))
