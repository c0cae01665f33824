use Rattle.std.proofs.Common.{◌∙◌, ap, sym, true, ◌++◌, flat_map}
use Rattle.operation_specs.specs.Spelling.{spell}
use Rattle.bus_specs.specs.Inbox.{items_of}
use Rattle.bus_medium.proofs.Taking.{inbox-found, inbox-missing}
use Rattle.bus_medium.proofs.medium.Medium.inbox.Goals as goal

pub returns-in_default : goal.returns-in_default
returns-in_default c =
    c.of.ensures ∙ c.new-bytes.ensures.items ∙ sym (inbox-missing c.args.self.now c.deref.result.now c.args.now c.args.node
    (c.deref.ensures.value ∙ ap (λ v. v.members) c.self.view_is) (c.in_default.ensures.test (λ m. true)))

pub returns : goal.returns
returns c =
    let m = c.index.result.now in
    c.of-2.ensures ∙ c.in_ok-write_items.ensures ∙ ap (λ xs. xs ++ flat_map spell (items_of c.args.now m)) c.new-bytes.ensures.items
    ∙ sym (inbox-found c.args.self.now c.deref.result.now c.self.inside.members.items c.args.now c.args.node c.in-Some.place m
    c.deref.ensures.value (ap (λ v. v.members) c.self.view_is) c.self.invariant.sound.nodes c.in-Some.ensures.place c.index.ensures c.in-Some.ensures.node)
