use Rattle.std.proofs.Common.{◌≡◌, ◌∙◌, ap, sym, Bool, rules, false, is_some}
use Rattle.std.specs.Prelude.{◌||◌}
use Rattle.bus_specs.specs.Bus.{Member, member_is}
use Rattle.bus_specs.specs.Inbox.{has_notice}
use Rattle.bus_medium.proofs.Taking.{any-at, any-found}
use Rattle.bus_medium.proofs.medium.Medium.has_inbox.Goals as goal

pub returns-in-Some : goal.returns-in-Some
returns-in-Some c =
    let m = c.index.result.now in
    let test : Member → Bool = λ (m : Member). is_some m.mail || has_notice c.args.now m in
    let e : c.has_inbox.result ≡ test m = search rules in
    e ∙ any-at c.args.self.now c.deref.result.now c.self.inside.members.items test c.args.node c.in-Some.place m c.deref.ensures.value
    (ap (λ v. v.members) c.self.view_is) c.in-Some.ensures.place c.index.ensures (c.in-Some.ensures.test test)
    ∙ sym (any-found c.args.self.now c.args.now c.args.node)

pub returns-in-None : goal.returns-in-None
returns-in-None c =
    let e : false ≡ member_is (λ m. is_some m.mail || has_notice c.args.now m) c.args.self.now.members c.args.node = search rules in
    e ∙ sym (any-found c.args.self.now c.args.now c.args.node)
