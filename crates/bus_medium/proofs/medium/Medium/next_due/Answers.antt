use Rattle.std.proofs.Common.{◌∙◌, sym, ap, rules}
use Rattle.bus_specs.specs.Bus.{Bus, Running}
use Rattle.bus_medium.specs.Dues.{due_of}
use Rattle.std.specs.Prelude.{option_map}
use Rattle.bus_medium.proofs.FirstDue.{due-running, due-free}
use Rattle.bus_medium.proofs.medium.Medium.next_due.Goals as goal

pub returns-in-Some : goal.returns-in-Some
returns-in-Some c = c.first_notice.ensures ∙ sym (due-running c.args.self.now c.args.now c.in-Some.running c.deref.result.now c.running.inside.end
    (ap (λ (b : Bus). b.running) (sym c.self.view_is) ∙ c.in-Some.is)
    (ap (λ (r : Running). r.end) c.running.view_is)
    (c.deref.ensures.value ∙ ap (λ (b : Bus). b.members) c.self.view_is))

pub returns : goal.returns
returns c = c.first.ensures ∙ sym (due-free c.args.self.now c.args.now (option_map due_of c.first_return-back.result)
    (option_map due_of c.first_notice-notice.result) (option_map due_of c.start.result)
    (ap (λ (b : Bus). b.running) (sym c.self.view_is) ∙ c.in_default.is) (search rules) (search rules) (search rules))
