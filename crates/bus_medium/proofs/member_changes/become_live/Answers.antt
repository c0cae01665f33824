use Rattle.std.proofs.Common.{rules, true}
use Rattle.bus_medium.proofs.Placing.{written, unwritten}
use Rattle.bus_medium.proofs.member_changes.become_live.Goals as goal

pub returns-in-Some : goal.returns-in-Some
returns-in-Some c =
    written (λ m. record m { live = true }) c.args.members.now c.args.node c.in-Some.place c.index-members-place.result c.become_live.new.self
    c.requires.rising c.in-Some.ensures.place c.index-members-place.is c.in-Some.ensures.node (search rules)

pub returns-in_default : goal.returns-in_default
returns-in_default c = unwritten (λ m. record m { live = true }) c.args.members.now c.args.node c.in_default.ensures.test
