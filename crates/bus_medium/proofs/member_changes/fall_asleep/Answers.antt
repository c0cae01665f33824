use Rattle.std.proofs.Common.{rules, false}
use Rattle.bus_medium.proofs.Placing.{written, unwritten}
use Rattle.bus_medium.proofs.member_changes.fall_asleep.Goals as goal

pub returns-in-Some : goal.returns-in-Some
returns-in-Some c =
    written (λ m. record m { awake = false }) c.args.members.now c.args.node c.in-Some.place c.index-members-place.result c.fall_asleep.new.self
    c.requires.rising c.in-Some.ensures.place c.index-members-place.is c.in-Some.ensures.node (search rules)

pub returns-in_default : goal.returns-in_default
returns-in_default c = unwritten (λ m. record m { awake = false }) c.args.members.now c.args.node c.in_default.ensures.test
