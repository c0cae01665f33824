use Rattle.std.proofs.Common.{sym, ◌∙◌}
use Rattle.bus_medium.proofs.Looking.{there-test, first-test, first-node}
use Rattle.bus_medium.proofs.lookup.place_of.Goals as goal

pub returns-then-is_there-clause-test : goal.returns-then-is_there-clause-test
returns-then-is_there-clause-test c =
    there-test c.args.members.now c.args.node c.args.node c.requires.rising (sym c.is_there.ensures ∙ c.if-is_there.true)

pub returns-clause-node : goal.returns-clause-node
returns-clause-node c = first-node c.args.members.now c.args.node c.first_place.result c.first_place.ensures

pub returns-clause-test : goal.returns-clause-test
returns-clause-test c = first-test c.args.members.now c.args.node c.requires.rising c.first_place.result c.first_place.ensures
