use Rattle.std.proofs.Common.{rules, not, ◌&&◌}
use Rattle.std.proofs.lemmas.Fn.{filter_same}
use Rattle.bus_specs.specs.Bus.{member_is, off}
use Rattle.bus_specs.specs.Finish.{is_sent}
use Rattle.bus_medium.proofs.finishing.drop_requests.Goals as goal

pub returns : goal.returns
returns c = filter_same _ (λ q. not (is_sent c.args.running.now c.args.running.now.fault q) && not (member_is off c.args.members.now q.node)) _
    (λ x b f' r. (search rules, search rules)) _ _ c.retain.ensures.filtered
