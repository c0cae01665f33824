use Rattle.std.proofs.Common.{rules, not}
use Rattle.std.specs.Prelude.{◌==◌}
use Rattle.std.proofs.lemmas.Fn.{filter_same}
use Rattle.bus_medium.proofs.inboxes.drop_requests.Goals as goal

pub returns : goal.returns
returns c =
    filter_same _ (λ q. not (q.node == c.args.node)) _ (λ x b f' r. (search rules, search rules)) _ _ c.retain.ensures.filtered
