use Rattle.std.proofs.Common.{rules, not}
use Rattle.std.proofs.lemmas.Fn.{filter_same}
use Rattle.bus_medium.specs.Losers.{is_among_gone}
use Rattle.bus_medium.proofs.starting.drop_gone.Goals as goal

pub returns : goal.returns
returns c =
    filter_same _ (λ q. not (is_among_gone c.args.gone.now q)) _ (λ x b f' r. (search rules, search rules)) _ _ c.retain.ensures.filtered
