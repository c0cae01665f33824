use Rattle.std.proofs.Common.{◌≡◌, ◌++◌, drop}
use Rattle.std.specs.Prelude.{map}
use Rattle.log_lines.specs.Lines.{line_of}
use Rattle.bus_medium.specs.Offers.{request_at, somes}
use Rattle.bus_medium.specs.Losers.{loser_lines, gone_from}
use Rattle.bus_medium.proofs.medium.Medium.push_losers.Given as goal

-- What is left to write leads to all.
abbrev pub invariant-loop-offer : goal.invariant-loop-offer
invariant-loop-offer l = record {
  lines : map line_of l.losses.lines.items ++ loser_lines l.self l.now l.winner (somes (map (request_at l.self.requests) (drop l.offer-index l.offers)))
      ≡ map line_of l.fn.losses.lines.items ++ loser_lines l.self l.now l.winner (somes (map (request_at l.self.requests) l.offers));
  gone : l.losses.gone.items ++ gone_from l.self l.winner (somes (map (request_at l.self.requests) (drop l.offer-index l.offers)))
      ≡ l.fn.losses.gone.items ++ gone_from l.self l.winner (somes (map (request_at l.self.requests) l.offers));
}
