use Rattle.std.proofs.Common.{◌≡◌, length, rules, arith}
use Rattle.std.proofs.lemmas.List.{get_or_read}
use Rattle.clock_queue.proofs.Rows.{inverse_by}
use Rattle.clock_queue.proofs.heap.exchange.Goals as goal

pub returns-clause-inverse : goal.returns-clause-inverse
returns-clause-inverse c =
    let h = c.args.heap.now in
    let ys = c.swap.new.self.items in
    let long : length ys ≡ length h.row.items = search rules in
    let a = get_or_read ys c.args.a c.index-first.result.now (omega (arith, long)) c.index-first.ensures 0 in
    let b = get_or_read ys c.args.b c.index-second.result.now (omega (arith, long)) c.index-second.ensures 0 in
    inverse_by h.row.items ys h.places.items c.args.a c.args.b c.swap.ensures.by_index long
    c.requires.inverse c.requires.a_within c.requires.b_within c.index-first.result.now c.index-second.result.now a b
