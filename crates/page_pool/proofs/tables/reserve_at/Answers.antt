use Rattle.std.proofs.Common.{ap, arith}
use Rattle.page_pool.specs.Kept.{names_len}
use Rattle.page_pool.proofs.Lists.{names_stay, slot_here, room_here, on_ok_map}
use Rattle.page_pool.proofs.tables.reserve_at.Goals as goal

pub returns-clause-names : goal.returns-clause-names
returns-clause-names c = names_stay _ _ _ _ c.index_mut-entry.ensures.value c.requires c.reserve.ensures.names

pub returns-clause-room : goal.returns-clause-room
returns-clause-room c =
    let a = ap names_len (slot_here c.args.tables.now.items c.args.table c.reserve.new.self c.requires) in
    let b = room_here c.args.tables.now.items c.args.table c.reserve.new.self c.requires in
    on_ok_map _ _ c.reserve.result (λ h. omega (arith, a, b, h)) c.reserve.ensures.room

pub returns-clause-short : goal.returns-clause-short
returns-clause-short c =
    let a = ap names_len (slot_here c.args.tables.now.items c.args.table c.reserve.new.self c.requires) in
    on_ok_map _ _ c.reserve.result (λ h. omega (arith, a, h)) c.reserve.ensures.short
