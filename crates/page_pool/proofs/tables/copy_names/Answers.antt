use Rattle.std.proofs.Common.{ap, ◌∙◌, set, arith}
use Rattle.page_pool.specs.Slots.{names_of, rooms_of}
use Rattle.page_pool.proofs.Lists.{copied, all_taken}
use Rattle.page_pool.proofs.tables.copy_names.Goals as goal

pub loop-at-preserved : goal.loop-at-preserved
loop-at-preserved c = record {
  names = copied (names_of c.args.tables.now.items) (names_of c.loop-at.tables.items) _
      (rooms_of c.args.tables.now.items) c.args.from c.args.to c.loop-at.at _ c.requires.there c.requires.spare
      (omega (arith, c.loop-at-test.true, c.len_of-n.ensures)) c.loop-at.invariant.names c.name_of-page.ensures c.push_at.ensures.names;
  rooms = c.push_at.ensures.rooms ∙ c.loop-at.invariant.rooms;
}

pub returns-clause-names : goal.returns-clause-names
returns-clause-names c = c.loop-at.invariant.names
    ∙ ap (set (names_of c.args.tables.now.items) c.args.to)
    (all_taken _ c.loop-at.at (omega (arith, c.loop-at-test.false, c.len_of-n.ensures)))
