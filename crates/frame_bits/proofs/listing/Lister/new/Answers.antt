use Rattle.frame_specs.specs.Wire.{stuff_open}
use Rattle.frame_bits.proofs.listing.Lister.new.Goals as goal

pub returns-clause-lists : goal.returns-clause-lists
unfolding stuff_open
returns-clause-lists c = record { took = c.new.ensures.took; list_is = c.new-2.ensures.items }
