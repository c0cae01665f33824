-- The key by the parts of the frame.
use Rattle.std.proofs.Common.{◌∙◌}
use Rattle.arbitration.proofs.Fields.{key_of-base, key_of-extended}
use Rattle.arbitration.proofs.keys.key.Goals as goal

pub returns-then-ext : goal.returns-then-ext
returns-then-ext c = let f = c.args.f.now in
    c.extended_key.ensures ∙ key_of-extended f _ _ c.id.ensures.well_formed (cc) (cc) (cc)

pub returns-else-ext : goal.returns-else-ext
returns-else-ext c = let f = c.args.f.now in
    c.base_key.ensures ∙ key_of-base f _ _ c.id.ensures.well_formed (cc) (cc) (cc)
