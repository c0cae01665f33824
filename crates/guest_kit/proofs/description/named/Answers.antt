use Rattle.guest_kit.proofs.Documents.{named_so}
use Rattle.guest_kit.proofs.description.named.Goals as goal

pub returns : goal.returns
returns c = named_so _ _ _ _ _ _ c.in_ok-insert.ensures.entries c.in_ok-from_str.ensures.ok c.from.ensures
