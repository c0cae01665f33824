use Rattle.guest_kit.proofs.Documents.{finished}
use Rattle.guest_kit.proofs.description.description_of.Goals as goal

pub returns : goal.returns
returns c =
    finished _ _ _ _ _ _ _ _ _ c.in_ok-text.ensures c.as_str.ensures.value c.in_ok-document.ensures c.in_ok-unit.ensures
    c.in_ok-document-2.ensures c.requires.identifier c.in_ok-bytes.ensures.utf8 c.in_ok-bytes.ensures.reads_back
