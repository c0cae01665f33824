use Rattle.network_folder.proofs.Texts.{is_text}
use Rattle.network_folder.proofs.names.text_of.Goals as goal

pub unwrap-requires : goal.unwrap-requires
unwrap-requires c = is_text c.as_slice.result.now c.from_utf8.result _ _ c.as_slice.ensures.ascii c.from_utf8.ensures.cases
