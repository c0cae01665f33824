use Rattle.binding_laws.proofs.Sound.{reply_is_bare}
use Rattle.binding_laws.proofs.replies.the_area_is_read_behind_ok_and_warning_alone.Goals as goal

pub returns : goal.returns
returns c = reply_is_bare
