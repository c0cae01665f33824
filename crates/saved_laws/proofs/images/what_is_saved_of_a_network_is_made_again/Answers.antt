use Rattle.std.proofs.Common.{sym, ap, ◌∙◌}
use Rattle.network_images.specs.Images.{network_from}
use Rattle.saved_laws.proofs.Imaged.{made-again}
use Rattle.saved_laws.proofs.images.what_is_saved_of_a_network_is_made_again.Goals as goal

pub returns-clause-again : goal.returns-clause-again
returns-clause-again g c = λ unit p states w h planned are. made-again unit p states w h planned are

pub returns-clause-tells : goal.returns-clause-tells
returns-clause-tells g c = λ unit p states w v h k planned also are be same.
    sym (made-again unit p states w h planned are) ∙ ap (network_from p states) same ∙ made-again unit p states v k also be
