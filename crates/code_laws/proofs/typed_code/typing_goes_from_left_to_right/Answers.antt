use Rattle.code_laws.proofs.Order.{in_order}
use Rattle.code_laws.proofs.typed_code.typing_goes_from_left_to_right.Goals as goal

pub returns : goal.returns
returns c = in_order
