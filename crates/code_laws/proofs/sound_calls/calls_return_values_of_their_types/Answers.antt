use Rattle.code_laws.proofs.Calling.{answers}
use Rattle.code_laws.proofs.sound_calls.calls_return_values_of_their_types.Goals as goal

pub returns : goal.returns
returns c = answers
