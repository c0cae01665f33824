use Rattle.code_laws.proofs.Calling.{never_stuck}
use Rattle.code_laws.proofs.sound_calls.valid_calls_are_never_stuck.Goals as goal

pub returns : goal.returns
returns c = never_stuck
