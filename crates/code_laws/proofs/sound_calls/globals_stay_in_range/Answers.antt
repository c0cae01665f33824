use Rattle.code_laws.proofs.Ranges.{globals_stay}
use Rattle.code_laws.proofs.sound_calls.globals_stay_in_range.Goals as goal

pub returns : goal.returns
returns c = globals_stay
