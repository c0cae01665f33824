use Rattle.code_laws.proofs.Growth.{never_shrinks}
use Rattle.code_laws.proofs.sound_calls.memories_never_become_smaller.Goals as goal

pub returns : goal.returns
returns c = never_shrinks
