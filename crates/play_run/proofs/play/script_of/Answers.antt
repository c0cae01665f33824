use Rattle.std.proofs.Common.{rules}
use Rattle.play_run.proofs.Scripting.{runnable}
use Rattle.play_run.proofs.play.script_of.Goals as goal

pub returns-clause-runnable : goal.returns-clause-runnable
returns-clause-runnable c = runnable c.args.play _ c.into_lists-errors.ensures.play c.requires.few (search rules) c.nodes-nodes.ensures.value
