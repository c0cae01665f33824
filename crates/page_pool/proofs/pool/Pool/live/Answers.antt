use Rattle.std.proofs.Common.{ap, ◌∙◌}
use Rattle.page_pool.specs.Kept.{live_of}
use Rattle.page_pool.proofs.Live.{used_is}
use Rattle.page_pool.proofs.pool.Pool.live.Goals as goal

pub returns : goal.returns
returns c = c.self.invariant.kept.live_is ∙ used_is _ _ _ c.self.invariant.sound ∙ ap live_of c.self.view_is
