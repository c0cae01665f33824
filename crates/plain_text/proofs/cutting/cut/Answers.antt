use Rattle.plain_text.proofs.Cuts.{parts_said}
use Rattle.plain_text.proofs.cutting.cut.Goals as goal

pub returns : goal.returns
returns c = parts_said c.args.separator c.args.text.now (λ a. a.now) (λ b. b.now) c.find.result c.find.ensures
