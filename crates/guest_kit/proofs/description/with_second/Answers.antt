use Rattle.std.proofs.Common.{refl, ap, ◌∙◌}
use Rattle.toml.specs.Parse.{parse_document}
use Rattle.toml.proofs.OnLiterals.{toml_on_literals}
use Rattle.guest_kit.proofs.description.with_second.Goals as goal

pub returns : goal.returns
unfolding toml_on_literals
returns c = ap parse_document c.in_ok-text.ensures ∙ refl
