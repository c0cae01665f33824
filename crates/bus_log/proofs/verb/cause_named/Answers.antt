use Rattle.std.proofs.Common.{ap, ◌∙◌, List, [], ◌∷◌}
use Rattle.std.specs.Prelude.{option_map}
use Rattle.log_specs.specs.Line.{cause_text}
use Rattle.log_lines.specs.declared.words.Cause.{Cause}
use Rattle.log_lines.specs.declared.words.Cause.TheVariants.{Trap, Spent, Status2, Status3, Status4, BadReply, BadBuffer, Loop, BadInterval}
use Rattle.log_lines.specs.Lines.{cause_of}
use Rattle.bus_log.proofs.Named.{named-map}
use Rattle.bus_log.proofs.verb.cause_named.Goals as goal

pub returns : goal.returns
returns c =
    let causes : List Cause = Trap ∷ Spent ∷ Status2 ∷ Status3 ∷ Status4 ∷ BadReply ∷ BadBuffer ∷ Loop ∷ BadInterval ∷ [] in
    ap (option_map cause_of) c.cause_among.ensures ∙ named-map cause_of cause_text causes c.args.word.now
