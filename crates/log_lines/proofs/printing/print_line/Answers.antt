use Rattle.std.proofs.Common.{rules, ◌≡◌, ◌++◌, ◌∷◌, []}
use Rattle.log_specs.specs.Line.{line_text}
use Rattle.log_lines.specs.Lines.{line_of}
use Rattle.log_lines.specs.Parts.{head_of, rest_of, spaced}
use Rattle.log_lines.proofs.Texts.{line_text_parts}
use Rattle.log_lines.proofs.printing.print_line.Goals as goal

pub returns : goal.returns
returns c =
    let text : line_text (line_of c.args.line.now) ≡ (head_of (line_of c.args.line.now) ++ spaced (rest_of (line_of c.args.line.now))) ++ 10 ∷ [] =
    line_text_parts (line_of c.args.line.now) in
    search (rules, text)
