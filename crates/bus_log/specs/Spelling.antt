-- What a text is read as: the line whose text it is, or nothing where it is the text of none. Public clauses cite this file.
use Rattle.std.specs.Prelude.{◌≡◌, ℕ, List, Option, Some, None}
use Rattle.log_specs.specs.Line.{Line, line_text}
use Rattle.log_lines.specs.IsLine.{IsLine, Fits}

-- the text of a line of a log that the code can hold
pub record Spells (text : List ℕ) (line : Line) : Type 0 where
  pub is_line : IsLine line
  pub fits : Fits line
  pub spelled : line_text line ≡ text

abbrev pub IsReadAs : List ℕ → Option Line → Type 0
IsReadAs text (Some line) = Spells text line
IsReadAs text None = (line : Line) → ¬ Spells text line
