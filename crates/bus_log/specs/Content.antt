-- What stands in a line beside its moment, its bus and its node has the sizes of the code. No public clause cites this file.
use Rattle.std.specs.Prelude.{◌^◌, Bool, true, nat_lt}
use Rattle.log_specs.specs.Line.{Line, On, Down, Over, End}
use Rattle.log_lines.specs.IsLine.{told_fits}

abbrev pub content_fits : Line → Bool
content_fits (On t b n told) = told_fits told
content_fits (Down t n cause) = true
content_fits (Over t n) = true
content_fits (End status events) = nat_lt events (2 ^ 64)
