-- What a line of the code stands for. Public clauses cite this file.
use Rattle.operation_specs.specs.Operation as operation
use Rattle.operation_specs.specs.Operation.{Declared}
use Rattle.log_specs.specs.Line as log
use Rattle.log_lines.specs.declared.words.Level.{Level}
use Rattle.log_lines.specs.declared.words.Level.TheVariants.{Active, Passive, Off}
use Rattle.log_lines.specs.declared.words.Cause.{Cause}
use Rattle.log_lines.specs.declared.words.Cause.TheVariants as cause
use Rattle.log_lines.specs.declared.line.Line.{Line}
use Rattle.log_lines.specs.declared.line.Line.TheVariants as line

abbrev pub declared_of : Level → Declared
declared_of Active = operation.Active
declared_of Passive = operation.Passive
declared_of Off = operation.Off

abbrev pub cause_of : Cause → log.Cause
cause_of cause.Trap = log.Trap
cause_of cause.Spent = log.Spent
cause_of cause.Status2 = log.Status2
cause_of cause.Status3 = log.Status3
cause_of cause.Status4 = log.Status4
cause_of cause.BadReply = log.BadReply
cause_of cause.BadBuffer = log.BadBuffer
cause_of cause.Loop = log.Loop
cause_of cause.BadInterval = log.BadInterval

abbrev pub line_of : Line → log.Line
line_of (line.Req t b n f) = log.On t b n (log.Req f)
line_of (line.Full t b n f) = log.On t b n (log.Full f)
line_of (line.Drop t b n f) = log.On t b n (log.Drop f)
line_of (line.Keep t b n) = log.On t b n log.Keep
line_of (line.Discard t b n) = log.On t b n log.Discard
line_of (line.Wake t b n) = log.On t b n log.Wake
line_of (line.Sleep t b n) = log.On t b n log.Sleep
line_of (line.Rate t b n v) = log.On t b n (log.Rate v)
line_of (line.FdRate t b n v) = log.On t b n (log.FdRate v)
line_of (line.Status t b n l) = log.On t b n (log.Status (declared_of l))
line_of (line.State t b n l) = log.On t b n (log.State (declared_of l))
line_of (line.FormatError t b n h) = log.On t b n (log.FormatError h)
line_of (line.Bad t b n h) = log.On t b n (log.Bad h)
line_of (line.ToldLost t b n id) = log.On t b n (log.ToldLost id)
line_of (line.ToldFormat t b n h) = log.On t b n (log.ToldFormat h)
line_of (line.ToldWake t b n) = log.On t b n log.ToldWake
line_of (line.Back t b n) = log.On t b n log.Back
line_of (line.Start t b n f) = log.On t b n (log.Start f)
line_of (line.LostKept t b n f) = log.On t b n (log.LostKept f)
line_of (line.LostGone t b n f) = log.On t b n (log.LostGone f)
line_of (line.Done t b n f ns) = log.On t b n (log.Done f ns)
line_of (line.Fail t b n f k m) = log.On t b n (log.Fail f k m)
line_of (line.Hurt t b n k) = log.On t b n (log.Hurt k)
line_of (line.Down t n c) = log.Down t n (cause_of c)
line_of (line.Over t n) = log.Over t n
line_of (line.End status events) = log.End status events
