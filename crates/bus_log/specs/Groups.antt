-- What is told by verbs of one shape.
use Rattle.std.specs.Prelude.{ℕ, List}
use Rattle.operation_specs.specs.Operation.{Declared}
use Rattle.frame_specs.specs.Frame.{Frame}
use Rattle.log_specs.specs.Line as log
use Rattle.log_specs.specs.Line.{Told}
use Rattle.bus_log.specs.declared.verb.Verb.{Verb}
use Rattle.bus_log.specs.declared.verb.Verb.TheVariants as verb

abbrev pub with_frame : Verb → Frame → Told
with_frame verb.Full f = log.Full f
with_frame verb.Drop f = log.Drop f
with_frame verb.Start f = log.Start f
with_frame _ f = log.Req f

abbrev pub with_nothing : Verb → Told
with_nothing verb.Discard = log.Discard
with_nothing verb.Wake = log.Wake
with_nothing verb.Sleep = log.Sleep
with_nothing verb.Back = log.Back
with_nothing _ = log.Keep

abbrev pub with_value : Verb → ℕ → Told
with_value verb.FdRate v = log.FdRate v
with_value _ v = log.Rate v

abbrev pub with_level : Verb → Declared → Told
with_level verb.State l = log.State l
with_level _ l = log.Status l

abbrev pub with_bytes : Verb → List ℕ → Told
with_bytes verb.Bad h = log.Bad h
with_bytes _ h = log.FormatError h
