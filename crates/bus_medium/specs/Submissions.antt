-- What a submission and its fate stand for. No public clause cites this file.
use Rattle.std.specs.Prelude.{Bool, true, false}
use Rattle.bus_specs.specs.Submit as model
use Rattle.log_lines.specs.Lines.{declared_of}
use Rattle.bus_medium.specs.declared.submission.Submission.{Submission}
use Rattle.bus_medium.specs.declared.submission.Submission.TheVariants.{Transmit, Keep, Discard, Wakeup, Sleep, Noted, Unfit}
use Rattle.bus_medium.specs.declared.submission.Noted as noted
use Rattle.bus_medium.specs.declared.submission.Noted.TheVariants.{Rate, FdRate, Declare, FormatError}
use Rattle.bus_medium.specs.declared.submitting.Fate.{Fate}
use Rattle.bus_medium.specs.declared.submitting.Fate.TheVariants as fate

abbrev pub noted_of : noted.Noted → model.Submission
noted_of (Rate value) = model.Rate value
noted_of (FdRate value) = model.FdRate value
noted_of (Declare level) = model.Declare (declared_of level)
noted_of (FormatError bytes) = model.FormatError bytes

abbrev pub asked_of : Submission → model.Submission
asked_of (Transmit frame) = model.Transmit frame
asked_of Keep = model.Keep
asked_of Discard = model.Discard
asked_of Wakeup = model.Wakeup
asked_of Sleep = model.Sleep
asked_of (Noted n) = noted_of n
asked_of (Unfit bytes) = model.Unfit bytes

abbrev pub fate_of : Fate → model.Fate
fate_of fate.Accepted = model.Accepted
fate_of fate.Full = model.Full
fate_of fate.Dropped = model.Dropped

abbrev pub keep_or_discard : Bool → model.Submission
keep_or_discard true = model.Discard
keep_or_discard false = model.Keep
