use Rattle.std.proofs.Common.{◌≡◌, sym, ap, ◌∙◌, subst}
use Rattle.bus_specs.specs.Submit.{submission_of, Transmit, Unfit}
use Rattle.bus_specs.specs.Sound.{IsSubmission}
use Rattle.bus_ops.specs.Views.{item_of}
use Rattle.bus_medium.specs.Submissions.{asked_of}
use Rattle.bus_sound.proofs.Submitted.{submission_of-fits}
use Rattle.bus_medium.proofs.medium.Medium.submit.Goals as goal

pub request-requires-clause-fits : goal.request-requires-clause-fits
request-requires-clause-fits c =
    let s = c.args.self.now.setup in
    let e : submission_of s (item_of c.args.item) ≡ Transmit c.in-Transmit.frame = sym c.in_ok-frame.ensures ∙ ap asked_of c.in-Transmit.is in
    subst (IsSubmission s) e (submission_of-fits s (item_of c.args.item) c.requires.item)

pub answer-requires-clause-echo : goal.answer-requires-clause-echo
answer-requires-clause-echo c =
    let s = c.args.self.now.setup in
    let e : submission_of s (item_of c.args.item) ≡ Unfit c.in-Unfit.bytes = sym c.in_ok-frame.ensures ∙ ap asked_of c.in-Unfit.is in
    subst (IsSubmission s) e (submission_of-fits s (item_of c.args.item) c.requires.item)
