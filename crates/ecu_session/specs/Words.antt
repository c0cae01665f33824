-- What the enums of the code stand for. Public clauses cite this file.
use Rattle.log_lines.specs.Lines.{cause_of}
use Rattle.session_specs.specs.Outcome as outcome
use Rattle.session_specs.specs.Replies as replies
use Rattle.ecu_session.specs.declared.ends.End.{End}
use Rattle.ecu_session.specs.declared.ends.End.TheVariants.{Live, Over, Down}
use Rattle.ecu_session.specs.declared.dues.DueChange.{DueChange}
use Rattle.ecu_session.specs.declared.dues.DueChange.TheVariants.{Keep, Clear, At}
use Rattle.ecu_session.specs.declared.iterating.Wish.{Wish}
use Rattle.ecu_session.specs.declared.iterating.Wish.TheVariants.{AnotherUpdate, NoUpdate, TheEnd}

abbrev pub end_of : End → outcome.End
end_of Live = outcome.Live
end_of Over = outcome.Over
end_of (Down why) = outcome.Down (cause_of why)

abbrev pub due_change_of : DueChange → outcome.DueChange
due_change_of Keep = outcome.Keep
due_change_of Clear = outcome.Clear
due_change_of (At due) = outcome.At due

abbrev pub wish_word : Wish → replies.Wish
wish_word AnotherUpdate = replies.AnotherUpdate
wish_word NoUpdate = replies.NoUpdate
wish_word TheEnd = replies.TheEnd
