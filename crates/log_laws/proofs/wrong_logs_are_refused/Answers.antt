use Rattle.log_laws.proofs.Refused.{latest-refused, beaten-refused, higher-refused, sleeping-sender-refused, early-refused, sleeping-receiver-refused, hurt-receiver-refused, missed-receiver-refused, delivered-twice-refused, silent-loser-refused, kept-for-discard-refused, loser-of-nothing-refused, accepted-off-refused, full-too-soon-refused, late-end-refused, late-start-refused, falling-moment-refused, failed-other-refused, second-start-refused, discarded-nothing-refused, forgotten-refused, after-stop-refused, wrong-end-refused, left-undone-refused, unanswered-refused, no-events-refused, start-first-refused}
use Rattle.log_laws.proofs.wrong_logs_are_refused.Goals as goal

pub returns-clause-latest_of_equals : goal.returns-clause-latest_of_equals
returns-clause-latest_of_equals c = latest-refused

pub returns-clause-beaten_winner : goal.returns-clause-beaten_winner
returns-clause-beaten_winner c = beaten-refused

pub returns-clause-higher_node : goal.returns-clause-higher_node
returns-clause-higher_node c = higher-refused

pub returns-clause-sleeping_sender : goal.returns-clause-sleeping_sender
returns-clause-sleeping_sender c = sleeping-sender-refused

pub returns-clause-early_start : goal.returns-clause-early_start
returns-clause-early_start c = early-refused

pub returns-clause-sleeping_receiver : goal.returns-clause-sleeping_receiver
returns-clause-sleeping_receiver c = sleeping-receiver-refused

pub returns-clause-hurt_receiver : goal.returns-clause-hurt_receiver
returns-clause-hurt_receiver c = hurt-receiver-refused

pub returns-clause-missed_receiver : goal.returns-clause-missed_receiver
returns-clause-missed_receiver c = missed-receiver-refused

pub returns-clause-delivered_twice : goal.returns-clause-delivered_twice
returns-clause-delivered_twice c = delivered-twice-refused

pub returns-clause-silent_loser : goal.returns-clause-silent_loser
returns-clause-silent_loser c = silent-loser-refused

pub returns-clause-kept_for_discard : goal.returns-clause-kept_for_discard
returns-clause-kept_for_discard c = kept-for-discard-refused

pub returns-clause-loser_of_nothing : goal.returns-clause-loser_of_nothing
returns-clause-loser_of_nothing c = loser-of-nothing-refused

pub returns-clause-accepted_off : goal.returns-clause-accepted_off
returns-clause-accepted_off c = accepted-off-refused

pub returns-clause-full_too_soon : goal.returns-clause-full_too_soon
returns-clause-full_too_soon c = full-too-soon-refused

pub returns-clause-late_end : goal.returns-clause-late_end
returns-clause-late_end c = late-end-refused

pub returns-clause-late_start : goal.returns-clause-late_start
returns-clause-late_start c = late-start-refused

pub returns-clause-falling_moment : goal.returns-clause-falling_moment
returns-clause-falling_moment c = falling-moment-refused

pub returns-clause-failed_other : goal.returns-clause-failed_other
returns-clause-failed_other c = failed-other-refused

pub returns-clause-second_start : goal.returns-clause-second_start
returns-clause-second_start c = second-start-refused

pub returns-clause-discarded_nothing : goal.returns-clause-discarded_nothing
returns-clause-discarded_nothing c = discarded-nothing-refused

pub returns-clause-forgotten : goal.returns-clause-forgotten
returns-clause-forgotten c = forgotten-refused

pub returns-clause-after_stop : goal.returns-clause-after_stop
returns-clause-after_stop c = after-stop-refused

pub returns-clause-wrong_end : goal.returns-clause-wrong_end
returns-clause-wrong_end c = wrong-end-refused

pub returns-clause-left_undone : goal.returns-clause-left_undone
returns-clause-left_undone c = left-undone-refused

pub returns-clause-unanswered : goal.returns-clause-unanswered
returns-clause-unanswered c = unanswered-refused

pub returns-clause-no_events : goal.returns-clause-no_events
returns-clause-no_events c = no-events-refused

pub returns-clause-start_first : goal.returns-clause-start_first
returns-clause-start_first c = start-first-refused
