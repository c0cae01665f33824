use Rattle.module_laws.proofs.Refused.{no-count-refused, modules-refused, never-read-refused, header-refused, never-refused, past-refused, end-refused, cut-refused, count-refused}
use Rattle.module_laws.proofs.wrong.wrong_readings_are_refused.Goals as goal

pub returns-clause-header_alone : goal.returns-clause-header_alone
returns-clause-header_alone c = header-refused

pub returns-clause-never_refused : goal.returns-clause-never_refused
returns-clause-never_refused c = never-refused

pub returns-clause-past_the_end : goal.returns-clause-past_the_end
returns-clause-past_the_end c = past-refused

pub returns-clause-at_the_end : goal.returns-clause-at_the_end
returns-clause-at_the_end c = end-refused

pub returns-clause-cut_accepted : goal.returns-clause-cut_accepted
returns-clause-cut_accepted c = cut-refused

pub returns-clause-uncounted : goal.returns-clause-uncounted
returns-clause-uncounted c = count-refused

pub returns-clause-never_read : goal.returns-clause-never_read
returns-clause-never_read c = never-read-refused

pub returns-clause-no_count : goal.returns-clause-no_count
returns-clause-no_count c = no-count-refused

pub returns-clause-cut_refused : goal.returns-clause-cut_refused
returns-clause-cut_refused c = modules-refused
