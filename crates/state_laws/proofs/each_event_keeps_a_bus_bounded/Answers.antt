use Rattle.state_laws.proofs.Bounds.{start-keeps, finish-keeps, recover-keeps, enter-bounded, take-bounded, submit-bounded, leave-bounded}
use Rattle.state_laws.proofs.each_event_keeps_a_bus_bounded.Goals as goal

pub returns-clause-start : goal.returns-clause-start
returns-clause-start c = λ limit bit ids now b l i s h. start-keeps limit bit ids now l i b s h

pub returns-clause-finish : goal.returns-clause-finish
returns-clause-finish c = λ limit bit ids now b l i s h. finish-keeps limit bit ids now l i b s h

pub returns-clause-recover : goal.returns-clause-recover
returns-clause-recover c = λ limit bit ids now node b h. recover-keeps limit bit ids now b node h

pub returns-clause-enter : goal.returns-clause-enter
returns-clause-enter c = λ limit bit ids node b h. enter-bounded limit bit ids b node h

pub returns-clause-take : goal.returns-clause-take
returns-clause-take c = λ limit bit ids now node b h. take-bounded limit bit ids now b node h

pub returns-clause-submit : goal.returns-clause-submit
returns-clause-submit c = λ limit bit ids now node b what l h. submit-bounded limit bit ids now l b node what h

pub returns-clause-leave : goal.returns-clause-leave
returns-clause-leave c = λ limit bit ids node b h. leave-bounded limit bit ids b node h
