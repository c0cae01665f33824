use Rattle.code_laws.proofs.Calling.{body_leaves, end_has_results}
use Rattle.code_laws.proofs.typed_code.typed_bodies_leave_exactly_their_results.Goals as goal

pub returns-clause-types : goal.returns-clause-types
returns-clause-types c = body_leaves

pub returns-clause-values : goal.returns-clause-values
returns-clause-values c = end_has_results
