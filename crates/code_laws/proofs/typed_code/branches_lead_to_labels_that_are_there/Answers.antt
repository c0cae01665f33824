use Rattle.code_laws.proofs.Labels.{code_labels}
use Rattle.code_laws.proofs.Calling.{body_labels}
use Rattle.code_laws.proofs.typed_code.branches_lead_to_labels_that_are_there.Goals as goal

pub returns-clause-list : goal.returns-clause-list
returns-clause-list c = code_labels

pub returns-clause-body : goal.returns-clause-body
returns-clause-body c = body_labels
