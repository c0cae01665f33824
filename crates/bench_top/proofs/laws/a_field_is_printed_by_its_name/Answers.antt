use Rattle.bench_top.proofs.Fields.{network_printed, description_printed}
use Rattle.bench_top.proofs.laws.a_field_is_printed_by_its_name.Goals as goal

pub returns-clause-network : goal.returns-clause-network
returns-clause-network c = network_printed

pub returns-clause-description : goal.returns-clause-description
returns-clause-description c = description_printed
