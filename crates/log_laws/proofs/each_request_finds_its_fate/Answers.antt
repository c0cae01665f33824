use Rattle.log_laws.proofs.Balance.{requests-fit}
use Rattle.log_laws.proofs.each_request_finds_its_fate.Goals as goal

pub returns : goal.returns
returns c = record { fits = requests-fit }
