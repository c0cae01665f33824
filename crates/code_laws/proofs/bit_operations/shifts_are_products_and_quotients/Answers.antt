use Rattle.code_laws.proofs.Shifts.{shl_is, shr_u_is, rotl_is, rotr_is}
use Rattle.code_laws.proofs.bit_operations.shifts_are_products_and_quotients.Goals as goal

pub returns-clause-shl : goal.returns-clause-shl
returns-clause-shl c = shl_is

pub returns-clause-shr_u : goal.returns-clause-shr_u
returns-clause-shr_u c = shr_u_is

pub returns-clause-rotl : goal.returns-clause-rotl
returns-clause-rotl c = rotl_is

pub returns-clause-rotr : goal.returns-clause-rotr
returns-clause-rotr c = rotr_is
