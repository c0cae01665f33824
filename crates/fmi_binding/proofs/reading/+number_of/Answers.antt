use Rattle.std.proofs.Common.{arith}
use Rattle.fmi_binding.proofs.Areas.{small_number}
use Rattle.fmi_binding.proofs.reading.+number_of.Goals as goal

pub overflow_mul-result : goal.overflow_mul-result
overflow_mul-result t c = omega (
  arith,
  small_number c.number_of.result _ c.number_of.ensures.below
      (omega (arith, c.requires, c.in-len1-up.len_at_least)),
)

pub overflow_add-result : goal.overflow_add-result
overflow_add-result t c = omega (
  arith,
  c.from.ensures,
  c.type_inv.bytes 0,
  small_number c.number_of.result _ c.number_of.ensures.below
      (omega (arith, c.requires, c.in-len1-up.len_at_least)),
)
