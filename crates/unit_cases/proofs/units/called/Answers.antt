use Rattle.std.proofs.Common.{ap, sym, ◌∙◌}
use Rattle.fmi_states.specs.Phase.{is_permitted}
use Rattle.unit_cases.proofs.units.called.Goals as goal

pub call-requires : goal.call-requires
call-requires c = record {
  permitted = ap (λ p. is_permitted p c.in_ok-call.call) (sym (c.phase.ensures tt tt)) ∙ sym c.permitted.ensures
      ∙ c.if-not-permitted.false;
}
