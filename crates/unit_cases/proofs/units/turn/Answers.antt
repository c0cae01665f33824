use Rattle.std.proofs.Common.{ap, sym, ◌∙◌}
use Rattle.fmi_states.specs.Phase.{is_permitted}
use Rattle.unit_cases.proofs.units.turn.Goals as goal

pub call_in_turn-requires-clause-permitted : goal.call_in_turn-requires-clause-permitted
call_in_turn-requires-clause-permitted c = ap (λ p. is_permitted p c.in_ok-first-2.first) (sym (c.phase.ensures tt tt))
    ∙ sym c.permitted.ensures ∙ c.if-not-permitted.false
