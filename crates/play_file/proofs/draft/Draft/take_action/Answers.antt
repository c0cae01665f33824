use Rattle.std.proofs.Common.{sym, ◌∙◌}
use Rattle.play_file.proofs.Written.{last_of-push}
use Rattle.play_file.proofs.draft.Draft.take_action.Goals as goal

pub invariant_of-self-2 : goal.invariant_of-self-2
invariant_of-self-2 c = record {
  some = c.self.invariant.some;
  nominal_is = c.self.invariant.nominal_is;
  fast_is = c.self.invariant.fast_is;
  last_is = rw c.in_ok-push.ensures.items (c.moment-moment.ensures ∙ sym (last_of-push 0 c.self.inside.actions.items c.in-Some.action));
}
