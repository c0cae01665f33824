use Rattle.std.proofs.Common.{rules, ◌≡◌, true, All, ◌∙◌, subst}
use Rattle.bus_specs.specs.Bus.{member_is}
use Rattle.play_specs.specs.Scenario.{takers}
use Rattle.play_run.specs.Moments.{taken_by}
use Rattle.play_run.proofs.Submitting.{takers-members, takes-behind, takes-of}
use Rattle.play_run.proofs.moment.moment_lines.Goals as goal

pub take_notices-requires : goal.take_notices-requires
take_notices-requires c =
    record { members = rw (c.deref.ensures.value ∙ c.in_ok-nodes.ensures) (takers-members c.args.medium.now c.args.now) }

pub submit_at-requires : goal.submit_at-requires
submit_at-requires c = record {
  takes = takes-of c.args.medium.now c.take_notices.new.medium c.args.now c.args.ahead.now.items c.deref.result.now _ (search rules)
      (c.deref.ensures.value ∙ c.in_ok-nodes.ensures) c.in_ok-take_notices.ensures.bus c.requires.takes;
}
