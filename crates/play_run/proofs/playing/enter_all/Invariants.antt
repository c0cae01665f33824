use Rattle.std.proofs.Common.{◌≡◌, All, true, fold, ◌-◌}
use Rattle.std.specs.List.{range_with_len}
use Rattle.bus_specs.specs.Bus.{member_is}
use Rattle.bus_specs.specs.Inbox.{enter}
use Rattle.play_run.proofs.playing.enter_all.Given as goal

-- The nodes that are left enter, and all are members.
abbrev pub invariant-loop-node : goal.invariant-loop-node
invariant-loop-node l = record {
  members : All (λ n. member_is (λ m. true) l.medium.members n ≡ true) (range_with_len 0 l.nodes);
  entered : l.medium ≡ fold enter l.fn.medium (range_with_len 0 l.node);
}
