use Rattle.std.proofs.Common.{rules, arith, ◌≡◌, ◌<◌, ◌+◌, ◌^◌, length, map}
use Rattle.std.specs.Prelude.{IfSome}
use Rattle.bus_specs.specs.Bus.{Member}
use Rattle.bus_medium.specs.Losers.{member_from}
use Rattle.bus_medium.proofs.Walked.{walked-changed, walked-room}
use Rattle.bus_medium.proofs.starting.see_starts.Goals as goal

pub loop-member-preserved : goal.loop-member-preserved
loop-member-preserved c =
    let f = member_from c.args.spans c.args.due c.args.gone.now in
    let m = c.member-item.result in
    let after = c.see_start.new.self in
    let inside : c.loop-member.member-index < length c.loop-member.members = omega arith in
    let done : after ≡ f m = search rules in
    record {
      changed = walked-changed f c.loop-member.members c.loop-member.member-index m after inside
          (map f c.args.members.now) c.member-item.is done c.loop-member.invariant.changed;
      room = walked-room f c.loop-member.members c.loop-member.member-index m after inside
          (λ (x : Member). IfSome x.occurrences (λ n. n + c.args.spans < 2 ^ 63)) c.loop-member.invariant.room;
    }
