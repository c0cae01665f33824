use Rattle.std.proofs.Common.{◌≡◌, ◌≤◌, length}
use Rattle.std.specs.Prelude.{Some}
use Rattle.bench_outside.specs.Shelf.{Contents}
use Rattle.whole_files.proofs.Within.{read_as, all, longer, given, over, never_unread}
use Rattle.whole_files.proofs.fetching.fetch.Goals as goal

pub returns-in-Ok-clause-bytes : goal.returns-in-Ok-clause-bytes
returns-in-Ok-clause-bytes g c =
    given c.args.limit c.in-Ok.bytes c.within.result c.within.ensures
    (λ v. (held : Contents) → g.H.Shelf.holds c.args.shelf.now ≡ Some held → v.items ≡ held c.args.name.now)
    (λ few held h. all c.args.limit c.in-Ok.bytes.items (held c.args.name.now) (read_as _ held _ _ _ h c.in-Ok.ensures.bytes) few)

pub returns-in-Ok-clause-within : goal.returns-in-Ok-clause-within
returns-in-Ok-clause-within g c = given c.args.limit c.in-Ok.bytes c.within.result c.within.ensures (λ v. length v.items ≤ c.args.limit) (λ few. few)

pub returns-in-Ok-clause-size : goal.returns-in-Ok-clause-size
returns-in-Ok-clause-size g c size held h =
    longer c.args.limit c.in-Ok.bytes.items (held c.args.name.now) (read_as _ held _ _ _ h c.in-Ok.ensures.bytes)
    (over c.args.limit c.in-Ok.bytes c.within.result c.within.ensures size)

pub returns-in-Ok-clause-unread : goal.returns-in-Ok-clause-unread
returns-in-Ok-clause-unread g c unread = absurd (never_unread c.args.limit c.in-Ok.bytes c.within.result c.within.ensures unread)

pub returns-in-Ok-clause-named : goal.returns-in-Ok-clause-named
returns-in-Ok-clause-named g c unread = absurd (never_unread c.args.limit c.in-Ok.bytes c.within.result c.within.ensures unread)
