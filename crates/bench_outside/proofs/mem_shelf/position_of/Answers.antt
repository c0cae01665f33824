use Rattle.std.proofs.Common.{◌≡◌, ◌∙◌, true, sym}
use Rattle.std.specs.Str.{bytes_eq}
use Rattle.bench_outside.proofs.FileLaws.{put_file-at}
use Rattle.bench_outside.proofs.mem_shelf.position_of.Goals as goal

-- this entry is the first of the name
pub returns-then-eq-clause-found : goal.returns-then-eq-clause-found
returns-then-eq-clause-found c =
    let file = c.index-entries-i.result in
    let here = c.index-entries-i.is in
    let inside = c.loop-i-test.true in
    let same = sym c.eq.ensures ∙ c.if-eq.true in
    let named : bytes_eq file.0 c.args.name.now ≡ true =
    rw (← c.entry.view_is, ← c.as_slice.ensures.value) same in
    let put = put_file-at c.args.entries.now c.loop-i.i file c.args.name.now in
    (inside, λ bytes. c.loop-i.invariant bytes ∙ put bytes inside here named)
