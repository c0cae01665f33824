use Rattle.std.proofs.Common.{Some, ap}
use Rattle.bench_outside.specs.MemShelf.{contents_of}
use Rattle.bench_outside.proofs.FileLaws.{contents_of-put_file, with_file-same}
use Rattle.bench_outside.proofs.mem_shelf.MemShelfShelf.write.Goals as goal

-- the name still holds what it held
pub returns-then-next_fails-clause-failed : goal.returns-then-next_fails-clause-failed
returns-then-next_fails-clause-failed c = λ _.
    let name = c.args.name.now in
    let held = contents_of c.self.inside.entries.items in (
      contents_of c.args.self.now.files name,
      rw (← c.self.view_is) (ap Some (with_file-same held name)),
    )

pub returns-clause-stored : goal.returns-clause-stored
returns-clause-stored c =
    let files = c.self.inside.entries.items in
    rw (c.in_ok-put_entry.ensures.ok, c.as_bytes-2.ensures.value, ← c.self.view_is)
    (ap Some (contents_of-put_file files c.args.name.now c.args.bytes.now))
