use Rattle.bench_outside.proofs.FileLaws.{file_at-put_file_other}
use Rattle.bench_outside.proofs.mem_shelf.a_put_file_spares_others.Goals as goal

pub returns : goal.returns
returns c = file_at-put_file_other
