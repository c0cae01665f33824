use Rattle.bench_outside.proofs.FileLaws.{file_at-put_file}
use Rattle.bench_outside.proofs.mem_shelf.a_put_file_is_found.Goals as goal

pub returns : goal.returns
returns c = file_at-put_file
