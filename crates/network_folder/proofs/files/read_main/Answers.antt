use Rattle.std.proofs.Common.{◌∙◌}
use Rattle.bench_outside.specs.declared.refusal.FileId.TheVariants.{Main}
use Rattle.network_specs.specs.Networks.{network_file_name}
use Rattle.network_folder.specs.Parts.{file_said}
use Rattle.network_folder.proofs.OneFile.{unfetched_as, fetched_as, file_limits}
use Rattle.network_folder.proofs.files.read_main.Goals as goal

pub returns-in-Err : goal.returns-in-Err
returns-in-Err g c =
    unfetched_as g.H.Shelf c.args.shelf.now c.fetch_file.new.shelf c.args.digest.now c.fetch_file.new.digest Main 1048576 c.as_str.result.now (network_file_name c.args.net.now) (c.as_str.ensures.value ∙ c.in_ok-name.ensures)
    (λ v. v.items) (λ f. f) file_said c.in-Err.error file_limits c.in-Err.ensures

pub returns : goal.returns
returns g c =
    fetched_as g.H.Shelf c.args.shelf.now c.fetch_file.new.shelf c.args.digest.now c.fetch_file.new.digest Main 1048576 c.as_str.result.now (network_file_name c.args.net.now) (c.as_str.ensures.value ∙ c.in_ok-name.ensures)
    (λ v. v.items) c.in-Ok.bytes c.deref.result.now c.deref.ensures.value (λ f. f) file_said c.network_file_of.result c.in-Ok.ensures c.network_file_of.ensures
