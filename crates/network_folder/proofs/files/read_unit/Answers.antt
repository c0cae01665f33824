use Rattle.std.proofs.Common.{ap, ◌∙◌}
use Rattle.bench_outside.specs.declared.refusal.FileId.TheVariants.{Description}
use Rattle.network_specs.specs.Nodes.{Node}
use Rattle.network_specs.specs.Networks.{description_name}
use Rattle.network_folder.specs.Parts.{description_said}
use Rattle.network_folder.proofs.OneFile.{unfetched_as, fetched_as, description_limits}
use Rattle.network_folder.proofs.files.read_unit.Goals as goal

pub returns-in-Err : goal.returns-in-Err
returns-in-Err g c =
    unfetched_as g.H.Shelf c.args.shelf.now c.fetch_file.new.shelf c.args.digest.now c.fetch_file.new.digest (Description c.args.place) 1048576 c.as_str.result.now (description_name c.args.net.now c.args.node.now.fmu) ((c.as_str.ensures.value ∙ c.in_ok-name.ensures) ∙ ap (λ (n : Node). description_name c.args.net.now n.fmu) c.node.view_is)
    (λ v. v.items) (λ d. d) (description_said c.args.place) c.in-Err.error (description_limits c.args.place) c.in-Err.ensures

pub returns : goal.returns
returns g c =
    fetched_as g.H.Shelf c.args.shelf.now c.fetch_file.new.shelf c.args.digest.now c.fetch_file.new.digest (Description c.args.place) 1048576 c.as_str.result.now (description_name c.args.net.now c.args.node.now.fmu) ((c.as_str.ensures.value ∙ c.in_ok-name.ensures) ∙ ap (λ (n : Node). description_name c.args.net.now n.fmu) c.node.view_is)
    (λ v. v.items) c.in-Ok.bytes c.deref.result.now c.deref.ensures.value (λ d. d) (description_said c.args.place) c.description_of.result c.in-Ok.ensures c.description_of.ensures
