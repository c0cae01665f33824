use Rattle.std.proofs.Common.{ap, ◌∙◌}
use Rattle.bench_outside.specs.declared.refusal.FileId.TheVariants.{Module}
use Rattle.wasm_types.specs.Back.{nested_module}
use Rattle.unit_specs.specs.Description.{Description}
use Rattle.network_specs.specs.Nodes.{Node}
use Rattle.network_specs.specs.Networks.{module_name}
use Rattle.network_folder.specs.Parts.{module_said}
use Rattle.network_folder.proofs.OneFile.{unfetched_as, fetched_as, module_limits}
use Rattle.network_folder.proofs.files.read_code.Goals as goal

pub returns-in-Err : goal.returns-in-Err
returns-in-Err g c =
    unfetched_as g.H.Shelf c.args.shelf.now c.fetch_file.new.shelf c.args.digest.now c.fetch_file.new.digest (Module c.args.place) 4194304 c.as_str.result.now (module_name c.args.net.now c.args.node.now.fmu c.args.description.now.identifier) ((c.as_str.ensures.value ∙ c.in_ok-name.ensures) ∙ (ap (λ (n : Node). module_name c.args.net.now n.fmu c.description.inside.identifier) c.node.view_is ∙ ap (λ (d : Description). module_name c.args.net.now c.args.node.now.fmu d.identifier) c.description.view_is))
    (λ v. v.items) nested_module (module_said c.args.place c.args.description.now) c.in-Err.error (module_limits c.args.place c.args.description.now) c.in-Err.ensures

pub returns : goal.returns
returns g c =
    fetched_as g.H.Shelf c.args.shelf.now c.fetch_file.new.shelf c.args.digest.now c.fetch_file.new.digest (Module c.args.place) 4194304 c.as_str.result.now (module_name c.args.net.now c.args.node.now.fmu c.args.description.now.identifier) ((c.as_str.ensures.value ∙ c.in_ok-name.ensures) ∙ (ap (λ (n : Node). module_name c.args.net.now n.fmu c.description.inside.identifier) c.node.view_is ∙ ap (λ (d : Description). module_name c.args.net.now c.args.node.now.fmu d.identifier) c.description.view_is))
    (λ v. v.items) c.in-Ok.bytes c.deref.result.now c.deref.ensures.value nested_module (module_said c.args.place c.args.description.now) c.module_of.result c.in-Ok.ensures c.module_of.ensures
