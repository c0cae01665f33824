use Rattle.std.proofs.Common.{◌≡◌, ap, sym, ◌∙◌}
use Rattle.unit_specs.specs.Description.{Description}
use Rattle.network_specs.specs.Nodes.{Node}
use Rattle.network_specs.specs.Plans.{attached_buses}
use Rattle.network_folder.proofs.OneNode.{no_description, no_bus, no_code, node_there}
use Rattle.network_folder.proofs.nodes.read_node.Goals as goal

pub returns-in-Err : goal.returns-in-Err
returns-in-Err g c =
    no_description g.H.Shelf c.args.shelf.now c.read_unit.new.shelf c.args.digest.now c.read_unit.new.digest c.args.net.now c.args.place c.args.node.now c.in-Err.error c.in-Err.ensures

pub returns-in_default : goal.returns-in_default
returns-in_default g c =
    let known : c.in_ok-buses.field-0 ≡ attached_buses c.args.node.now.attachments c.in-Ok.description.terminals =
    c.in_ok-buses.ensures
    ∙ (ap (λ entries. attached_buses entries c.deref-2.result.now) (c.deref.ensures.value ∙ ap (λ (n : Node). n.attachments) c.node.view_is)
    ∙ ap (attached_buses c.args.node.now.attachments) (c.deref-2.ensures.value ∙ ap (λ (d : Description). d.terminals) c.description.view_is)) in
    rw c.refused.ensures
    (no_bus g.H.Shelf c.args.shelf.now c.read_unit.new.shelf c.args.digest.now c.read_unit.new.digest c.args.net.now c.args.place c.args.node.now c.in-Ok.description c.in-Ok.ensures (sym known ∙ c.in_default.is))

pub returns-in-Err-read_code : goal.returns-in-Err-read_code
returns-in-Err-read_code g c =
    let known : c.in_ok-buses.field-0 ≡ attached_buses c.args.node.now.attachments c.in-Ok.description.terminals =
    c.in_ok-buses.ensures
    ∙ (ap (λ entries. attached_buses entries c.deref-2.result.now) (c.deref.ensures.value ∙ ap (λ (n : Node). n.attachments) c.node.view_is)
    ∙ ap (attached_buses c.args.node.now.attachments) (c.deref-2.ensures.value ∙ ap (λ (d : Description). d.terminals) c.description.view_is)) in
    no_code g.H.Shelf c.args.shelf.now c.read_unit.new.shelf c.read_code.new.shelf c.args.digest.now c.read_unit.new.digest c.read_code.new.digest c.args.net.now c.args.place c.args.node.now c.in-Ok.description c.in-Some.buses
    c.in-Err-read_code.error c.in-Ok.ensures (sym known ∙ c.in-Some.is) c.in-Err-read_code.ensures

pub returns : goal.returns
returns g c =
    let known : c.in_ok-buses.field-0 ≡ attached_buses c.args.node.now.attachments c.in-Ok.description.terminals =
    c.in_ok-buses.ensures
    ∙ (ap (λ entries. attached_buses entries c.deref-2.result.now) (c.deref.ensures.value ∙ ap (λ (n : Node). n.attachments) c.node.view_is)
    ∙ ap (attached_buses c.args.node.now.attachments) (c.deref-2.ensures.value ∙ ap (λ (d : Description). d.terminals) c.description.view_is)) in
    node_there g.H.Shelf c.args.shelf.now c.read_unit.new.shelf c.read_code.new.shelf c.args.digest.now c.read_unit.new.digest c.read_code.new.digest c.args.net.now c.args.place c.args.node.now c.in-Ok.description c.in-Some.buses
    c.in-Ok-read_code.code c.in-Ok.ensures (sym known ∙ c.in-Some.is) c.in-Ok-read_code.ensures
