use Rattle.std.proofs.Common.{rules, ◌≡◌, All, sym, subst}
use Rattle.fmi_binding.specs.contracts.wasm_ecu.WasmEcuEcu.TheImpl.{ghosts}
use Rattle.guest_worlds.specs.Opening.{IsDescribed}
use Rattle.guest_worlds.proofs.Opened.{described, fresh, as-many}
use Rattle.guest_worlds.proofs.opening.open_world.Goals as goal

pub guests_of-requires-clause-described : goal.guests_of-requires-clause-described
guests_of-requires-clause-described c =
    let nodes : c.deref.result.now ≡ c.args.plan.nodes = search rules in
    subst (All IsDescribed) (sym nodes) (described _ c.args.plan.nodes c.requires.plan.nodes)

pub new-requires-2-clause-each : goal.new-requires-2-clause-each
new-requires-2-clause-each c = as-many ghosts c.in_ok-ecus.ecus.items c.guests_of.new.shared c.args.plan.fuel c.args.codes.items c.args.plan.nodes (search rules) c.requires.each

pub new-requires-2-clause-fresh : goal.new-requires-2-clause-fresh
new-requires-2-clause-fresh c = fresh ghosts c.in_ok-ecus.ecus.items c.guests_of.new.shared c.args.plan.fuel c.args.codes.items c.args.plan.nodes (search rules)
