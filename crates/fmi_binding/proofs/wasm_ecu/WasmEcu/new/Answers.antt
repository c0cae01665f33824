use Rattle.std.proofs.Common.{◌≡◌, ◌≤◌, true, arith, sym, subst}
use Rattle.unit_specs.specs.Description.{Description}
use Rattle.wasm_types.specs.Back.{nested_module}
use Rattle.code_specs.specs.Stores.{Store, pages}
use Rattle.wasm_validate.specs.Valid.{IsChecked}
use Rattle.wasm_machine.specs.Making.{suits}
use Rattle.binding_specs.specs.Guests.{greatest_size}
use Rattle.fmi_binding.proofs.Kept.{store-opens}
use Rattle.fmi_binding.proofs.wasm_ecu.WasmEcu.new.Goals as goal

pub returns-clause-here : goal.returns-clause-here
returns-clause-here c = record {
  stands = c.in_ok-instance.ensures.stands;
  bound = c.requires.bound;
  sizes = subst (λ (d : Description). greatest_size d.terminals ≤ 65536) (sym c.in_ok-description.ensures) c.requires.sizes;
  area = omega arith;
  store = subst (λ (s : Store). suits (nested_module c.args.code) (pages s) s.bytes s.globals ≡ true)
      (sym c.in_ok-instance.ensures.store)
      (store-opens c.args.code c.args.description.now c.args.fuel (subst IsChecked c.code.view_is c.code.invariant) c.requires.fits);
  placed = tt;
}
