use Rattle.wasm_writer.proofs.Load.{load_is_spelled}
use Rattle.module_cases.proofs.building.load.Goals as goal

pub shortest_len-len-requires : goal.shortest_len-len-requires
shortest_len-len-requires c = load_is_spelled c.in_ok-parts.parts c.in_ok-parts.ensures

pub write_module-requires : goal.write_module-requires
write_module-requires c = load_is_spelled c.in_ok-parts.parts c.in_ok-parts.ensures
