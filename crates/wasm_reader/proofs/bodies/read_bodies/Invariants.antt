use Rattle.std.proofs.Common.{◌≡◌, ◌≤◌, drop, length}
use Rattle.module_specs.specs.ModuleReading.{bodies_at}
use Rattle.module_specs.proofs.Loops.{with_front}
use Rattle.wasm_reader.specs.Flat.{flat_funcs}
use Rattle.wasm_reader.proofs.bodies.read_bodies.Given as goal

abbrev pub invariant-loop-ty : goal.invariant-loop-ty
invariant-loop-ty l = record {
  place : l.place ≤ length l.bytes;
  is : with_front l.funcs.items (flat_funcs (bodies_at (drop l.ty-index l.indices) l.bytes l.place)) ≡ flat_funcs (bodies_at l.indices l.bytes l.at);
}
