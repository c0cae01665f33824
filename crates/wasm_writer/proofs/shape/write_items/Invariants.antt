use Rattle.std.proofs.Common.{◌≡◌, ◌<◌, ◌^◌, ◌++◌, drop, length}
use Rattle.wasm_writer.specs.Texts.{each_text}
use Rattle.wasm_writer.proofs.shape.write_items.Given as goal

abbrev pub invariant-loop-item : goal.invariant-loop-item
invariant-loop-item g l = record {
  small : length (each_text g.S.Shape.text (drop l.item-index l.items)) < 2 ^ 32;
  is : l.out.items ++ each_text g.S.Shape.text (drop l.item-index l.items) ≡ l.initial.out.items ++ each_text g.S.Shape.text l.items;
}
