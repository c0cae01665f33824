use Rattle.std.proofs.Common.{◌≡◌, ◌+◌, length, drop}
use Rattle.wasm_writer.specs.Texts.{each_text}
use Rattle.wasm_writer.proofs.shape.items_len.Given as goal

abbrev pub invariant-loop-item : goal.invariant-loop-item
invariant-loop-item g l = l.sum + length (each_text g.S.Shape.text (drop l.item-index l.items)) ≡ length (each_text g.S.Shape.text l.items)
