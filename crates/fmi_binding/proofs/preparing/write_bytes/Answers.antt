use Rattle.std.proofs.Common.{sym, ◌∙◌, ◌+◌}
use Rattle.wasm_memory.specs.Pools.{bytes_in}
use Rattle.wasm_machine.specs.Instances.{store_in}
use Rattle.fmi_binding.proofs.Preparations.{written, not_written}
use Rattle.fmi_binding.proofs.preparing.write_bytes.Goals as goal

pub returns-then-done-clause-comes : goal.returns-then-done-clause-comes
returns-then-done-clause-comes c =
    written (c.args.area + 64) c.args.bytes.now (store_in c.args.guests.now.pool c.args.instance.now) c.args.area
    (bytes_in c.write.new.pool c.write.new.self.memory) c.write.new.self.globals.items
    (sym c.in_ok-done.ensures.within ∙ c.if-done.true) (rw c.if-done.true at c.in_ok-done.ensures.bytes) c.in_ok-done.ensures.globals

pub returns-else-done-clause-comes : goal.returns-else-done-clause-comes
returns-else-done-clause-comes c =
    not_written (c.args.area + 64) c.args.bytes.now (store_in c.args.guests.now.pool c.args.instance.now) c.args.area
    (bytes_in c.write.new.pool c.write.new.self.memory) c.write.new.self.globals.items
    (sym c.in_ok-done.ensures.within ∙ c.if-done.false) (rw c.if-done.false at c.in_ok-done.ensures.bytes) c.in_ok-done.ensures.globals
