use Rattle.wasm_machine.specs.Instances.{store_in}
use Rattle.fmi_binding.specs.Ecus.{state_of}
use Rattle.fmi_binding.proofs.Units.{answered_by, suits_by}
use Rattle.fmi_binding.proofs.Kept.{store-behind, placed-behind}
use Rattle.fmi_binding.proofs.wasm_ecu.WasmEcuEcu.call.Goals as goal

pub returns-clause-answer : goal.returns-clause-answer
returns-clause-answer c =
    answered_by c.args.self.now c.args.shared.now c.exchange_any.new.guests c.args.call.now c.exchange_any.new.instance
    c.exchange_any.new.area
    c.in_ok-came.came c.reply_of-reply.result c.next-self.result
    (c.in_ok-came.ensures.comes c.args.self.now.phase (store_in c.args.shared.now.pool c.args.self.now.instance))
    c.reply_of-reply.ensures c.next-self.ensures

pub returns-clause-suits : goal.returns-clause-suits
returns-clause-suits c =
    suits_by (state_of c.args.self.now c.args.shared.now) _ c.args.call.now c.reply_of-reply.result (returns-clause-answer c)
    c.requires.permitted

pub returns-clause-here : goal.returns-clause-here
returns-clause-here c =
    let before = state_of c.args.self.now c.args.shared.now in
    record {
      stands = record { made = c.in_ok-came.ensures.leaves.made; there = c.in_ok-came.ensures.leaves.there };
      bound = c.requires.here.bound;
      sizes = c.requires.here.sizes;
      area = c.in_ok-came.ensures.area;
      store = store-behind before _ c.args.call.now c.reply_of-reply.result (returns-clause-answer c) c.requires.here.store;
      placed = placed-behind before _ c.args.call.now c.reply_of-reply.result (returns-clause-answer c)
          c.requires.permitted c.requires.here.placed;
    }
