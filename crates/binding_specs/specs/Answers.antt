-- The answer of a guest to a call, what it costs, and the guest behind it. Contracts cite this module.
use Rattle.std.specs.Prelude.{ℕ, List, [], Result, Ok, Err}
use Rattle.fmi_states.specs.declared.phase.Phase.TheVariants.{Fresh}
use Rattle.fmi_states.specs.declared.call.Call.{Call}
use Rattle.fmi_states.specs.declared.reply.Broken.{Broken}
use Rattle.fmi_states.specs.declared.reply.Reply.{Reply}
use Rattle.fmi_states.specs.declared.reply.Reply.TheVariants as reply
use Rattle.fmi_states.specs.Phase.{next_phase}
use Rattle.unit_specs.specs.Description.{Description}
use Rattle.wasm_types.specs.Modules.{NestedModule}
use Rattle.code_specs.specs.Instances.{opening_store}
use Rattle.binding_specs.specs.Guests.{Guest}
use Rattle.binding_specs.specs.Pieces.{Work}
use Rattle.binding_specs.specs.Exchanges.{exchange}

-- a guest before its first call
abbrev pub fresh_guest : NestedModule → Description → (budget : ℕ) → Guest
fresh_guest m d budget = record {
  code = m;
  description = d;
  budget = budget;
  phase = Fresh;
  area = 0;
  store = opening_store m;
}

-- what an exchange begins with
abbrev pub work_of : Guest → Work
work_of g = record { store = g.store; area = g.area; used = [] }

abbrev pub reply_of : Result Reply Broken → Reply
reply_of (Ok r) = r
reply_of (Err why) = reply.Broken why

-- the guest behind a call that came to this: its phase moves by the table
abbrev pub guest_behind : Guest → Call → Reply → Work → Guest
guest_behind g c r w = record g { phase = next_phase g.phase c r; area = w.area; store = w.store }

-- the reply to a call, and the guest behind it
unfoldable pub answer : Guest → Call → Reply × Guest
answer g c = (reply_of done.0, guest_behind g c (reply_of done.0) done.1)
  where
    done : Result Reply Broken × Work
    done = exchange g c (work_of g)

-- what each function that a call runs uses of its budget, in the order in which they are run
unfoldable pub used_by : Guest → Call → List ℕ
used_by g c = (exchange g c (work_of g)).1.used
