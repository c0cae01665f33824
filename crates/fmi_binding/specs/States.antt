-- The state of a guest as a guest, and its answers.
use Rattle.fmi_states.specs.declared.call.Call.{Call}
use Rattle.fmi_states.specs.declared.reply.Reply.{Reply}
use Rattle.wasm_types.specs.Back.{nested_module}
use Rattle.binding_specs.specs.Guests.{Guest}
use Rattle.binding_specs.specs.Answers.{answer}
use Rattle.fmi_binding.specs.declared.state.GuestState.{GuestState}

-- its module with nested code
abbrev pub guest_of : GuestState → Guest
guest_of s = record {
  code = nested_module s.code;
  description = s.description;
  budget = s.budget;
  phase = s.phase;
  area = s.area;
  store = record { bytes = s.bytes; globals = s.globals };
}

-- the state with what a call may change
abbrev pub state_behind : GuestState → Guest → GuestState
state_behind s g = record s { phase = g.phase; area = g.area; bytes = g.store.bytes; globals = g.store.globals }

-- the reply to a call, and the state behind it
unfoldable pub state_answer : GuestState → Call → Reply × GuestState
state_answer s c = ((answer (guest_of s) c).0, state_behind s (answer (guest_of s) c).1)
