-- Answers of guests, from what their exchanges come to.
use Rattle.std.specs.Prelude.{◌≡◌, ℕ, [], Result, IsTrue, refl}
use Rattle.std.proofs.Common.{sym, ap, ◌∙◌, subst}
use Rattle.fmi_states.specs.declared.phase.Phase.{Phase}
use Rattle.fmi_states.specs.declared.call.Call.{Call}
use Rattle.fmi_states.specs.declared.reply.Reply.{Reply}
use Rattle.fmi_states.specs.declared.reply.Broken.{Broken}
use Rattle.fmi_states.specs.Phase.{is_permitted, next_phase}
use Rattle.fmi_states.specs.Reply.{is_suitable}
use Rattle.wasm_machine.specs.declared.instance.Instance.{Instance}
use Rattle.binding_specs.specs.Pieces.{Work}
use Rattle.binding_specs.specs.Exchanges.{exchange}
use Rattle.binding_specs.specs.Answers.{answer, reply_of, guest_behind as guest_then}
use Rattle.fmi_binding.specs.declared.guests.Guests.{Guests}
use Rattle.fmi_binding.specs.declared.state.GuestState.{GuestState}
use Rattle.fmi_binding.specs.declared.wasm_ecu.WasmEcu.{WasmEcu}
use Rattle.fmi_binding.specs.States.{guest_of, state_behind, state_answer}
use Rattle.fmi_binding.specs.Ecus.{state_of}
use Rattle.fmi_binding.specs.Coming.{Held, Comes, held}
use Rattle.fmi_binding.specs.Laws.{suits}

pub guest_behind : (s : GuestState) (c : Call) → guest_of (state_answer s c).1 ≡ (answer (guest_of s) c).1
unfolding state_answer answer
guest_behind s c = refl

-- the state with what a call has left
abbrev pub state_with : GuestState → Call → Reply → Held → GuestState
state_with s c r k = record s { phase = next_phase s.phase c r; area = k.area; bytes = k.store.bytes; globals = k.store.globals }

-- what the exchange of a call comes to is the answer
pub answered : (s : GuestState) (c : Call) (k : Held) (r : Result Reply Broken)
    → Comes (exchange (guest_of s) c) (record { store = record { bytes = s.bytes; globals = s.globals }; area = s.area }) k r
    → state_answer s c ≡ (reply_of r, state_with s c (reply_of r) k)
unfolding state_answer answer
answered s c k r came =
    ap (λ (q : Result Reply Broken × Work). (reply_of q.0, state_behind s (guest_then (guest_of s) c (reply_of q.0) q.1))) (came.each []).1

-- so the call has this reply, and leaves this guest
pub answered_by : (e : WasmEcu) (s t : Guests) (c : Call) (i : Instance) (area : ℕ) (came : Result Reply Broken) (r : Reply) (phase : Phase)
    → Comes (exchange (guest_of (state_of e s)) c) (held s.pool e.instance e.area) (held t.pool i area) came
    → r ≡ reply_of came → phase ≡ next_phase e.phase c r
    → state_answer (state_of e s) c ≡ (r, state_of (record { bound = e.bound; instance = i; phase = phase; area = area }) t)
answered_by e s t c i area came r phase comes is moved =
    answered (state_of e s) c (held t.pool i area) came comes
    ∙ ap (λ (x : Reply). (x, state_with (state_of e s) c x (held t.pool i area))) (sym is)
    ∙ ap (λ (p : Phase). (r, state_of (record { bound = e.bound; instance = i; phase = p; area = area }) t)) (sym moved)

-- and the reply suits the call
pub suits_by : (s new : GuestState) (c : Call) (r : Reply) → state_answer s c ≡ (r, new) → IsTrue (is_permitted s.phase c)
    → IsTrue (is_suitable c r)
suits_by s new c r e permitted = subst (λ (q : Reply × GuestState). IsTrue (is_suitable c q.0)) e (suits s c permitted)
