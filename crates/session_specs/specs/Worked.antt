-- Worked sessions of a unit that answers from a list, computed.
use Rattle.std.specs.Prelude.{◌≡◌, ℕ, suc, zero, true, false, List, [], ◌∷◌, ◌++◌, length, refl}
use Rattle.fmi_states.specs.declared.reply.Reply.{Reply}
use Rattle.fmi_states.specs.declared.reply.Reply.TheVariants.{Plain, Clock, Updated}
use Rattle.fmi_states.specs.declared.status.FmiStatus.TheVariants as status
use Rattle.fmi_states.specs.ListEcu.{list_answer, fresh_with}
use Rattle.unit_specs.specs.Description.{Description, Terminal}
use Rattle.log_specs.specs.Line.{Loop}
use Rattle.session_specs.specs.Outcome.{SessionIn, Live, Down}
use Rattle.session_specs.specs.Session.{session_of, iterations}
use Rattle.session_specs.specs.Exchanges.{session_calls}

-- the same replies n times, and then others
abbrev repeated : ℕ → List Reply → List Reply → List Reply
repeated zero part behind = behind
repeated (suc n) part behind = part ++ repeated n part behind

abbrev terminal : Terminal
terminal = record { name = []; rx_data = 1; tx_data = 3; rx_clock = 0; tx_clock = 2; rx_max = 256; tx_max = 256 }

abbrev one_terminal : Description
one_terminal = record { identifier = []; countdown = []; terminals = terminal ∷ [] }

abbrev at_once : SessionIn
at_once = record { moment = 0; last = 0; resolution = 1000000; ticked = []; inbox = [] ∷ [] }

abbrev fine : Reply
fine = Plain status.Ok

-- sixteen updates that each ask for another one
abbrev never_enough : List Reply
never_enough = fine ∷ fine ∷ fine ∷ repeated 16 (Clock status.Ok false ∷ Updated status.Ok true false ∷ []) []

-- of which the last one doesn't
abbrev enough_at_last : List Reply
enough_at_last = fine ∷ fine ∷ fine ∷ repeated 15 (Clock status.Ok false ∷ Updated status.Ok true false ∷ [])
    (Clock status.Ok false ∷ Updated status.Ok false false ∷ fine ∷ [])

never_enough-end : (session_of list_answer (λ s. s.phase) one_terminal at_once (fresh_with never_enough)).0
    ≡ record { emitted = []; dues = []; end = Down Loop }
unfolding iterations
never_enough-end = refl

never_enough-calls : length (session_calls list_answer (λ s. s.phase) one_terminal at_once (fresh_with never_enough)) ≡ 35
unfolding iterations
never_enough-calls = refl

enough_at_last-end : ((session_of list_answer (λ s. s.phase) one_terminal at_once (fresh_with enough_at_last)).0).end ≡ Live
unfolding iterations
enough_at_last-end = refl

enough_at_last-calls : length (session_calls list_answer (λ s. s.phase) one_terminal at_once (fresh_with enough_at_last)) ≡ 36
unfolding iterations
enough_at_last-calls = refl
