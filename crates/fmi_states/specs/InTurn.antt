-- Two calls in turn, of which the second is made only where the first leaves it permitted.
use Rattle.std.specs.Prelude.{Bool, true, false, None, Some}
use Rattle.fmi_states.specs.declared.phase.Phase.{Phase}
use Rattle.fmi_states.specs.declared.call.Call.{Call}
use Rattle.fmi_states.specs.declared.reply.Reply.{Reply}
use Rattle.fmi_states.specs.declared.in_turn.RepliesInTurn.{RepliesInTurn}
use Rattle.fmi_states.specs.Phase.{is_permitted}

-- the replies and the state behind the second call where it is permitted, and else without it
abbrev pub answer_behind : {S : Type 0} → (S → Call → Reply × S)
    → Reply → Call → S → Bool → RepliesInTurn × S
answer_behind answer reply second s true =
    (record { first = reply; second = Some (answer s second).0 }, (answer s second).1)
answer_behind answer reply second s false = (record { first = reply; second = None }, s)

-- the replies to two calls in turn, and the state behind them
abbrev pub answer_in_turn : {S : Type 0} → (S → Call → Reply × S) → (S → Phase)
    → Call → Call → S → RepliesInTurn × S
answer_in_turn answer phase_of first second s =
    answer_behind answer (answer s first).0 second (answer s first).1
    (is_permitted (phase_of (answer s first).1) second)
