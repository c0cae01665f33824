-- The calls of a session with their replies, in order.
use Rattle.std.specs.Prelude.{◌≡◌, List, [], ◌∷◌, ◌++◌, IsTrue}
use Rattle.fmi_states.specs.declared.phase.Phase.{Phase}
use Rattle.fmi_states.specs.declared.call.Call.{Call}
use Rattle.fmi_states.specs.declared.reply.Reply.{Reply}
use Rattle.fmi_states.specs.Phase.{is_permitted}
use Rattle.unit_specs.specs.Description.{Description}
use Rattle.session_specs.specs.Outcome.{SessionIn}
use Rattle.session_specs.specs.Session.{session_of, close_of}

-- a call with its reply
pub record Exchange : Type 0 where
  pub call : Call
  pub reply : Reply

abbrev pub exchange : Call → Reply → Exchange
exchange c r = record { call = c; reply = r }

-- a state of a unit, and the calls so far
pub record Noted (S : Type 0) : Type 0 where
  pub state : S
  pub exchanges : List Exchange

abbrev pub noted_at : {S : Type 0} → S → List Exchange → Noted S
noted_at s exchanges = record { state = s; exchanges = exchanges }

module _ {S : Type 0} (answer : S → Call → Reply × S) where
  -- the same answers, each noted
  abbrev pub noting : Noted S → Call → Reply × Noted S
  noting s c = (
    (answer s.state c).0,
    noted_at (answer s.state c).1 (s.exchanges ++ exchange c (answer s.state c).0 ∷ []),
  )

  -- the calls of a session
  abbrev pub session_calls : (S → Phase) → Description → SessionIn → S → List Exchange
  session_calls phase_of d input s = ((session_of noting (λ n. phase_of n.state) d input (noted_at s [])).1).exchanges

  -- the calls of a close
  abbrev pub close_calls : S → List Exchange
  close_calls s = ((close_of noting (noted_at s [])).1).exchanges

  -- These calls lead from s to t: each is permitted in the phase that it finds, and answered as the unit answers.
  abbrev pub IsRun : (S → Phase) → S → List Exchange → S → Type 0
  IsRun phase_of s [] t = s ≡ t
  IsRun phase_of s (first ∷ others) t = IsTrue (is_permitted (phase_of s) first.call)
      × ((answer s first.call).0 ≡ first.reply) × IsRun phase_of (answer s first.call).1 others t
