-- The state of a unit that answers from a list, and its answer to a call.
use Rattle.std.specs.Prelude.{◌≡◌, ◌<◌, ℕ, Bool, true, false, IsTrue, List, [], ◌∷◌, if◌then◌else◌, nat_lt, refl}
use Rattle.std.proofs.lemmas.Bool.{and_parts, ltb-true}
use Rattle.std.proofs.lemmas.List.Elements.{All-nil, All-cons}
use Rattle.fmi_states.specs.declared.phase.Phase.{Phase}
use Rattle.fmi_states.specs.declared.phase.Phase.TheVariants.{Fresh}
use Rattle.fmi_states.specs.declared.call.Call.{Call}
use Rattle.fmi_states.specs.declared.call.Call.TheVariants as call
use Rattle.fmi_states.specs.declared.reply.Reply.{Reply}
use Rattle.fmi_states.specs.declared.reply.Reply.TheVariants.{Broken}
use Rattle.fmi_states.specs.declared.reply.Reply.TheVariants as reply
use Rattle.fmi_states.specs.declared.reply.Broken.TheVariants.{BadReply}
use Rattle.fmi_states.specs.Reply.{is_suitable, bytes_in, AreBytes, are_bytes}
use Rattle.fmi_states.specs.Phase.{next_phase}

-- the phase, and the replies that are left
pub record ListState : Type 0 where
  pub phase : Phase
  pub replies : List Reply

-- a new unit with these replies
abbrev pub fresh_with : List Reply → ListState
fresh_with replies = record { phase = Fresh; replies = replies }

-- what a call gets from the replies: the first one, where there is one and it suits
abbrev pub reply_from : Call → List Reply → Reply
reply_from c [] = Broken BadReply
reply_from c (first ∷ others) = if is_suitable c first then first else Broken BadReply

-- what a call leaves of the replies: all but the first one, also where that didn't suit
abbrev pub replies_behind : List Reply → List Reply
replies_behind [] = []
replies_behind (first ∷ others) = others

-- the reply to a call and the state behind it
abbrev pub list_answer : ListState → Call → Reply × ListState
list_answer s c =
    (reply, record { phase = next_phase s.phase c reply; replies = replies_behind s.replies })
  where
    reply : Reply
    reply = reply_from c s.replies

-- a reply that is replaced where it doesn't suit the call suits it
suits-chosen : (c : Call) (r : Reply) (b : Bool) → is_suitable c r ≡ b
    → IsTrue (is_suitable c (if b then r else Broken BadReply))
suits-chosen c r true suits = suits
suits-chosen c r false suits = refl

-- a reply from the list suits its call
pub reply_from_suits : (c : Call) (replies : List Reply)
    → IsTrue (is_suitable c (reply_from c replies))
reply_from_suits c [] = refl
reply_from_suits c (first ∷ others) = suits-chosen c first (is_suitable c first) refl

-- where each passes, they are bytes
bytes-pass : (bs : List ℕ) → are_bytes bs ≡ true → AreBytes bs
bytes-pass [] pass = All-nil (λ b. b < 256)
bytes-pass (b ∷ bs) pass =
    let each = and_parts (nat_lt b 256) (are_bytes bs) pass in
    All-cons (λ b. b < 256) b bs (ltb-true b 256 each.0) (bytes-pass bs each.1)

-- what suits a call are bytes
suitable-bytes : (c : Call) (r : Reply) → is_suitable c r ≡ true → AreBytes (bytes_in r)
suitable-bytes call.Instantiate (reply.Data status bytes) suits = cc suits
suitable-bytes call.EnterInit (reply.Data status bytes) suits = cc suits
suitable-bytes call.ExitInit (reply.Data status bytes) suits = cc suits
suitable-bytes call.EnterEvent (reply.Data status bytes) suits = cc suits
suitable-bytes call.EnterStep (reply.Data status bytes) suits = cc suits
suitable-bytes (call.SetClock r) (reply.Data status bytes) suits = cc suits
suitable-bytes (call.SetBinary r bs) (reply.Data status bytes) suits = cc suits
suitable-bytes (call.GetClock r) (reply.Data status bytes) suits = cc suits
suitable-bytes (call.GetBinary r) (reply.Data status bytes) suits = bytes-pass bytes suits
suitable-bytes call.Update (reply.Data status bytes) suits = cc suits
suitable-bytes (call.GetInterval r) (reply.Data status bytes) suits = cc suits
suitable-bytes (call.DoStep from size) (reply.Data status bytes) suits = cc suits
suitable-bytes call.Terminate (reply.Data status bytes) suits = cc suits
suitable-bytes call.Free (reply.Data status bytes) suits = cc suits
suitable-bytes c (reply.Plain status) suits = All-nil (λ b. b < 256)
suitable-bytes c (reply.Clock status ticks) suits = All-nil (λ b. b < 256)
suitable-bytes c (reply.Updated status another_update end) suits = All-nil (λ b. b < 256)
suitable-bytes c (reply.Interval status counter resolution qualifier) suits = All-nil (λ b. b < 256)
suitable-bytes c (reply.Broken reason) suits = All-nil (λ b. b < 256)

-- so what is replaced where it doesn't suit are bytes
chosen-bytes : (c : Call) (r : Reply) (b : Bool) → is_suitable c r ≡ b
    → AreBytes (bytes_in (if b then r else Broken BadReply))
chosen-bytes c r true suits = suitable-bytes c r suits
chosen-bytes c r false suits = All-nil (λ b. b < 256)

-- and what a reply from the list has are bytes
pub reply_from_bytes : (c : Call) (replies : List Reply)
    → AreBytes (bytes_in (reply_from c replies))
reply_from_bytes c [] = All-nil (λ b. b < 256)
reply_from_bytes c (first ∷ others) = chosen-bytes c first (is_suitable c first) refl
