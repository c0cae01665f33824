-- The words of the laws of a session. Contracts cite this module.
use Rattle.std.specs.Prelude.{◌≡◌, ◌<◌, ◌≤◌, ℕ, ◌+◌, ◌^◌, Bool, true, false, List, [], ◌∷◌, Option, None, Some, if◌then◌else◌, ⊤}
use Rattle.fmi_states.specs.declared.call.Call.{Call}
use Rattle.fmi_states.specs.declared.call.Call.TheVariants as call
use Rattle.fmi_states.specs.declared.reply.Reply.{Reply}
use Rattle.fmi_states.specs.declared.reply.Reply.TheVariants as reply
use Rattle.fmi_states.specs.declared.status.FmiStatus.{FmiStatus}
use Rattle.fmi_states.specs.declared.status.FmiStatus.TheVariants as status
use Rattle.fmi_states.specs.Reply.{status_of}
use Rattle.session_specs.specs.Outcome.{DueChange, Keep, Clear, At}
use Rattle.session_specs.specs.Exchanges.{Exchange}

-- ---- updates

-- an update that isn't refused, by what it says of another one and of the end
abbrev pub update_by : (says : Bool → Bool → Bool) → Call → Reply → Bool
update_by says call.Update (reply.Updated status.Ok another_update end) = says another_update end
update_by says call.Update (reply.Updated status.Warning another_update end) = says another_update end
update_by says c r = false

-- it asks for another one and not for the end
abbrev pub says_again : Bool → Bool → Bool
says_again true false = true
says_again another_update end = false

-- it asks for the end, whatever it says of another one
abbrev pub says_end : Bool → Bool → Bool
says_end another_update end = end

abbrev pub asks_by : Call → Reply → Bool
asks_by = update_by says_again

abbrev pub ends_by : Call → Reply → Bool
ends_by = update_by says_end

abbrev pub one_if : Bool → ℕ
one_if b = if b then 1 else 0

-- how many calls with their replies pass a test
abbrev pub count_of : (Call → Reply → Bool) → List Exchange → ℕ
count_of test [] = 0
count_of test (x ∷ others) = one_if (test x.call x.reply) + count_of test others

-- how many updates ask for another one, and how many for the end
abbrev pub again_of : List Exchange → ℕ
again_of exchanges = count_of asks_by exchanges

abbrev pub ends_of : List Exchange → ℕ
ends_of exchanges = count_of ends_by exchanges

-- ---- faults

-- these calls are one call of Free
abbrev pub IsFreeAlone : List Exchange → Type 0
IsFreeAlone [] = ⊥
IsFreeAlone (only ∷ []) = only.call ≡ call.Free
IsFreeAlone (first ∷ second ∷ others) = ⊥

-- what follows a call that was answered by Discard or Error: where it left an instance Free alone, else nothing
abbrev pub FollowsRefusal : Call → List Exchange → Type 0
FollowsRefusal call.Instantiate others = others ≡ []
FollowsRefusal call.Free others = others ≡ []
FollowsRefusal other others = IsFreeAlone others

-- What follows a call by what it returned: behind Fatal nothing, and nothing where the unit broke.
abbrev pub FollowsStatus : Call → Option FmiStatus → List Exchange → (Fine : Type 0) → Type 0
FollowsStatus c (Some status.Ok) others Fine = Fine
FollowsStatus c (Some status.Warning) others Fine = Fine
FollowsStatus c (Some status.Discard) others Fine = FollowsRefusal c others
FollowsStatus c (Some status.Error) others Fine = FollowsRefusal c others
FollowsStatus c (Some status.Fatal) others Fine = others ≡ []
FollowsStatus c None others Fine = others ≡ []

-- A fault ends the calls.
abbrev pub EndsByFaults : List Exchange → Type 0
EndsByFaults [] = ⊤
EndsByFaults (first ∷ others) = FollowsStatus first.call (status_of first.reply) others (EndsByFaults others)

-- ---- clocks

-- a clock is set behind this moment, by 2^62 ticks at most
abbrev pub IsAhead : (moment : ℕ) → DueChange → Type 0
IsAhead moment Keep = ⊤
IsAhead moment Clear = ⊤
IsAhead moment (At due) = (moment < due) × (due ≤ moment + 2 ^ 62)
