-- What a test of updates weighs.
use Rattle.std.proofs.Common.{◌≡◌, ℕ, Bool, true, false, None, Some, refl, sym, ap}
use Rattle.fmi_states.specs.declared.call.Call.{Call}
use Rattle.fmi_states.specs.declared.call.Call.TheVariants as call
use Rattle.fmi_states.specs.declared.reply.Reply.{Reply}
use Rattle.fmi_states.specs.declared.reply.Reply.TheVariants as reply
use Rattle.fmi_states.specs.declared.status.FmiStatus.{FmiStatus}
use Rattle.fmi_states.specs.declared.status.FmiStatus.TheVariants as status
use Rattle.log_specs.specs.Line.{Cause}
use Rattle.session_specs.specs.Replies.{fault_of, status_fault, Wish, AnotherUpdate, NoUpdate, TheEnd, wish_of}
use Rattle.session_laws.specs.Laws.{one_if, update_by}
use Rattle.session_laws.proofs.Counting.{is_update, Weighs}

-- a wish weighs one where the test says so of an update with that wish
abbrev pub weight_of : (says : Bool → Bool → Bool) → Wish → ℕ
weight_of says AnotherUpdate = one_if (says true false)
weight_of says NoUpdate = one_if (says false false)
weight_of says TheEnd = one_if (says false true)

-- a test that says no of an update without a wish, and where the end is asked for goes by that alone
module _ (says : Bool → Bool → Bool) (nothing : says false false ≡ false) (whatever : says true true ≡ says false true) where
  each : (s : FmiStatus) (more end : Bool) → one_if (says more end) ≡ weight_of says (wish_of (reply.Updated s more end))
  each s true true = ap one_if whatever
  each s true false = refl
  each s false true = refl
  each s false false = refl

  none : 0 ≡ weight_of says NoUpdate
  none = sym (ap one_if nothing)

  updated_wishes : (s : FmiStatus) (more end : Bool) → status_fault s ≡ None
      → one_if (update_by says call.Update (reply.Updated s more end)) ≡ weight_of says (wish_of (reply.Updated s more end))
  updated_wishes status.Ok more end h = each status.Ok more end
  updated_wishes status.Warning more end h = each status.Warning more end
  updated_wishes status.Discard more end h = absurd cc
  updated_wishes status.Error more end h = absurd cc
  updated_wishes status.Fatal more end h = absurd cc

  reply_wishes : (r : Reply) → fault_of r ≡ None → one_if (update_by says call.Update r) ≡ weight_of says (wish_of r)
  reply_wishes (reply.Plain s) h = none
  reply_wishes (reply.Clock s ticks) h = none
  reply_wishes (reply.Data s bytes) h = none
  reply_wishes (reply.Updated s more end) h = updated_wishes s more end h
  reply_wishes (reply.Interval s counter resolution qualifier) h = none
  reply_wishes (reply.Broken b) h = none

  updated_faulty : (s : FmiStatus) (more end : Bool) (why : Cause) → status_fault s ≡ Some why
      → update_by says call.Update (reply.Updated s more end) ≡ false
  updated_faulty status.Ok more end why h = absurd cc
  updated_faulty status.Warning more end why h = absurd cc
  updated_faulty status.Discard more end why h = refl
  updated_faulty status.Error more end why h = refl
  updated_faulty status.Fatal more end why h = refl

  reply_faulty : (r : Reply) (why : Cause) → fault_of r ≡ Some why → update_by says call.Update r ≡ false
  reply_faulty (reply.Plain s) why h = refl
  reply_faulty (reply.Clock s ticks) why h = refl
  reply_faulty (reply.Data s bytes) why h = refl
  reply_faulty (reply.Updated s more end) why h = updated_faulty s more end why h
  reply_faulty (reply.Interval s counter resolution qualifier) why h = refl
  reply_faulty (reply.Broken b) why h = refl

  not_update : (c : Call) → is_update c ≡ false → (r : Reply) → update_by says c r ≡ false
  not_update call.Update h r = absurd cc
  not_update other h r = refl

  pub weighs_by : Weighs (update_by says) (weight_of says)
  weighs_by = record { updates = not_update; refused = reply_faulty; fine = reply_wishes }
