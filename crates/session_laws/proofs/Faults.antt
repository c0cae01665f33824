-- A fault ends the calls of a run that doesn't leave the unit failed.
use Rattle.std.proofs.Common.{◌≡◌, IsTrue, List, [], ◌∷◌, Option, None, Some, refl, sym, ap, subst, ◌∙◌}
use Rattle.fmi_states.specs.declared.phase.Phase.{Phase}
use Rattle.fmi_states.specs.declared.phase.Phase.TheVariants.{Failed, Gone}
use Rattle.fmi_states.specs.declared.call.Call.{Call}
use Rattle.fmi_states.specs.declared.call.Call.TheVariants as call
use Rattle.fmi_states.specs.declared.reply.Reply.{Reply}
use Rattle.fmi_states.specs.declared.status.FmiStatus.{FmiStatus}
use Rattle.fmi_states.specs.declared.status.FmiStatus.TheVariants as status
use Rattle.fmi_states.specs.Phase.{is_permitted, next_phase, phase_by_status, phase_after_refusal}
use Rattle.fmi_states.specs.Reply.{status_of}
use Rattle.session_specs.specs.Outcome.{End, Live, Over, Down}
use Rattle.session_specs.specs.Session.{phase_behind}
use Rattle.session_specs.specs.Exchanges.{Exchange, IsRun}
use Rattle.session_laws.specs.Laws.{IsFreeAlone, FollowsRefusal, FollowsStatus, EndsByFaults}
use Rattle.session_laws.proofs.Freed.{freed_gone}
use Rattle.session_laws.proofs.Went.{Moves}
use Rattle.log_specs.specs.Line.{Trap, Spent, Status2, Status3, Status4, BadReply, BadBuffer, Loop, BadInterval}

gone_permits : (c : Call) → IsTrue (is_permitted Gone c) → ⊥
gone_permits c h = cc

failed_permits : (c : Call) → IsTrue (is_permitted Failed c) → c ≡ call.Free
failed_permits call.Free h = refl
failed_permits other h = absurd cc

-- no end of a session leaves a failed unit
pub never_failed : (e : End) → phase_behind e ≡ Failed → ⊥
never_failed Live h = cc
never_failed Over h = cc
never_failed (Down Trap) h = cc
never_failed (Down Spent) h = cc
never_failed (Down Status2) h = cc
never_failed (Down Status3) h = cc
never_failed (Down Status4) h = cc
never_failed (Down BadReply) h = cc
never_failed (Down BadBuffer) h = cc
never_failed (Down Loop) h = cc
never_failed (Down BadInterval) h = cc

module _ {S : Type 0} (answer : S → Call → Reply × S) (phase_of : S → Phase) (moves : Moves answer phase_of) where
  none_behind : (xs : List Exchange) (s t : S) → phase_of s ≡ Gone → IsRun answer phase_of s xs t → xs ≡ []
  none_behind [] s t e run = refl
  none_behind (x ∷ xs) s t e run = absurd (gone_permits x.call (subst (λ (p : Phase). IsTrue (is_permitted p x.call)) e run.0))

  free_alone : (xs : List Exchange) (s t : S) → phase_of s ≡ Failed → (phase_of t ≡ Failed → ⊥)
      → IsRun answer phase_of s xs t → IsFreeAlone xs
  free_alone [] s t e never run = absurd (never (ap phase_of (sym run) ∙ e))
  free_alone (x ∷ xs) s t e never run =
      let free : x.call ≡ call.Free = failed_permits x.call (subst (λ (p : Phase). IsTrue (is_permitted p x.call)) e run.0) in
      let r : Reply = (answer s x.call).0 in
      let gone : phase_of (answer s x.call).1 ≡ Gone = moves s x.call run.0
      ∙ ap (λ (c : Call). next_phase (phase_of s) c r) free ∙ freed_gone (phase_of s) r in
      subst (λ (ys : List Exchange). IsFreeAlone (x ∷ ys)) (sym (none_behind xs (answer s x.call).1 t gone run.2)) free

  refused : (c : Call) (xs : List Exchange) (s t : S) → phase_of s ≡ phase_after_refusal c → (phase_of t ≡ Failed → ⊥)
      → IsRun answer phase_of s xs t → FollowsRefusal c xs
  refused call.Instantiate xs s t e never run = none_behind xs s t e run
  refused call.Free xs s t e never run = none_behind xs s t e run
  refused other xs s t e never run = free_alone xs s t e never run

  by_status : (c : Call) (status : Option FmiStatus) (xs : List Exchange) (s t : S) → phase_of s ≡ phase_by_status c status
      → (phase_of t ≡ Failed → ⊥) → IsRun answer phase_of s xs t → EndsByFaults xs → FollowsStatus c status xs (EndsByFaults xs)
  by_status c (Some status.Ok) xs s t e never run fine = fine
  by_status c (Some status.Warning) xs s t e never run fine = fine
  by_status c (Some status.Discard) xs s t e never run fine = refused c xs s t e never run
  by_status c (Some status.Error) xs s t e never run fine = refused c xs s t e never run
  by_status c (Some status.Fatal) xs s t e never run fine = none_behind xs s t e run
  by_status c None xs s t e never run fine = none_behind xs s t e run

  pub faults_end : (xs : List Exchange) (s t : S) → (phase_of t ≡ Failed → ⊥) → IsRun answer phase_of s xs t → EndsByFaults xs
  faults_end [] s t never run = tt
  faults_end (x ∷ xs) s t never run = by_status x.call (status_of x.reply) xs (answer s x.call).1 t
      (moves s x.call run.0 ∙ ap (λ (r : Reply). phase_by_status x.call (status_of r)) run.1)
      never run.2 (faults_end xs (answer s x.call).1 t never run.2)
