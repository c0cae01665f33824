-- A close with its calls noted.
use Rattle.std.proofs.Common.{◌≡◌, ◌≤◌, List, [], length, Result, Ok, Err, IfOk, OnOk, refl, sym, ap, subst, ◌∙◌, arith}
use Rattle.fmi_states.specs.declared.phase.Phase.{Phase}
use Rattle.fmi_states.specs.declared.phase.Phase.TheVariants.{Step, Gone}
use Rattle.fmi_states.specs.declared.call.Call.{Call}
use Rattle.fmi_states.specs.declared.reply.Reply.{Reply}
use Rattle.log_specs.specs.Line.{Cause}
use Rattle.session_specs.specs.Outcome.{End}
use Rattle.session_specs.specs.Session.{termination_calls, close_of, end_of_close, phase_behind}
use Rattle.session_specs.specs.Exchanges.{Exchange, Noted, noted_at, noting, IsRun, close_calls}
use Rattle.session_laws.proofs.Went.{Moves, Went, allowed_most, Stands}
use Rattle.session_laws.proofs.Pieces.{went_terminated}
use Rattle.session_laws.specs.Laws.{EndsByFaults}
use Rattle.session_laws.proofs.Faults.{never_failed, faults_end}

shut_by : (r : Result (Unit {0}) Cause) (p : Phase) → Stands (λ x. Gone) r p → p ≡ phase_behind (end_of_close r)
shut_by (Ok x) p h = h
shut_by (Err why) p h = h

module _ {S : Type 0} (answer : S → Call → Reply × S) (phase_of : S → Phase) (moves : Moves answer phase_of)
    (s : S) (stepping : phase_of s ≡ Step) where
  close_went : Went answer phase_of 2 (λ x. Gone) s [] (termination_calls answer s) (termination_calls (noting answer) (noted_at s []))
  close_went = went_terminated answer phase_of moves Step s [] stepping refl

  pub close_run : IsRun answer phase_of s (close_calls answer s) (close_of answer s).1
  close_run = subst (λ (z : List Exchange). IsRun answer phase_of s z (close_of answer s).1) (sym close_went.noted)
      (subst (λ (z : S). IsRun answer phase_of s close_went.calls z) (sym (ap (λ (z : Result (Unit {0}) Cause × S). z.1) close_went.alike)) close_went.run)

  pub close_few : length (close_calls answer s) ≤ 3
  close_few = let p : Result (Unit {0}) Cause × Noted S = termination_calls (noting answer) (noted_at s []) in
      omega (arith, close_went.few, allowed_most p.0 2, ap (λ (z : List Exchange). length z) close_went.noted)

  pub close_stands : phase_of (close_of answer s).1 ≡ phase_behind (close_of answer s).0
  close_stands =
      let p : Result (Unit {0}) Cause × Noted S = termination_calls (noting answer) (noted_at s []) in
      ap (λ (z : Result (Unit {0}) Cause × S). phase_of z.1) close_went.alike
      ∙ shut_by p.0 (phase_of p.1.state) close_went.in_phase
      ∙ sym (ap (λ (z : Result (Unit {0}) Cause × S). phase_behind (end_of_close z.0)) close_went.alike)

  pub faults_end_close : EndsByFaults (close_calls answer s)
  faults_end_close = let e : End = (close_of answer s).0 in
      faults_end answer phase_of moves (close_calls answer s) s (close_of answer s).1
      (λ failed. never_failed e (sym close_stands ∙ failed)) close_run

  -- the same of what a call of close answered
  pub close_stands_ok : {X Y : Type 0} (view : Y → End) (r : Result Y X) (t : S) → IfOk r (λ end. close_of answer s ≡ (view end, t))
      → IfOk r (λ end. phase_of t ≡ phase_behind (view end))
  close_stands_ok view (Ok end) t h = ap (λ (z : End × S). phase_of z.1) (sym h) ∙ close_stands ∙ ap (λ (z : End × S). phase_behind z.0) h
  close_stands_ok view (Err e) t h = tt

  pub close_run_ok : {X Y : Type 0} (view : Y → End) (r : Result Y X) (t : S) → IfOk r (λ end. close_of answer s ≡ (view end, t))
      → OnOk r (IsRun answer phase_of s (close_calls answer s) t)
  close_run_ok view (Ok end) t h = subst (λ (z : S). IsRun answer phase_of s (close_calls answer s) z) (ap (λ (z : End × S). z.1) h) close_run
  close_run_ok view (Err e) t h = tt
