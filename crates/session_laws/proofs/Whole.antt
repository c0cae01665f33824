-- A whole session with its calls noted.
use Rattle.std.proofs.Common.{◌≡◌, ◌≤◌, ◌+◌, ◌*◌, ◌↔◌, ℕ, true, List, [], length, Result, Ok, Err, IfOk, OnOk, if◌then◌else◌, refl, sym, ap, subst, ◌∙◌, arith}
use Rattle.fmi_states.specs.declared.phase.Phase.{Phase}
use Rattle.fmi_states.specs.declared.phase.Phase.TheVariants.{Fresh, Step}
use Rattle.fmi_states.specs.declared.call.Call.{Call}
use Rattle.fmi_states.specs.declared.reply.Reply.{Reply}
use Rattle.unit_specs.specs.Description.{Description}
use Rattle.log_specs.specs.Line.{Cause, Loop}
use Rattle.session_specs.specs.Outcome.{SessionIn, SessionOut, End, Live, Over, Down}
use Rattle.session_specs.specs.Session.{all_calls, session_of, outcome_of, can_begin, is_fresh, is_sublist, phase_behind}
use Rattle.session_specs.specs.Exchanges.{Exchange, Noted, noted_at, noting, IsRun, session_calls}
use Rattle.session_laws.specs.Laws.{again_of, ends_of, EndsByFaults}
use Rattle.session_laws.proofs.Went.{Moves, Went, allowed_most, Stands}
use Rattle.session_laws.proofs.Pieces.{went_ran}
use Rattle.session_laws.proofs.Repeats.{Loops, loops_ran}
use Rattle.session_laws.proofs.Sublists.{ticks_few}
use Rattle.session_laws.proofs.Downs.{down_by, ends_ran}
use Rattle.session_laws.proofs.Endings.{session_agrees, over_by, live_by}
use Rattle.session_laws.proofs.Faults.{never_failed, faults_end}

open_phase : (p : Phase) → can_begin p ≡ true → p ≡ (if is_fresh p then Fresh else Step)
open_phase Fresh h = refl
open_phase Step h = refl
open_phase other h = absurd cc

stands_by : (clocks : List ℕ) (r : Result SessionOut Cause) (p : Phase)
    → Stands (λ out. phase_behind out.end) r p → p ≡ phase_behind (outcome_of clocks r).end
stands_by clocks (Ok out) p h = h
stands_by clocks (Err why) p h = h

module _ {S : Type 0} (answer : S → Call → Reply × S) (phase_of : S → Phase) (moves : Moves answer phase_of)
    (d : Description) (input : SessionIn) (s : S) (open_now : can_begin (phase_of s) ≡ true) where
  went : (k : ℕ) → 2 ≤ k → length d.countdown + 1 ≤ k
      → Went answer phase_of (19 + length input.ticked + 34 * length d.terminals + k) (λ out. phase_behind out.end) s []
      (all_calls answer d input (is_fresh (phase_of s)) s) (all_calls (noting answer) d input (is_fresh (phase_of s)) (noted_at s []))
  went k two each = went_ran answer phase_of moves d input (is_fresh (phase_of s)) k s [] two each (open_phase (phase_of s) open_now)

  went_so : Went answer phase_of (19 + length input.ticked + 34 * length d.terminals + (length d.countdown + 2)) (λ out. phase_behind out.end) s []
      (all_calls answer d input (is_fresh (phase_of s)) s) (all_calls (noting answer) d input (is_fresh (phase_of s)) (noted_at s []))
  went_so = went (length d.countdown + 2) (omega arith) (omega arith)

  pub alike : session_of answer phase_of d input s
      ≡ (
        (session_of (noting answer) (λ n. phase_of n.state) d input (noted_at s [])).0,
        (session_of (noting answer) (λ n. phase_of n.state) d input (noted_at s [])).1.state,
      )
  alike = ap (λ (z : Result SessionOut Cause × S). (outcome_of d.countdown z.0, z.1)) went_so.alike

  pub calls_run : IsRun answer phase_of s (session_calls answer phase_of d input s) (session_of answer phase_of d input s).1
  calls_run = subst (λ (z : List Exchange). IsRun answer phase_of s z (session_of answer phase_of d input s).1) (sym went_so.noted)
      (subst (λ (z : S). IsRun answer phase_of s went_so.calls z) (sym (ap (λ (z : Result SessionOut Cause × S). z.1) went_so.alike)) went_so.run)

  pub few : is_sublist input.ticked d.countdown ≡ true → length d.countdown ≤ 8
      → length (session_calls answer phase_of d input s) ≤ 37 + 34 * length d.terminals
  few ticks clocks =
      let p : Result SessionOut Cause × Noted S = all_calls (noting answer) d input (is_fresh (phase_of s)) (noted_at s []) in
      let w = went 9 (omega arith) (omega arith) in
      omega (arith, w.few, clocks, ticks_few d.countdown input.ticked ticks, allowed_most p.0 (19 + length input.ticked + 34 * length d.terminals + 9), ap (λ (z : List Exchange). length z) w.noted)

  pub stands : phase_of (session_of answer phase_of d input s).1 ≡ phase_behind (session_of answer phase_of d input s).0.end
  stands =
      let p : Result SessionOut Cause × Noted S = all_calls (noting answer) d input (is_fresh (phase_of s)) (noted_at s []) in
      ap (λ (z : Result SessionOut Cause × S). phase_of z.1) went_so.alike
      ∙ stands_by d.countdown p.0 (phase_of p.1.state) went_so.in_phase
      ∙ sym (ap (λ (z : Result SessionOut Cause × S). phase_behind (outcome_of d.countdown z.0).end) went_so.alike)

  pub faults_end_session : EndsByFaults (session_calls answer phase_of d input s)
  faults_end_session = let e : End = (session_of answer phase_of d input s).0.end in
      faults_end answer phase_of moves (session_calls answer phase_of d input s) s (session_of answer phase_of d input s).1
      (λ failed. never_failed e (sym stands ∙ failed)) calls_run

  -- the same of what a call of session answered
  pub stands_ok : {X : Type 0} (r : Result SessionOut X) (t : S)
      → IfOk r (λ out. session_of answer phase_of d input s ≡ (out, t))
      → IfOk r (λ out. phase_of t ≡ phase_behind out.end)
  stands_ok (Ok out) t h = ap (λ (z : SessionOut × S). phase_of z.1) (sym h) ∙ stands ∙ ap (λ (z : SessionOut × S). phase_behind z.0.end) h
  stands_ok (Err e) t h = tt

  pub run_ok : {X : Type 0} (r : Result SessionOut X) (t : S)
      → IfOk r (λ out. session_of answer phase_of d input s ≡ (out, t))
      → OnOk r (IsRun answer phase_of s (session_calls answer phase_of d input s) t)
  run_ok (Ok out) t h = subst (λ (z : S). IsRun answer phase_of s (session_calls answer phase_of d input s) z) (ap (λ (z : SessionOut × S). z.1) h) calls_run
  run_ok (Err e) t h = tt

  pub loop : ((session_of answer phase_of d input s).0.end ≡ Down Loop) ↔ (again_of (session_calls answer phase_of d input s) ≡ 16)
  loop =
      let p : Result SessionOut Cause × Noted S = all_calls (noting answer) d input (is_fresh (phase_of s)) (noted_at s []) in
      let l : Loops answer 16 [] p = loops_ran answer d input (is_fresh (phase_of s)) s [] in
      let same : (all_calls answer d input (is_fresh (phase_of s)) s).0 ≡ p.0 = ap (λ (z : Result SessionOut Cause × S). z.0) went_so.alike in (
        λ e. let h : p.0 ≡ Err Loop = sym same ∙ down_by d.countdown (all_calls answer d input (is_fresh (phase_of s)) s).0 Loop (ends_ran answer d input (is_fresh (phase_of s)) s) e in
            l.loop h,
        λ e. ap (λ (z : Result SessionOut Cause). (outcome_of d.countdown z).end) (same ∙ l.only e),
      )

  pub over : (session_of answer phase_of d input s).0.end ≡ Over → ends_of (session_calls answer phase_of d input s) ≡ 1
  over e =
      let p : Result SessionOut Cause × Noted S = all_calls (noting answer) d input (is_fresh (phase_of s)) (noted_at s []) in
      let same : (all_calls answer d input (is_fresh (phase_of s)) s).0 ≡ p.0 = ap (λ (z : Result SessionOut Cause × S). z.0) went_so.alike in
      over_by d.countdown p.0 (ends_of p.1.exchanges) (session_agrees answer d input (is_fresh (phase_of s)) s [])
      (sym (ap (λ (z : Result SessionOut Cause). (outcome_of d.countdown z).end) same) ∙ e)

  pub live : (session_of answer phase_of d input s).0.end ≡ Live → ends_of (session_calls answer phase_of d input s) ≡ 0
  live e =
      let p : Result SessionOut Cause × Noted S = all_calls (noting answer) d input (is_fresh (phase_of s)) (noted_at s []) in
      let same : (all_calls answer d input (is_fresh (phase_of s)) s).0 ≡ p.0 = ap (λ (z : Result SessionOut Cause × S). z.0) went_so.alike in
      live_by d.countdown p.0 (ends_of p.1.exchanges) (session_agrees answer d input (is_fresh (phase_of s)) s [])
      (sym (ap (λ (z : Result SessionOut Cause). (outcome_of d.countdown z).end) same) ∙ e)
