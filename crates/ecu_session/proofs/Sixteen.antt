-- The loop of 16 iterations.
use Rattle.std.proofs.Common.{◌≡◌, ◌<◌, ◌≤◌, sym, ◌+◌, ℕ, List, ◌-◌, suc, Result, Ok, Err, true, false, arith, ◌∙◌, zero, refl}
use Rattle.fmi_states.specs.declared.call.Call.{Call}
use Rattle.fmi_states.specs.declared.reply.Reply.{Reply}
use Rattle.log_lines.specs.Lines.{cause_of}
use Rattle.log_specs.specs.Line.{Cause, Loop}
use Rattle.unit_specs.specs.Description.{Terminal}
use Rattle.session_specs.specs.Outcome.{Emission}
use Rattle.session_specs.specs.Replies.{AnotherUpdate, NoUpdate, TheEnd}
use Rattle.session_specs.specs.Session.{iteration, iteration_of, Transmitted, transmitted, iterations}
use Rattle.ecu_session.specs.declared.causes.Stop.{Stop}
use Rattle.ecu_session.specs.declared.causes.Stop.TheVariants as stop
use Rattle.ecu_session.specs.Pieces.{StopsAt}

left_less : (i : ℕ) → i < 16 → 16 - i ≡ suc (16 - (i + 1))
left_less i lt = omega arith

module _ {S : Type 0} (answer : S → Call → Reply × S) (i : ℕ) (ts : List Terminal) (emitted : List Emission) (s : S) where
  pub another : (further : List Emission) (t : S) → i < 16 → iteration_of answer ts emitted s ≡ (Ok (iteration further AnotherUpdate), t)
      → iterations answer ts (16 - i) emitted s ≡ iterations answer ts (16 - (i + 1)) further t
  unfolding iterations
  another further t lt h = rw (left_less i lt) (rw h refl)

  pub enough : (further : List Emission) (t : S) → i < 16 → iteration_of answer ts emitted s ≡ (Ok (iteration further NoUpdate), t)
      → iterations answer ts (16 - i) emitted s ≡ (Ok (transmitted further false), t)
  unfolding iterations
  enough further t lt h = rw (left_less i lt) (rw h refl)

  pub ended : (further : List Emission) (t : S) → i < 16 → iteration_of answer ts emitted s ≡ (Ok (iteration further TheEnd), t)
      → iterations answer ts (16 - i) emitted s ≡ (Ok (transmitted further true), t)
  unfolding iterations
  ended further t lt h = rw (left_less i lt) (rw h refl)

  down : (why : Cause) (t : S) → i < 16 → iteration_of answer ts emitted s ≡ (Err why, t)
      → iterations answer ts (16 - i) emitted s ≡ (Err why, t)
  unfolding iterations
  down why t lt h = rw (left_less i lt) (rw h refl)

  pub stops : (e : Stop) (t : S) (whole : Result Transmitted Cause × S) → i < 16 → StopsAt e t (iteration_of answer ts emitted s)
      → iterations answer ts (16 - i) emitted s ≡ whole → StopsAt e t whole
  stops (stop.Down why) t whole lt h k = sym k ∙ down (cause_of why) t lt h
  stops stop.Memory t whole lt h k = tt

  pub none_left : 16 ≤ i → iterations answer ts (16 - i) emitted s ≡ (Err Loop, s)
  unfolding iterations
  none_left le = let e : 16 - i ≡ zero = omega arith in rw e refl

pub ruleset goes_on = another
