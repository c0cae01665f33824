-- A session that takes the unit down emits nothing and changes no clock.
use Rattle.std.proofs.Common.{◌≡◌, ℕ, Bool, true, false, List, [], Result, Ok, Err, IfOk, refl}
use Rattle.fmi_states.specs.declared.phase.Phase.{Phase}
use Rattle.fmi_states.specs.declared.call.Call.{Call}
use Rattle.fmi_states.specs.declared.call.Call.TheVariants as call
use Rattle.fmi_states.specs.declared.reply.Reply.{Reply}
use Rattle.unit_specs.specs.Description.{Description}
use Rattle.log_specs.specs.Line.{Cause}
use Rattle.session_specs.specs.Outcome.{SessionIn, SessionOut, Emission, Down}
use Rattle.session_specs.specs.Sequence.{continue_with, in_order}
use Rattle.session_specs.specs.Session.{effect_of, entry_calls, input_calls, iterations, interval_call, termination_calls, exit_calls, all_calls, all_kept, session_of, outcome_of, is_fresh}

-- the end isn't Down
abbrev pub Ends : SessionOut → Type 0
Ends out = (why : Cause) → out.end ≡ Down why → ⊥

ends_parts : {S A : Type 0} (r : Result A Cause) (s : S) (f : A → S → Result SessionOut Cause × S)
    → ((x : A) (t : S) → IfOk (f x t).0 Ends) → IfOk (continue_with r s f).0 Ends
ends_parts (Ok x) s f h = h x s
ends_parts (Err why) s f h = tt

ends_finished : {S : Type 0} (answer : S → Call → Reply × S) (d : Description) (input : SessionIn) (emitted : List Emission) (end : Bool) (s : S)
    → IfOk (exit_calls answer d input emitted end s).0 Ends
ends_finished answer d input emitted true s = ends_parts (termination_calls answer s).0 (termination_calls answer s).1 _ (λ x t why h. cc)
ends_finished answer d input emitted false s =
    ends_parts (in_order (interval_call answer input) 0 d.countdown [] s).0 (in_order (interval_call answer input) 0 d.countdown [] s).1 _
    (λ dues t. ends_parts (effect_of answer call.EnterStep t).0 (effect_of answer call.EnterStep t).1 _ (λ r u why h. cc))

pub ends_ran : {S : Type 0} (answer : S → Call → Reply × S) (d : Description) (input : SessionIn) (fresh : Bool) (s : S)
    → IfOk (all_calls answer d input fresh s).0 Ends
ends_ran answer d input fresh s =
    ends_parts (entry_calls answer fresh input s).0 (entry_calls answer fresh input s).1 _
    (λ r t. ends_parts (input_calls answer d input t).0 (input_calls answer d input t).1 _
    (λ x u. ends_parts (iterations answer d.terminals 16 [] u).0 (iterations answer d.terminals 16 [] u).1 _
    (λ x v. ends_finished answer d input x.emitted x.ends v)))

pub down_by : (clocks : List ℕ) (r : Result SessionOut Cause) (why : Cause) → IfOk r Ends
    → (outcome_of clocks r).end ≡ Down why → r ≡ Err why
down_by clocks (Ok out) why h e = absurd (h why e)
down_by clocks (Err other) why h e = cc

silent_by : (clocks : List ℕ) (r : Result SessionOut Cause) (why : Cause) → r ≡ Err why
    → ((outcome_of clocks r).emitted ≡ []) × ((outcome_of clocks r).dues ≡ all_kept clocks)
silent_by clocks (Ok out) why e = absurd cc
silent_by clocks (Err other) why e = (refl, refl)

-- a session that takes the unit down emits nothing and changes no clock
pub silent : {S : Type 0} (answer : S → Call → Reply × S) (phase_of : S → Phase) (d : Description) (input : SessionIn) (s : S) (why : Cause)
    → (session_of answer phase_of d input s).0.end ≡ Down why
    → ((session_of answer phase_of d input s).0.emitted ≡ []) × ((session_of answer phase_of d input s).0.dues ≡ all_kept d.countdown)
silent answer phase_of d input s why e = let r : Result SessionOut Cause = (all_calls answer d input (is_fresh (phase_of s)) s).0 in
    silent_by d.countdown r why (down_by d.countdown r why (ends_ran answer d input (is_fresh (phase_of s)) s) e)
