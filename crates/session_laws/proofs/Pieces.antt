-- Each piece of a session with its calls noted.
use Rattle.std.proofs.Common.{◌≡◌, ◌≤◌, ◌+◌, ◌*◌, ◌-◌, ℕ, zero, suc, Bool, true, false, IsTrue, List, [], ◌∷◌, ◌++◌, length, get_or, Option, None, Some, Result, Ok, if◌then◌else◌, refl, sym, subst, arith}
use Rattle.fmi_states.specs.declared.phase.Phase.{Phase}
use Rattle.fmi_states.specs.declared.phase.Phase.TheVariants.{Fresh, Event, Step, Gone, Terminated}
use Rattle.fmi_states.specs.declared.call.Call.{Call}
use Rattle.fmi_states.specs.declared.call.Call.TheVariants as call
use Rattle.fmi_states.specs.declared.reply.Reply.{Reply}
use Rattle.fmi_states.specs.Phase.{is_permitted, phase_after}
use Rattle.unit_specs.specs.Description.{Description, Terminal}
use Rattle.log_specs.specs.Line.{Cause, Loop, BadInterval}
use Rattle.session_specs.specs.Outcome.{SessionIn, Emission, DueChange}
use Rattle.session_specs.specs.Sequence.{◌>>=◌}
use Rattle.session_specs.specs.Replies.{ticks_by, Wish, AnotherUpdate, NoUpdate, TheEnd, wish_of, change_of}
use Rattle.session_specs.specs.Session.{effect_of, entry_calls, opening_calls, step_calls, clock_tick, delivery_of, delivery_from, input_calls, emission, emission_of, iteration, iteration_of, Transmitted, transmitted, next_iteration, iterations, interval_call, with_change, termination_calls, exit_calls, outcome_live, outcome_over, all_calls, phase_behind}
use Rattle.session_specs.specs.Exchanges.{Exchange, Noted, noted_at, noting}
use Rattle.session_laws.proofs.Went.{Moves, Went, weaken, rests, falls, lets_go, went_on, went_in_order, went_asked}

permit : (p q : Phase) (c : Call) → p ≡ q → IsTrue (is_permitted q c) → IsTrue (is_permitted p c)
permit p q c e h = subst (λ (z : Phase). IsTrue (is_permitted z c)) (sym e) h

module _ {S : Type 0} (answer : S → Call → Reply × S) (phase_of : S → Phase) (moves : Moves answer phase_of) where
  -- one call that is permitted in the phase p
  asks : (p : Phase) (c : Call) (s : S) (before : List Exchange) → phase_of s ≡ p → IsTrue (is_permitted p c)
      → Went answer phase_of 1 (λ r. phase_after c) s before (effect_of answer c s) (effect_of (noting answer) c (noted_at s before))
  asks p c s before e h = went_asked answer phase_of moves c s before (permit (phase_of s) p c e h)

  went_opened : (s : S) (before : List Exchange) → phase_of s ≡ Fresh
      → Went answer phase_of 3 (λ r. Event) s before (opening_calls answer s) (opening_calls (noting answer) (noted_at s before))
  went_opened s before e = went_on answer phase_of 1 2 3 s before _ _ _ _ (omega arith)
      (asks Fresh call.Instantiate s before e refl)
      (λ r t mid e. went_on answer phase_of 1 1 2 t mid _ _ _ _ (omega arith)
      (asks _ call.EnterInit t mid e refl)
      (λ r t mid e. asks _ call.ExitInit t mid e refl))

  went_stepped : (from size : ℕ) (s : S) (before : List Exchange) → phase_of s ≡ Step
      → Went answer phase_of 2 (λ r. Event) s before (step_calls answer from size s) (step_calls (noting answer) from size (noted_at s before))
  went_stepped from size s before e = went_on answer phase_of 1 1 2 s before _ _ _ _ (omega arith)
      (asks Step (call.DoStep from size) s before e refl)
      (λ r t mid e. asks _ call.EnterEvent t mid e refl)

  pub went_begun : (fresh : Bool) (input : SessionIn) (s : S) (before : List Exchange) → phase_of s ≡ (if fresh then Fresh else Step)
      → Went answer phase_of 3 (λ r. Event) s before (entry_calls answer fresh input s) (entry_calls (noting answer) fresh input (noted_at s before))
  went_begun true input s before e = went_opened s before e
  went_begun false input s before e = weaken answer phase_of (omega arith) (went_stepped input.last (input.moment - input.last) s before e)

  went_tick : (n clock : ℕ) (x : Unit {0}) (s : S) (before : List Exchange) → phase_of s ≡ Event
      → Went answer phase_of 1 (λ y. Event) s before (clock_tick answer n clock x s) (clock_tick (noting answer) n clock x (noted_at s before))
  went_tick n clock x s before e = went_on answer phase_of 1 0 1 s before _ _ _ _ (omega arith)
      (asks Event (call.SetClock clock) s before e refl)
      (λ r t mid e. rests answer phase_of tt t mid e)

  went_handed : (term : Terminal) (bytes : List ℕ) (s : S) (before : List Exchange) → phase_of s ≡ Event
      → Went answer phase_of 2 (λ y. Event) s before (delivery_of answer term bytes s) (delivery_of (noting answer) term bytes (noted_at s before))
  went_handed term [] s before e = weaken answer phase_of (omega arith) (rests answer phase_of tt s before e)
  went_handed term (byte ∷ others) s before e = went_on answer phase_of 1 1 2 s before _ _ _ _ (omega arith)
      (asks Event (call.SetClock term.rx_clock) s before e refl)
      (λ r t mid e. went_on answer phase_of 1 0 1 t mid _ _ _ _ (omega arith)
      (asks Event (call.SetBinary term.rx_data (byte ∷ others)) t mid e refl)
      (λ r u end e. rests answer phase_of tt u end e))

  pub went_given : (d : Description) (input : SessionIn) (s : S) (before : List Exchange) → phase_of s ≡ Event
      → Went answer phase_of (length input.ticked * 1 + length d.terminals * 2) (λ y. Event) s before (input_calls answer d input s) (input_calls (noting answer) d input (noted_at s before))
  went_given d input s before e = went_on answer phase_of (length input.ticked * 1) (length d.terminals * 2) _ s before _ _ _ _ (omega arith)
      (went_in_order answer phase_of Event 1 (clock_tick answer) (clock_tick (noting answer)) went_tick input.ticked 0 tt s before e)
      (λ y t mid e. went_in_order answer phase_of Event 2 (delivery_from answer input.inbox) (delivery_from (noting answer) input.inbox)
      (λ n term x s before e. went_handed term (get_or input.inbox n []) s before e) d.terminals 0 tt t mid e)

  went_taken : (n : ℕ) (term : Terminal) (emitted : List Emission) (on : Bool) (s : S) (before : List Exchange) → phase_of s ≡ Event
      → Went answer phase_of 1 (λ y. Event) s before
      (if on then (effect_of answer (call.GetBinary term.tx_data) s >>= λ r s. (Ok (emitted ++ emission n r ∷ []), s)) else (Ok emitted, s))
      (if on then (effect_of (noting answer) (call.GetBinary term.tx_data) (noted_at s before) >>= λ r s. (Ok (emitted ++ emission n r ∷ []), s)) else (Ok emitted, (noted_at s before)))
  went_taken n term emitted true s before e = went_on answer phase_of 1 0 1 s before _ _ _ _ (omega arith)
      (asks Event (call.GetBinary term.tx_data) s before e refl)
      (λ r t mid e. rests answer phase_of (emitted ++ emission n r ∷ []) t mid e)
  went_taken n term emitted false s before e = weaken answer phase_of (omega arith) (rests answer phase_of emitted s before e)

  went_polled : (n : ℕ) (term : Terminal) (emitted : List Emission) (s : S) (before : List Exchange) → phase_of s ≡ Event
      → Went answer phase_of 2 (λ y. Event) s before (emission_of answer n term emitted s) (emission_of (noting answer) n term emitted (noted_at s before))
  went_polled n term emitted s before e = went_on answer phase_of 1 1 2 s before _ _ _ _ (omega arith)
      (asks Event (call.GetClock term.tx_clock) s before e refl)
      (λ r t mid e. went_taken n term emitted (ticks_by r) t mid e)

  went_turned : (ts : List Terminal) (emitted : List Emission) (s : S) (before : List Exchange) → phase_of s ≡ Event
      → Went answer phase_of (length ts * 2 + 1) (λ y. Event) s before (iteration_of answer ts emitted s) (iteration_of (noting answer) ts emitted (noted_at s before))
  went_turned ts emitted s before e = went_on answer phase_of (length ts * 2) 1 _ s before _ _ _ _ (omega arith)
      (went_in_order answer phase_of Event 2 (emission_of answer) (emission_of (noting answer)) went_polled ts 0 emitted s before e)
      (λ emitted t mid e. went_on answer phase_of 1 0 1 t mid _ _ _ _ (omega arith)
      (asks Event call.Update t mid e refl)
      (λ r u end e. rests answer phase_of (iteration emitted (wish_of r)) u end e))

  went_behind : (n : ℕ) (wish : Wish) (emitted : List Emission) (s : S) (before : List Exchange)
      (more : Result Transmitted Cause × S) (note : Result Transmitted Cause × Noted S)
      → phase_of s ≡ Event → Went answer phase_of n (λ y. Event) s before more note
      → Went answer phase_of n (λ y. Event) s before (next_iteration answer wish emitted s more) (next_iteration (noting answer) wish emitted (noted_at s before) note)
  went_behind n AnotherUpdate emitted s before more note e w = w
  went_behind n NoUpdate emitted s before more note e w = weaken answer phase_of (omega arith) (rests answer phase_of (transmitted emitted false) s before e)
  went_behind n TheEnd emitted s before more note e w = weaken answer phase_of (omega arith) (rests answer phase_of (transmitted emitted true) s before e)

  pub went_iterated : (ts : List Terminal) (n : ℕ) (emitted : List Emission) (s : S) (before : List Exchange) → phase_of s ≡ Event
      → Went answer phase_of (n * (length ts * 2 + 1)) (λ y. Event) s before (iterations answer ts n emitted s) (iterations (noting answer) ts n emitted (noted_at s before))
  unfolding iterations
  went_iterated ts zero emitted s before e = weaken answer phase_of (omega arith) (falls answer phase_of Loop s before e)
  went_iterated ts (suc n) emitted s before e = went_on answer phase_of (length ts * 2 + 1) (n * (length ts * 2 + 1)) _ s before _ _ _ _ (omega arith)
      (went_turned ts emitted s before e)
      (λ x t mid e. went_behind (n * (length ts * 2 + 1)) x.wish x.emitted t mid (iterations answer ts n x.emitted t) (iterations (noting answer) ts n x.emitted (noted_at t mid)) e (went_iterated ts n x.emitted t mid e))

  went_changed : (change : Option DueChange) (dues : List DueChange) (s : S) (before : List Exchange) → phase_of s ≡ Event
      → Went answer phase_of 0 (λ y. Event) s before (with_change change dues, s) (with_change change dues, (noted_at s before))
  went_changed (Some change) dues s before e = rests answer phase_of (dues ++ change ∷ []) s before e
  went_changed None dues s before e = falls answer phase_of BadInterval s before e

  went_interval : (input : SessionIn) (n clock : ℕ) (dues : List DueChange) (s : S) (before : List Exchange) → phase_of s ≡ Event
      → Went answer phase_of 1 (λ y. Event) s before (interval_call answer input n clock dues s) (interval_call (noting answer) input n clock dues (noted_at s before))
  went_interval input n clock dues s before e = went_on answer phase_of 1 0 1 s before _ _ _ _ (omega arith)
      (asks Event (call.GetInterval clock) s before e refl)
      (λ r t mid e. went_changed (change_of input.moment input.resolution r) dues t mid e)

  pub went_terminated : (p : Phase) (s : S) (before : List Exchange) → phase_of s ≡ p → IsTrue (is_permitted p call.Terminate)
      → Went answer phase_of 2 (λ y. Gone) s before (termination_calls answer s) (termination_calls (noting answer) (noted_at s before))
  went_terminated p s before e h = went_on answer phase_of 1 1 2 s before _ _ _ _ (omega arith)
      (asks p call.Terminate s before e h)
      (λ r t mid e. lets_go answer phase_of moves tt t mid (permit (phase_of t) Terminated call.Free e refl) refl)

  pub went_finished : (d : Description) (input : SessionIn) (emitted : List Emission) (end : Bool) (k : ℕ) (s : S) (before : List Exchange) → 2 ≤ k → length d.countdown + 1 ≤ k → phase_of s ≡ Event
      → Went answer phase_of k (λ out. phase_behind out.end) s before (exit_calls answer d input emitted end s) (exit_calls (noting answer) d input emitted end (noted_at s before))
  went_finished d input emitted true k s before two each e = went_on answer phase_of 2 0 _ s before _ _ _ _ (omega arith)
      (went_terminated Event s before e refl)
      (λ x t mid e. rests answer phase_of (outcome_over d.countdown emitted) t mid e)
  went_finished d input emitted false k s before two each e = went_on answer phase_of (length d.countdown * 1) 1 _ s before _ _ _ _ (omega arith)
      (went_in_order answer phase_of Event 1 (interval_call answer input) (interval_call (noting answer) input) (went_interval input) d.countdown 0 [] s before e)
      (λ dues t mid e. went_on answer phase_of 1 0 1 t mid _ _ _ _ (omega arith)
      (asks Event call.EnterStep t mid e refl)
      (λ r u last e. rests answer phase_of (outcome_live emitted dues) u last e))

  pub went_ran : (d : Description) (input : SessionIn) (fresh : Bool) (k : ℕ) (s : S) (before : List Exchange)
      → 2 ≤ k → length d.countdown + 1 ≤ k → phase_of s ≡ (if fresh then Fresh else Step)
      → Went answer phase_of (19 + length input.ticked + 34 * length d.terminals + k) (λ out. phase_behind out.end) s before (all_calls answer d input fresh s) (all_calls (noting answer) d input fresh (noted_at s before))
  went_ran d input fresh k s before two each e =
      let j : ℕ = length d.terminals in
      let ticks : ℕ = length input.ticked in
      went_on answer phase_of 3 (16 + ticks + 34 * j + k) _ s before _ _ _ _ (omega arith)
      (went_begun fresh input s before e)
      (λ r t mid e. went_on answer phase_of (ticks + j * 2) (16 + 32 * j + k) _ t mid _ _ _ _ (omega arith)
      (weaken answer phase_of (omega arith) (went_given d input t mid e))
      (λ x u end e. went_on answer phase_of (16 + 32 * j) k _ u end _ _ _ _ (omega arith)
      (weaken answer phase_of (omega arith) (went_iterated d.terminals 16 [] u end e))
      (λ x v last e. went_finished d input x.emitted x.ends k v last two each e)))
