-- A session of a unit whose state is held in another form.
use Rattle.std.proofs.Common.{◌≡◌, ℕ, zero, suc, ◌+◌, ◌-◌, Bool, true, false, List, [], ◌∷◌, ◌++◌, get_or, Option, Some, None, refl, ap}
use Rattle.std.specs.Prelude.{Result, Ok, Err, if◌then◌else◌}
use Rattle.fmi_states.specs.declared.call.Call.{Call}
use Rattle.fmi_states.specs.declared.call.Call.TheVariants as call
use Rattle.fmi_states.specs.declared.phase.Phase.{Phase}
use Rattle.fmi_states.specs.declared.reply.Reply.{Reply}
use Rattle.unit_specs.specs.Description.{Description, Terminal}
use Rattle.log_specs.specs.Line.{Cause}
use Rattle.session_specs.specs.Outcome.{SessionIn, Emission, DueChange, SessionOut}
use Rattle.session_specs.specs.Sequence.{◌>>=◌, in_order}
use Rattle.session_specs.specs.Replies.{fault_of, is_freed_behind, ticks_by, Wish, AnotherUpdate, NoUpdate, TheEnd}
use Rattle.session_specs.specs.Session as s
use Rattle.session_specs.specs.Session.{Iteration, Transmitted}
use Rattle.held_states.specs.Held.{IsHeldAs}

module _ {S T : Type 0} (f : S → T) (A : S → Call → Reply × S) (P : S → Phase) (B : T → Call → Reply × T) (Q : T → Phase) (held : IsHeldAs f A P B Q) where
  -- what a piece came to, with the state in the other form
  abbrev via : {X : Type 0} → X × S → X × T
  via p = (p.0, f p.1)

  bind-from : {X Y : Type 0} (r : Result X Cause) (t : S) (p : Result X Cause × T) (k : X → S → Result Y Cause × S) (l : X → T → Result Y Cause × T)
      → p ≡ (r, f t) → ((x : X) (u : S) → l x (f u) ≡ via (k x u)) → (p >>= l) ≡ via ((r, t) >>= k)
  bind-from (Ok x) t p k l e h = rw e (h x t)
  bind-from (Err why) t p k l e h = rw e refl

  bind : {X Y : Type 0} (p : Result X Cause × S) (q : Result X Cause × T) (k : X → S → Result Y Cause × S) (l : X → T → Result Y Cause × T)
      → q ≡ via p → ((x : X) (u : S) → l x (f u) ≡ via (k x u)) → (q >>= l) ≡ via (p >>= k)
  bind p q k l e h = bind-from p.0 p.1 q k l e h

  order : {X Y : Type 0} (k : ℕ → X → Y → S → Result Y Cause × S) (l : ℕ → X → Y → T → Result Y Cause × T)
      → ((n : ℕ) (x : X) (y : Y) (u : S) → l n x y (f u) ≡ via (k n x y u))
      → (n : ℕ) (xs : List X) (y : Y) (u : S) → in_order l n xs y (f u) ≡ via (in_order k n xs y u)
  order k l h n [] y u = refl
  order k l h n (x ∷ xs) y u = bind (k n x y u) (l n x y (f u)) (in_order k (n + 1) xs) (in_order l (n + 1) xs) (h n x y u) (order k l h (n + 1) xs)

  freed : (c : Call) (u : S) (b : Bool) → (if b then (B (f u) c).1 else f u) ≡ f (if b then (A u c).1 else u)
  freed c u true = ap (λ p. p.1) (held.answers u c)
  freed c u false = refl

  by-fault : (c : Call) (o : Option Cause) (r : Reply) (u : S) → s.effect_by_fault B c o r (f u) ≡ via (s.effect_by_fault A c o r u)
  by-fault c None r u = refl
  by-fault c (Some why) r u = ap (λ t. (Err why, t)) (freed call.Free u (is_freed_behind c why))

  effect : (c : Call) (u : S) → s.effect_of B c (f u) ≡ via (s.effect_of A c u)
  effect c u = rw (held.answers u c) (by-fault c (fault_of (A u c).0) (A u c).0 (A u c).1)

  opening : (u : S) → s.opening_calls B (f u) ≡ via (s.opening_calls A u)
  opening u = bind (s.effect_of A call.Instantiate u) _ _ _ (effect call.Instantiate u)
      (λ r u. bind (s.effect_of A call.EnterInit u) _ _ _ (effect call.EnterInit u) (λ r u. effect call.ExitInit u))

  stepping : (from size : ℕ) (u : S) → s.step_calls B from size (f u) ≡ via (s.step_calls A from size u)
  stepping from size u = bind (s.effect_of A (call.DoStep from size) u) _ _ _ (effect (call.DoStep from size) u) (λ r u. effect call.EnterEvent u)

  entry : (new : Bool) (input : SessionIn) (u : S) → s.entry_calls B new input (f u) ≡ via (s.entry_calls A new input u)
  entry true input u = opening u
  entry false input u = stepping input.last (input.moment - input.last) u

  tick : (n clock : ℕ) (x : Unit {0}) (u : S) → s.clock_tick B n clock x (f u) ≡ via (s.clock_tick A n clock x u)
  tick n clock x u = bind (s.effect_of A (call.SetClock clock) u) _ _ _ (effect (call.SetClock clock) u) (λ r u. refl)

  delivery : (t : Terminal) (bytes : List ℕ) (u : S) → s.delivery_of B t bytes (f u) ≡ via (s.delivery_of A t bytes u)
  delivery t [] u = refl
  delivery t (b ∷ bs) u = bind (s.effect_of A (call.SetClock t.rx_clock) u) _ _ _ (effect (call.SetClock t.rx_clock) u)
      (λ r u. bind (s.effect_of A (call.SetBinary t.rx_data (b ∷ bs)) u) _ _ _ (effect (call.SetBinary t.rx_data (b ∷ bs)) u) (λ r u. refl))

  inputs : (d : Description) (input : SessionIn) (u : S) → s.input_calls B d input (f u) ≡ via (s.input_calls A d input u)
  inputs d input u = bind (in_order (s.clock_tick A) 0 input.ticked tt u) _ _ _ (order (s.clock_tick A) (s.clock_tick B) tick 0 input.ticked tt u)
      (λ x u. order (s.delivery_from A input.inbox) (s.delivery_from B input.inbox) (λ n t x u. delivery t (get_or input.inbox n []) u) 0 d.terminals tt u)

  emitted-if : (b : Bool) (n : ℕ) (t : Terminal) (so_far : List Emission) (u : S)
      → (if b then (s.effect_of B (call.GetBinary t.tx_data) (f u) >>= λ r v. (Ok (so_far ++ s.emission n r ∷ []), v)) else (Ok so_far, f u))
      ≡ via (if b then (s.effect_of A (call.GetBinary t.tx_data) u >>= λ r v. (Ok (so_far ++ s.emission n r ∷ []), v)) else (Ok so_far, u))
  emitted-if true n t so_far u = bind (s.effect_of A (call.GetBinary t.tx_data) u) _ _ _ (effect (call.GetBinary t.tx_data) u) (λ r u. refl)
  emitted-if false n t so_far u = refl

  emission : (n : ℕ) (t : Terminal) (so_far : List Emission) (u : S) → s.emission_of B n t so_far (f u) ≡ via (s.emission_of A n t so_far u)
  emission n t so_far u = bind (s.effect_of A (call.GetClock t.tx_clock) u) _ _ _ (effect (call.GetClock t.tx_clock) u)
      (λ r u. emitted-if (ticks_by r) n t so_far u)

  iterating : (ts : List Terminal) (so_far : List Emission) (u : S) → s.iteration_of B ts so_far (f u) ≡ via (s.iteration_of A ts so_far u)
  iterating ts so_far u = bind (in_order (s.emission_of A) 0 ts so_far u) _ _ _ (order (s.emission_of A) (s.emission_of B) emission 0 ts so_far u)
      (λ es u. bind (s.effect_of A call.Update u) _ _ _ (effect call.Update u) (λ r u. refl))

  another : (w : Wish) (so_far : List Emission) (u : S) (p : Result Transmitted Cause × S) (q : Result Transmitted Cause × T) → q ≡ via p
      → s.next_iteration B w so_far (f u) q ≡ via (s.next_iteration A w so_far u p)
  another AnotherUpdate so_far u p q e = e
  another NoUpdate so_far u p q e = refl
  another TheEnd so_far u p q e = refl

  iterations : (ts : List Terminal) (left : ℕ) (so_far : List Emission) (u : S) → s.iterations B ts left so_far (f u) ≡ via (s.iterations A ts left so_far u)
  unfolding s.iterations
  iterations ts zero so_far u = refl
  iterations ts (suc left) so_far u = bind (s.iteration_of A ts so_far u) _ _ _ (iterating ts so_far u)
      (λ i u. another i.wish i.emitted u _ _ (iterations ts left i.emitted u))

  interval : (input : SessionIn) (n clock : ℕ) (dues : List DueChange) (u : S) → s.interval_call B input n clock dues (f u) ≡ via (s.interval_call A input n clock dues u)
  interval input n clock dues u = bind (s.effect_of A (call.GetInterval clock) u) _ _ _ (effect (call.GetInterval clock) u) (λ r u. refl)

  termination : (u : S) → s.termination_calls B (f u) ≡ via (s.termination_calls A u)
  termination u = bind (s.effect_of A call.Terminate u) _ _ _ (effect call.Terminate u) (λ r u. ap (λ p. (Ok tt, p.1)) (held.answers u call.Free))

  exit : (d : Description) (input : SessionIn) (so_far : List Emission) (ends : Bool) (u : S)
      → s.exit_calls B d input so_far ends (f u) ≡ via (s.exit_calls A d input so_far ends u)
  exit d input so_far true u = bind (s.termination_calls A u) _ _ _ (termination u) (λ x u. refl)
  exit d input so_far false u = bind (in_order (s.interval_call A input) 0 d.countdown [] u) _ _ _ (order (s.interval_call A input) (s.interval_call B input) (interval input) 0 d.countdown [] u)
      (λ dues u. bind (s.effect_of A call.EnterStep u) _ _ _ (effect call.EnterStep u) (λ r u. refl))

  all : (d : Description) (input : SessionIn) (new : Bool) (u : S) → s.all_calls B d input new (f u) ≡ via (s.all_calls A d input new u)
  all d input new u = bind (s.entry_calls A new input u) _ _ _ (entry new input u)
      (λ r u. bind (s.input_calls A d input u) _ _ _ (inputs d input u)
      (λ x u. bind (s.iterations A d.terminals 16 [] u) _ _ _ (iterations d.terminals 16 [] u)
      (λ t u. exit d input t.emitted t.ends u)))

  pub session-as : (d : Description) (input : SessionIn) (u : S)
      → s.session_of B Q d input (f u) ≡ ((s.session_of A P d input u).0, f (s.session_of A P d input u).1)
  session-as d input u = rw (held.phases u)
      (ap (λ (p : Result SessionOut Cause × T). (s.outcome_of d.countdown p.0, p.1)) (all d input (s.is_fresh (P u)) u))

  pub close-as : (u : S) → s.close_of B (f u) ≡ ((s.close_of A u).0, f (s.close_of A u).1)
  close-as u = ap (λ (p : Result (Unit {0}) Cause × T). (s.end_of_close p.0, p.1)) (termination u)
