-- How many updates of a session wish for something.
use Rattle.std.proofs.Common.{◌≡◌, ◌+◌, ◌-◌, ℕ, Bool, true, false, List, [], ◌∷◌, ◌++◌, get_or, Option, None, Some, Result, Ok, Err, if◌then◌else◌, refl, ap, ◌∙◌, arith}
use Rattle.fmi_states.specs.declared.call.Call.{Call}
use Rattle.fmi_states.specs.declared.call.Call.TheVariants as call
use Rattle.fmi_states.specs.declared.reply.Reply.{Reply}
use Rattle.fmi_states.specs.declared.reply.Reply.TheVariants as reply
use Rattle.fmi_states.specs.declared.reply.Broken.{Broken}
use Rattle.fmi_states.specs.declared.reply.Broken.TheVariants as broken
use Rattle.fmi_states.specs.declared.status.FmiStatus.{FmiStatus}
use Rattle.fmi_states.specs.declared.status.FmiStatus.TheVariants as status
use Rattle.unit_specs.specs.Description.{Description, Terminal}
use Rattle.log_specs.specs.Line.{Cause, Loop}
use Rattle.session_specs.specs.Outcome.{SessionIn, Emission, DueChange}
use Rattle.session_specs.specs.Sequence.{◌>>=◌, continue_with, in_order}
use Rattle.session_specs.specs.Replies.{fault_of, status_fault, broken_fault, is_freed_behind, ticks_by, Wish, wish_of, change_of}
use Rattle.session_specs.specs.Session.{effect_by_fault, effect_of, entry_calls, clock_tick, delivery_of, delivery_from, input_calls, emission, emission_of, Iteration, iteration, iteration_of, interval_call, with_change, termination_calls, outcome_over, outcome_live, exit_calls}
use Rattle.session_specs.specs.Exchanges.{Exchange, exchange, Noted, noted_at, noting}
use Rattle.session_laws.specs.Laws.{one_if, count_of}

-- a call of Update
abbrev pub is_update : Call → Bool
is_update call.Update = true
is_update other = false

-- A test of updates that aren't refused, which weighs their wishes.
pub record Weighs (test : Call → Reply → Bool) (weight : Wish → ℕ) : Type 0 where
  pub updates : (c : Call) → is_update c ≡ false → (r : Reply) → test c r ≡ false
  pub refused : (r : Reply) (why : Cause) → fault_of r ≡ Some why → test call.Update r ≡ false
  pub fine : (r : Reply) → fault_of r ≡ None → one_if (test call.Update r) ≡ weight (wish_of r)

one_more : (test : Call → Reply → Bool) (before : List Exchange) (c : Call) (r : Reply)
    → count_of test (before ++ exchange c r ∷ []) ≡ count_of test before + one_if (test c r)
one_more test [] c r = omega arith
one_more test (x ∷ rest) c r = let e : count_of test (rest ++ exchange c r ∷ []) ≡ count_of test rest + one_if (test c r) = one_more test rest c r in omega (arith, e)

none_more : (test : Call → Reply → Bool) (before : List Exchange) (c : Call) (r : Reply) → test c r ≡ false
    → count_of test (before ++ exchange c r ∷ []) ≡ count_of test before
none_more test before c r e = let h : one_if (test c r) ≡ 0 = ap one_if e in omega (arith, one_more test before c r, h)

status_no_loop : (s : FmiStatus) → status_fault s ≡ Some Loop → ⊥
status_no_loop status.Ok h = cc
status_no_loop status.Warning h = cc
status_no_loop status.Discard h = cc
status_no_loop status.Error h = cc
status_no_loop status.Fatal h = cc

broken_no_loop : (b : Broken) → Some (broken_fault b) ≡ Some Loop → ⊥
broken_no_loop broken.Trap h = cc
broken_no_loop broken.Spent h = cc
broken_no_loop broken.BadReply h = cc
broken_no_loop broken.BadBuffer h = cc

-- no reply takes a unit down for Loop
no_loop_fault : (r : Reply) → fault_of r ≡ Some Loop → ⊥
no_loop_fault (reply.Plain s) h = status_no_loop s h
no_loop_fault (reply.Clock s ticks) h = status_no_loop s h
no_loop_fault (reply.Data s bytes) h = status_no_loop s h
no_loop_fault (reply.Updated s another_update end) h = status_no_loop s h
no_loop_fault (reply.Interval s counter resolution qualifier) h = status_no_loop s h
no_loop_fault (reply.Broken b) h = broken_no_loop b h

abbrev pub weigh : {A : Type 0} → (A → ℕ) → Result A Cause → ℕ
weigh w (Ok x) = w x
weigh w (Err why) = 0

pub weigh_nothing : {A : Type 0} (r : Result A Cause) → weigh (λ (x : A). 0) r ≡ 0
weigh_nothing (Ok x) = refl
weigh_nothing (Err why) = refl

-- a piece that isn't down for Loop, and how many updates in it pass the test
pub record Counts {S A : Type 0} (test : Call → Reply → Bool) (w : A → ℕ) (before : List Exchange) (p : Result A Cause × Noted S) : Type 0 where
  pub count : count_of test p.1.exchanges ≡ count_of test before + weigh w p.0
  pub no_loop : p.0 ≡ Err Loop → ⊥

abbrev pub Quiet : {S A : Type 0} → (Call → Reply → Bool) → List Exchange → Result A Cause × Noted S → Type 0
Quiet test before p = Counts test (λ x. 0) before p

module _ {S : Type 0} (answer : S → Call → Reply × S) (test : Call → Reply → Bool) (weight : Wish → ℕ) (weighs : Weighs test weight) where
  pub quiet_parts : {A B : Type 0} (w : B → ℕ) (before : List Exchange) (r : Result A Cause) (t : S) (log : List Exchange)
      (g : A → Noted S → Result B Cause × Noted S)
      → Quiet test before (r, (noted_at t log)) → ((x : A) (u : S) (mid : List Exchange) → Counts test w mid (g x (noted_at u mid)))
      → Counts test w before (continue_with r (noted_at t log) g)
  quiet_parts w before (Ok x) t log g q k = let v = k x t log in record {
    count = omega (arith, q.count, v.count);
    no_loop = v.no_loop;
  }
  quiet_parts w before (Err why) t log g q k = record {
    count = omega (arith, q.count);
    no_loop = λ e. q.no_loop (cc);
  }

  pub quiet_on : {A B : Type 0} (w : B → ℕ) (before : List Exchange) (p : Result A Cause × Noted S)
      (g : A → Noted S → Result B Cause × Noted S)
      → Quiet test before p → ((x : A) (u : S) (mid : List Exchange) → Counts test w mid (g x (noted_at u mid)))
      → Counts test w before (p >>= g)
  quiet_on w before p g q k = quiet_parts w before p.0 p.1.state p.1.exchanges g q k

  pub quiet_rest : {A : Type 0} (x : A) (s : Noted S) → Quiet test s.exchanges (Ok x, s)
  quiet_rest x s = record { count = omega arith; no_loop = λ e. cc }

  pub quiet_in_order : {A B : Type 0} (note : ℕ → A → B → Noted S → Result B Cause × Noted S)
      → ((n : ℕ) (a : A) (x : B) (u : S) (mid : List Exchange) → Quiet test mid (note n a x (noted_at u mid)))
      → (items : List A) (n : ℕ) (x : B) (s : S) (before : List Exchange) → Quiet test before (in_order note n items x (noted_at s before))
  quiet_in_order note each [] n x s before = quiet_rest x (noted_at s before)
  quiet_in_order note each (a ∷ rest) n x s before = quiet_on (λ y. 0) before (note n a x (noted_at s before)) (in_order note (n + 1) rest)
      (each n a x s before) (λ y u mid. quiet_in_order note each rest (n + 1) y u mid)

  frees : {A : Type 0} (w : A → ℕ) (c : Call) (s : Noted S) (before : List Exchange) (why : Cause) (b : Bool)
      → count_of test s.exchanges ≡ count_of test before → (why ≡ Loop → ⊥)
      → Counts {A = A} test w before (Err why, if b then (noting answer s call.Free).1 else s)
  frees w c s before why true e other = record {
    count = omega (arith, e, none_more test s.exchanges call.Free (answer s.state call.Free).0 (weighs.updates call.Free refl (answer s.state call.Free).0));
    no_loop = λ e. other (cc);
  }
  frees w c s before why false e other = record { count = omega (arith, e); no_loop = λ e. other (cc) }

  settles : (w : Reply → ℕ) (c : Call) (s : S) (before : List Exchange) (r : Reply) (fault : Option Cause) → fault_of r ≡ fault
      → ((why : Cause) → fault ≡ Some why → test c r ≡ false) → (fault ≡ None → one_if (test c r) ≡ w r)
      → Counts test w before (effect_by_fault (noting answer) c fault r (noted_at s (before ++ exchange c r ∷ [])))
  settles w c s before r None e faulty fine = record {
    count = let h : one_if (test c r) ≡ w r = fine refl in omega (arith, one_more test before c r, h);
    no_loop = λ e. cc;
  }
  settles w c s before r (Some why) e faulty fine = frees w c (noted_at s (before ++ exchange c r ∷ [])) before why (is_freed_behind c why)
      (none_more test before c r (faulty why refl)) (λ h. no_loop_fault r (e ∙ ap Some h))

  -- a call other than an update
  quiet_asked : (c : Call) → is_update c ≡ false → (s : S) (before : List Exchange)
      → Quiet test before (effect_of (noting answer) c (noted_at s before))
  quiet_asked c h s before = settles (λ r. 0) c (answer s c).1 before (answer s c).0 (fault_of (answer s c).0) refl (λ why e. weighs.updates c h (answer s c).0) (λ e. ap one_if (weighs.updates c h (answer s c).0))

  update_counts : (s : S) (before : List Exchange) → Counts test (λ r. weight (wish_of r)) before (effect_of (noting answer) call.Update (noted_at s before))
  update_counts s before = settles (λ r. weight (wish_of r)) call.Update (answer s call.Update).1 before (answer s call.Update).0 (fault_of (answer s call.Update).0) refl
      (λ why e. weighs.refused (answer s call.Update).0 why e) (λ e. weighs.fine (answer s call.Update).0 e)

  quiet_tick : (n clock : ℕ) (x : Unit {0}) (s : S) (before : List Exchange) → Quiet test before (clock_tick (noting answer) n clock x (noted_at s before))
  quiet_tick n clock x s before = quiet_on (λ y. 0) before _ _ (quiet_asked (call.SetClock clock) refl s before) (λ r t mid. quiet_rest tt (noted_at t mid))

  quiet_handed : (term : Terminal) (bytes : List ℕ) (s : S) (before : List Exchange) → Quiet test before (delivery_of (noting answer) term bytes (noted_at s before))
  quiet_handed term [] s before = quiet_rest tt (noted_at s before)
  quiet_handed term (byte ∷ others) s before = quiet_on (λ y. 0) before _ _ (quiet_asked (call.SetClock term.rx_clock) refl s before)
      (λ r t mid. quiet_on (λ y. 0) mid _ _ (quiet_asked (call.SetBinary term.rx_data (byte ∷ others)) refl t mid) (λ r u end. quiet_rest tt (noted_at u end)))

  pub quiet_given : (d : Description) (input : SessionIn) (s : S) (before : List Exchange) → Quiet test before (input_calls (noting answer) d input (noted_at s before))
  quiet_given d input s before = quiet_on (λ y. 0) before _ _ (quiet_in_order (clock_tick (noting answer)) quiet_tick input.ticked 0 tt s before)
      (λ y t mid. quiet_in_order (delivery_from (noting answer) input.inbox) (λ n term x s before. quiet_handed term (get_or input.inbox n []) s before) d.terminals 0 tt t mid)

  pub quiet_begun : (fresh : Bool) (input : SessionIn) (s : S) (before : List Exchange) → Quiet test before (entry_calls (noting answer) fresh input (noted_at s before))
  quiet_begun true input s before = quiet_on (λ y. 0) before _ _ (quiet_asked call.Instantiate refl s before)
      (λ r t mid. quiet_on (λ y. 0) mid _ _ (quiet_asked call.EnterInit refl t mid) (λ r u end. quiet_asked call.ExitInit refl u end))
  quiet_begun false input s before = quiet_on (λ y. 0) before _ _ (quiet_asked (call.DoStep input.last (input.moment - input.last)) refl s before)
      (λ r t mid. quiet_asked call.EnterEvent refl t mid)

  quiet_taken : (n : ℕ) (term : Terminal) (emitted : List Emission) (on : Bool) (s : S) (before : List Exchange)
      → Quiet test before (if on then (effect_of (noting answer) (call.GetBinary term.tx_data) (noted_at s before) >>= λ r s. (Ok (emitted ++ emission n r ∷ []), s)) else (Ok emitted, (noted_at s before)))
  quiet_taken n term emitted true s before = quiet_on (λ y. 0) before _ _ (quiet_asked (call.GetBinary term.tx_data) refl s before)
      (λ r t mid. quiet_rest (emitted ++ emission n r ∷ []) (noted_at t mid))
  quiet_taken n term emitted false s before = quiet_rest emitted (noted_at s before)

  quiet_polled : (n : ℕ) (term : Terminal) (emitted : List Emission) (s : S) (before : List Exchange) → Quiet test before (emission_of (noting answer) n term emitted (noted_at s before))
  quiet_polled n term emitted s before = quiet_on (λ y. 0) before _ _ (quiet_asked (call.GetClock term.tx_clock) refl s before)
      (λ r t mid. quiet_taken n term emitted (ticks_by r) t mid)

  turned_parts : (emitted : List Emission) (before : List Exchange) (r : Result Reply Cause) (t : S) (log : List Exchange)
      → Counts test (λ r. weight (wish_of r)) before (r, (noted_at t log))
      → Counts test (λ (x : Iteration). weight x.wish) before (continue_with r (noted_at t log) (λ r s. (Ok (iteration emitted (wish_of r)), s)))
  turned_parts emitted before (Ok r) t log c = record { count = c.count; no_loop = λ e. cc }
  turned_parts emitted before (Err why) t log c = record { count = c.count; no_loop = λ e. c.no_loop (cc) }

  pub turned_counts : (ts : List Terminal) (emitted : List Emission) (s : S) (before : List Exchange)
      → Counts test (λ (x : Iteration). weight x.wish) before (iteration_of (noting answer) ts emitted (noted_at s before))
  turned_counts ts emitted s before = quiet_on (λ (x : Iteration). weight x.wish) before _ _ (quiet_in_order (emission_of (noting answer)) quiet_polled ts 0 emitted s before)
      (λ emitted t mid. let p : Result Reply Cause × Noted S = effect_of (noting answer) call.Update (noted_at t mid) in
      turned_parts emitted mid p.0 p.1.state p.1.exchanges (update_counts t mid))

  quiet_terminated : (s : S) (before : List Exchange) → Quiet test before (termination_calls (noting answer) (noted_at s before))
  quiet_terminated s before = quiet_on (λ y. 0) before _ _ (quiet_asked call.Terminate refl s before)
      (λ r t mid. record { count = omega (arith, none_more test mid call.Free (answer t call.Free).0 (weighs.updates call.Free refl (answer t call.Free).0)); no_loop = λ e. cc })

  quiet_changed : (change : Option DueChange) (dues : List DueChange) (s : S) (before : List Exchange) → Quiet test before (with_change change dues, (noted_at s before))
  quiet_changed (Some change) dues s before = quiet_rest (dues ++ change ∷ []) (noted_at s before)
  quiet_changed None dues s before = record { count = omega arith; no_loop = λ e. cc }

  quiet_interval : (input : SessionIn) (n clock : ℕ) (dues : List DueChange) (s : S) (before : List Exchange) → Quiet test before (interval_call (noting answer) input n clock dues (noted_at s before))
  quiet_interval input n clock dues s before = quiet_on (λ y. 0) before _ _ (quiet_asked (call.GetInterval clock) refl s before)
      (λ r t mid. quiet_changed (change_of input.moment input.resolution r) dues t mid)

  pub quiet_finished : (d : Description) (input : SessionIn) (emitted : List Emission) (end : Bool) (s : S) (before : List Exchange)
      → Quiet test before (exit_calls (noting answer) d input emitted end (noted_at s before))
  quiet_finished d input emitted true s before = quiet_on (λ y. 0) before _ _ (quiet_terminated s before)
      (λ x t mid. quiet_rest (outcome_over d.countdown emitted) (noted_at t mid))
  quiet_finished d input emitted false s before = quiet_on (λ y. 0) before _ _ (quiet_in_order (interval_call (noting answer) input) (quiet_interval input) d.countdown 0 [] s before)
      (λ dues t mid. quiet_on (λ y. 0) mid _ _ (quiet_asked call.EnterStep refl t mid)
      (λ r u last. quiet_rest (outcome_live emitted dues) (noted_at u last)))
