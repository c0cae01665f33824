-- A session is over only where an update asked for the end, and live only where none did.
use Rattle.std.proofs.Common.{◌≡◌, ◌+◌, ℕ, zero, suc, Bool, true, false, List, [], Result, Ok, Err, IfOk, refl, sym, ap, subst, ◌∙◌, arith}
use Rattle.fmi_states.specs.declared.call.Call.{Call}
use Rattle.fmi_states.specs.declared.call.Call.TheVariants as call
use Rattle.fmi_states.specs.declared.reply.Reply.{Reply}
use Rattle.unit_specs.specs.Description.{Description, Terminal}
use Rattle.log_specs.specs.Line.{Cause}
use Rattle.session_specs.specs.Outcome.{SessionIn, SessionOut, Emission, End, Live, Over}
use Rattle.session_specs.specs.Sequence.{continue_with, in_order}
use Rattle.session_specs.specs.Replies.{Wish, AnotherUpdate, NoUpdate, TheEnd}
use Rattle.session_specs.specs.Session.{effect_of, entry_calls, input_calls, Iteration, iteration_of, Transmitted, next_iteration, iterations, interval_call, termination_calls, exit_calls, all_calls, outcome_of}
use Rattle.session_specs.specs.Exchanges.{Exchange, Noted, noted_at, noting}
use Rattle.session_laws.specs.Laws.{one_if, says_end, count_of, ends_by}
use Rattle.session_laws.proofs.Counting.{Weighs, weigh, weigh_nothing, Counts, Quiet, quiet_begun, quiet_given, turned_counts, quiet_finished}
use Rattle.session_laws.proofs.Wishes.{weight_of, weighs_by}
use Rattle.session_laws.proofs.Changes.{continues, anyhow}

-- how many wishes for the end stand in a wish
abbrev end_wishes : Wish → ℕ
end_wishes = weight_of says_end

weighs : Weighs ends_by end_wishes
weighs = weighs_by says_end refl refl

abbrev is_over : End → Bool
is_over Over = true
is_over other = false

abbrev ends_in : Result Transmitted Cause → ℕ
ends_in r = weigh (λ t. one_if t.ends) r

-- so many updates asked for the end where the session doesn't take the unit down: one where it is over, else none
abbrev Agrees : {S : Type 0} → List Exchange → Result SessionOut Cause × Noted S → Type 0
Agrees before p = IfOk p.0 (λ out. count_of ends_by p.1.exchanges ≡ count_of ends_by before + one_if (is_over out.end))

shifted : (r : Result SessionOut Cause) (n a b : ℕ) → a ≡ b → IfOk r (λ out. n ≡ a + one_if (is_over out.end))
    → IfOk r (λ out. n ≡ b + one_if (is_over out.end))
shifted r n a b e h = subst (λ (m : ℕ). IfOk r (λ out. n ≡ m + one_if (is_over out.end))) e h

module _ {S : Type 0} (answer : S → Call → Reply × S) where
  next_ends : (before : List Exchange) (wish : Wish) (emitted : List Emission) (t : S) (log : List Exchange)
      (more : Result Transmitted Cause × Noted S) → count_of ends_by log ≡ count_of ends_by before + end_wishes wish
      → count_of ends_by more.1.exchanges ≡ count_of ends_by log + ends_in more.0
      → count_of ends_by (next_iteration (noting answer) wish emitted (noted_at t log) more).1.exchanges
      ≡ count_of ends_by before + ends_in (next_iteration (noting answer) wish emitted (noted_at t log) more).0
  next_ends before AnotherUpdate emitted t log more e h = omega (arith, e, h)
  next_ends before NoUpdate emitted t log more e h = omega (arith, e)
  next_ends before TheEnd emitted t log more e h = omega (arith, e)

  iteration_ends : (before : List Exchange) (r : Result Iteration Cause) (t : S) (log : List Exchange)
      (g : List Emission → Noted S → Result Transmitted Cause × Noted S)
      → Counts ends_by (λ (x : Iteration). end_wishes x.wish) before (r, noted_at t log)
      → ((emitted : List Emission) (u : S) (mid : List Exchange)
      → count_of ends_by (g emitted (noted_at u mid)).1.exchanges ≡ count_of ends_by mid + ends_in (g emitted (noted_at u mid)).0)
      → count_of ends_by (continue_with r (noted_at t log) (λ i s. next_iteration (noting answer) i.wish i.emitted s
      (g i.emitted s))).1.exchanges
      ≡ count_of ends_by before + ends_in (continue_with r (noted_at t log) (λ i s. next_iteration (noting answer) i.wish i.emitted s
      (g i.emitted s))).0
  iteration_ends before (Ok i) t log g c k = next_ends before i.wish i.emitted t log (g i.emitted (noted_at t log)) c.count
      (k i.emitted t log)
  iteration_ends before (Err why) t log g c k = c.count

  iterations_end : (ts : List Terminal) (n : ℕ) (emitted : List Emission) (s : S) (before : List Exchange)
      → count_of ends_by (iterations (noting answer) ts n emitted (noted_at s before)).1.exchanges
      ≡ count_of ends_by before + ends_in (iterations (noting answer) ts n emitted (noted_at s before)).0
  unfolding iterations
  iterations_end ts zero emitted s before = omega arith
  iterations_end ts (suc n) emitted s before =
      let p : Result Iteration Cause × Noted S = iteration_of (noting answer) ts emitted (noted_at s before) in
      iteration_ends before p.0 p.1.state p.1.exchanges (λ emitted s. iterations (noting answer) ts n emitted s)
      (turned_counts answer ends_by end_wishes weighs ts emitted s before) (λ emitted u mid. iterations_end ts n emitted u mid)

  exit_ends : (d : Description) (input : SessionIn) (emitted : List Emission) (ends : Bool) (s : Noted S)
      → IfOk (exit_calls (noting answer) d input emitted ends s).0 (λ out. is_over out.end ≡ ends)
  exit_ends d input emitted true s =
      let p : Result (Unit {0}) Cause × Noted S = termination_calls (noting answer) s in
      continues (λ x. Unit {0}) (λ out. is_over out.end ≡ true) p.0 p.1 _ (anyhow p.0) (λ x t y. refl)
  exit_ends d input emitted false s =
      let p = in_order (interval_call (noting answer) input) 0 d.countdown [] s in
      continues (λ x. Unit {0}) (λ out. is_over out.end ≡ false) p.0 p.1 _ (anyhow p.0)
      (λ dues t y. let q : Result Reply Cause × Noted S = effect_of (noting answer) call.EnterStep t in
      continues (λ x. Unit {0}) (λ out. is_over out.end ≡ false) q.0 q.1 _ (anyhow q.0) (λ r u z. refl))

  agrees_by : (before mid : List Exchange) (ends : Bool) (r : Result SessionOut Cause) (n : ℕ) → n ≡ count_of ends_by mid
      → count_of ends_by mid ≡ count_of ends_by before + one_if ends → IfOk r (λ out. is_over out.end ≡ ends)
      → IfOk r (λ out. n ≡ count_of ends_by before + one_if (is_over out.end))
  agrees_by before mid ends (Ok out) n e k h = e ∙ k ∙ ap (λ (b : Bool). count_of ends_by before + one_if b) (sym h)
  agrees_by before mid ends (Err why) n e k h = tt

  quiet_then : {A : Type 0} (before : List Exchange) (r : Result A Cause) (t : S) (log : List Exchange)
      (g : A → Noted S → Result SessionOut Cause × Noted S) → Quiet ends_by before (r, noted_at t log)
      → ((x : A) (u : S) (mid : List Exchange) → Agrees mid (g x (noted_at u mid)))
      → Agrees before (continue_with r (noted_at t log) g)
  quiet_then before (Ok x) t log g q k =
      let p : Result SessionOut Cause × Noted S = g x (noted_at t log) in
      let e : count_of ends_by log ≡ count_of ends_by before = omega (arith, q.count) in
      shifted p.0 (count_of ends_by p.1.exchanges) (count_of ends_by log) (count_of ends_by before) e (k x t log)
  quiet_then before (Err why) t log g q k = tt

  exit_then : (d : Description) (input : SessionIn) (before : List Exchange) (r : Result Transmitted Cause) (t : S) (log : List Exchange)
      → count_of ends_by log ≡ count_of ends_by before + ends_in r
      → Agrees before (continue_with r (noted_at t log) (λ x s. exit_calls (noting answer) d input x.emitted x.ends s))
  exit_then d input before (Ok x) t log e =
      let p : Result SessionOut Cause × Noted S = exit_calls (noting answer) d input x.emitted x.ends (noted_at t log) in
      let q = quiet_finished answer ends_by end_wishes weighs d input x.emitted x.ends t log in
      let z : weigh (λ x. 0) p.0 ≡ 0 = weigh_nothing p.0 in
      agrees_by before log x.ends p.0 (count_of ends_by p.1.exchanges) (omega (arith, q.count, z)) e
      (exit_ends d input x.emitted x.ends (noted_at t log))
  exit_then d input before (Err why) t log e = tt

  pub session_agrees : (d : Description) (input : SessionIn) (fresh : Bool) (s : S) (before : List Exchange)
      → Agrees before (all_calls (noting answer) d input fresh (noted_at s before))
  session_agrees d input fresh s before =
      let p : Result Reply Cause × Noted S = entry_calls (noting answer) fresh input (noted_at s before) in
      quiet_then before p.0 p.1.state p.1.exchanges _ (quiet_begun answer ends_by end_wishes weighs fresh input s before)
      (λ r t mid. let q : Result (Unit {0}) Cause × Noted S = input_calls (noting answer) d input (noted_at t mid) in
      quiet_then mid q.0 q.1.state q.1.exchanges _ (quiet_given answer ends_by end_wishes weighs d input t mid)
      (λ x u late. let i : Result Transmitted Cause × Noted S = iterations (noting answer) d.terminals 16 [] (noted_at u late) in
      exit_then d input late i.0 i.1.state i.1.exchanges (iterations_end d.terminals 16 [] u late)))

pub over_by : (clocks : List ℕ) (r : Result SessionOut Cause) (n : ℕ) → IfOk r (λ out. n ≡ 0 + one_if (is_over out.end))
    → (outcome_of clocks r).end ≡ Over → n ≡ 1
over_by clocks (Ok out) n h e = let k : one_if (is_over out.end) ≡ 1 = ap (λ (x : End). one_if (is_over x)) e in omega (arith, h, k)
over_by clocks (Err why) n h e = absurd cc

pub live_by : (clocks : List ℕ) (r : Result SessionOut Cause) (n : ℕ) → IfOk r (λ out. n ≡ 0 + one_if (is_over out.end))
    → (outcome_of clocks r).end ≡ Live → n ≡ 0
live_by clocks (Ok out) n h e = let k : one_if (is_over out.end) ≡ 0 = ap (λ (x : End). one_if (is_over x)) e in omega (arith, h, k)
live_by clocks (Err why) n h e = absurd cc
