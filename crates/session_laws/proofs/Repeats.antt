-- How many updates ask for another one, and that a unit is down for Loop exactly where 16 do.
use Rattle.std.proofs.Common.{◌≡◌, ◌<◌, ◌≤◌, ◌+◌, ℕ, zero, suc, Bool, List, [], Result, Ok, Err, refl, arith}
use Rattle.fmi_states.specs.declared.call.Call.{Call}
use Rattle.fmi_states.specs.declared.reply.Reply.{Reply}
use Rattle.unit_specs.specs.Description.{Description, Terminal}
use Rattle.log_specs.specs.Line.{Cause, Loop}
use Rattle.session_specs.specs.Outcome.{SessionIn, Emission}
use Rattle.session_specs.specs.Sequence.{continue_with}
use Rattle.session_specs.specs.Replies.{Wish, AnotherUpdate, NoUpdate, TheEnd}
use Rattle.session_specs.specs.Session.{entry_calls, input_calls, Iteration, iteration_of, Transmitted, next_iteration, iterations, all_calls}
use Rattle.session_specs.specs.Exchanges.{Exchange, Noted, noted_at, noting}
use Rattle.session_laws.specs.Laws.{says_again, asks_by, again_of}
use Rattle.session_laws.proofs.Counting.{Weighs, weigh, weigh_nothing, Counts, Quiet, quiet_begun, quiet_given, turned_counts, quiet_finished}
use Rattle.session_laws.proofs.Wishes.{weight_of, weighs_by}

-- how many wishes for another update stand in a wish
abbrev wishes : Wish → ℕ
wishes = weight_of says_again

weighs : Weighs asks_by wishes
weighs = weighs_by says_again refl refl

module _ {S : Type 0} (answer : S → Call → Reply × S) where
  -- down for Loop exactly where n updates ask for another one, and no more do
  pub record Loops {A : Type 0} (n : ℕ) (before : List Exchange) (p : Result A Cause × Noted S) : Type 0 where
    pub most : again_of p.1.exchanges ≤ again_of before + n
    pub loop : p.0 ≡ Err Loop → again_of p.1.exchanges ≡ again_of before + n
    pub only : again_of p.1.exchanges ≡ again_of before + n → p.0 ≡ Err Loop

  looped_by : (n : ℕ) (before : List Exchange) (wish : Wish) (emitted : List Emission) (t : S) (log : List Exchange)
      (more : Result Transmitted Cause × Noted S)
      → again_of log ≡ again_of before + wishes wish → Loops n log more
      → Loops (suc n) before (next_iteration (noting answer) wish emitted (noted_at t log) more)
  looped_by n before AnotherUpdate emitted t log more e l = record {
    most = omega (arith, e, l.most);
    loop = λ h. let k : again_of more.1.exchanges ≡ again_of log + n = l.loop h in omega (arith, e, k);
    only = λ h. l.only (omega (arith, e, h));
  }
  looped_by n before NoUpdate emitted t log more e l = record {
    most = omega (arith, e);
    loop = λ h. absurd cc;
    only = λ h. absurd (omega (arith, e, h));
  }
  looped_by n before TheEnd emitted t log more e l = record {
    most = omega (arith, e);
    loop = λ h. absurd cc;
    only = λ h. absurd (omega (arith, e, h));
  }

  looped_parts : (n : ℕ) (before : List Exchange) (r : Result Iteration Cause) (t : S) (log : List Exchange)
      (g : List Emission → Noted S → Result Transmitted Cause × Noted S)
      → Counts asks_by (λ (x : Iteration). wishes x.wish) before (r, (noted_at t log))
      → ((emitted : List Emission) (u : S) (mid : List Exchange) → Loops n mid (g emitted (noted_at u mid)))
      → Loops (suc n) before (continue_with r (noted_at t log) (λ x s. next_iteration (noting answer) x.wish x.emitted s (g x.emitted s)))
  looped_parts n before (Ok x) t log g c k = looped_by n before x.wish x.emitted t log (g x.emitted (noted_at t log)) c.count
      (k x.emitted t log)
  looped_parts n before (Err why) t log g c k = record {
    most = omega (arith, c.count);
    loop = λ h. absurd (c.no_loop (cc));
    only = λ h. absurd (omega (arith, c.count, h));
  }

  loops_iterated : (ts : List Terminal) (n : ℕ) (emitted : List Emission) (s : S) (before : List Exchange)
      → Loops n before (iterations (noting answer) ts n emitted (noted_at s before))
  unfolding iterations
  loops_iterated ts zero emitted s before = record { most = omega arith; loop = λ h. omega arith; only = λ h. refl }
  loops_iterated ts (suc n) emitted s before = let p : Result Iteration Cause × Noted S = iteration_of (noting answer) ts emitted
      (noted_at s before) in
      looped_parts n before p.0 p.1.state p.1.exchanges (λ emitted s. iterations (noting answer) ts n emitted s)
      (turned_counts answer asks_by wishes weighs ts emitted s before)
      (λ emitted u mid. loops_iterated ts n emitted u mid)

  before_parts : {A B : Type 0} (n : ℕ) (before : List Exchange) (r : Result A Cause) (t : S) (log : List Exchange)
      (g : A → Noted S → Result B Cause × Noted S) → 0 < n
      → Quiet asks_by before (r, (noted_at t log)) → ((x : A) (u : S) (mid : List Exchange) → Loops n mid (g x (noted_at u mid)))
      → Loops n before (continue_with r (noted_at t log) g)
  before_parts n before (Ok x) t log g some q k = let l = k x t log in record {
    most = omega (arith, q.count, l.most);
    loop = λ h. let m : again_of (g x (noted_at t log)).1.exchanges ≡ again_of log + n = l.loop h in omega (arith, q.count, m);
    only = λ h. l.only (omega (arith, q.count, h));
  }
  before_parts n before (Err why) t log g some q k = record {
    most = omega (arith, q.count);
    loop = λ h. absurd (q.no_loop (cc));
    only = λ h. absurd (omega (arith, q.count, h));
  }

  behind_parts : {A B : Type 0} (n : ℕ) (before : List Exchange) (r : Result A Cause) (t : S) (log : List Exchange)
      (g : A → Noted S → Result B Cause × Noted S)
      → Loops n before (r, (noted_at t log)) → ((x : A) (u : S) (mid : List Exchange) → Quiet asks_by mid (g x (noted_at u mid)))
      → Loops n before (continue_with r (noted_at t log) g)
  behind_parts n before (Ok x) t log g l k = let q = k x t log in let z : weigh (λ x. 0) (g x (noted_at t log)).0 ≡ 0 = weigh_nothing
      (g x (noted_at t log)).0 in record {
        most = omega (arith, q.count, l.most, z);
        loop = λ h. absurd (q.no_loop h);
        only = λ h. let e : again_of log ≡ again_of before + n = omega (arith, q.count, h, z) in let m : Ok x ≡ Err Loop = l.only e in absurd
            cc;
      }
  behind_parts n before (Err why) t log g l k = record {
    most = l.most;
    loop = λ h. l.loop (cc);
    only = λ h. let m : Err why ≡ Err Loop = l.only h in cc;
  }

  pub loops_ran : (d : Description) (input : SessionIn) (fresh : Bool) (s : S) (before : List Exchange)
      → Loops 16 before (all_calls (noting answer) d input fresh (noted_at s before))
  loops_ran d input fresh s before =
      let p : Result Reply Cause × Noted S = entry_calls (noting answer) fresh input (noted_at s before) in
      before_parts 16 before p.0 p.1.state p.1.exchanges _ (omega arith) (quiet_begun answer asks_by wishes weighs fresh input s before)
      (λ r t mid. let q : Result (Unit {0}) Cause × Noted S = input_calls (noting answer) d input (noted_at t mid) in
      before_parts 16 mid q.0 q.1.state q.1.exchanges _ (omega arith) (quiet_given answer asks_by wishes weighs d input t mid)
      (λ x u late. let i : Result Transmitted Cause × Noted S = iterations (noting answer) d.terminals 16 [] (noted_at u late) in
      behind_parts 16 late i.0 i.1.state i.1.exchanges _ (loops_iterated d.terminals 16 [] u late)
      (λ x v last. quiet_finished answer asks_by wishes weighs d input x.emitted x.ends v last)))
