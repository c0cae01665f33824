-- What a piece of a session calls: how many calls, that each is permitted,
-- and that noting them changes nothing else.
use Rattle.std.proofs.Common.{◌≡◌, ◌≤◌, ◌+◌, ◌*◌, ℕ, Bool, true, false, IsTrue, List, [], ◌∷◌, ◌++◌, length, Option, None, Some, Result, Ok, Err, if◌then◌else◌, refl, sym, ap, subst, ◌∙◌, append_assoc, append-nil, length-append, arith}
use Rattle.fmi_states.specs.declared.phase.Phase.{Phase}
use Rattle.fmi_states.specs.declared.phase.Phase.TheVariants.{Gone}
use Rattle.fmi_states.specs.declared.call.Call.{Call}
use Rattle.fmi_states.specs.declared.call.Call.TheVariants as call
use Rattle.fmi_states.specs.declared.reply.Reply.{Reply}
use Rattle.fmi_states.specs.Phase.{is_permitted, next_phase, phase_after}
use Rattle.log_specs.specs.Line.{Cause}
use Rattle.session_specs.specs.Outcome.{Down}
use Rattle.session_specs.specs.Sequence.{◌>>=◌, continue_with, in_order}
use Rattle.session_specs.specs.Replies.{fault_of, is_freed_behind}
use Rattle.session_specs.specs.Session.{effect_by_fault, effect_of, phase_behind}
use Rattle.session_specs.specs.Exchanges.{Exchange, exchange, Noted, noted_at, noting, IsRun}
use Rattle.session_laws.proofs.Freed.{freed_permits, unfaulted, freed_gone, unfreed_gone, fault_down}

-- what comes to a fault may have called Free as well
abbrev pub allowed : {A : Type 0} → Result A Cause → ℕ → ℕ
allowed (Ok x) n = n
allowed (Err why) n = n + 1

-- the phase behind what a piece comes to
abbrev pub Stands : {A : Type 0} → (A → Phase) → Result A Cause → Phase → Type 0
Stands after (Ok x) phase = phase ≡ after x
Stands after (Err why) phase = phase ≡ phase_behind (Down why)

allowed-le : {A : Type 0} (r : Result A Cause) (m n : ℕ) → m ≤ n → allowed r m ≤ allowed r n
allowed-le (Ok x) m n h = h
allowed-le (Err why) m n h = omega arith

allowed_on : {A : Type 0} (r : Result A Cause) (a b m n : ℕ) → a ≤ m → b ≤ allowed r n → a + b ≤ allowed r (m + n)
allowed_on (Ok x) a b m n h k = omega arith
allowed_on (Err why) a b m n h k = omega arith

pub allowed_most : {A : Type 0} (r : Result A Cause) (n : ℕ) → allowed r n ≤ n + 1
allowed_most (Ok x) n = omega arith
allowed_most (Err why) n = omega arith

module _ {S : Type 0} (answer : S → Call → Reply × S) (phase_of : S → Phase) where
  -- the phase moves by the table
  abbrev pub Moves : Type 0
  Moves = (s : S) (c : Call) → IsTrue (is_permitted (phase_of s) c)
      → phase_of (answer s c).1 ≡ next_phase (phase_of s) c (answer s c).0

  pub run_on : (s t u : S) (xs ys : List Exchange) → IsRun answer phase_of s xs t
      → IsRun answer phase_of t ys u → IsRun answer phase_of s (xs ++ ys) u
  run_on s t u [] ys h k = subst (λ (v : S). IsRun answer phase_of v ys u) (sym h) k
  run_on s t u (x ∷ xs) ys h k = (h.0, h.1, run_on (answer s x.call).1 t u xs ys h.2 k)

  -- A piece from s, which comes to q, comes to p where calls are noted behind those of before:
  -- p is q with its calls, at most n of them (and one more where it comes to a fault),
  -- each permitted; and the phase behind it.
  pub record Went {A : Type 0} (n : ℕ) (after : A → Phase) (s : S) (before : List Exchange)
      (q : Result A Cause × S) (p : Result A Cause × Noted S) : Type 0 where
    pub calls : List Exchange
    pub alike : q ≡ (p.0, p.1.state)
    pub noted : p.1.exchanges ≡ before ++ calls
    pub few : length calls ≤ allowed p.0 n
    pub run : IsRun answer phase_of s calls p.1.state
    pub in_phase : Stands after p.0 (phase_of p.1.state)

  pub weaken : {A : Type 0} {m n : ℕ} {after : A → Phase} {s : S} {before : List Exchange}
      {q : Result A Cause × S} {p : Result A Cause × Noted S}
      → m ≤ n → Went m after s before q p → Went n after s before q p
  weaken {m = m} {n = n} {p = p} h w = record {
    calls = w.calls;
    alike = w.alike;
    noted = w.noted;
    few = let e = allowed-le p.0 m n h in omega (arith, w.few, e);
    run = w.run;
    in_phase = w.in_phase;
  }

  -- nothing is called
  pub rests : {A : Type 0} {after : A → Phase} (x : A) (s : S) (before : List Exchange)
      → phase_of s ≡ after x → Went 0 after s before (Ok x, s) (Ok x, (noted_at s before))
  rests x s before h = record {
    calls = [];
    alike = refl;
    noted = sym (append-nil before);
    few = omega arith;
    run = refl;
    in_phase = h;
  }

  -- nothing is called, and the unit is down
  pub falls : {A : Type 0} {after : A → Phase} (why : Cause) (s : S) (before : List Exchange)
      → phase_of s ≡ phase_behind (Down why)
      → Went 0 after s before (Err why, s) (Err why, (noted_at s before))
  falls why s before h = record {
    calls = [];
    alike = refl;
    noted = sym (append-nil before);
    few = omega arith;
    run = refl;
    in_phase = h;
  }

  -- Free is called, and its reply decides nothing
  pub lets_go : {A : Type 0} {after : A → Phase} → Moves → (x : A) (s : S) (before : List Exchange)
      → IsTrue (is_permitted (phase_of s) call.Free) → after x ≡ Gone
      → Went 1 after s before (Ok x, (answer s call.Free).1) (Ok x, (noting answer (noted_at s before) call.Free).1)
  lets_go moves x s before permitted e = record {
    calls = exchange call.Free (answer s call.Free).0 ∷ [];
    alike = refl;
    noted = refl;
    few = omega arith;
    run = (permitted, refl, refl);
    in_phase = moves s call.Free permitted ∙ freed_gone (phase_of s) (answer s call.Free).0 ∙ sym e;
  }

  -- one piece behind another
  on_parts : {A B : Type 0} {after : A → Phase} {last : B → Phase} (m n : ℕ) (s : S) (before : List Exchange)
      (q : Result A Cause × S) (r : Result A Cause) (t : S) (log : List Exchange)
      (f : A → S → Result B Cause × S) (g : A → Noted S → Result B Cause × Noted S)
      → Went m after s before q (r, (noted_at t log))
      → ((x : A) (u : S) (mid : List Exchange) → phase_of u ≡ after x → Went n last u mid (f x u) (g x (noted_at u mid)))
      → Went (m + n) last s before (q >>= f) (continue_with r (noted_at t log) g)
  on_parts m n s before q (Ok x) t log f g w k =
      let v = k x t log w.in_phase in
      record {
        calls = w.calls ++ v.calls;
        alike = ap (λ (z : Result _ Cause × S). z >>= f) w.alike ∙ v.alike;
        noted = v.noted ∙ ap (λ (z : List Exchange). z ++ v.calls) w.noted ∙ append_assoc before w.calls v.calls;
        few = rw length-append (allowed_on (g x (noted_at t log)).0 (length w.calls) (length v.calls) m n w.few v.few);
        run = run_on s t (g x (noted_at t log)).1.state w.calls v.calls w.run v.run;
        in_phase = v.in_phase;
      }
  on_parts m n s before q (Err why) t log f g w k = record {
    calls = w.calls;
    alike = ap (λ (z : Result _ Cause × S). z >>= f) w.alike;
    noted = w.noted;
    few = omega (arith, w.few);
    run = w.run;
    in_phase = w.in_phase;
  }

  pub went_on : {A B : Type 0} {after : A → Phase} {last : B → Phase} (m n k : ℕ) (s : S) (before : List Exchange)
      (q : Result A Cause × S) (p : Result A Cause × Noted S)
      (f : A → S → Result B Cause × S) (g : A → Noted S → Result B Cause × Noted S)
      → m + n ≤ k → Went m after s before q p
      → ((x : A) (u : S) (mid : List Exchange) → phase_of u ≡ after x → Went n last u mid (f x u) (g x (noted_at u mid)))
      → Went k last s before (q >>= f) (p >>= g)
  went_on m n k s before q p f g le w h = weaken le (on_parts m n s before q p.0 p.1.state p.1.exchanges f g w h)

  -- a step for each of a list
  pub went_in_order : {A B : Type 0} (after : Phase) (k : ℕ) (step : ℕ → A → B → S → Result B Cause × S)
      (note : ℕ → A → B → Noted S → Result B Cause × Noted S)
      → ((n : ℕ) (a : A) (x : B) (u : S) (mid : List Exchange) → phase_of u ≡ after
      → Went k (λ y. after) u mid (step n a x u) (note n a x (noted_at u mid)))
      → (items : List A) (n : ℕ) (x : B) (s : S) (before : List Exchange) → phase_of s ≡ after
      → Went (length items * k) (λ y. after) s before (in_order step n items x s) (in_order note n items x (noted_at s before))
  went_in_order after k step note each [] n x s before h = weaken (omega arith) (rests x s before h)
  went_in_order after k step note each (a ∷ rest) n x s before h =
      went_on k (length rest * k) _ s before (step n a x s) (note n a x (noted_at s before)) (in_order step (n + 1) rest) (in_order note (n + 1) rest)
      (omega arith) (each n a x s before h) (λ y u mid e. went_in_order after k step note each rest (n + 1) y u mid e)

  frees : Moves → (c : Call) (s : S) (before : List Exchange) (why : Cause)
      → IsTrue (is_permitted (phase_of s) c) → fault_of (answer s c).0 ≡ Some why
      → (b : Bool) → is_freed_behind c why ≡ b
      → Went 1 (λ (r : Reply). phase_after c) s before (Err why, if b then (answer (answer s c).1 call.Free).1 else (answer s c).1) (
        Err why,
        if b then (noting answer (noted_at (answer s c).1 (before ++ exchange c (answer s c).0 ∷ [])) call.Free).1
            else (noted_at (answer s c).1 (before ++ exchange c (answer s c).0 ∷ [])),
      )
  frees moves c s before why permitted e true free =
      let u : S = (answer s c).1 in
      let first : Exchange = exchange c (answer s c).0 in
      let last : Exchange = exchange call.Free (answer u call.Free).0 in
      record {
        calls = first ∷ last ∷ [];
        alike = refl;
        noted = append_assoc before (first ∷ []) (last ∷ []);
        few = omega arith;
        run = (permitted, refl, (subst (λ (p : Phase). IsTrue (is_permitted p call.Free)) (sym (moves s c permitted)) (freed_permits (phase_of s) c (answer s c).0 why e free), refl, refl));
        in_phase = moves u call.Free (subst (λ (p : Phase). IsTrue (is_permitted p call.Free)) (sym (moves s c permitted)) (freed_permits (phase_of s) c (answer s c).0 why e free))
            ∙ freed_gone (phase_of u) (answer u call.Free).0 ∙ sym (fault_down (answer s c).0 why e);
      }
  frees moves c s before why permitted e false free = record {
    calls = exchange c (answer s c).0 ∷ [];
    alike = refl;
    noted = refl;
    few = omega arith;
    run = (permitted, refl, refl);
    in_phase = moves s c permitted ∙ unfreed_gone (phase_of s) c (answer s c).0 why e free ∙ sym (fault_down (answer s c).0 why e);
  }

  -- one call, with the one behind a fault
  settles : Moves → (c : Call) (s : S) (before : List Exchange) (fault : Option Cause)
      → IsTrue (is_permitted (phase_of s) c) → fault_of (answer s c).0 ≡ fault
      → Went 1 (λ r. phase_after c) s before (effect_by_fault answer c fault (answer s c).0 (answer s c).1)
      (effect_by_fault (noting answer) c fault (answer s c).0 (noted_at (answer s c).1 (before ++ exchange c (answer s c).0 ∷ [])))
  settles moves c s before None permitted e = record {
    calls = exchange c (answer s c).0 ∷ [];
    alike = refl;
    noted = refl;
    few = omega arith;
    run = (permitted, refl, refl);
    in_phase = moves s c permitted ∙ unfaulted (phase_of s) c (answer s c).0 e;
  }
  settles moves c s before (Some why) permitted e = frees moves c s before why permitted e (is_freed_behind c why) refl

  pub went_asked : Moves → (c : Call) (s : S) (before : List Exchange) → IsTrue (is_permitted (phase_of s) c)
      → Went 1 (λ r. phase_after c) s before (effect_of answer c s) (effect_of (noting answer) c (noted_at s before))
  went_asked moves c s before permitted = settles moves c s before (fault_of (answer s c).0) permitted refl
