-- The units of a plan set clocks behind the moment of their session, and emit what they answer.
use Rattle.std.proofs.Common.{◌≡◌, ◌<◌, ◌⊎◌, ℕ, zero, suc, ◌+◌, Bool, true, false, if◌then◌else◌, List, [], ◌∷◌, ◌++◌, length, replicate, Option, Some, None, Result, Ok, Err, IfOk, arith, refl, subst, inl, inr}
use Rattle.std.specs.Prelude.{option_map, nat_lt, nat_le, ◌*◌, ◌/◌, ◌%◌, ◌==◌, ◌^◌, ⊤}
use Rattle.std.proofs.lemmas.Bool.{and_parts, ltb-true}
use Rattle.fmi_states.specs.declared.phase.Phase.{Phase}
use Rattle.fmi_states.specs.declared.call.Call.{Call}
use Rattle.fmi_states.specs.declared.call.Call.TheVariants as call
use Rattle.fmi_states.specs.declared.reply.Reply.{Reply}
use Rattle.fmi_states.specs.Reply.{bytes_in, AreBytes}
use Rattle.fmi_states.specs.declared.reply.Reply.TheVariants as reply
use Rattle.fmi_states.specs.declared.reply.Qualifier.{Qualifier}
use Rattle.fmi_states.specs.declared.reply.Qualifier.TheVariants as qualifier
use Rattle.unit_specs.specs.Description.{Description, Terminal}
use Rattle.log_specs.specs.Line.{Cause}
use Rattle.session_specs.specs.Outcome.{SessionIn, SessionOut, Emission, DueChange, Keep, At}
use Rattle.session_specs.specs.Sequence.{continue_with, in_order}
use Rattle.session_specs.specs.Replies.{fault_of, ticks_by, Wish, AnotherUpdate, NoUpdate, TheEnd, is_interval, interval_from, scaled_interval, change_by, change_of}
use Rattle.session_specs.specs.Session.{with_change, Iteration, effect_by_fault, effect_of, entry_calls, input_calls, emission_of, iteration_of, next_iteration, iterations, interval_call, termination_calls, exit_calls, all_calls, outcome_of, is_fresh, session_of}
use Rattle.bus_sound.proofs.Among.{Among, among-push_cases}
use Rattle.bus_sound.proofs.Lists.{All-each}
use Rattle.world_specs.specs.Plan.{Plan, description_of, session_in, units_of}
use Rattle.world_specs.specs.Fits.{IsSetBehind, UnitsFit}
use Rattle.world_laws.specs.Words.{AnswersBytes}

-- what a piece comes to, where it comes to something
Comes : {S A : Type 0} → (A → Type 0) → Result A Cause × S → Type 0
Comes P piece = IfOk piece.0 P

then-comes : {S A B : Type 0} (P : A → Type 0) (Q : B → Type 0) (piece : Result A Cause × S) (next : A → S → Result B Cause × S)
    → Comes P piece → ((x : A) (s : S) → P x → Comes Q (next x s)) → Comes Q (continue_with piece.0 piece.1 next)
unfolding Comes
then-comes P Q piece next h k = go piece.0 h
  where
    go : (r : Result _ Cause) → IfOk r P → IfOk (continue_with r piece.1 next).0 Q
    go (Ok x) h = k x piece.1 h
    go (Err why) h = tt

-- whatever the first comes to
any-comes : {S A B : Type 0} (Q : B → Type 0) (piece : Result A Cause × S) (next : A → S → Result B Cause × S)
    → ((x : A) (s : S) → Comes Q (next x s)) → Comes Q (continue_with piece.0 piece.1 next)
unfolding Comes
any-comes Q piece next k = go piece.0
  where
    go : (r : Result _ Cause) → IfOk (continue_with r piece.1 next).0 Q
    go (Ok x) = k x piece.1
    go (Err why) = tt

order-comes : {S A B : Type 0} (P : B → Type 0) (piece : ℕ → A → B → S → Result B Cause × S)
    → ((n : ℕ) (a : A) (x : B) (s : S) → P x → Comes P (piece n a x s)) → (n : ℕ) (as' : List A) (x : B) (s : S) → P x → Comes P (in_order piece n as' x s)
unfolding Comes
order-comes P piece k n [] x s h = h
order-comes P piece k n (a ∷ as') x s h = then-comes P P (piece n a x s) (in_order piece (n + 1) as') (k n a x s h) (λ y t i. order-comes P piece k (n + 1) as' y t i)

-- ---- clocks

abbrev Behind : ℕ → List DueChange → Type 0
Behind t ds = (d : DueChange) → Among ds d → IsSetBehind t d

kept-behind : (t n : ℕ) → Behind t (replicate n Keep)
kept-behind t zero d a = absurd a
kept-behind t (suc n) d (inl e) = subst (IsSetBehind t) e tt
kept-behind t (suc n) d (inr a) = kept-behind t n d a

push-behind : (t : ℕ) (ds : List DueChange) (c : DueChange) → Behind t ds → IsSetBehind t c → Behind t (ds ++ c ∷ [])
push-behind t ds c h k d a = go (among-push_cases ds c d a)
  where
    go : Among ds d ⊎ (c ≡ d) → IsSetBehind t d
    go (inl b) = h d b
    go (inr e) = subst (IsSetBehind t) e k

-- an interval is a tick at least
abbrev Sets : ℕ → Option DueChange → Type 0
Sets t None = ⊤
Sets t (Some c) = IsSetBehind t c

abbrev SomeTicks : Option ℕ → Type 0
SomeTicks None = ⊤
SomeTicks (Some n) = 0 < n

interval-some : (n : ℕ) → SomeTicks (interval_from n)
interval-some n = go (is_interval n) refl
  where
    go : (q : Bool) → is_interval n ≡ q → SomeTicks (if q then Some n else None)
    go true e = ltb-true 0 n (and_parts (nat_lt 0 n) (nat_le n (2 ^ 62)) e).0
    go false e = tt

scaled-some : (counter from ticks : ℕ) → SomeTicks (scaled_interval counter from ticks)
scaled-some counter from ticks = go (nat_lt 0 from) ((counter * ticks) % from == 0)
  where
    go : (p q : Bool) → SomeTicks (if p then (if q then interval_from (counter * ticks / from) else None) else None)
    go true true = interval-some (counter * ticks / from)
    go true false = tt
    go false q = tt

change-sets : (t ticks counter from : ℕ) (q : Qualifier) → Sets t (change_by t ticks counter from q)
change-sets t ticks counter from qualifier.NotYetKnown = tt
change-sets t ticks counter from qualifier.Unchanged = tt
change-sets t ticks counter from qualifier.Changed = go (scaled_interval counter from ticks) (scaled-some counter from ticks)
  where
    go : (o : Option ℕ) → SomeTicks o → Sets t (option_map (λ interval. At (t + interval)) o)
    go None h = tt
    go (Some n) h = omega (arith, h)

reply-sets : (t ticks : ℕ) (r : Reply) → Sets t (change_of t ticks r)
reply-sets t ticks (reply.Interval status counter from q) = change-sets t ticks counter from q
reply-sets t ticks (reply.Plain status) = tt
reply-sets t ticks (reply.Clock status on) = tt
reply-sets t ticks (reply.Data status bytes) = tt
reply-sets t ticks (reply.Updated status another end) = tt
reply-sets t ticks (reply.Broken reason) = tt

-- ---- emissions

abbrev Emits : List Emission → Type 0
Emits es = (e : Emission) → Among es e → AreBytes e.bytes

module _ {S : Type 0} (answer : S → Call → Reply × S) (replies : AnswersBytes answer) where
  -- a reply
  effect-bytes : (c : Call) (s : S) → Comes (λ r. AreBytes (bytes_in r)) (effect_of answer c s)
  unfolding Comes
  effect-bytes c s = go (fault_of (answer s c).0)
    where
      go : (o : Option Cause) → IfOk (effect_by_fault answer c o (answer s c).0 (answer s c).1).0 (λ r. AreBytes (bytes_in r))
      go None = replies s c
      go (Some why) = tt

  emission-emits : (n : ℕ) (terminal : Terminal) (es : List Emission) (s : S) → Emits es → Comes Emits (emission_of answer n terminal es s)
  unfolding Comes
  emission-emits n terminal es s h = any-comes Emits (effect_of answer (call.GetClock terminal.tx_clock) s) _ (λ clock s. by (ticks_by clock) s)
    where
      push : (r : Reply) → AreBytes (bytes_in r) → Emits (es ++ record { terminal = n; bytes = bytes_in r } ∷ [])
      push r k e a = go (among-push_cases es (record { terminal = n; bytes = bytes_in r }) e a)
        where
          go : Among es e ⊎ (record { terminal = n; bytes = bytes_in r } ≡ e) → AreBytes e.bytes
          go (inl b) = h e b
          go (inr q) = subst (λ (x : Emission). AreBytes x.bytes) q k

      by : (q : Bool) (s : S) → Comes Emits (if q
          then continue_with (effect_of answer (call.GetBinary terminal.tx_data) s).0 (effect_of answer (call.GetBinary terminal.tx_data) s).1 (λ r s. (Ok (es ++ record { terminal = n; bytes = bytes_in r } ∷ []), s))
          else (Ok es, s))
      by true s = then-comes (λ r. AreBytes (bytes_in r)) Emits (effect_of answer (call.GetBinary terminal.tx_data) s) (λ r s. (Ok (es ++ record { terminal = n; bytes = bytes_in r } ∷ []), s))
          (effect-bytes (call.GetBinary terminal.tx_data) s) (λ r s k. push r k)
      by false s = h

  iteration-emits : (ts : List Terminal) (es : List Emission) (s : S) → Emits es → Comes (λ i. Emits i.emitted) (iteration_of answer ts es s)
  unfolding Comes
  iteration-emits ts es s h = then-comes Emits (λ i. Emits i.emitted) (in_order (emission_of answer) 0 ts es s) _
      (order-comes Emits (emission_of answer) (λ n t x s i. emission-emits n t x s i) 0 ts es s h)
      (λ x s i. any-comes (λ i. Emits i.emitted) (effect_of answer call.Update s) _ (λ r s. i))

  iterations-emit : (ts : List Terminal) (left : ℕ) (es : List Emission) (s : S) → Emits es → Comes (λ x. Emits x.emitted) (iterations answer ts left es s)
  unfolding iterations Comes
  iterations-emit ts zero es s h = tt
  iterations-emit ts (suc left) es s h = then-comes (λ i. Emits i.emitted) (λ x. Emits x.emitted) (iteration_of answer ts es s) _ (iteration-emits ts es s h)
      (λ i s k. by i.wish i s k (iterations-emit ts left i.emitted s k))
    where
      by : (wish : Wish) (i : Iteration) (s : S) → Emits i.emitted → Comes (λ x. Emits x.emitted) (iterations answer ts left i.emitted s)
          → Comes (λ x. Emits x.emitted) (next_iteration answer wish i.emitted s (iterations answer ts left i.emitted s))
      by AnotherUpdate i s k more = more
      by NoUpdate i s k more = k
      by TheEnd i s k more = k

  -- ---- a session

  record Fitting (t : ℕ) (out : SessionOut) : Type 0 where
    clocks : Behind t out.dues
    bytes : Emits out.emitted

  clock-behind : (input : SessionIn) (n clock : ℕ) (ds : List DueChange) (s : S) → Behind input.moment ds → Comes (Behind input.moment) (interval_call answer input n clock ds s)
  unfolding Comes
  clock-behind input n clock ds s h = any-comes (Behind input.moment) (effect_of answer (call.GetInterval clock) s) _ (λ r s. by (change_of input.moment input.resolution r) (reply-sets input.moment input.resolution r))
    where
      by : (o : Option DueChange) → Sets input.moment o → IfOk (with_change o ds) (Behind input.moment)
      by None k = tt
      by (Some c) k = push-behind input.moment ds c h k

  exit-fits : (d : Description) (input : SessionIn) (es : List Emission) (ends : Bool) (s : S) → Emits es → Comes (Fitting input.moment) (exit_calls answer d input es ends s)
  unfolding Comes
  exit-fits d input es true s h = any-comes (Fitting input.moment) (termination_calls answer s) _ (λ x s. record { clocks = kept-behind input.moment (length d.countdown); bytes = h })
  exit-fits d input es false s h = then-comes (Behind input.moment) (Fitting input.moment) (in_order (interval_call answer input) 0 d.countdown [] s) _
      (order-comes (Behind input.moment) (interval_call answer input) (λ n c x s i. clock-behind input n c x s i) 0 d.countdown [] s (λ x a. absurd a))
      (λ ds s i. any-comes (Fitting input.moment) (effect_of answer call.EnterStep s) _ (λ r s. record { clocks = i; bytes = h }))

  all-fit : (d : Description) (input : SessionIn) (is_new : Bool) (s : S) → Comes (Fitting input.moment) (all_calls answer d input is_new s)
  unfolding Comes
  all-fit d input is_new s =
      any-comes (Fitting input.moment) (entry_calls answer is_new input s) _ (λ r s.
      any-comes (Fitting input.moment) (input_calls answer d input s) _ (λ x s.
      then-comes (λ x. Emits x.emitted) (Fitting input.moment) (iterations answer d.terminals 16 [] s) _ (iterations-emit d.terminals 16 [] s (λ e a. absurd a))
      (λ x s k. exit-fits d input x.emitted x.ends s k)))

  session-fits : (phase_of : S → Phase) (d : Description) (input : SessionIn) (s : S) → Fitting input.moment (session_of answer phase_of d input s).0
  unfolding Comes
  session-fits phase_of d input s = go (all_calls answer d input (is_fresh (phase_of s)) s).0 (all-fit d input (is_fresh (phase_of s)) s)
    where
      go : (r : Result SessionOut Cause) → IfOk r (Fitting input.moment) → Fitting input.moment (outcome_of d.countdown r)
      go (Ok out) h = h
      go (Err why) h = record { clocks = kept-behind input.moment (length d.countdown); bytes = λ e a. absurd a }

  pub units-fit : (phase_of : S → Phase) (p : Plan) → UnitsFit (units_of answer phase_of p)
  units-fit phase_of p = record {
    clocks = λ node g s. let d = description_of p node in let f = session-fits phase_of d (session_in p.resolution d g) s in All-each (IsSetBehind g.moment) _ f.clocks;
    bytes = λ node g s. let d = description_of p node in let f = session-fits phase_of d (session_in p.resolution d g) s in All-each (λ e. AreBytes e.bytes) _ f.bytes;
  }
