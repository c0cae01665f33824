-- What a session changes of clocks: one change for each, and a clock is set behind the moment.
use Rattle.std.proofs.Common.{◌≡◌, ◌<◌, ◌≤◌, ◌+◌, ◌*◌, ◌/◌, ◌%◌, ◌^◌, ◌==◌, ◌&&◌, nat_lt, nat_le, ℕ, suc, Bool, true, false, List, [], ◌∷◌, ◌++◌, length, Option, None, Some, option_map, Result, Ok, Err, IfOk, IfSome, if◌then◌else◌, refl, ap, subst, length-append, arith}
use Rattle.std.specs.Prelude.{⊤}
use Rattle.std.specs.List.{AllByRecursion}
use Rattle.fmi_states.specs.declared.phase.Phase.{Phase}
use Rattle.fmi_states.specs.declared.call.Call.{Call}
use Rattle.fmi_states.specs.declared.call.Call.TheVariants as call
use Rattle.fmi_states.specs.declared.reply.Reply.{Reply}
use Rattle.fmi_states.specs.declared.reply.Reply.TheVariants as reply
use Rattle.fmi_states.specs.declared.reply.Qualifier.{Qualifier}
use Rattle.fmi_states.specs.declared.reply.Qualifier.TheVariants as qualifier
use Rattle.unit_specs.specs.Description.{Description}
use Rattle.log_specs.specs.Line.{Cause}
use Rattle.session_specs.specs.Outcome.{SessionIn, SessionOut, Emission, DueChange, At}
use Rattle.session_specs.specs.Sequence.{continue_with, in_order}
use Rattle.session_specs.specs.Replies.{is_interval, interval_from, change_by, change_of}
use Rattle.session_specs.specs.Session.{effect_of, entry_calls, input_calls, iterations, with_change, interval_call, termination_calls, exit_calls, all_calls, all_kept, session_of, outcome_of, is_fresh}
use Rattle.session_laws.specs.Laws.{IsAhead}

-- ---- an interval

both : (a b : Bool) → (a && b) ≡ true → (a ≡ true) × (b ≡ true)
both true b h = (refl, h)
both false b h = absurd cc

is_within : (ticks : ℕ) → is_interval ticks ≡ true → (0 < ticks) × (ticks ≤ 2 ^ 62)
is_within ticks h = let p = both (nat_lt 0 ticks) (nat_le ticks (2 ^ 62)) h in (search (p.0, arith), search (p.1, arith))

from_test : (b : Bool) (n : ℕ) → is_interval n ≡ b → (moment : ℕ)
    → IfSome (option_map (λ interval. At (moment + interval)) (if b then Some n else None)) (IsAhead moment)
from_test true n e moment = let h = is_within n e in (omega (arith, h.0), omega (arith, h.1))
from_test false n e moment = tt

from_whole : (b : Bool) (n moment : ℕ)
    → IfSome (option_map (λ interval. At (moment + interval)) (if b then interval_from n else None)) (IsAhead moment)
from_whole true n moment = from_test (is_interval n) n refl moment
from_whole false n moment = tt

from_scaled : (b : Bool) (counter from ticks moment : ℕ)
    → IfSome (option_map (λ interval. At (moment + interval)) (if b
    then (if (counter * ticks) % from == 0 then interval_from (counter * ticks / from) else None) else None)) (IsAhead moment)
from_scaled true counter from ticks moment = from_whole ((counter * ticks) % from == 0) (counter * ticks / from) moment
from_scaled false counter from ticks moment = tt

by_ahead : (moment ticks counter from : ℕ) (q : Qualifier) → IfSome (change_by moment ticks counter from q) (IsAhead moment)
by_ahead moment ticks counter from qualifier.NotYetKnown = tt
by_ahead moment ticks counter from qualifier.Unchanged = tt
by_ahead moment ticks counter from qualifier.Changed = from_scaled (nat_lt 0 from) counter from ticks moment

change_ahead : (moment ticks : ℕ) (r : Reply) → IfSome (change_of moment ticks r) (IsAhead moment)
change_ahead moment ticks (reply.Interval s counter from q) = by_ahead moment ticks counter from q
change_ahead moment ticks (reply.Plain s) = tt
change_ahead moment ticks (reply.Clock s on) = tt
change_ahead moment ticks (reply.Data s bytes) = tt
change_ahead moment ticks (reply.Updated s more end) = tt
change_ahead moment ticks (reply.Broken reason) = tt

-- ---- the changes of a session

-- so many changes, each ahead
pub record AreChanges (moment n : ℕ) (dues : List DueChange) : Type 0 where
  pub ahead : AllByRecursion (IsAhead moment) dues
  pub each : length dues ≡ n

ahead_append : (moment : ℕ) (dues : List DueChange) (change : DueChange) → AllByRecursion (IsAhead moment) dues
    → IsAhead moment change → AllByRecursion (IsAhead moment) (dues ++ change ∷ [])
ahead_append moment [] change h k = (k, tt)
ahead_append moment (x ∷ xs) change h k = (h.0, ahead_append moment xs change h.1 k)

kept_are : (moment : ℕ) (clocks : List ℕ) → AllByRecursion (IsAhead moment) (all_kept clocks)
kept_are moment [] = tt
kept_are moment (clock ∷ others) = (tt, kept_are moment others)

kept_each : (clocks : List ℕ) → length (all_kept clocks) ≡ length clocks
kept_each [] = refl
kept_each (clock ∷ others) = ap suc (kept_each others)

kept_changes : (moment : ℕ) (clocks : List ℕ) → AreChanges moment (length clocks) (all_kept clocks)
kept_changes moment clocks = record { ahead = kept_are moment clocks; each = kept_each clocks }

-- what a piece comes to, behind another that came to what P holds of
pub continues : {S A B : Type 0} (P : A → Type 0) (Q : B → Type 0) (r : Result A Cause) (s : S) (f : A → S → Result B Cause × S)
    → IfOk r P → ((x : A) (t : S) → P x → IfOk (f x t).0 Q) → IfOk (continue_with r s f).0 Q
continues P Q (Ok x) s f h k = k x s h
continues P Q (Err why) s f h k = tt

pub anyhow : {A : Type 0} (r : Result A Cause) → IfOk r (λ x. ⊤)
anyhow (Ok x) = tt
anyhow (Err why) = tt

more_changes : (moment n : ℕ) (dues : List DueChange) (change : Option DueChange) → AreChanges moment n dues
    → IfSome change (IsAhead moment) → IfOk (with_change change dues) (AreChanges moment (n + 1))
more_changes moment n dues (Some change) h k = record {
  ahead = ahead_append moment dues change h.ahead k;
  each = rw length-append (omega (arith, h.each));
}
more_changes moment n dues None h k = tt

module _ {S : Type 0} (answer : S → Call → Reply × S) (input : SessionIn) where
  interval_changes : (place n clock : ℕ) (dues : List DueChange) (s : S) → AreChanges input.moment n dues
      → IfOk (interval_call answer input place clock dues s).0 (AreChanges input.moment (n + 1))
  interval_changes place n clock dues s h =
      let p : Result Reply Cause × S = effect_of answer (call.GetInterval clock) s in
      continues (λ r. ⊤) (AreChanges input.moment (n + 1)) p.0 p.1 _ (anyhow p.0)
      (λ r t x. more_changes input.moment n dues (change_of input.moment input.resolution r) h (change_ahead input.moment input.resolution r))

  all_changes : (clocks : List ℕ) (place n : ℕ) (dues : List DueChange) (s : S) → AreChanges input.moment n dues
      → IfOk (in_order (interval_call answer input) place clocks dues s).0 (AreChanges input.moment (n + length clocks))
  all_changes [] place n dues s h = let e : n ≡ n + 0 = omega arith in subst (λ (m : ℕ). AreChanges input.moment m dues) e h
  all_changes (clock ∷ others) place n dues s h =
      let p : Result (List DueChange) Cause × S = interval_call answer input place clock dues s in
      continues (AreChanges input.moment (n + 1)) (AreChanges input.moment (n + length (clock ∷ others))) p.0 p.1 _
      (interval_changes place n clock dues s h)
      (λ more t k. let q : Result (List DueChange) Cause × S = in_order (interval_call answer input) (place + 1) others more t in
      let e : n + 1 + length others ≡ n + length (clock ∷ others) = omega arith in
      subst (λ (m : ℕ). IfOk q.0 (AreChanges input.moment m)) e (all_changes others (place + 1) (n + 1) more t k))

  exit_changes : (d : Description) (emitted : List Emission) (ends : Bool) (s : S)
      → IfOk (exit_calls answer d input emitted ends s).0 (λ out. AreChanges input.moment (length d.countdown) out.dues)
  exit_changes d emitted true s =
      let p : Result (Unit {0}) Cause × S = termination_calls answer s in
      continues (λ x. ⊤) (λ out. AreChanges input.moment (length d.countdown) out.dues) p.0 p.1 _ (anyhow p.0)
      (λ x t y. kept_changes input.moment d.countdown)
  exit_changes d emitted false s =
      let p : Result (List DueChange) Cause × S = in_order (interval_call answer input) 0 d.countdown [] s in
      let none_before : 0 + length d.countdown ≡ length d.countdown = omega arith in
      continues (AreChanges input.moment (length d.countdown)) (λ out. AreChanges input.moment (length d.countdown) out.dues) p.0 p.1 _
      (subst (λ (n : ℕ). IfOk p.0 (AreChanges input.moment n)) none_before (all_changes d.countdown 0 0 [] s (record { ahead = tt; each = refl })))
      (λ dues t h. let q : Result Reply Cause × S = effect_of answer call.EnterStep t in
      continues (λ r. ⊤) (λ out. AreChanges input.moment (length d.countdown) out.dues) q.0 q.1 _ (anyhow q.0) (λ r u x. h))

  calls_change : (d : Description) (is_new : Bool) (s : S)
      → IfOk (all_calls answer d input is_new s).0 (λ out. AreChanges input.moment (length d.countdown) out.dues)
  calls_change d is_new s =
      let changes : SessionOut → Type 0 = λ out. AreChanges input.moment (length d.countdown) out.dues in
      let p = entry_calls answer is_new input s in
      continues (λ r. ⊤) changes p.0 p.1 _ (anyhow p.0)
      (λ r t x. let q = input_calls answer d input t in
      continues (λ r. ⊤) changes q.0 q.1 _ (anyhow q.0)
      (λ r u y. let i = iterations answer d.terminals 16 [] u in
      continues (λ r. ⊤) changes i.0 i.1 _ (anyhow i.0)
      (λ r v z. exit_changes d r.emitted r.ends v)))

outcome_changes : (moment : ℕ) (clocks : List ℕ) (r : Result SessionOut Cause) → IfOk r (λ out. AreChanges moment (length clocks) out.dues)
    → AreChanges moment (length clocks) (outcome_of clocks r).dues
outcome_changes moment clocks (Ok out) h = h
outcome_changes moment clocks (Err why) h = kept_changes moment clocks

-- a session has one change for each clock, and each that is set is ahead
pub session_changes : {S : Type 0} (answer : S → Call → Reply × S) (phase_of : S → Phase) (d : Description) (input : SessionIn) (s : S)
    → AreChanges input.moment (length d.countdown) (session_of answer phase_of d input s).0.dues
session_changes answer phase_of d input s = outcome_changes input.moment d.countdown (all_calls answer d input (is_fresh (phase_of s)) s).0
    (calls_change answer input d (is_fresh (phase_of s)) s)
