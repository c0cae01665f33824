-- At one moment the kinds of events come in their order.
use Rattle.std.proofs.Common.{◌≡◌, ℕ, ◌+◌, ◌*◌, ◌≤◌, ◌==◌, Bool, true, false, if◌then◌else◌, List, [], ◌∷◌, ◌++◌, map, filter, filter_map, fold, replicate, sum, Option, arith, refl, ◌∙◌}
use Rattle.std.specs.Prelude.{option_map}
use Rattle.std.proofs.lemmas.List.Sums.{sum_by-append}
use Rattle.std.proofs.lemmas.List.Folds.{sum_by-replicate}
use Rattle.frame_specs.specs.Frame.{Frame}
use Rattle.frame_specs.specs.Wire.{duration, body_times}
use Rattle.bus_specs.specs.Bus.{Bus, Member, bits}
use Rattle.bus_specs.specs.Submit.{Submission, Transmit, Keep, Discard, Wakeup, Sleep, Rate, FdRate, Declare, FormatError, Unfit, Fate, Accepted, Full, Dropped, fate, with_request, submit, submission_of, member_after_wakeup, wake_notice, format_notice}
use Rattle.bus_specs.specs.Inbox.{take_inbox, member_after_inbox, due}
use Rattle.bus_specs.specs.Finish.{return_moment}
use Rattle.bus_specs.specs.Due.{Due, Return, at, returns}
use Rattle.play_specs.specs.Scenario.{World, along, takers, action_step, moment_step}
use Rattle.bus_sound.proofs.Quiet.{one}
use Rattle.log_laws.proofs.Followed.{all-pairs}

-- what a return is due by: the same behind the lines of a moment
pub record SameCourse (b c : Bus) : Type 0 where
  pub running : c.running ≡ b.running
  pub returns : returns c ≡ returns b

returns-same : {B : Type 0} (g : Member → Option B) (f : Member → Member) → ((m : Member) → g (f m) ≡ g m) → (ms : List Member) → filter_map g (map f ms) ≡ filter_map g ms
returns-same g f k [] = refl
returns-same g f k (m ∷ ms) = rw (k m, returns-same g f k ms) refl

abbrev return_of : Bus → Member → Option Due
return_of b m = option_map (λ seen. at (Return m.node) (return_moment b seen)) m.occurrences

one-same : (b : Bus) (node : ℕ) (g : Member → Member) → ((m : Member) → return_of b (g m) ≡ return_of b m) → (m : Member) → return_of b (one node g m) ≡ return_of b m
one-same b node g k m = go (m.node == node)
  where
    go : (t : Bool) → return_of b (if t then g m else m) ≡ return_of b m
    go true = k m
    go false = refl

take-course : (b : Bus) (now n : ℕ) → SameCourse b (take_inbox b now n).0
unfolding take_inbox
take-course b now n = record { running = refl; returns = returns-same (return_of b) (one n (member_after_inbox now)) (one-same b n (member_after_inbox now) (λ m. refl)) b.members }

wake-same : (b : Bus) (node due : ℕ) (m : Member) → return_of b (member_after_wakeup node due m) ≡ return_of b m
wake-same b node due m = go (m.node == node) m.live
  where
    go : (t u : Bool) → return_of b (if t then record m { awake = true } else if u then record m { wake = wake_notice due m.wake } else m) ≡ return_of b m
    go true u = refl
    go false true = refl
    go false false = refl

itself : (b : Bus) → SameCourse b b
itself b = record { running = refl; returns = refl }

request-course : (b : Bus) (node : ℕ) (f : Frame) (x : Fate) → SameCourse b (with_request b node f x)
request-course b node f Accepted = record { running = refl; returns = refl }
request-course b node f Full = itself b
request-course b node f Dropped = itself b

changed : (b : Bus) (f : Member → Member) → ((m : Member) → return_of b (f m) ≡ return_of b m) → SameCourse b (record b { members = map f b.members })
changed b f k = record { running = refl; returns = returns-same (return_of b) f k b.members }

submit-course : (b : Bus) (now node : ℕ) (what : Submission) → SameCourse b (submit b now node what).0
unfolding submit
submit-course b now node (Transmit f) = request-course b node f (fate b node)
submit-course b now node Keep = changed b (one node (λ m. record m { discards = false })) (one-same b node (λ m. record m { discards = false }) (λ m. refl))
submit-course b now node Discard = changed b (one node (λ m. record m { discards = true })) (one-same b node (λ m. record m { discards = true }) (λ m. refl))
submit-course b now node Wakeup = changed b (member_after_wakeup node (now + bits b 1)) (wake-same b node (now + bits b 1))
submit-course b now node Sleep = changed b (one node (λ m. record m { awake = false })) (one-same b node (λ m. record m { awake = false }) (λ m. refl))
submit-course b now node (Rate v) = itself b
submit-course b now node (FdRate v) = itself b
submit-course b now node (Declare v) = itself b
submit-course b now node (FormatError bytes) = itself b
submit-course b now node (Unfit bytes) = changed b (one node (λ m. record m { format = format_notice (now + bits b 1) bytes m.format }))
    (one-same b node (λ m. record m { format = format_notice (now + bits b 1) bytes m.format }) (λ m. refl))

then-same : (a b c : Bus) → SameCourse a b → SameCourse b c → SameCourse a c
then-same a b c h k = record { running = k.running ∙ h.running; returns = k.returns ∙ h.returns }

pub moment-course : (w : World) (now : ℕ) → SameCourse w.bus (moment_step w now).0
moment-course w now = all-pairs (λ q. SameCourse w.bus q.0) action_step (filter (λ a. a.moment == now) w.ahead) (fold (along (λ b node. take_inbox b now node)) (w.bus, []) (takers w.bus now))
    (λ q a k c. then-same w.bus q.0 (action_step q.0 a).0 c (submit-course q.0 a.moment a.node (submission_of (q.0).setup a.item)))
    (all-pairs (λ q. SameCourse w.bus q.0) (λ b node. take_inbox b now node) (takers w.bus now) (w.bus, [])
    (λ q n k c. then-same w.bus q.0 (take_inbox q.0 now n).0 c (take-course q.0 now n)) (itself w.bus))

-- a frame takes time
pub takes-time : (f : Frame) (n d : ℕ) → 1 ≤ n → 1 ≤ duration f n d
unfolding duration
takes-time f n d l =
    let s : sum (body_times f.kind f n d ++ replicate 10 n) ≡ sum (body_times f.kind f n d) + sum (replicate 10 n) = sum_by-append (λ x. x) (body_times f.kind f n d) (replicate 10 n) in
    let t : sum (replicate 10 n) ≡ 10 * n = sum_by-replicate (λ x. x) 10 n in
    omega (arith, s, t, l)
