-- The wrong logs break the laws.
use Rattle.std.proofs.Common.{◌≡◌, ℕ, ◌+◌, ◌≤◌, true, false, List, [], ◌∷◌, ◌++◌, All, length, Some, None, arith, refl, sym, ap, ◌∙◌, subst, inl, inr}
use Rattle.std.proofs.lemmas.List.Elements.{All-head}
use Rattle.std.proofs.lemmas.Bool.{both_ways}
use Rattle.frame_specs.specs.Frame.{Frame}
use Rattle.frame_specs.specs.Dominance.{beats}
use Rattle.frame_specs.specs.Wire.{duration, stuffed, stuff}
use Rattle.run_specs.specs.Order.{IsForemost}
use Rattle.bus_specs.specs.Waits.{Waiting}
use Rattle.log_specs.specs.Line.{Line, End, LostKept, LostGone, Req, Discard, Done, Hurt, Start}
use Rattle.bus_sound.proofs.Lists.{each-All}
use Rattle.log_laws.specs.Starts.{stronger, StartsAreForemost, StartersTakePart, StartsWhereFree, StartsArePrompt}
use Rattle.log_laws.specs.Mirror.{Mirror, OnWire, mirror}
use Rattle.log_laws.specs.Deliveries.{DeliveriesReachListeners, FailuresAreOfTheFrame, IsDelivery, receivers, hurt_next, time_on_wire}
use Rattle.log_laws.specs.Losers.{LosersAreTold, LossesStandBehindStarts, DiscardedFramesWait}
use Rattle.log_laws.specs.Queues.{RequestsFit}
use Rattle.log_laws.specs.Moments.{MomentsNeverFall, LinesAreOf, EndsWith, NothingIsLeft}
use Rattle.log_laws.specs.Accounts.{NothingIsForgotten}
use Rattle.log_laws.specs.Events.{EndTellsEvents}
use Rattle.log_laws.specs.KindOrder.{KindsInOrder}
use Rattle.log_laws.specs.Answers.{Asked, AnswersAll}
use Rattle.bus_specs.specs.Submit.{Transmit, submission_of}
use Rattle.log_laws.specs.WrongLogs

at : ℕ → ℕ → ℕ → Waiting
at node id byte = record { node = node; frame = WrongLogs.frame id byte }

-- the second of two that arbitrate alike isn't foremost
second : (v w : Waiting) → (v ≡ w → ⊥) → stronger w v ≡ false → IsForemost stronger (v ∷ w ∷ []) w → ⊥
second v w n b h = go h.earlier h.later h.place h.ahead
  where
    go : (earlier later : List Waiting) → v ∷ w ∷ [] ≡ earlier ++ w ∷ later → All (λ y. stronger w y ≡ true) earlier → ⊥
    go [] later e a = n cc
    go (y ∷ ys) later e a = let s : v ≡ y = cc in
        both_ways (stronger w v) b (subst (λ x. stronger w x ≡ true) (sym s) (All-head (λ y. stronger w y ≡ true) y ys a))

byte_of : Waiting → ℕ
byte_of v = first v.frame.bytes
  where
    first : List ℕ → ℕ
    first [] = 0
    first (b ∷ bs) = b

pub latest-refused : StartsAreForemost WrongLogs.plain WrongLogs.nodes WrongLogs.latest_of_equals → ⊥
unfolding beats at byte_of
latest-refused h = second (at 0 5 1) (at 0 5 2) (λ e. let k : 1 ≡ 2 = ap byte_of e in omega (arith, k)) refl
    (h WrongLogs.two_alike [] 0 1 0 (WrongLogs.frame 5 2) refl)

pub beaten-refused : StartsAreForemost WrongLogs.plain WrongLogs.nodes WrongLogs.beaten_winner → ⊥
unfolding beats
beaten-refused h =
    let f = h WrongLogs.two_wait [] 0 1 0 (WrongLogs.frame 5 1) refl in
    let k : true ≡ false = each-All (λ (y : Waiting). stronger y (record { node = 0; frame = WrongLogs.frame 5 1 }) ≡ false)
    (record { node = 0; frame = WrongLogs.frame 5 1 } ∷ record { node = 1; frame = WrongLogs.frame 3 2 } ∷ []) (record { node = 1; frame = WrongLogs.frame 3 2 }) f.unbeaten (inr (inl refl)) in
    absurd cc

pub higher-refused : StartsAreForemost WrongLogs.plain WrongLogs.nodes WrongLogs.higher_node → ⊥
unfolding beats at
higher-refused h = second (at 0 5 1) (at 1 5 2) (λ e. let k : 0 ≡ 1 = ap (λ (v : Waiting). v.node) e in omega (arith, k)) refl
    (h WrongLogs.two_nodes [] 0 1 1 (WrongLogs.frame 5 2) refl)

pub sleeping-sender-refused : StartersTakePart WrongLogs.plain WrongLogs.nodes WrongLogs.sleeping_sender → ⊥
sleeping-sender-refused h = let k : false ≡ true = h WrongLogs.asleep [] 0 1 0 (WrongLogs.frame 5 1) refl in absurd cc

pub early-refused : StartsWhereFree WrongLogs.plain WrongLogs.nodes WrongLogs.early_start → ⊥
early-refused h = let k : 59000 ≤ 58000 = (h WrongLogs.ended [] 58000 1 1 (WrongLogs.frame 6 1) refl).idle in omega (arith, k)

-- whom a delivery reaches, where the frame on the wire is known
reached : (m : Mirror) (t node : ℕ) (f : Frame) (ns : List ℕ) (rest : List Line) (w : OnWire) → m.running ≡ Some w → IsDelivery WrongLogs.plain m t node f ns rest
    → ns ≡ receivers m w (hurt_next rest)
reached m t node f ns rest w e d = let s : (d.runs).wire ≡ w = some (sym (d.runs).running ∙ e) in d.receivers ∙ ap (λ x. receivers m x (hurt_next rest)) s
  where
    some : {x y : OnWire} → Some x ≡ Some y → x ≡ y
    some p = cc

wire : OnWire
wire = record { sender = 0; frame = WrongLogs.frame 5 1; since = 0; listeners = 1 ∷ 2 ∷ [] }

pub sleeping-receiver-refused : DeliveriesReachListeners WrongLogs.plain WrongLogs.nodes WrongLogs.sleeping_receiver → ⊥
unfolding wire
sleeping-receiver-refused h =
    let k : 1 ∷ 2 ∷ [] ≡ 2 ∷ [] = reached (mirror WrongLogs.plain WrongLogs.nodes WrongLogs.one_sleeps) 56000 0 (WrongLogs.frame 5 1) (1 ∷ 2 ∷ []) [] wire refl
    (h WrongLogs.one_sleeps [] 56000 1 0 (WrongLogs.frame 5 1) (1 ∷ 2 ∷ []) refl) in
    let l : 2 ≡ 1 = ap length k in omega (arith, l)

pub hurt-receiver-refused : DeliveriesReachListeners WrongLogs.plain WrongLogs.nodes WrongLogs.hurt_receiver → ⊥
unfolding wire
hurt-receiver-refused h =
    let k : 1 ∷ 2 ∷ [] ≡ 2 ∷ [] = reached (mirror WrongLogs.plain WrongLogs.nodes WrongLogs.under_way) 56000 0 (WrongLogs.frame 5 1) (1 ∷ 2 ∷ []) (WrongLogs.on 56000 1 (Hurt 2) ∷ []) wire refl
    (h WrongLogs.under_way (WrongLogs.on 56000 1 (Hurt 2) ∷ []) 56000 1 0 (WrongLogs.frame 5 1) (1 ∷ 2 ∷ []) refl) in
    let l : 2 ≡ 1 = ap length k in omega (arith, l)

pub missed-receiver-refused : DeliveriesReachListeners WrongLogs.plain WrongLogs.nodes WrongLogs.missed_receiver → ⊥
unfolding wire
missed-receiver-refused h =
    let k : 2 ∷ [] ≡ 1 ∷ 2 ∷ [] = reached (mirror WrongLogs.plain WrongLogs.nodes WrongLogs.under_way) 56000 0 (WrongLogs.frame 5 1) (2 ∷ []) [] wire refl
    (h WrongLogs.under_way [] 56000 1 0 (WrongLogs.frame 5 1) (2 ∷ []) refl) in
    let l : 1 ≡ 2 = ap length k in omega (arith, l)

pub delivered-twice-refused : DeliveriesReachListeners WrongLogs.plain WrongLogs.nodes WrongLogs.delivered_twice → ⊥
delivered-twice-refused h = let k : false ≡ true = (h WrongLogs.delivered_once [] 70000 1 0 (WrongLogs.frame 5 1) (1 ∷ 2 ∷ []) refl).waits in absurd cc

pub silent-loser-refused : LosersAreTold WrongLogs.plain WrongLogs.nodes WrongLogs.silent_loser → ⊥
silent-loser-refused h =
    let k : [] ≡ WrongLogs.on 0 0 (LostKept (WrongLogs.frame 5 1)) ∷ [] =
    h WrongLogs.two_wait (WrongLogs.on 56000 1 (Done (WrongLogs.frame 3 2) (0 ∷ 2 ∷ [])) ∷ []) 0 1 1 (WrongLogs.frame 3 2) refl in absurd cc

pub kept-for-discard-refused : LosersAreTold WrongLogs.plain WrongLogs.nodes WrongLogs.kept_for_discard → ⊥
kept-for-discard-refused h =
    let k : WrongLogs.on 0 0 (LostKept (WrongLogs.frame 5 1)) ∷ [] ≡ WrongLogs.on 0 0 (LostGone (WrongLogs.frame 5 1)) ∷ [] =
    h WrongLogs.one_discards (WrongLogs.on 0 0 (LostKept (WrongLogs.frame 5 1)) ∷ []) 0 1 1 (WrongLogs.frame 3 2) refl in absurd cc

pub loser-of-nothing-refused : LossesStandBehindStarts WrongLogs.loser_of_nothing → ⊥
loser-of-nothing-refused h =
    let k : true ≡ false = h.behind [] (WrongLogs.on 0 0 (LostKept (WrongLogs.frame 5 1)) ∷ []) (WrongLogs.on 0 0 Discard) refl refl refl in absurd cc

pub accepted-off-refused : RequestsFit WrongLogs.plain WrongLogs.nodes WrongLogs.accepted_off → ⊥
accepted-off-refused h = let k : true ≡ false = (h.accepted WrongLogs.node_0_off [] 0 1 0 (WrongLogs.frame 5 1) refl).on in absurd cc

pub full-too-soon-refused : RequestsFit WrongLogs.plain WrongLogs.nodes WrongLogs.full_too_soon → ⊥
full-too-soon-refused h = let k : 1 ≡ 256 = (h.full WrongLogs.one_waits [] 0 1 0 (WrongLogs.frame 6 1) refl).full in omega (arith, k)

pub late-end-refused : DeliveriesReachListeners WrongLogs.plain WrongLogs.nodes WrongLogs.late_end → ⊥
unfolding duration stuffed stuff wire
late-end-refused h =
    let d = h WrongLogs.under_way [] 57000 1 0 (WrongLogs.frame 5 1) (1 ∷ 2 ∷ []) refl in
    let s : wire ≡ (d.runs).wire = some d.runs.running in
    let k : 57000 ≡ 56000 = d.ends ∙ ap (λ (w : OnWire). w.since + time_on_wire WrongLogs.plain (WrongLogs.frame 5 1)) (sym s) in omega (arith, k)
  where
    some : {x y : OnWire} → Some x ≡ Some y → x ≡ y
    some p = cc

pub late-start-refused : StartsArePrompt WrongLogs.plain WrongLogs.nodes WrongLogs.late_start → ⊥
late-start-refused h =
    let k : ◌≡◌ {A = List Waiting} (record { node = 0; frame = WrongLogs.frame 5 1 } ∷ []) [] = (h WrongLogs.one_waits [] 1000 1 0 (WrongLogs.frame 5 1) refl).not_before 0 (omega arith) (omega arith) in
    absurd cc

pub falling-moment-refused : MomentsNeverFall WrongLogs.falling_moment → ⊥
falling-moment-refused h = let k : 1000 ≤ 0 = h WrongLogs.one_later [] 0 1 1 (Req (WrongLogs.frame 6 1)) refl in omega (arith, k)

pub failed-other-refused : FailuresAreOfTheFrame WrongLogs.plain WrongLogs.nodes WrongLogs.failed_other → ⊥
unfolding wire
failed-other-refused h =
    let d = h WrongLogs.under_way [] 20000 1 0 1 0 (WrongLogs.frame 6 1) refl in
    let s : wire ≡ (d.runs).wire = some d.runs.running in
    let k : 5 ≡ 6 = ap (λ (f : Frame). f.id) (ap (λ (w : OnWire). w.frame) s ∙ d.runs.frame) in omega (arith, k)
  where
    some : {x y : OnWire} → Some x ≡ Some y → x ≡ y
    some p = cc

pub second-start-refused : StartsWhereFree WrongLogs.plain WrongLogs.nodes WrongLogs.second_start → ⊥
unfolding wire
second-start-refused h =
    let k : Some wire ≡ None = (h WrongLogs.running_with_one [] 10000 1 1 (WrongLogs.frame 6 1) refl).running in absurd cc

pub discarded-nothing-refused : DiscardedFramesWait WrongLogs.plain WrongLogs.nodes WrongLogs.discarded_nothing → ⊥
discarded-nothing-refused h = let k : false ≡ true = h WrongLogs.under_way [] 0 1 1 (WrongLogs.frame 6 1) refl in absurd cc

pub forgotten-refused : NothingIsForgotten WrongLogs.plain WrongLogs.nodes WrongLogs.delivered_twice → ⊥
forgotten-refused h = let k : 1 ≡ 2 = h (λ node f. true) WrongLogs.delivered_twice [] refl in omega (arith, k)

pub after-stop-refused : LinesAreOf WrongLogs.empty WrongLogs.after_stop → ⊥
after-stop-refused h = let k : 1000 ≤ 0 = (h [] [] 1000 1 0 (Req (WrongLogs.frame 5 1)) refl).within in omega (arith, k)

pub wrong-end-refused : EndsWith 8 1 WrongLogs.wrong_end → ⊥
wrong-end-refused h = go h.body h.split
  where
    go : (body : List Line) → WrongLogs.wrong_end ≡ body ++ End 8 h.events ∷ [] → ⊥
    go [] e = absurd cc
    go (x ∷ []) e = let k : End 0 0 ≡ End 8 h.events = cc in eight (status k)
      where
        status : {s t n m : ℕ} → End s n ≡ End t m → s ≡ t
        status q = cc

        eight : ◌≡◌ {A = ℕ} 0 8 → ⊥
        eight q = omega (arith, q)
    go (x ∷ y ∷ []) e = absurd cc
    go (x ∷ y ∷ z ∷ body) e = absurd cc

pub left-undone-refused : NothingIsLeft WrongLogs.empty WrongLogs.left_undone → ⊥
left-undone-refused h =
    let k : ◌≡◌ {A = List Waiting} (record { node = 0; frame = WrongLogs.frame 5 1 } ∷ []) [] = h.idle WrongLogs.one_waits 1 refl refl 0 (omega arith) (omega arith) in
    absurd cc

pub unanswered-refused : AnswersAll WrongLogs.one_asks WrongLogs.unanswered → ⊥
unfolding submission_of
unanswered-refused h =
    let k : ◌≡◌ {A = List Asked} [] (record { moment = 0; node = 0; what = Transmit (WrongLogs.frame 5 1) } ∷ []) = h in absurd cc

pub no-events-refused : EndTellsEvents WrongLogs.wrong_end → ⊥
no-events-refused h = let k : ◌≡◌ {A = ℕ} 0 1 = h WrongLogs.one_waits 0 0 refl in omega (arith, k)

pub start-first-refused : KindsInOrder WrongLogs.start_first → ⊥
start-first-refused h =
    let k : 3 ≤ 2 = h WrongLogs.one_waits [] 0 1 0 1 1 (Start (WrongLogs.frame 5 1)) (Req (WrongLogs.frame 6 1)) refl in omega (arith, k)
