-- What lasts through an event of a run.
use Rattle.std.proofs.Common.{◌≡◌, ◌≤◌, ◌<◌, ◌+◌, ◌^◌, ℕ, Bool, true, false, List, [], ◌∷◌, ◌++◌, All, fold, filter, map, Option, Some, None, refl, sym, ap, ◌∙◌, arith, length, subst}
use Rattle.std.specs.Prelude.{◌==◌, if◌then◌else◌, nat_lt}
use Rattle.std.proofs.lemmas.List.Elements.{All-tail, All-head, All-weaker}
use Rattle.log_specs.specs.Line.{Line}
use Rattle.bus_specs.specs.Bus.{Bus, Member, member_is}
use Rattle.bus_specs.specs.Start.{start}
use Rattle.bus_specs.specs.Finish.{finish, recover}
use Rattle.bus_specs.specs.Inbox.{take_inbox}
use Rattle.bus_specs.specs.Submit.{Submission, submit, submission_of}
use Rattle.bus_specs.specs.Due.{Due, What, Finish, Return, Notices, Start}
use Rattle.bus_sound.specs.Counts.{Rises as CountsRise}
use Rattle.bus_sound.proofs.Counts.{submit-rises, start-rises, finish-rises}
use Rattle.bus_sound.proofs.Steady.{Steady, submit-steady, start-steady, finish-steady, recover-steady, take-steady, steady-live}
use Rattle.play_specs.specs.Scenario.{Action, World, next_event, along, takers, action_step, moment_step, world_behind}
use Rattle.play_run.specs.Moments.{taken_by, carried_out, moment_of}
use Rattle.play_run.specs.Prefixes.{at_moment, behind_moment}
use Rattle.play_run.specs.Ready.{IsTaken, Takes, Rises, IsReady}
use Rattle.play_run.proofs.Nexts.{next-first}
use Rattle.play_run.proofs.Prefixing.{at-front, behind-front}

-- what the bus has taken, up to a number of attempts
pub record Stands (events : ℕ) (ahead : List Action) (b : Bus) : Type 0 where
  pub takes : Takes ahead b
  pub attempted : b.attempts ≤ events

steady-taken : (b after : Bus) → Steady b after → (a : Action) → IsTaken b a → IsTaken after a
steady-taken b after s a h = record { live = steady-live b after a.node s h.live; item = h.item; moment = h.moment }

steady-all : (b after : Bus) (as' : List Action) → Steady b after → All (IsTaken b) as' → All (IsTaken after) as'
steady-all b after as' s h = All-weaker (IsTaken b) (IsTaken after) (steady-taken b after s) as' h

pub first-taken : (b : Bus) (a : Action) (rest : List Action) → Takes (a ∷ rest) b → IsTaken b a
first-taken b a rest h = All-head (IsTaken b) a rest h.possible

-- a step that gives out no number
stands-still : (b after : Bus) (as' : List Action) (events tried : ℕ) → Steady b after → CountsRise b after 0 tried → Stands events as' b
    → Stands (events + tried) as' after
stands-still b after as' events tried s r h = record {
  takes = record {
    possible = steady-all b after as' s h.takes.possible;
    numbered = let n : b.next + length as' < 2 ^ 63 = h.takes.numbered in let m : after.next ≤ b.next + 0 = r.next in omega arith;
  };
  attempted = let n : b.attempts ≤ events = h.attempted in let m : after.attempts ≤ b.attempts + tried = r.attempts in omega arith;
}

-- an action of those ahead is carried out
pub stands-acted : (b : Bus) (a : Action) (rest : List Action) (events : ℕ) → Stands events (a ∷ rest) b → Stands events rest (action_step b a).0
stands-acted b a rest events h =
    let what = submission_of b.setup a.item in
    let r = submit-rises b a.moment a.node what in
    record {
      takes = record {
        possible = steady-all b (submit b a.moment a.node what).0 rest (submit-steady b a.moment a.node what) (All-tail (IsTaken b) a rest h.takes.possible);
        numbered = let n : b.next + length (a ∷ rest) < 2 ^ 63 = h.takes.numbered in
            let m : (submit b a.moment a.node what).0.next ≤ b.next + 1 = r.next in omega arith;
      };
      attempted = let n : b.attempts ≤ events = h.attempted in
          let m : (submit b a.moment a.node what).0.attempts ≤ b.attempts + 0 = r.attempts in omega arith;
    }

-- the actions of a moment
stands-carried : (now : ℕ) (ahead : List Action) (events : ℕ) (so_far : Bus × List Line) → Stands events ahead so_far.0
    → Stands events (behind_moment now ahead) (carried_out so_far (at_moment now ahead)).0
stands-carried now [] events so_far h = h
stands-carried now (a ∷ rest) events so_far h = go (a.moment == now) (λ s k. stands-carried now rest events s k)
  where
    go : (same : Bool) → ((s : Bus × List Line) → Stands events rest s.0 → Stands events (behind_moment now rest) (carried_out s (at_moment now rest)).0)
        → Stands events (if same then behind_moment now rest else a ∷ rest) (carried_out so_far (if same then a ∷ at_moment now rest else [])).0
    go false on = h
    go true on = on (along action_step so_far a) (stands-acted so_far.0 a rest events h)

take-rises : (b : Bus) (now node : ℕ) → CountsRise b (take_inbox b now node).0 0 0
unfolding take_inbox
take-rises b now node = record { next = omega arith; attempts = omega arith }

recover-rises : (b : Bus) (now node : ℕ) → CountsRise b (recover b now node).0 0 0
unfolding recover
recover-rises b now node = record { next = omega arith; attempts = omega arith }

same-number : (n : ℕ) → n + 0 ≡ n
same-number n = omega arith

-- nodes take their notices
pub stands-taken : (now : ℕ) (ahead : List Action) (events : ℕ) (nodes : List ℕ) (so_far : Bus × List Line) → Stands events ahead so_far.0
    → Stands events ahead (taken_by now so_far nodes).0
stands-taken now ahead events [] so_far h = h
stands-taken now ahead events (n ∷ nodes) so_far h =
    stands-taken now ahead events nodes (along (λ b node. take_inbox b now node) so_far n)
    (subst (λ e. Stands e ahead (take_inbox so_far.0 now n).0) (same-number events)
    (stands-still so_far.0 (take_inbox so_far.0 now n).0 ahead events 0 (take-steady so_far.0 now n) (take-rises so_far.0 now n) h))

pub stands-moment : (b : Bus) (now events : ℕ) (ahead : List Action) → Stands events ahead b
    → Stands events (behind_moment now ahead) (moment_of b now (at_moment now ahead)).0
stands-moment b now events ahead h = stands-carried now ahead events (taken_by now (b, []) (takers b now)) (stands-taken now ahead events (takers b now) (b, []) h)

-- behind a moment the others still stand by moment
rises-from : (s t : ℕ) (as' : List Action) → s ≤ t → Rises t as' → Rises s as'
rises-from s t [] l h = tt
rises-from s t (a ∷ as') l h = (omega (arith, l, h.0), h.1)

rises-behind : (now t : ℕ) (as' : List Action) → Rises t as' → Rises t (behind_moment now as')
rises-behind now t [] h = tt
rises-behind now t (a ∷ as') h = go (a.moment == now) (rises-behind now a.moment as' h.1)
  where
    go : (b : Bool) → Rises a.moment (behind_moment now as') → Rises t (if b then behind_moment now as' else a ∷ as')
    go true k = rises-from t a.moment (behind_moment now as') h.0 k
    go false k = h

-- what is ahead isn't before the next event
pub rises-next : (w : World) (stop : ℕ) (d : Due) → Rises 0 w.ahead → next_event stop w ≡ Some d → Rises d.moment w.ahead
rises-next w stop d h next = go w.ahead refl h
  where
    go : (as' : List Action) → w.ahead ≡ as' → Rises 0 as' → Rises d.moment as'
    go [] e k = tt
    go (a ∷ rest) e k = (next-first w stop d a rest e next, k.1)

-- the moment of the definition, by its parts
pub moment-parts : (w : World) (stop : ℕ) (d : Due) → Rises 0 w.ahead → next_event stop w ≡ Some d
    → moment_step w d.moment ≡ moment_of w.bus d.moment (at_moment d.moment w.ahead)
moment-parts w stop d h next = ap (moment_of w.bus d.moment) (at-front d.moment d.moment w.ahead (omega arith) (rises-next w stop d h next))

pub left-parts : (w : World) (stop : ℕ) (d : Due) → Rises 0 w.ahead → next_event stop w ≡ Some d
    → filter (λ a. nat_lt d.moment a.moment) w.ahead ≡ behind_moment d.moment w.ahead
left-parts w stop d h next = behind-front d.moment d.moment w.ahead (omega arith) (rises-next w stop d h next)

stands-ready : (events : ℕ) (now : ℕ) (ahead : List Action) (b : Bus) → Rises 0 ahead → Stands events ahead b
    → IsReady (record { events = events; now = now; ahead = ahead; bus = b })
stands-ready events now ahead b r h = record { takes = h.takes; rises = r; attempted = h.attempted }

later : (b : Bus) (events : ℕ) (ahead : List Action) → Stands (events + 0) ahead b → Stands (events + 1) ahead b
later b events ahead h = record { takes = h.takes; attempted = let l : b.attempts ≤ events + 0 = h.attempted in omega arith }

pub behind-ready : (stop : ℕ) (w : World) (d : Due) → IsReady w → next_event stop w ≡ Some d → IsReady (world_behind w d).0
behind-ready stop w d h next = go d.what refl
  where
    stands : Stands w.events w.ahead w.bus
    stands = record { takes = h.takes; attempted = h.attempted }

    notices : IsReady (record { events = w.events + 1; now = d.moment; ahead = filter (λ a. nat_lt d.moment a.moment) w.ahead; bus = (moment_step w d.moment).0 })
    notices = rw (left-parts w stop d h.rises next, moment-parts w stop d h.rises next)
        (stands-ready (w.events + 1) d.moment (behind_moment d.moment w.ahead) (moment_of w.bus d.moment (at_moment d.moment w.ahead)).0
        (rises-behind d.moment 0 w.ahead h.rises)
        (later _ w.events _ (subst (λ e. Stands e (behind_moment d.moment w.ahead) (moment_of w.bus d.moment (at_moment d.moment w.ahead)).0) (sym (same-number w.events))
        (stands-moment w.bus d.moment w.events w.ahead stands))))

    go : (what : What) → d.what ≡ what → IsReady (world_behind w (record { moment = d.moment; what = what })).0
    go Finish e = stands-ready (w.events + 1) d.moment w.ahead (finish w.bus d.moment).0 h.rises
        (later _ w.events _ (stands-still w.bus (finish w.bus d.moment).0 w.ahead w.events 0 (finish-steady w.bus d.moment) (finish-rises w.bus d.moment) stands))
    go (Return n) e = stands-ready (w.events + 1) d.moment w.ahead (recover w.bus d.moment n).0 h.rises
        (later _ w.events _ (stands-still w.bus (recover w.bus d.moment n).0 w.ahead w.events 0 (recover-steady w.bus d.moment n) (recover-rises w.bus d.moment n) stands))
    go Start e = stands-ready (w.events + 1) d.moment w.ahead (start w.bus d.moment).0 h.rises
        (stands-still w.bus (start w.bus d.moment).0 w.ahead w.events 1 (start-steady w.bus d.moment) (start-rises w.bus d.moment) stands)
    go Notices e = notices
