-- What is written and what is left of a log: its lines, and its status.
use Rattle.std.proofs.Common.{◌≡◌, ◌≤◌, ◌<◌, ◌-◌, ℕ, Bool, true, false, List, [], ◌∷◌, ◌++◌, Option, Some, None, refl, sym, ap, ◌∙◌, arith}
use Rattle.std.specs.Prelude.{nat_le, option_map, if◌then◌else◌}
use Rattle.std.proofs.lemmas.Bool.Decides.{nat_tests}
use Rattle.log_specs.specs.Line.{Line, End}
use Rattle.run_specs.specs.Run.{behind, log}
use Rattle.log_writing.proofs.Runs.{behind-none, behind-zero, log-none, log-zero, lines-behind, ends-behind}
use Rattle.bus_specs.specs.Due.{Due, next_due}
use Rattle.play_specs.specs.Scenario.{World, next_event, world_behind, machine, status, up_to, or_asked}
use Rattle.play_run.specs.Statuses.{status_from}

-- what is left of the log, with this budget
abbrev pub run_from : ℕ → ℕ → World → List Line
run_from stop budget w = log (machine stop) budget w

kept-within : (stop : ℕ) (c d : Due) (within : Bool) → nat_le c.moment stop ≡ within → (if within then Some c else None) ≡ Some d → d.moment ≤ stop
kept-within stop c d true e h = let same : c ≡ d = cc in rw (← same) (grind (arith, nat_tests))
kept-within stop c d false e h = cc

up_to-within : (stop : ℕ) (o : Option Due) (d : Due) → up_to stop o ≡ Some d → d.moment ≤ stop
up_to-within stop None d h = cc
up_to-within stop (Some c) d h = kept-within stop c d (nat_le c.moment stop) refl h

-- no event is after the stop
pub next-within : (stop : ℕ) (w : World) (d : Due) → next_event stop w ≡ Some d → d.moment ≤ stop
unfolding next_event
next-within stop w d h = up_to-within stop (or_asked (next_due w.bus w.now) w.ahead) d h

step-event : (stop : ℕ) (w : World) (d : Due) → next_event stop w ≡ Some d → (machine stop).step w ≡ Some (world_behind w d)
step-event stop w d e = ap (option_map (world_behind w)) e

step-none : (stop : ℕ) (w : World) → next_event stop w ≡ None → (machine stop).step w ≡ None
step-none stop w e = ap (option_map (world_behind w)) e

-- where an event is left and the budget isn't
pub spent-lines : (stop left events : ℕ) (w : World) (d : Due) (so_far all : List Line) → left ≡ 0 → events ≡ w.events → next_event stop w ≡ Some d
    → so_far ++ run_from stop left w ≡ all → so_far ++ End 8 events ∷ [] ≡ all
spent-lines stop left events w d so_far all none count next whole =
    ap (λ e. so_far ++ End 8 e ∷ []) count
    ∙ ap (λ o. so_far ++ End (status o) w.events ∷ []) (sym next)
    ∙ ap (λ ls. so_far ++ ls) (sym (log-zero (machine stop) w))
    ∙ ap (λ n. so_far ++ run_from stop n w) (sym none)
    ∙ whole

pub spent-status : (stop left : ℕ) (w : World) (d : Due) (all : ℕ) → left ≡ 0 → next_event stop w ≡ Some d → status_from stop left w ≡ all → 8 ≡ all
spent-status stop left w d all none next whole =
    ap status (sym next)
    ∙ ap (λ v. status (next_event stop v)) (sym (behind-zero (machine stop) w))
    ∙ ap (λ n. status_from stop n w) (sym none)
    ∙ whole

-- where no event is left
pub done-lines : (stop left events : ℕ) (w : World) (so_far all : List Line) → events ≡ w.events → next_event stop w ≡ None
    → so_far ++ run_from stop left w ≡ all → so_far ++ End 0 events ∷ [] ≡ all
done-lines stop left events w so_far all count next whole =
    ap (λ e. so_far ++ End 0 e ∷ []) count
    ∙ ap (λ o. so_far ++ End (status o) w.events ∷ []) (sym next)
    ∙ ap (λ ls. so_far ++ ls) (sym (log-none (machine stop) left w (step-none stop w next)))
    ∙ whole

pub done-status : (stop left : ℕ) (w : World) (all : ℕ) → next_event stop w ≡ None → status_from stop left w ≡ all → 0 ≡ all
done-status stop left w all next whole =
    ap status (sym next)
    ∙ ap (λ v. status (next_event stop v)) (sym (behind-none (machine stop) left w (step-none stop w next)))
    ∙ whole

-- the lines of an event, and those behind it
pub next-lines : (stop left : ℕ) (w : World) (d : Due) (so_far all : List Line) → 0 < left → next_event stop w ≡ Some d
    → so_far ++ run_from stop left w ≡ all
    → (so_far ++ (world_behind w d).1) ++ run_from stop (left - 1) (world_behind w d).0 ≡ all
next-lines stop left w d so_far all more next whole =
    lines-behind (machine stop) left w (world_behind w d) so_far all more (step-event stop w d next) whole

pub status-next : (stop left : ℕ) (w : World) (d : Due) (all : ℕ) → 0 < left → next_event stop w ≡ Some d
    → status_from stop left w ≡ all → status_from stop (left - 1) (world_behind w d).0 ≡ all
status-next stop left w d all more next whole =
    ap (λ v. status (next_event stop v)) (ends-behind (machine stop) left w (world_behind w d) _ more (step-event stop w d next) refl) ∙ whole
