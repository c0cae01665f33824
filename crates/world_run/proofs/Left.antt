-- What is left of the log of a network: behind its next event, where its budget is used, and where no event is left.
use Rattle.std.proofs.Common.{◌≡◌, ◌<◌, ◌+◌, ◌-◌, ℕ, true, false, List, ◌∷◌, [], ◌++◌, Option, Some, None, refl, sym, ap, ◌∙◌}
use Rattle.std.specs.Prelude.{is_some, option_map}
use Rattle.log_specs.specs.Line.{Line, End}
use Rattle.log_writing.proofs.Runs.{behind-none, behind-zero, log-none, log-zero, lines-behind, ends-behind}
use Rattle.world_specs.specs.Units.{Units}
use Rattle.world_specs.specs.World.{World}
use Rattle.world_specs.specs.Next.{Event, next_event}
use Rattle.world_specs.specs.Step.{world_behind, event_lines}
use Rattle.world_specs.specs.Network.{closing, close_lines, network, run_lines, run_status, status, status_of, step}

-- there is an event, or none
pub some-of : {X Y : Type 0} (f : X → Y) (o : Option X) (p : Option Y) → option_map f o ≡ p → is_some o ≡ true → (y : Y) × (p ≡ Some y)
some-of f None p e h = let wrong : false ≡ true = h in absurd cc
some-of f (Some x) p e h = (f x, sym e)

pub none-of : {X Y : Type 0} (f : X → Y) (o : Option X) (p : Option Y) → option_map f o ≡ p → is_some o ≡ false → p ≡ None
none-of f None p e h = sym e
none-of f (Some x) p e h = let wrong : true ≡ false = h in absurd cc

inside : {X : Type 0} (x y : X) → Some x ≡ Some y → x ≡ y
inside x y e = cc

module _ {S : Type 0} (u : Units S) (stop : ℕ) where
  step-none : (w : World S) → next_event stop w ≡ None → step u stop w ≡ None
  unfolding step
  step-none w e = ap (option_map (λ e. (world_behind u w e, event_lines u w e))) e

  -- the lines that close a run that ends with this status
  pub closing-is : (w : World S) (code : ℕ) → status stop w ≡ code → closing u stop w ≡ close_lines u w ++ End code w.events ∷ []
  closing-is w code e = ap (λ n. close_lines u w ++ End n w.events ∷ []) e

  pub spent-lines : (left : ℕ) (w : World S) (e : Event) (so_far all : List Line) → left ≡ 0 → next_event stop w ≡ Some e
      → so_far ++ run_lines u stop left w ≡ all → so_far ++ (close_lines u w ++ End 8 w.events ∷ []) ≡ all
  spent-lines left w e so_far all none next whole =
      ap (λ ls. so_far ++ ls) (sym (closing-is w 8 (ap status_of next)))
      ∙ ap (λ ls. so_far ++ ls) (sym (log-zero (network u stop) w))
      ∙ ap (λ n. so_far ++ run_lines u stop n w) (sym none)
      ∙ whole

  pub done-lines : (left : ℕ) (w : World S) (so_far all : List Line) → next_event stop w ≡ None
      → so_far ++ run_lines u stop left w ≡ all → so_far ++ (close_lines u w ++ End 0 w.events ∷ []) ≡ all
  done-lines left w so_far all next whole =
      ap (λ ls. so_far ++ ls) (sym (closing-is w 0 (ap status_of next)))
      ∙ ap (λ ls. so_far ++ ls) (sym (log-none (network u stop) left w (step-none w next)))
      ∙ whole

  pub spent-status : (left : ℕ) (w : World S) (e : Event) (all : ℕ) → left ≡ 0 → next_event stop w ≡ Some e → run_status u stop left w ≡ all → 8 ≡ all
  spent-status left w e all none next whole =
      ap status_of (sym next)
      ∙ ap (status stop) (sym (behind-zero (network u stop) w))
      ∙ ap (λ n. run_status u stop n w) (sym none)
      ∙ whole

  pub done-status : (left : ℕ) (w : World S) (all : ℕ) → next_event stop w ≡ None → run_status u stop left w ≡ all → 0 ≡ all
  done-status left w all next whole =
      ap status_of (sym next)
      ∙ ap (status stop) (sym (behind-none (network u stop) left w (step-none w next)))
      ∙ whole

  pub next-lines : (left : ℕ) (w v : World S) (ls so_far all : List Line) → 0 < left → step u stop w ≡ Some (v, ls)
      → so_far ++ run_lines u stop left w ≡ all → (so_far ++ ls) ++ run_lines u stop (left - 1) v ≡ all
  next-lines left w v ls so_far all more taken whole = lines-behind (network u stop) left w (v, ls) so_far all more taken whole

  pub next-status : (left : ℕ) (w v : World S) (ls : List Line) (all : ℕ) → 0 < left → step u stop w ≡ Some (v, ls)
      → run_status u stop left w ≡ all → run_status u stop (left - 1) v ≡ all
  next-status left w v ls all more taken whole = ap (status stop) (ends-behind (network u stop) left w (v, ls) _ more taken refl) ∙ whole

  -- an event is counted
  pub counted : (w v : World S) (ls : List Line) → step u stop w ≡ Some (v, ls) → v.events ≡ w.events + 1
  unfolding step
  counted w v ls taken = go (next_event stop w) taken
    where
      go : (o : Option Event) → option_map {U = World S × List Line} (λ e. (world_behind u w e, event_lines u w e)) o ≡ Some (v, ls) → v.events ≡ w.events + 1
      go None h = cc
      go (Some e) h = ap (λ (p : World S × List Line). p.0.events) (sym (inside (world_behind u w e, event_lines u w e) (v, ls) h))
