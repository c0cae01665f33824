-- A log ends with its status and the number of its events.
use Rattle.std.proofs.Common.{◌≡◌, ◌≤◌, ℕ, zero, suc, ◌+◌, [], ◌∷◌, ◌++◌, Option, Some, None, arith, sym, refl, ap, ◌∙◌, append_assoc}
use Rattle.std.specs.Prelude.{option_map}
use Rattle.log_specs.specs.Line as log
use Rattle.run_specs.specs.Run.{behind, head, then_from}
use Rattle.world_specs.specs.Units.{Units}
use Rattle.world_specs.specs.World.{World}
use Rattle.world_specs.specs.Next.{Event, next_event}
use Rattle.world_specs.specs.Step.{world_behind, event_lines}
use Rattle.world_specs.specs.Network.{step, network, close_lines, status, status_of, run_lines, run_status}
use Rattle.world_laws.specs.Words.{EndsWith}

module _ {S : Type 0} (u : Units S) (stop : ℕ) where
  pub events-within : (k : ℕ) (w : World S) → (behind (network u stop) k w).events ≤ w.events + k
  unfolding behind step
  events-within zero w = omega arith
  events-within (suc k) w = go (next_event stop w) (λ v. events-within k v)
    where
      go : (o : Option Event) → ((v : World S) → (behind (network u stop) k v).events ≤ v.events + k)
          → (then_from w (λ p. behind (network u stop) k p.0) (option_map (λ e. (world_behind u w e, event_lines u w e)) o)).events ≤ w.events + suc k
      go None on = omega arith
      go (Some e) on = let l = on (world_behind u w e) in omega (arith, l)

  pub events-spent : (k : ℕ) (w : World S) → status stop (behind (network u stop) k w) ≡ 8 → (behind (network u stop) k w).events ≡ w.events + k
  unfolding behind step
  events-spent zero w h = omega arith
  events-spent (suc k) w h = go (next_event stop w) refl h (λ v i. events-spent k v i)
    where
      go : (o : Option Event) → next_event stop w ≡ o
          → status stop (then_from w (λ p. behind (network u stop) k p.0) (option_map (λ e. (world_behind u w e, event_lines u w e)) o)) ≡ 8
          → ((v : World S) → status stop (behind (network u stop) k v) ≡ 8 → (behind (network u stop) k v).events ≡ v.events + k)
          → (then_from w (λ p. behind (network u stop) k p.0) (option_map (λ e. (world_behind u w e, event_lines u w e)) o)).events ≡ w.events + suc k
      go None e i on = let z : 0 ≡ 8 = sym (ap status_of e) ∙ i in absurd (omega (arith, z))
      go (Some d) e i on = let l = on (world_behind u w d) i in omega (arith, l)

  pub log-ends : (k : ℕ) (w : World S) → EndsWith (run_status u stop k w) w.events k (run_lines u stop k w)
  log-ends k w = record {
    body = head (network u stop) k w ++ close_lines u (behind (network u stop) k w);
    events = (behind (network u stop) k w).events;
    split = sym (append_assoc (head (network u stop) k w) (close_lines u (behind (network u stop) k w)) (log.End (run_status u stop k w) (behind (network u stop) k w).events ∷ []));
    within = events-within k w;
    spent = events-spent k w;
  }
