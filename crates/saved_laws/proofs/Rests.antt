-- A run cut behind any event: the rest is told by the state there, with what is left of the budget.
use Rattle.std.proofs.Common.{◌≡◌, ◌≤◌, ℕ, zero, suc, ◌+◌, ◌-◌, ◌++◌, ◌⊎◌, List, [], Option, Some, None, arith, refl, sym, ap, ◌∙◌, inl, inr}
use Rattle.std.specs.Prelude.{option_map}
use Rattle.run_specs.specs.Run.{Machine, behind, head, log, then_from}
use Rattle.run_laws.proofs.Joined.{behind-joins, log-splits}
use Rattle.wasm_types.specs.Modules.{NestedModule}
use Rattle.world_specs.specs.Units.{Units}
use Rattle.world_specs.specs.World.{World}
use Rattle.world_specs.specs.Next.{Event, next_event}
use Rattle.world_specs.specs.Step.{world_behind, event_lines}
use Rattle.world_specs.specs.Network.{network, step, status, run_status}
use Rattle.network_specs.specs.Networks.{Network}
use Rattle.ideal_specs.specs.Ideal.{guest_units, ideal_world, ideal_lines, ideal_status}
use Rattle.saved_laws.specs.Rests.{head_lines, rest_lines, rest_status, state_behind}

-- where no event is left the run stays
module _ {S L : Type 0} (m : Machine S L) where
  stays : (k : ℕ) (s : S) → m.step s ≡ None → behind m k s ≡ s
  unfolding behind
  stays zero s e = refl
  stays (suc k) s e = rw e refl

  silent : (k : ℕ) (s : S) → m.step s ≡ None → head m k s ≡ []
  unfolding head
  silent zero s e = refl
  silent (suc k) s e = rw e refl

  same-log : (j k : ℕ) (s : S) → m.step s ≡ None → log m j s ≡ log m k s
  same-log j k s e = rw (silent j s e, silent k s e, stays j s e, stays k s e) refl

module _ {S : Type 0} (u : Units S) (stop : ℕ) where
  -- each event was counted, or none is left
  counted : (k : ℕ) (w : World S) → ((behind (network u stop) k w).events ≡ w.events + k)
      ⊎ ((network u stop).step (behind (network u stop) k w) ≡ None)
  unfolding behind step
  counted zero w = inl (omega arith)
  counted (suc k) w = go (next_event stop w) refl (λ v. counted k v)
    where
      go : (o : Option Event) → next_event stop w ≡ o
          → ((v : World S) → ((behind (network u stop) k v).events ≡ v.events + k) ⊎ ((network u stop).step (behind (network u stop) k v) ≡ None))
          → ((then_from w (λ p. behind (network u stop) k p.0) (option_map (λ e. (world_behind u w e, event_lines u w e)) o)).events ≡ w.events + suc k)
          ⊎ ((network u stop).step (then_from w (λ p. behind (network u stop) k p.0) (option_map (λ e. (world_behind u w e, event_lines u w e)) o)) ≡ None)
      go None q on = inr (rw q refl)
      go (Some e) q on = elim (on (world_behind u w e)) [
        | inl n ↦ inl (omega (arith, n))
        | inr n ↦ inr n
      ]

  -- the budget that is left is what was not used, as far as the run goes on
  module _ (budget k : ℕ) (room : k ≤ budget) (w : World S) (first : w.events ≡ 0) where
    pub cut : log (network u stop) budget w
        ≡ head (network u stop) k w ++ log (network u stop) (budget - (behind (network u stop) k w).events) (behind (network u stop) k w)
    cut =
        let v : World S = behind (network u stop) k w in
        let whole : budget ≡ k + (budget - k) = omega (arith, room) in
        ap (λ n. log (network u stop) n w) whole
        ∙ log-splits (network u stop) k (budget - k) w
        ∙ ap (λ ls. head (network u stop) k w ++ ls) (go v (counted k w))
      where
        go : (v : World S) → (v.events ≡ w.events + k) ⊎ ((network u stop).step v ≡ None)
            → log (network u stop) (budget - k) v ≡ log (network u stop) (budget - v.events) v
        go v (inl n) = let same : budget - k ≡ budget - v.events = omega (arith, n, first) in ap (λ j. log (network u stop) j v) same
        go v (inr none) = same-log (network u stop) (budget - k) (budget - v.events) v none

    pub cut-status : run_status u stop budget w
        ≡ run_status u stop (budget - (behind (network u stop) k w).events) (behind (network u stop) k w)
    cut-status =
        let v : World S = behind (network u stop) k w in
        let whole : budget ≡ k + (budget - k) = omega (arith, room) in
        ap (λ n. status stop (behind (network u stop) n w)) whole
        ∙ ap (status stop) (behind-joins (network u stop) k (budget - k) w ∙ go v (counted k w))
      where
        go : (v : World S) → (v.events ≡ w.events + k) ⊎ ((network u stop).step v ≡ None)
            → behind (network u stop) (budget - k) v ≡ behind (network u stop) (budget - v.events) v
        go v (inl n) = let same : budget - k ≡ budget - v.events = omega (arith, n, first) in ap (λ j. behind (network u stop) j v) same
        go v (inr none) = stays (network u stop) (budget - k) v none ∙ sym (stays (network u stop) (budget - v.events) v none)

pub ideal-cut : (n : Network NestedModule) (k : ℕ) → k ≤ n.plan.events → ideal_lines n ≡ head_lines n k ++ rest_lines n (state_behind n k)
ideal-cut n k room = cut (guest_units n.plan) n.plan.stop n.plan.events k room (ideal_world n) refl

pub ideal-cut-status : (n : Network NestedModule) (k : ℕ) → k ≤ n.plan.events → ideal_status n ≡ rest_status n (state_behind n k)
ideal-cut-status n k room = cut-status (guest_units n.plan) n.plan.stop n.plan.events k room (ideal_world n) refl
