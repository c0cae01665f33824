-- The events of a run are in order, up to the stop, and as many as its log tells.
use Rattle.std.proofs.Common.{◌≡◌, ◌≤◌, ◌⊎◌, ℕ, zero, suc, ◌+◌, true, List, [], ◌∷◌, ◌++◌, length, Option, Some, None, All, arith, sym, refl, ap, ◌∙◌, subst, inl, inr, append_assoc}
use Rattle.std.specs.Prelude.{option_map}
use Rattle.log_specs.specs.Line.{Line, On, Down, Over, End}
use Rattle.run_specs.specs.Run.{behind, head, then_from}
use Rattle.bus_sound.proofs.Among.{Among}
use Rattle.bus_sound.proofs.Lists.{All-each, each-All, append-among}
use Rattle.world_specs.specs.Units.{Units}
use Rattle.world_specs.specs.World.{World}
use Rattle.world_specs.specs.Next.{Event, precedes, next_event}
use Rattle.world_specs.specs.Step.{world_behind, event_lines}
use Rattle.world_specs.specs.Network.{step, network, close_lines, run_lines, run_status}
use Rattle.world_specs.specs.Fits.{UnitsFit, Fits}
use Rattle.world_laws.specs.Words.{IsAt}
use Rattle.world_laws.specs.Runs.{then_events, events_of, InOrder, IsUpTo}
use Rattle.world_laws.proofs.Order.{precedes-order, next-within}
use Rattle.world_laws.proofs.Changed.{along}
use Rattle.world_laws.proofs.Fitting.{fits-step}
use Rattle.world_laws.proofs.Follows.{follows}
use Rattle.world_laws.proofs.Lined.{event-at, close-at}

module _ {S : Type 0} (u : Units S) (stop : ℕ) where
  -- ---- up to the stop

  each-within : (k : ℕ) (w : World S) (e : Event) → Among (events_of u stop k w) e → e.moment ≤ stop
  unfolding events_of
  each-within zero w e a = absurd a
  each-within (suc k) w e a = go (next_event stop w) refl a (λ v b. each-within k v e b)
    where
      go : (o : Option Event) → next_event stop w ≡ o → Among (then_events (λ d. events_of u stop k (world_behind u w d)) o) e
          → ((v : World S) → Among (events_of u stop k v) e → e.moment ≤ stop) → e.moment ≤ stop
      go None p a on = absurd a
      go (Some d) p (inl s) on = subst (λ (x : Event). x.moment ≤ stop) s (next-within stop w d p)
      go (Some d) p (inr b) on = on (world_behind u w d) b

  pub within : (k : ℕ) (w : World S) → All (λ e. e.moment ≤ stop) (events_of u stop k w)
  within k w = All-each (λ e. e.moment ≤ stop) (events_of u stop k w) (each-within k w)

  up-to : (t : ℕ) (l : Line) → t ≤ stop → IsAt t l → IsUpTo stop l
  up-to t (On moment bus node told) i e = omega (arith, i, e)
  up-to t (Down moment node cause) i e = omega (arith, i, e)
  up-to t (Over moment node) i e = omega (arith, i, e)
  up-to t (End status events) i e = tt

  head-up-to : (k : ℕ) (w : World S) (l : Line) → Among (head (network u stop) k w) l → IsUpTo stop l
  unfolding head step
  head-up-to zero w l a = absurd a
  head-up-to (suc k) w l a = go (next_event stop w) refl a (λ v b. head-up-to k v l b)
    where
      go : (o : Option Event) → next_event stop w ≡ o
          → Among (then_from [] (λ p. p.1 ++ head (network u stop) k p.0) (option_map (λ e. (world_behind u w e, event_lines u w e)) o)) l
          → ((v : World S) → Among (head (network u stop) k v) l → IsUpTo stop l) → IsUpTo stop l
      go None p a on = absurd a
      go (Some d) p a on = by (append-among (event_lines u w d) (head (network u stop) k (world_behind u w d)) l a)
        where
          by : Among (event_lines u w d) l ⊎ Among (head (network u stop) k (world_behind u w d)) l → IsUpTo stop l
          by (inl b) = up-to d.moment l (next-within stop w d p) (each-All (IsAt d.moment) (event_lines u w d) l (event-at u w d) b)
          by (inr b) = on (world_behind u w d) b

  now-within : (k : ℕ) (w : World S) → w.now ≤ stop → (behind (network u stop) k w).now ≤ stop
  now-within k w h = along u stop (λ v. v.now ≤ stop) (λ v e n i. next-within stop v e n) k w h

  pub lines-within : (k : ℕ) (w : World S) → w.now ≤ stop → All (IsUpTo stop) (run_lines u stop k w)
  lines-within k w h = All-each (IsUpTo stop) (run_lines u stop k w) (λ l a. by l (append-among (head (network u stop) k w) _ l a))
    where
      v : World S
      v = behind (network u stop) k w

      last : (l : Line) → Among (close_lines u v) l ⊎ Among (End (run_status u stop k w) v.events ∷ []) l → IsUpTo stop l
      last l (inl a) = up-to v.now l (now-within k w h) (close-at v.now u v refl l a)
      last l (inr (inl e)) = subst (IsUpTo stop) e tt
      last l (inr (inr a)) = absurd a

      by : (l : Line) → Among (head (network u stop) k w) l ⊎ Among (close_lines u v ++ End (run_status u stop k w) v.events ∷ []) l → IsUpTo stop l
      by l (inl a) = head-up-to k w l a
      by l (inr a) = last l (append-among (close_lines u v) (End (run_status u stop k w) v.events ∷ []) l a)

  -- ---- in order

  -- what comes before the next event comes before all
  all-behind : (k : ℕ) (v : World S) (e : Event) → UnitsFit u → Fits v → ((f : Event) → next_event stop v ≡ Some f → precedes e f ≡ true)
      → (g : Event) → Among (events_of u stop k v) g → precedes e g ≡ true
  unfolding events_of
  all-behind zero v e fit h first g a = absurd a
  all-behind (suc k) v e fit h first g a = go (next_event stop v) refl a (λ x i f b. all-behind k x e fit i f g b)
    where
      go : (o : Option Event) → next_event stop v ≡ o → Among (then_events (λ d. events_of u stop k (world_behind u v d)) o) g
          → ((x : World S) → Fits x → ((f : Event) → next_event stop x ≡ Some f → precedes e f ≡ true) → Among (events_of u stop k x) g → precedes e g ≡ true)
          → precedes e g ≡ true
      go None p a on = absurd a
      go (Some f) p (inl s) on = subst (λ x. precedes e x ≡ true) s (first f p)
      go (Some f) p (inr b) on = on (world_behind u v f) (fits-step u stop v f fit h p)
          (λ d n. precedes-order.through e f d (first f p) (follows u stop v f d fit h p n)) b

  pub in-order : (k : ℕ) (w : World S) → UnitsFit u → Fits w → InOrder (events_of u stop k w)
  unfolding events_of
  in-order zero w fit h = tt
  in-order (suc k) w fit h = go (next_event stop w) refl (λ v i. in-order k v fit i)
    where
      go : (o : Option Event) → next_event stop w ≡ o → ((v : World S) → Fits v → InOrder (events_of u stop k v))
          → InOrder (then_events (λ d. events_of u stop k (world_behind u w d)) o)
      go None p on = tt
      go (Some e) p on =
          let v : World S = world_behind u w e in
          let i : Fits v = fits-step u stop w e fit h p in
          (All-each (λ f. precedes e f ≡ true) (events_of u stop k v) (all-behind k v e fit i (λ d n. follows u stop w e d fit h p n)), on v i)

  -- ---- how many

  count : (k : ℕ) (w : World S) → (behind (network u stop) k w).events ≡ w.events + length (events_of u stop k w)
  unfolding behind step events_of
  count zero w = omega arith
  count (suc k) w = go (next_event stop w) (λ v. count k v)
    where
      go : (o : Option Event) → ((v : World S) → (behind (network u stop) k v).events ≡ v.events + length (events_of u stop k v))
          → (then_from w (λ p. behind (network u stop) k p.0) (option_map (λ e. (world_behind u w e, event_lines u w e)) o)).events
          ≡ w.events + length (then_events (λ d. events_of u stop k (world_behind u w d)) o)
      go None on = omega arith
      go (Some e) on = let l = on (world_behind u w e) in omega (arith, l)

  pub told : (k : ℕ) (w : World S) → (body : List Line)
      × (run_lines u stop k w ≡ body ++ End (run_status u stop k w) (w.events + length (events_of u stop k w)) ∷ [])
  told k w =
      let v : World S = behind (network u stop) k w in (
        head (network u stop) k w ++ close_lines u v,
        sym (append_assoc (head (network u stop) k w) (close_lines u v) (End (run_status u stop k w) v.events ∷ []))
            ∙ ap (λ n. (head (network u stop) k w ++ close_lines u v) ++ End (run_status u stop k w) n ∷ []) (count k w),
      )
