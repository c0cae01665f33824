-- What the bus is due to do, where the next event is nothing that is asked; and that nothing asked is earlier than the next event.
use Rattle.std.proofs.Common.{◌≡◌, ◌≢◌, ◌≤◌, ℕ, Bool, true, false, List, [], ◌∷◌, Option, Some, None, ap, sym, refl, arith, ◌∙◌}
use Rattle.std.specs.Prelude.{nat_le, nat_lt, ◌==◌, ◌&&◌, ◌||◌, if◌then◌else◌}
use Rattle.run_specs.specs.Order.{better_of}
use Rattle.bus_specs.specs.Due.{Due, Notices, rank, at, precedes, next_due}
use Rattle.play_specs.specs.Scenario.{Action, World, next_event, or_asked, up_to}

-- what is within the stop was there before
of-within : (c d : Due) (within : Bool) → (if within then Some c else None) ≡ Some d → Some c ≡ Some d
of-within c d true h = h
of-within c d false h = cc

of-end : (stop : ℕ) (o : Option Due) (d : Due) → up_to stop o ≡ Some d → o ≡ Some d
of-end stop None d h = h
of-end stop (Some c) d h = of-within c d (nat_le c.moment stop) h

module _ (d : Due) (other : rank d.what ≢ rank Notices) where
  notices-apart : (moment : ℕ) → at Notices moment ≡ d → ⊥
  notices-apart moment e = other (sym (ap (λ x. rank x.what) e))

  of-two : (c : Due) (moment : ℕ) (first : Bool) → (if first then Some (at Notices moment) else Some c) ≡ Some d → Some c ≡ Some d
  of-two c moment true h = absurd (notices-apart moment cc)
  of-two c moment false h = h

  of-better : (o : Option Due) (moment : ℕ) → better_of precedes o (at Notices moment) ≡ Some d → o ≡ Some d
  of-better None moment h = absurd (notices-apart moment cc)
  of-better (Some c) moment h = of-two c moment (precedes (at Notices moment) c) h

  of-asked : (o : Option Due) (ahead : List Action) → or_asked o ahead ≡ Some d → o ≡ Some d
  of-asked o [] h = h
  of-asked o (a ∷ rest) h = of-better o a.moment h

  -- it is due since the last event
  pub next-due : (w : World) (stop : ℕ) → next_event stop w ≡ Some d → next_due w.bus w.now ≡ Some d
  unfolding next_event
  next-due w stop next = of-asked (next_due w.bus w.now) w.ahead (of-end stop (or_asked (next_due w.bus w.now) w.ahead) d next)

-- of two dues the later one is no earlier
not-earlier : (t : ℕ) (c : Due) → precedes (at Notices t) c ≡ false → c.moment ≤ t
not-earlier t c h = go (nat_lt t c.moment) refl h
  where
    go : (b : Bool) → nat_lt t c.moment ≡ b → (b || ((t == c.moment) && nat_lt (rank Notices) (rank c.what))) ≡ false → c.moment ≤ t
    go true e k = absurd cc
    go false e k = grind arith

better-first : (o : Option Due) (t : ℕ) (d : Due) → better_of precedes o (at Notices t) ≡ Some d → d.moment ≤ t
better-first None t d h = let same : at Notices t ≡ d = cc in rw (← same) (omega arith)
better-first (Some c) t d h = go (precedes (at Notices t) c) refl h
  where
    go : (b : Bool) → precedes (at Notices t) c ≡ b → (if b then Some (at Notices t) else Some c) ≡ Some d → d.moment ≤ t
    go true e k = let same : at Notices t ≡ d = cc in rw (← same) (omega arith)
    go false e k = let same : c ≡ d = cc in rw (← same) (not-earlier t c e)

-- nothing that is asked is earlier than the next event
pub next-first : (w : World) (stop : ℕ) (d : Due) (a : Action) (rest : List Action) → w.ahead ≡ a ∷ rest → next_event stop w ≡ Some d → d.moment ≤ a.moment
unfolding next_event
next-first w stop d a rest e next =
    let asked : or_asked (next_due w.bus w.now) (a ∷ rest) ≡ Some d =
    ap (or_asked (next_due w.bus w.now)) (sym e) ∙ of-end stop (or_asked (next_due w.bus w.now) w.ahead) d next in
    better-first (next_due w.bus w.now) a.moment d asked
