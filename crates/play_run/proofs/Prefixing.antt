-- Where actions stand by moment, and none is before now, those of now stand in front, and the others behind them.
use Rattle.std.proofs.Common.{◌≡◌, ◌≤◌, ◌<◌, ℕ, Bool, true, false, List, [], ◌∷◌, filter, refl, ap, sym, ◌∙◌, arith}
use Rattle.std.specs.Prelude.{◌==◌, nat_lt, if◌then◌else◌}
use Rattle.play_specs.specs.Scenario.{Action}
use Rattle.play_run.specs.Prefixes.{at_moment, behind_moment}
use Rattle.play_run.specs.Ready.{Rises}

is-at : (now : ℕ) (a : Action) → a.moment ≡ now → (a.moment == now) ≡ true
is-at now a e = grind arith

not-at : (now : ℕ) (a : Action) → now < a.moment → (a.moment == now) ≡ false
not-at now a l = grind arith

is-later : (now : ℕ) (a : Action) → now < a.moment → nat_lt now a.moment ≡ true
is-later now a l = grind arith

not-later : (now : ℕ) (a : Action) → a.moment ≡ now → nat_lt now a.moment ≡ false
not-later now a e = grind arith

-- all are later
none-at : (now t : ℕ) (as' : List Action) → now < t → Rises t as' → filter (λ a. a.moment == now) as' ≡ []
none-at now t [] l h = refl
none-at now t (a ∷ as') l h = rw (not-at now a (omega (arith, l, h.0))) (none-at now a.moment as' (omega (arith, l, h.0)) h.1)

all-later : (now t : ℕ) (as' : List Action) → now < t → Rises t as' → filter (λ a. nat_lt now a.moment) as' ≡ as'
all-later now t [] l h = refl
all-later now t (a ∷ as') l h = rw (is-later now a (omega (arith, l, h.0))) (ap (λ k. a ∷ k) (all-later now a.moment as' (omega (arith, l, h.0)) h.1))

module _ (now : ℕ) where
  pub at-front : (t : ℕ) (as' : List Action) → now ≤ t → Rises t as' → filter (λ a. a.moment == now) as' ≡ at_moment now as'
  at-front t [] l h = refl
  at-front t (a ∷ as') l h = go (a.moment == now) refl (λ e. at-front a.moment as' (omega (arith, e)) h.1)
    where
      go : (b : Bool) → (a.moment == now) ≡ b → (a.moment ≡ now → filter (λ x. x.moment == now) as' ≡ at_moment now as')
          → (if b then a ∷ filter (λ x. x.moment == now) as' else filter (λ x. x.moment == now) as') ≡ (if b then a ∷ at_moment now as' else [])
      go true e on = ap (λ k. a ∷ k) (on (grind arith))
      go false e on = none-at now a.moment as' (grind (arith, l, h.0)) h.1

  pub behind-front : (t : ℕ) (as' : List Action) → now ≤ t → Rises t as' → filter (λ a. nat_lt now a.moment) as' ≡ behind_moment now as'
  behind-front t [] l h = refl
  behind-front t (a ∷ as') l h = go (a.moment == now) refl (λ e. behind-front a.moment as' (omega (arith, e)) h.1)
    where
      go : (b : Bool) → (a.moment == now) ≡ b → (a.moment ≡ now → filter (λ x. nat_lt now x.moment) as' ≡ behind_moment now as')
          → filter (λ x. nat_lt now x.moment) (a ∷ as') ≡ (if b then behind_moment now as' else a ∷ as')
      go true e on = let same : a.moment ≡ now = grind arith in rw (not-later now a same) (on same)
      go false e on = let later : now < a.moment = grind (arith, l, h.0) in
          rw (is-later now a later) (ap (λ k. a ∷ k) (all-later now a.moment as' later h.1))
