-- One unit more, which owns parts that weren't there.
use Rattle.std.proofs.Common.{◌≡◌, ◌+◌, ◌⊎◌, ℕ, zero, suc, List, [], ◌∷◌, ◌++◌, length, map, Some, None, slice_get, ap, ◌∙◌, subst, refl, arith, inl, inr}
use Rattle.std.proofs.lemmas.List.{map-append}
use Rattle.fmi_states.specs.declared.ecu.Ecu.{Ghosts}
use Rattle.fmi_states.specs.Parts.{Among, Spares, Shares}
use Rattle.world_core.specs.Owners.{owns, owners}
use Rattle.world_core.specs.Units.{AreApart, states_of}
use Rattle.world_core.proofs.Counting.{owners-append, owns-one, owns-or-not}

-- who stands in a list with one more: one that stood there before, or the last
which : {X : Type 0} (xs : List X) (x y : X) (i : ℕ) → slice_get (xs ++ x ∷ []) i ≡ Some y
    → (slice_get xs i ≡ Some y) ⊎ ((i ≡ length xs) × (x ≡ y))
which [] x y zero e = inr (refl, let h : Some x ≡ Some y = e in cc)
which [] x y (suc i) e = absurd (let h : None ≡ Some y = e in cc)
which (z ∷ xs) x y zero e = inl e
which {X} (z ∷ xs) x y (suc i) e = elim (which xs x y i e) [ inl h ↦ inl h | inr h ↦ inr (ap suc h.0, h.1) ]

module _ {E G S : Type 0} (g : Ghosts E G S)
    (stays-in : (e : E) (s t : G) → g.is_in e s → Shares g.part (g.parts e) s t → g.is_in e t)
    (stays : (e : E) (s t : G) → g.is_in e s → Shares g.part (g.parts e) s t → g.state e t ≡ g.state e s)
    (is-there : (e : E) (s : G) (p : ℕ) → g.is_in e s → Among p (g.parts e) → ¬ (g.part p s ≡ None)) where
  -- what a unit owns isn't the new one's
  others : (d e : E) (s : G) → g.is_in d s → ((p : ℕ) → Among p (g.parts e) → g.part p s ≡ None) → (p : ℕ) → Among p (g.parts d) → ¬ Among p (g.parts e)
  others d e s here fresh p own new = is-there d s p here own (fresh p new)

  -- no unit owns a part that isn't there
  unowned : (es : List E) (s : G) (p : ℕ) → ((i : ℕ) (d : E) → slice_get es i ≡ Some d → g.is_in d s) → g.part p s ≡ None
      → owners p (map g.parts es) ≡ 0
  unowned [] s p here gone = refl
  unowned (d ∷ es) s p here gone =
      let rest = unowned es s p (λ i. here (suc i)) gone in
      elim (owns-or-not p (g.parts d)) [
        | inl own ↦ absurd (is-there d s p (here 0 d refl) own gone)
        | inr not ↦ omega (arith, rest, not)
      ]

  shares : (d e : E) (s t : G) → g.is_in d s → ((p : ℕ) → Among p (g.parts e) → g.part p s ≡ None) → Spares g.part (g.parts e) s t → Shares g.part (g.parts d) s t
  shares d e s t here fresh spares = λ p own. spares.each p (others d e s here fresh p own)

  same-states : (es : List E) (e : E) (s t : G) → ((i : ℕ) (d : E) → slice_get es i ≡ Some d → g.is_in d s)
      → ((p : ℕ) → Among p (g.parts e) → g.part p s ≡ None) → Spares g.part (g.parts e) s t → states_of g es t ≡ states_of g es s
  same-states [] e s t here fresh spares = refl
  same-states (d ∷ es) e s t here fresh spares =
      rw (stays d s t (here 0 d refl) (shares d e s t (here 0 d refl) fresh spares), same-states es e s t (λ i. here (suc i)) fresh spares) refl

  pub states-more : (es : List E) (e : E) (s t : G) → AreApart g es s → ((p : ℕ) → Among p (g.parts e) → g.part p s ≡ None) → Spares g.part (g.parts e) s t
      → states_of g (es ++ e ∷ []) t ≡ states_of g es s ++ g.state e t ∷ []
  states-more es e s t apart fresh spares =
      map-append (λ x. g.state x t) es (e ∷ []) ∙ ap (λ ss. ss ++ g.state e t ∷ []) (same-states es e s t apart.here fresh spares)

  pub apart-more : (es : List E) (e : E) (s t : G) → AreApart g es s → ((p : ℕ) → Among p (g.parts e) → g.part p s ≡ None) → Spares g.part (g.parts e) s t
      → g.is_in e t → AreApart g (es ++ e ∷ []) t
  apart-more es e s t apart fresh spares here = record {
    here = λ i d h. elim (which es e d i h) [
      | inl q ↦ stays-in d s t (apart.here i d q) (shares d e s t (apart.here i d q) fresh spares)
      | inr q ↦ subst (λ x. g.is_in x t) q.1 here
    ];
    apart = λ p.
        let more : owners p (map g.parts (es ++ e ∷ [])) ≡ owners p (map g.parts es) + (owns p (g.parts e) + 0) =
        ap (owners p) (map-append g.parts es (e ∷ [])) ∙ owners-append p (map g.parts es) (g.parts e ∷ []) in
        let before = apart.apart p in
        let one = owns-one p (g.parts e) in
        elim (owns-or-not p (g.parts e)) [
          | inl own ↦ (let none = unowned es s p apart.here (fresh p own) in omega (arith, more, none, one))
          | inr not ↦ omega (arith, more, before, not)
        ];
  }
