-- A unit that moves leaves the others, which own other parts, as they were.
use Rattle.std.proofs.Common.{◌≡◌, ◌<◌, ◌⊎◌, ℕ, zero, suc, List, [], ◌∷◌, length, Option, Some, None, slice_get, slice_set, option_map, ap, sym, ◌∙◌, subst, refl, arith, inl, inr}
use Rattle.std.proofs.lemmas.Option.{slice_get_within}
use Rattle.fmi_states.specs.declared.ecu.Ecu.{Ghosts}
use Rattle.fmi_states.specs.Parts.{Spares, Shares}
use Rattle.world_laws.proofs.Lists.{get-map}
use Rattle.world_core.specs.Owners.{EachHasOneOwner}
use Rattle.world_core.specs.Units.{AreApart, states_of}
use Rattle.world_core.proofs.Counting.{among-owns, parts-set, two-within}

-- ---- lists by their places

pub get-set-same : {X : Type 0} (xs : List X) (i : ℕ) (x : X) → i < length xs → slice_get (slice_set xs i x) i ≡ Some x
get-set-same [] i x lt = absurd (omega arith)
get-set-same (y ∷ ys) zero x lt = refl
get-set-same (y ∷ ys) (suc i) x lt = get-set-same ys i x (omega arith)

pub get-set-other : {X : Type 0} (xs : List X) (i j : ℕ) (x : X) → (j ≡ i → ⊥) → slice_get (slice_set xs i x) j ≡ slice_get xs j
get-set-other [] i j x ne = refl
get-set-other (y ∷ ys) zero zero x ne = absurd (ne refl)
get-set-other (y ∷ ys) zero (suc j) x ne = refl
get-set-other (y ∷ ys) (suc i) zero x ne = refl
get-set-other (y ∷ ys) (suc i) (suc j) x ne = get-set-other ys i j x (λ e. ne (ap suc e))

pub by-places : {X : Type 0} (xs ys : List X) → ((i : ℕ) → slice_get xs i ≡ slice_get ys i) → xs ≡ ys
by-places [] [] h = refl
by-places [] (y ∷ ys) h = absurd (let e : None ≡ Some y = h 0 in cc)
by-places (x ∷ xs) [] h = absurd (let e : Some x ≡ None = h 0 in cc)
by-places (x ∷ xs) (y ∷ ys) h =
    let e : Some x ≡ Some y = h 0 in
    let s : x ≡ y = cc in
    rw (s, by-places xs ys (λ i. h (suc i))) refl

some-or-none : {X : Type 0} (o : Option X) → (o ≡ None) ⊎ ((x : X) × (o ≡ Some x))
some-or-none None = inl refl
some-or-none (Some x) = inr (x, refl)

pub same-or-not : (i k : ℕ) → (i ≡ k) ⊎ (i ≡ k → ⊥)
same-or-not zero zero = inl refl
same-or-not zero (suc k) = inr (λ e. omega arith)
same-or-not (suc i) zero = inr (λ e. omega arith)
same-or-not (suc i) (suc k) = elim (same-or-not i k) [ inl e ↦ inl (ap suc e) | inr ne ↦ inr (λ e. ne (omega arith)) ]

-- ---- units

module _ {E G S : Type 0} (g : Ghosts E G S)
    (stays-in : (e : E) (s t : G) → g.is_in e s → Shares g.part (g.parts e) s t → g.is_in e t)
    (stays : (e : E) (s t : G) → g.is_in e s → Shares g.part (g.parts e) s t → g.state e t ≡ g.state e s) where
  shares : (es : List E) (i k : ℕ) (d e : E) (s t : G) → AreApart g es s → slice_get es i ≡ Some d → slice_get es k ≡ Some e → (i ≡ k → ⊥)
      → Spares g.part (g.parts e) s t → Shares g.part (g.parts d) s t
  shares es i k d e s t apart gi gk ne spares = λ p own. spares.each p (λ other.
      let two = two-within g.parts p es i k d e gi gk ne in
      let one = apart.apart p in
      let a = among-owns p (g.parts d) own in
      let b = among-owns p (g.parts e) other in
      omega (arith, two, one, a, b))

  -- the states elsewhere are as they were
  pub states-set : (es : List E) (k : ℕ) (e after : E) (s t : G) → AreApart g es s → slice_get es k ≡ Some e → Spares g.part (g.parts e) s t
      → states_of g (slice_set es k after) t ≡ slice_set (states_of g es s) k (g.state after t)
  states-set es k e after s t apart gk spares = by-places (states_of g (slice_set es k after) t) (slice_set (states_of g es s) k (g.state after t)) at
    where
      inside : k < length es
      inside = slice_get_within es k e gk

      inside-states : k < length (states_of g es s)
      inside-states = slice_get_within (states_of g es s) k (g.state e s) (get-map (λ x. g.state x s) es k ∙ ap (option_map (λ x. g.state x s)) gk)

      at : (i : ℕ) → slice_get (states_of g (slice_set es k after) t) i ≡ slice_get (slice_set (states_of g es s) k (g.state after t)) i
      at i = get-map (λ x. g.state x t) (slice_set es k after) i ∙ go (same-or-not i k)
        where
          go : (i ≡ k) ⊎ (i ≡ k → ⊥) → option_map (λ x. g.state x t) (slice_get (slice_set es k after) i) ≡ slice_get (slice_set (states_of g es s) k (g.state after t)) i
          go (inl q) =
              subst (λ j. option_map (λ x. g.state x t) (slice_get (slice_set es k after) j) ≡ slice_get (slice_set (states_of g es s) k (g.state after t)) j) (sym q)
              (ap (option_map (λ x. g.state x t)) (get-set-same es k after inside) ∙ sym (get-set-same (states_of g es s) k (g.state after t) inside-states))
          go (inr ne) =
              ap (option_map (λ x. g.state x t)) (get-set-other es k i after ne)
              ∙ same (slice_get es i) refl
              ∙ sym (get-map (λ x. g.state x s) es i)
              ∙ sym (get-set-other (states_of g es s) k i (g.state after t) ne)
            where
              same : (o : Option E) → slice_get es i ≡ o → option_map (λ x. g.state x t) o ≡ option_map (λ x. g.state x s) (slice_get es i)
              same None h = sym (ap (option_map (λ x. g.state x s)) h)
              same (Some d) h = ap Some (stays d s t (apart.here i d h) (shares es i k d e s t apart h gk ne spares)) ∙ sym (ap (option_map (λ x. g.state x s)) h)

  -- a unit of the new list is the new one, or stood there before
  which : (es : List E) (k i : ℕ) (e after d : E) → slice_get es k ≡ Some e → slice_get (slice_set es k after) i ≡ Some d
      → ((i ≡ k) × (after ≡ d)) ⊎ ((i ≡ k → ⊥) × (slice_get es i ≡ Some d))
  which es k i e after d gk h =
      elim (same-or-not i k) [
        | inl q ↦ inl (q, inside after d (sym (get-set-same es k after (slice_get_within es k e gk)) ∙ (ap (slice_get (slice_set es k after)) (sym q) ∙ h)))
        | inr ne ↦ inr (ne, sym (get-set-other es k i after ne) ∙ h)
      ]
    where
      inside : (x y : E) → Some x ≡ Some y → x ≡ y
      inside x y q = cc

  pub apart-stays : (es : List E) (k : ℕ) (e after : E) (s t : G) → AreApart g es s → slice_get es k ≡ Some e → Spares g.part (g.parts e) s t
      → g.parts after ≡ g.parts e → g.is_in after t → AreApart g (slice_set es k after) t
  apart-stays es k e after s t apart gk spares same here = record {
    here = λ i d h. elim (which es k i e after d gk h) [
      | inl p ↦ subst (λ x. g.is_in x t) p.1 here
      | inr p ↦ stays-in d s t (apart.here i d p.1) (shares es i k d e s t apart p.1 gk p.0 spares)
    ];
    apart = subst EachHasOneOwner (sym (parts-set g.parts es k e after gk same)) apart.apart;
  }

-- the unit at a place has the state at that place
pub state-is : {E G S : Type 0} (g : Ghosts E G S) (es : List E) (shared : G) (place : ℕ) (e : E) (s : S) → slice_get es place ≡ Some e → slice_get (states_of g es shared) place ≡ Some s → g.state e shared ≡ s
state-is {E} {G} {S} g es shared place e s a b = inside (sym (get-map (λ x. g.state x shared) es place ∙ ap (option_map (λ x. g.state x shared)) a) ∙ b)
  where
    inside : Some (g.state e shared) ≡ Some s → g.state e shared ≡ s
    inside q = cc

pub state-at : {E G S : Type 0} (g : Ghosts E G S) (es : List E) (shared : G) (place : ℕ) (e : E) → slice_get es place ≡ Some e → slice_get (states_of g es shared) place ≡ Some (g.state e shared)
state-at g es shared place e a = get-map (λ x. g.state x shared) es place ∙ ap (option_map (λ x. g.state x shared)) a
