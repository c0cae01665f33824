-- How many own a part.
use Rattle.std.proofs.Common.{◌≡◌, ◌≤◌, ◌+◌, ◌⊎◌, ℕ, zero, suc, Bool, true, false, if◌then◌else◌, ◌==◌, List, [], ◌∷◌, ◌++◌, map, Some, None, slice_get, slice_set, refl, arith, sym, ap, ◌∙◌, inl, inr}
use Rattle.std.proofs.lemmas.Bool.{eqb-true, eq-eqb}
use Rattle.fmi_states.specs.Parts.{Among}
use Rattle.world_core.specs.Owners.{owns, owners}

-- a part is one of these, or they don't own it
pub owns-or-not : (p : ℕ) (own : List ℕ) → Among p own ⊎ (owns p own ≡ 0)
owns-or-not p [] = inr refl
owns-or-not p (q ∷ own) = go (p == q) refl (owns-or-not p own)
  where
    go : (b : Bool) → (p == q) ≡ b → Among p own ⊎ (owns p own ≡ 0) → Among p (q ∷ own) ⊎ (owns p (q ∷ own) ≡ 0)
    go true e r = inl (inl (eqb-true p q e))
    go false e (inl a) = inl (inr a)
    go false e (inr n) = inr (rw e n)

pub owns-one : (p : ℕ) (own : List ℕ) → owns p own ≤ 1
owns-one p [] = omega arith
owns-one p (q ∷ own) = go (p == q) (owns-one p own)
  where
    go : (b : Bool) → owns p own ≤ 1 → (if b then 1 else owns p own) ≤ 1
    go true l = omega arith
    go false l = l

pub among-owns : (p : ℕ) (own : List ℕ) → Among p own → owns p own ≡ 1
among-owns p [] a = absurd a
among-owns p (q ∷ own) (inl e) = rw (eq-eqb p q e) refl
among-owns p (q ∷ own) (inr a) = go (p == q) refl (among-owns p own a)
  where
    go : (b : Bool) → (p == q) ≡ b → owns p own ≡ 1 → owns p (q ∷ own) ≡ 1
    go true e one = rw e refl
    go false e one = rw e one

pub owners-append : (p : ℕ) (xs ys : List (List ℕ)) → owners p (xs ++ ys) ≡ owners p xs + owners p ys
owners-append p [] ys = omega arith
owners-append p (x ∷ xs) ys = let r = owners-append p xs ys in omega (arith, r)

module _ {X : Type 0} (parts : X → List ℕ) where
  abbrev none_there : List X
  none_there = []

  none-at : (k : ℕ) (x : X) (A : Type 0) → slice_get none_there k ≡ Some x → A
  none-at k x A e = absurd (let n : None ≡ Some x = e in cc)

  first-is : (y x : X) → Some y ≡ Some x → y ≡ x
  first-is y x e = cc

  -- the one at a place is one of the owners
  pub owns-within : (p : ℕ) (xs : List X) (k : ℕ) (x : X) → slice_get xs k ≡ Some x → owns p (parts x) ≤ owners p (map parts xs)
  owns-within p [] k x e = none-at k x _ e
  owns-within p (y ∷ xs) zero x e = let same : owns p (parts y) ≡ owns p (parts x) = ap (λ z. owns p (parts z)) (first-is y x e) in omega (arith, same)
  owns-within p (y ∷ xs) (suc k) x e = let r = owns-within p xs k x e in omega (arith, r)

  -- those at two places are two of them
  pub two-within : (p : ℕ) (xs : List X) (i k : ℕ) (x y : X) → slice_get xs i ≡ Some x → slice_get xs k ≡ Some y → (i ≡ k → ⊥)
      → owns p (parts x) + owns p (parts y) ≤ owners p (map parts xs)
  two-within p [] i k x y e f ne = none-at i x _ e
  two-within p (z ∷ xs) zero zero x y e f ne = absurd (ne refl)
  two-within p (z ∷ xs) zero (suc k) x y e f ne =
      let same : owns p (parts z) ≡ owns p (parts x) = ap (λ z. owns p (parts z)) (first-is z x e) in
      let r = owns-within p xs k y f in
      omega (arith, same, r)
  two-within p (z ∷ xs) (suc i) zero x y e f ne =
      let same : owns p (parts z) ≡ owns p (parts y) = ap (λ z. owns p (parts z)) (first-is z y f) in
      let r = owns-within p xs i x e in
      omega (arith, same, r)
  two-within p (z ∷ xs) (suc i) (suc k) x y e f ne = let r = two-within p xs i k x y e f (λ q. ne (ap suc q)) in omega (arith, r)

  -- one that changes and keeps its parts
  pub parts-set : (xs : List X) (k : ℕ) (x y : X) → slice_get xs k ≡ Some x → parts y ≡ parts x → map parts (slice_set xs k y) ≡ map parts xs
  parts-set [] k x y e own = refl
  parts-set (z ∷ xs) zero x y e own = ap (λ r. r ∷ map parts xs) (own ∙ sym (ap parts (first-is z x e)))
  parts-set (z ∷ xs) (suc k) x y e own = ap (λ r. parts z ∷ r) (parts-set xs k x y e own)
