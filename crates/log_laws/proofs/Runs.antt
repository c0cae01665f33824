-- A run of j + k events is a run of j events and then one of k.
use Rattle.std.proofs.Common.{◌≡◌, ℕ, zero, suc, ◌+◌, List, [], ◌++◌, Option, Some, None, arith, sym, refl, ap, ◌∙◌, append_assoc}
use Rattle.run_specs.specs.Run.{Machine, behind, head, then_from}

module _ {S L : Type 0} (m : Machine S L) where
  -- where no event is left, there is none behind it
  pub stops : (k : ℕ) (s : S) → m.step s ≡ None → head m k s ≡ []
  unfolding head
  stops zero s e = refl
  stops (suc k) s e = ap (then_from [] (λ p. p.1 ++ head m k p.0)) e

  pub rests : (k : ℕ) (s : S) → m.step s ≡ None → behind m k s ≡ s
  unfolding behind
  rests zero s e = refl
  rests (suc k) s e = ap (then_from s (λ p. behind m k p.0)) e

  pub head-add : (j k : ℕ) (s : S) → head m (j + k) s ≡ head m j s ++ head m k (behind m j s)
  unfolding head behind
  head-add zero k s = let e : 0 + k ≡ k = omega arith in ap (λ n. head m n s) e
  head-add (suc j) k s =
      let e : suc j + k ≡ suc (j + k) = omega arith in
      ap (λ n. head m n s) e ∙ go (m.step s) refl (λ p. head-add j k p.0)
    where
      go : (o : Option (S × List L)) → m.step s ≡ o
          → ((p : S × List L) → head m (j + k) p.0 ≡ head m j p.0 ++ head m k (behind m j p.0))
          → then_from [] (λ p. p.1 ++ head m (j + k) p.0) o
          ≡ then_from [] (λ p. p.1 ++ head m j p.0) o ++ head m k (then_from s (λ p. behind m j p.0) o)
      go None e on = sym (stops k s e)
      go (Some p) e on = ap (λ ls. p.1 ++ ls) (on p) ∙ sym (append_assoc p.1 (head m j p.0) (head m k (behind m j p.0)))

  pub behind-add : (j k : ℕ) (s : S) → behind m (j + k) s ≡ behind m k (behind m j s)
  unfolding behind
  behind-add zero k s = let e : 0 + k ≡ k = omega arith in ap (λ n. behind m n s) e
  behind-add (suc j) k s =
      let e : suc j + k ≡ suc (j + k) = omega arith in
      ap (λ n. behind m n s) e ∙ go (m.step s) refl (λ p. behind-add j k p.0)
    where
      go : (o : Option (S × List L)) → m.step s ≡ o → ((p : S × List L) → behind m (j + k) p.0 ≡ behind m k (behind m j p.0))
          → then_from s (λ p. behind m (j + k) p.0) o ≡ behind m k (then_from s (λ p. behind m j p.0) o)
      go None e on = sym (rests k s e)
      go (Some p) e on = on p
