-- A run is a head and the rest.
use Rattle.std.proofs.Common.{◌≡◌, ℕ, zero, suc, ◌+◌, List, [], ◌++◌, Option, Some, None, arith, sym, refl, ap, ◌∙◌, append_assoc}
use Rattle.run_specs.specs.Run.{Machine, then_from, behind, head, log}

module _ {S L : Type 0} (m : Machine S L) where
  -- where no event is left the run stays
  stays : (k : ℕ) (s : S) → m.step s ≡ None → behind m k s ≡ s
  unfolding behind
  stays zero s e = refl
  stays (suc k) s e = rw e refl

  silent : (k : ℕ) (s : S) → m.step s ≡ None → head m k s ≡ []
  unfolding head
  silent zero s e = refl
  silent (suc k) s e = rw e refl

  pub behind-joins : (j k : ℕ) (s : S) → behind m (j + k) s ≡ behind m k (behind m j s)
  unfolding behind
  behind-joins zero k s = let e : 0 + k ≡ k = omega arith in ap (λ n. behind m n s) e
  behind-joins (suc j) k s = let e : suc j + k ≡ suc (j + k) = omega arith in ap (λ n. behind m n s) e ∙ go (m.step s) refl (λ t. behind-joins j k t)
    where
      go : (o : Option (S × List L)) → m.step s ≡ o → ((t : S) → behind m (j + k) t ≡ behind m k (behind m j t))
          → then_from s (λ p. behind m (j + k) p.0) o ≡ behind m k (then_from s (λ p. behind m j p.0) o)
      go None e on = sym (stays k s e)
      go (Some p) e on = on p.0

  pub heads-join : (j k : ℕ) (s : S) → head m (j + k) s ≡ head m j s ++ head m k (behind m j s)
  unfolding head behind
  heads-join zero k s = let e : 0 + k ≡ k = omega arith in ap (λ n. head m n s) e
  heads-join (suc j) k s = let e : suc j + k ≡ suc (j + k) = omega arith in ap (λ n. head m n s) e ∙ go (m.step s) refl (λ t. heads-join j k t)
    where
      go : (o : Option (S × List L)) → m.step s ≡ o → ((t : S) → head m (j + k) t ≡ head m j t ++ head m k (behind m j t))
          → then_from [] (λ p. p.1 ++ head m (j + k) p.0) o
          ≡ then_from [] (λ p. p.1 ++ head m j p.0) o ++ head m k (then_from s (λ p. behind m j p.0) o)
      go None e on = sym (silent k s e)
      go (Some p) e on = ap (λ ls. p.1 ++ ls) (on p.0) ∙ sym (append_assoc p.1 (head m j p.0) (head m k (behind m j p.0)))

  pub log-splits : (j k : ℕ) (s : S) → log m (j + k) s ≡ head m j s ++ log m k (behind m j s)
  log-splits j k s = rw (heads-join j k s, behind-joins j k s) (append_assoc (head m j s) (head m k (behind m j s)) (m.closing (behind m k (behind m j s))))
