-- Reading items one after the other, as a loop does.
use Rattle.std.proofs.Common.{◌≡◌, ℕ, suc, ◌-◌, ◌+◌, ◌≤◌, ◌<◌, List, [], ◌∷◌, ◌++◌, Result, Ok, Err, refl, sym, ap, ◌∙◌, append_assoc, arith}
use Rattle.std.proofs.lemmas.List.{append-nil}
use Rattle.module_specs.specs.declared.fault.Fault.{Fault}
use Rattle.module_specs.specs.declared.fault.Fault.TheVariants.{Memory}
use Rattle.module_specs.specs.Reading.{Read, ◌>>=◌, Fails, each_at}
use Rattle.module_specs.proofs.Readers.{cons_read}

-- what was read before, and what is still read
abbrev pub with_front : {A : Type 0} → List A → Read (List A) → Read (List A)
with_front front read = read >>= λ x. Ok (front ++ x.0, x.1)

regroup : {A : Type 0} (front : List A) (x : A) (read : Read (List A))
    → with_front front (read >>= cons_read x) ≡ with_front (front ++ x ∷ []) read
regroup front x (Ok xs) = ap (λ l. Ok (l, xs.1)) (sym (append_assoc front (x ∷ []) xs.0))
regroup front x (Err f) = refl

module _ {A : Type 0} (item : List ℕ → ℕ → Read A) (b : List ℕ) (front : List A) (count i at : ℕ) (total : Read (List A)) where
  pub goes_on : (x : A) (next : ℕ) → i < count → item b at ≡ Ok (x, next) → with_front front (each_at item b (count - i) at) ≡ total
      → with_front (front ++ x ∷ []) (each_at item b (count - (i + 1)) next) ≡ total
  unfolding each_at
  goes_on x next lt h so_far =
      let k : count - i ≡ suc (count - (i + 1)) = omega arith in
      sym (regroup front x (each_at item b (count - (i + 1)) next))
      ∙ sym (ap (λ n. with_front front (each_at item b n at)) k ∙ ap
      (λ r. with_front front (r >>= λ x. each_at item b (count - (i + 1)) x.1 >>= cons_read x.0)) h)
      ∙ so_far

  pub ends : (e : Fault) → i < count → Fails e (item b at) → with_front front (each_at item b (count - i) at) ≡ total → Fails e total
  unfolding each_at
  ends Memory lt h so_far = tt
  ends e lt h so_far =
      let k : count - i ≡ suc (count - (i + 1)) = omega arith in
      sym so_far ∙ ap (λ n. with_front front (each_at item b n at)) k
      ∙ ap (λ r. with_front front (r >>= λ x. each_at item b (count - (i + 1)) x.1 >>= cons_read x.0)) h

  pub is_done : count ≤ i → with_front front (each_at item b (count - i) at) ≡ total → total ≡ Ok (front, at)
  unfolding each_at
  is_done le so_far =
      let k : count - i ≡ 0 = omega arith in
      sym so_far ∙ ap (λ n. with_front front (each_at item b n at)) k ∙ ap (λ l. Ok (l, at)) (append-nil front)

pub fails_of : {Y : Type 0} (e : Fault) (r : Result Y Fault) → r ≡ Err e → Fails e r
fails_of Memory r h = tt
fails_of e r h = h
