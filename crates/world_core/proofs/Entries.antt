-- The clock entries behind a session: those of the node are changed, and the others are as they were.
use Rattle.std.proofs.Common.{◌≡◌, ◌≤◌, ◌+◌, ℕ, zero, suc, List, [], ◌∷◌, ◌++◌, All, take, drop, length, replicate, Option, None, arith, refl, sym, ap, ◌∙◌}
use Rattle.std.proofs.lemmas.List.{drop-take}
use Rattle.std.proofs.lemmas.List.Elements.{All-head, All-tail, All-cons, All-nil}
use Rattle.session_specs.specs.Outcome.{DueChange, Clear}
use Rattle.world_specs.specs.Sessions.{clock_after, clocks_after}
use Rattle.world_core.specs.Clocks.{changed, settled}
use Rattle.world_core.proofs.Placing.{drop-both}

take-front : {X : Type 0} (n : ℕ) (xs ys : List X) → n ≤ length xs → take n (take n xs ++ ys) ≡ take n xs
take-front zero xs ys l = refl
take-front (suc n) [] ys l = absurd (omega (arith, l))
take-front (suc n) (x ∷ xs) ys l = ap (λ k. x ∷ k) (take-front n xs ys (omega (arith, l)))

drop-front : {X : Type 0} (n : ℕ) (xs ys : List X) → n ≤ length xs → drop n (take n xs ++ ys) ≡ ys
drop-front zero xs ys l = refl
drop-front (suc n) [] ys l = absurd (omega (arith, l))
drop-front (suc n) (x ∷ xs) ys l = drop-front n xs ys (omega (arith, l))

drop-none : {X : Type 0} (n : ℕ) → drop {A = X} n [] ≡ []
drop-none zero = refl
drop-none (suc n) = refl

module _ (now : ℕ) where
  changed-length : (ds : List DueChange) (cs : List (Option ℕ)) → length (changed now ds cs) ≡ length cs
  changed-length [] cs = refl
  changed-length (d ∷ ds) [] = refl
  changed-length (d ∷ ds) (c ∷ cs) = ap suc (changed-length ds cs)

  changed-beyond : (n : ℕ) (ds : List DueChange) (cs : List (Option ℕ)) → length ds ≤ n → drop n (changed now ds cs) ≡ drop n cs
  changed-beyond n [] cs l = refl
  changed-beyond n (d ∷ ds) [] l = refl
  changed-beyond zero (d ∷ ds) (c ∷ cs) l = absurd (omega (arith, l))
  changed-beyond (suc n) (d ∷ ds) (c ∷ cs) l = changed-beyond n ds cs (omega (arith, l))

  -- the clocks of the node
  pub changed-clocks : (ds : List DueChange) (cs : List (Option ℕ)) → length ds ≤ length cs → take (length ds) (changed now ds cs) ≡ clocks_after now ds (take (length ds) cs)
  changed-clocks [] cs l = refl
  changed-clocks (d ∷ ds) [] l = absurd (omega (arith, l))
  changed-clocks (d ∷ ds) (c ∷ cs) l = ap (λ k. clock_after now d c ∷ k) (changed-clocks ds cs (omega (arith, l)))

  -- those of a new node, of which none is set
  pub unset-clocks : (ds : List DueChange) (cs : List (Option ℕ)) → All (λ c. c ≡ None) cs → length cs ≤ length ds → clocks_after now ds cs ≡ clocks_after now ds []
  unset-clocks [] cs h l = refl
  unset-clocks (d ∷ ds) [] h l = refl
  unset-clocks (d ∷ ds) (c ∷ cs) h l =
      let none : c ≡ None = All-head (λ (x : Option ℕ). x ≡ None) c cs h in
      rw none (ap (λ k. clock_after now d None ∷ k) (unset-clocks ds cs (All-tail (λ (x : Option ℕ). x ≡ None) c cs h) (omega (arith, l))))

  pub settled-length : (first : ℕ) (ds : List DueChange) (cs : List (Option ℕ)) → length (settled now first ds cs) ≡ length cs
  settled-length zero ds cs = changed-length ds cs
  settled-length (suc first) ds [] = changed-length ds []
  settled-length (suc first) ds (c ∷ cs) = ap suc (settled-length first ds cs)

  pub settled-before : (first : ℕ) (ds : List DueChange) (cs : List (Option ℕ)) → first ≤ length cs → take first (settled now first ds cs) ≡ take first cs
  settled-before first ds cs l = take-front first cs (changed now ds (drop first cs)) l

  pub settled-own : (first : ℕ) (ds : List DueChange) (cs : List (Option ℕ)) → first ≤ length cs → drop first (settled now first ds cs) ≡ changed now ds (drop first cs)
  settled-own first ds cs l = drop-front first cs (changed now ds (drop first cs)) l

  pub settled-beyond : (first : ℕ) (ds : List DueChange) (cs : List (Option ℕ)) → first ≤ length cs → length ds ≤ 8 → drop (first + 8) (settled now first ds cs) ≡ drop (first + 8) cs
  settled-beyond first ds cs l k =
      sym (drop-both first 8 (settled now first ds cs))
      ∙ ap (drop 8) (settled-own first ds cs l)
      ∙ changed-beyond 8 ds (drop first cs) k
      ∙ drop-both first 8 cs

  -- the entries that are no clocks
  pub changed-unused : (ds : List DueChange) (cs : List (Option ℕ)) (n m : ℕ) → n + m ≡ 8 → length ds ≤ n → drop n (take 8 (changed now ds cs)) ≡ drop n (take 8 cs)
  changed-unused ds cs n m e l =
      ap (λ k. drop n (take k (changed now ds cs))) (sym e) ∙ drop-take n m (changed now ds cs)
      ∙ ap (take m) (changed-beyond n ds cs l)
      ∙ sym (drop-take n m cs) ∙ ap (λ k. drop n (take k cs)) e

-- cleared entries
pub cleared-own : (n : ℕ) (cs : List (Option ℕ)) → All (λ c. c ≡ None) (drop n cs) → All (λ c. c ≡ None) (changed 0 (replicate n Clear) cs)
cleared-own zero cs h = h
cleared-own (suc n) [] h = All-nil (λ (c : Option ℕ). c ≡ None)
cleared-own (suc n) (c ∷ cs) h = All-cons (λ (c : Option ℕ). c ≡ None) None (changed 0 (replicate n Clear) cs) refl (cleared-own n cs h)
