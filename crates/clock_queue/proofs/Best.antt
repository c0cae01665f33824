-- The foremost of a list is in it, and nothing in it is better.
use Rattle.std.proofs.Common.{◌≡◌, ◌⊎◌, Bool, true, false, cond, List, [], ◌∷◌, fold, Option, Some, None, sym, refl, ap, ◌∙◌, subst, inl}
use Rattle.std.proofs.Common.{inr}
use Rattle.std.proofs.lemmas.Bool.{false_from_ne_true, both_ways}
use Rattle.run_specs.specs.Order.{better_of, foremost}
use Rattle.clock_queue.specs.Order.{Among}

-- nothing is better than itself, and what is better than the better one is better
pub record IsStrict {A : Type 0} (better : A → A → Bool) : Type 0 where
  pub itself : (x : A) → better x x ≡ false
  pub through : (x y z : A) → better x y ≡ true → better y z ≡ true → better x z ≡ true

-- it is in the list, and nothing in it is better
pub record IsBest {A : Type 0} (better : A → A → Bool) (xs : List A) (x : A) : Type 0 where
  pub among : Among xs x
  pub unbeaten : (y : A) → Among xs y → better y x ≡ false

module _ {A : Type 0} (better : A → A → Bool) where
  -- the best so far, and the best behind it
  record Follows (xs : List A) (r x : A) : Type 0 where
    among : Among (r ∷ xs) x
    ahead : (x ≡ r) ⊎ (better x r ≡ true)
    unbeaten : (y : A) → Among (r ∷ xs) y → better y x ≡ false

  module _ (o : IsStrict better) where
    replaces : (xs : List A) (r q x : A) → better q r ≡ true → Follows xs q x → Follows (q ∷ xs) r x
    replaces xs r q x e h = record { among = inr h.among; ahead = inr (ahead h.ahead); unbeaten = unbeaten }
      where
        ahead : (x ≡ q) ⊎ (better x q ≡ true) → better x r ≡ true
        ahead (inl s) = subst (λ y. better y r ≡ true) (sym s) e
        ahead (inr t) = o.through x q r t e

        unbeaten : (y : A) → Among (r ∷ q ∷ xs) y → better y x ≡ false
        unbeaten y (inl s) = subst (λ z. better z x ≡ false) (sym s)
            (false_from_ne_true (better r x) (λ t. both_ways (better q x) (h.unbeaten q (inl refl)) (o.through q r x e t)))
        unbeaten y (inr a) = h.unbeaten y a

    stays : (xs : List A) (r q x : A) → better q r ≡ false → Follows xs r x → Follows (q ∷ xs) r x
    stays xs r q x e h = record { among = among h.among; ahead = h.ahead; unbeaten = unbeaten }
      where
        among : Among (r ∷ xs) x → Among (r ∷ q ∷ xs) x
        among (inl s) = inl s
        among (inr a) = inr (inr a)

        -- q isn't better than r, and x is r or better
        worse : (x ≡ r) ⊎ (better x r ≡ true) → better q x ≡ true → ⊥
        worse (inl s) t = both_ways (better q r) e (subst (λ y. better q y ≡ true) s t)
        worse (inr b) t = both_ways (better q r) e (o.through q x r t b)

        unbeaten : (y : A) → Among (r ∷ q ∷ xs) y → better y x ≡ false
        unbeaten y (inl s) = h.unbeaten y (inl s)
        unbeaten y (inr (inl s)) = subst (λ z. better z x ≡ false) (sym s)
            (false_from_ne_true (better q x) (worse h.ahead))
        unbeaten y (inr (inr a)) = h.unbeaten y (inr a)

    follows : (xs : List A) (r x : A) → fold (better_of better) (Some r) xs ≡ Some x → Follows xs r x
    follows [] r x e = let s : r ≡ x = cc in record {
      among = inl (sym s);
      ahead = inl (sym s);
      unbeaten = λ y a. here y a s;
    }
      where
        here : (y : A) → Among (r ∷ []) y → r ≡ x → better y x ≡ false
        here y (inl t) s = subst (λ z. better y z ≡ false) (t ∙ s) (o.itself y)
        here y (inr a) s = absurd a
    follows (q ∷ xs) r x e = go (better q r) refl e
        (λ t k. replaces xs r q x t (follows xs q x k))
        (λ t k. stays xs r q x t (follows xs r x k))
      where
        go : (b : Bool) → better q r ≡ b → fold (better_of better) (cond b (Some q) (Some r)) xs ≡ Some x
            → (better q r ≡ true → fold (better_of better) (Some q) xs ≡ Some x → Follows (q ∷ xs) r x)
            → (better q r ≡ false → fold (better_of better) (Some r) xs ≡ Some x → Follows (q ∷ xs) r x)
            → Follows (q ∷ xs) r x
        go true t k new old = new t k
        go false t k new old = old t k

    pub foremost_best : (xs : List A) (x : A) → foremost better xs ≡ Some x → IsBest better xs x
    foremost_best [] x e = absurd cc
    foremost_best (q ∷ xs) x e = let h = follows xs q x e in record { among = h.among; unbeaten = h.unbeaten }

    some_fold : (xs : List A) (r : A) → fold (better_of better) (Some r) xs ≡ None → ⊥
    some_fold [] r e = cc
    some_fold (q ∷ xs) r e = go (better q r) e (some_fold xs q) (some_fold xs r)
      where
        go : (b : Bool) → fold (better_of better) (cond b (Some q) (Some r)) xs ≡ None
            → (fold (better_of better) (Some q) xs ≡ None → ⊥) → (fold (better_of better) (Some r) xs ≡ None → ⊥) → ⊥
        go true k new old = new k
        go false k new old = old k

    -- only an empty list has no foremost
    pub foremost_none : (xs : List A) → foremost better xs ≡ None → xs ≡ []
    foremost_none [] e = refl
    foremost_none (q ∷ xs) e = absurd (some_fold xs q e)

    -- what is better than each other item is the foremost
    pub foremost_is : (xs : List A) (x : A) → Among xs x
        → ((y : A) → Among xs y → (y ≡ x) ⊎ (better x y ≡ true)) → foremost better xs ≡ Some x
    foremost_is xs x a over = go (foremost better xs) refl
      where
        same : (y : A) → IsBest better xs y → (y ≡ x) ⊎ (better x y ≡ true) → Some y ≡ Some x
        same y h (inl s) = ap (λ z. Some z) s
        same y h (inr t) = absurd (both_ways (better x y) (h.unbeaten x a) t)

        go : (r : Option A) → foremost better xs ≡ r → r ≡ Some x
        go None e = absurd (subst (λ ys. Among ys x) (foremost_none xs e) a)
        go (Some y) e = let h = foremost_best xs y e in same y h (over y h.among)
