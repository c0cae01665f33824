-- The foremost of a list is in it, and nothing in it is better.
use Rattle.std.proofs.Common.{◌≡◌, ◌⊎◌, Bool, true, false, if◌then◌else◌, List, [], ◌∷◌, ◌++◌, fold, Some, is_some, sym, refl, ap, ◌∙◌, subst, inl, inr, append_assoc, append-nil}
use Rattle.std.proofs.lemmas.Bool.{false_from_ne_true, both_ways}
use Rattle.run_specs.specs.Order.{better_of, foremost, IsForemost}
use Rattle.bus_sound.proofs.Among.{Among, among-push_cases}
use Rattle.bus_sound.proofs.Lists.{All-each}

pub record IsOrder {A : Type 0} (better : A → A → Bool) : Type 0 where
  pub itself : (x : A) → better x x ≡ false
  pub through : (x y z : A) → better x y ≡ true → better y z ≡ true → better x z ≡ true
  pub over : (x y z : A) → better x z ≡ true → better y z ≡ false → better x y ≡ true

module _ {A : Type 0} (better : A → A → Bool) where
  from-some : (r : A) (xs : List A) → is_some (fold (better_of better) (Some r) xs) ≡ true
  from-some r [] = refl
  from-some r (x ∷ xs) = go (better x r) (from-some x xs) (from-some r xs)
    where
      go : (b : Bool) → is_some (fold (better_of better) (Some x) xs) ≡ true → is_some (fold (better_of better) (Some r) xs) ≡ true
          → is_some (fold (better_of better) (if b then Some x else Some r) xs) ≡ true
      go true h k = h
      go false h k = k

  pub foremost-some : (xs : List A) (x : A) → Among xs x → is_some (foremost better xs) ≡ true
  foremost-some [] x a = absurd a
  foremost-some (y ∷ xs) x a = from-some y xs

  from-among : (r x : A) (xs : List A) → fold (better_of better) (Some r) xs ≡ Some x → Among (r ∷ xs) x
  from-among r x [] e = inl cc
  from-among r x (y ∷ xs) e = go (better y r) e (λ k. from-among y x xs k) (λ k. from-among r x xs k)
    where
      shift : Among (r ∷ xs) x → Among (r ∷ y ∷ xs) x
      shift (inl s) = inl s
      shift (inr a) = inr (inr a)

      go : (b : Bool) → fold (better_of better) (if b then Some y else Some r) xs ≡ Some x
          → (fold (better_of better) (Some y) xs ≡ Some x → Among (y ∷ xs) x)
          → (fold (better_of better) (Some r) xs ≡ Some x → Among (r ∷ xs) x) → Among (r ∷ y ∷ xs) x
      go true k new old = inr (new k)
      go false k new old = shift (old k)

  pub foremost-among : (xs : List A) (x : A) → foremost better xs ≡ Some x → Among xs x
  foremost-among [] x e = absurd cc
  foremost-among (y ∷ xs) x e = from-among y x xs e

  record IsBest (seen : List A) (x : A) : Type 0 where
    earlier : List A
    later : List A
    place : seen ≡ earlier ++ x ∷ later
    ahead : (y : A) → Among earlier y → better x y ≡ true
    unbeaten : (y : A) → Among seen y → better y x ≡ false

  module _ (o : IsOrder better) where
    stays : (seen : List A) (r q : A) → better q r ≡ false → IsBest seen r → IsBest (seen ++ q ∷ []) r
    stays seen r q e h = record {
      earlier = h.earlier;
      later = h.later ++ q ∷ [];
      place = ap (λ qs. qs ++ q ∷ []) h.place ∙ append_assoc h.earlier (r ∷ h.later) (q ∷ []);
      ahead = h.ahead;
      unbeaten = λ x a. by_place x (among-push_cases seen q x a);
    }
      where
        by_place : (x : A) → Among seen x ⊎ (q ≡ x) → better x r ≡ false
        by_place x (inl a) = h.unbeaten x a
        by_place x (inr s) = subst (λ y. better y r ≡ false) s e

    replaces : (seen : List A) (r q : A) → better q r ≡ true → IsBest seen r → IsBest (seen ++ q ∷ []) q
    replaces seen r q e h = record {
      earlier = seen;
      later = [];
      place = refl;
      ahead = λ x a. o.over q x r e (h.unbeaten x a);
      unbeaten = λ x a. by_place x (among-push_cases seen q x a);
    }
      where
        by_place : (x : A) → Among seen x ⊎ (q ≡ x) → better x q ≡ false
        by_place x (inl a) = false_from_ne_true (better x q) (λ t. both_ways (better x r) (h.unbeaten x a) (o.through x q r t e))
        by_place x (inr s) = subst (λ y. better y q ≡ false) s (o.itself q)

    fold-best : (seen xs : List A) (r x : A) → IsBest seen r → fold (better_of better) (Some r) xs ≡ Some x → IsBest (seen ++ xs) x
    fold-best seen [] r x h e = let s : r ≡ x = cc in subst (λ ls. IsBest ls x) (sym (append-nil seen)) (subst (λ y. IsBest seen y) s h)
    fold-best seen (q ∷ xs) r x h e =
        subst (λ ls. IsBest ls x) (append_assoc seen (q ∷ []) xs)
        (go (better q r) refl e
        (λ t k. fold-best (seen ++ q ∷ []) xs q x (replaces seen r q t h) k)
        (λ t k. fold-best (seen ++ q ∷ []) xs r x (stays seen r q t h) k))
      where
        go : (b : Bool) → better q r ≡ b → fold (better_of better) (if b then Some q else Some r) xs ≡ Some x
            → (better q r ≡ true → fold (better_of better) (Some q) xs ≡ Some x → IsBest ((seen ++ q ∷ []) ++ xs) x)
            → (better q r ≡ false → fold (better_of better) (Some r) xs ≡ Some x → IsBest ((seen ++ q ∷ []) ++ xs) x)
            → IsBest ((seen ++ q ∷ []) ++ xs) x
        go true t k new old = new t k
        go false t k new old = old t k

    first-best : (q : A) → IsBest (q ∷ []) q
    first-best q = record { earlier = []; later = []; place = refl; ahead = λ x a. absurd a; unbeaten = λ x a. here x a }
      where
        here : (x : A) → Among (q ∷ []) x → better x q ≡ false
        here x (inl s) = subst (λ y. better y q ≡ false) s (o.itself q)
        here x (inr a) = absurd a

    best-is : (xs : List A) (x : A) → foremost better xs ≡ Some x → IsBest xs x
    best-is [] x e = absurd cc
    best-is (q ∷ xs) x e = fold-best (q ∷ []) xs q x (first-best q) e

    pub foremost-unbeaten : (xs : List A) (x y : A) → foremost better xs ≡ Some x → Among xs y → better y x ≡ false
    foremost-unbeaten xs x y e a = (best-is xs x e).unbeaten y a

    pub foremost-is : (xs : List A) (x : A) → foremost better xs ≡ Some x → IsForemost better xs x
    foremost-is xs x e = let h = best-is xs x e in record {
      earlier = h.earlier;
      later = h.later;
      place = h.place;
      ahead = All-each (λ y. better x y ≡ true) h.earlier h.ahead;
      unbeaten = All-each (λ y. better y x ≡ false) xs h.unbeaten;
    }
