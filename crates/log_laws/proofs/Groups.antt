-- The foremost of the foremosts of groups is the foremost of them all.
use Rattle.std.proofs.Common.{◌≡◌, Bool, true, false, if◌then◌else◌, List, [], ◌∷◌, ◌++◌, fold, map, filter_map, Option, Some, None, sym, refl, ap, ◌∙◌}
use Rattle.std.specs.Prelude.{flat_map, option_map}
use Rattle.std.specs.List.{cons_option}
use Rattle.std.proofs.lemmas.Bool.{both_ways}
use Rattle.std.proofs.lemmas.List.Sums.{fold-append}
use Rattle.run_specs.specs.Order.{better_of, foremost}
use Rattle.bus_sound.proofs.Orders.{IsOrder}

-- the better of two that may be there, the first where neither is better
better_part : {A : Type 0} → (A → A → Bool) → Option A → Option A → Option A
better_part better o None = o
better_part better o (Some y) = better_of better o y

module _ {A : Type 0} (better : A → A → Bool) (order : IsOrder better) where
  choose : (r x y : A) → better_of better (better_of better (Some r) x) y ≡ better_part better (Some r) (better_of better (Some x) y)
  unfolding better_part
  choose r x y = go (better x r) (better y x) refl refl
    where
      chain : (t : Bool) → better y r ≡ t → better x r ≡ true → better y x ≡ true → Some y ≡ (if t then Some y else Some r)
      chain true k p q = refl
      chain false k p q = absurd (both_ways (better y r) k (order.through y x r q p))

      apart : (t : Bool) → better y r ≡ t → better x r ≡ false → better y x ≡ false → (if t then Some y else Some r) ≡ Some r
      apart false k p q = refl
      apart true k p q = absurd (both_ways (better y x) q (order.over y x r k p))

      go : (t u : Bool) → better x r ≡ t → better y x ≡ u
          → better_of better (if t then Some x else Some r) y ≡ better_part better (Some r) (if u then Some y else Some x)
      go true true p q = rw q (chain (better y r) refl p q)
      go true false p q = rw (q, p) refl
      go false true p q = refl
      go false false p q = rw p (apart (better y r) refl p q)

  join : (o : Option A) (x : A) (p : Option A) → better_part better (better_of better o x) p ≡ better_part better o (better_part better (Some x) p)
  unfolding better_part
  join o x None = refl
  join None x (Some y) = go (better y x)
    where
      go : (t : Bool) → (if t then Some y else Some x) ≡ better_part better None (if t then Some y else Some x)
      go true = refl
      go false = refl
  join (Some r) x (Some y) = choose r x y

  fold-part : (xs : List A) (o : Option A) → fold (better_of better) o xs ≡ better_part better o (foremost better xs)
  unfolding better_part
  fold-part [] o = refl
  fold-part (x ∷ xs) o = fold-part xs (better_of better o x) ∙ join o x (foremost better xs)
      ∙ ap (better_part better o) (sym (fold-part xs (Some x)))

  foremost-append : (xs ys : List A) → foremost better (xs ++ ys) ≡ better_part better (foremost better xs) (foremost better ys)
  foremost-append xs ys = fold-append (better_of better) None xs ys ∙ fold-part ys (foremost better xs)

  pub foremost-groups : {X : Type 0} (f : X → List A) (xs : List X) → foremost better (flat_map f xs) ≡ foremost better (filter_map (λ x. foremost better (f x)) xs)
  unfolding better_part
  foremost-groups f [] = refl
  foremost-groups f (x ∷ xs) = foremost-append (f x) (flat_map f xs)
      ∙ ap (better_part better (foremost better (f x))) (foremost-groups f xs)
      ∙ go (foremost better (f x))
    where
      rest : List A
      rest = filter_map (λ x. foremost better (f x)) xs

      go : (o : Option A) → better_part better o (foremost better rest) ≡ foremost better (cons_option o rest)
      go None = none (foremost better rest)
        where
          none : (p : Option A) → better_part better None p ≡ p
          none None = refl
          none (Some y) = refl
      go (Some y) = sym (fold-part rest (Some y))

-- a map that keeps what is better
fold-map : {A B : Type 0} (better : A → A → Bool) (better' : B → B → Bool) (g : A → B) → ((x y : A) → better' (g x) (g y) ≡ better x y)
    → (xs : List A) (o : Option A) → fold (better_of better') (option_map g o) (map g xs) ≡ option_map g (fold (better_of better) o xs)
fold-map better better' g k [] o = refl
fold-map {A} {B} better better' g k (x ∷ xs) o = ap (λ p. fold (better_of better') p (map g xs)) (one o) ∙ fold-map better better' g k xs (better_of better o x)
  where
    one : (o : Option A) → better_of better' (option_map g o) (g x) ≡ option_map g (better_of better o x)
    one None = refl
    one (Some r) = rw (k x r) (go (better x r))
      where
        go : (t : Bool) → (if t then Some (g x) else Some (g r)) ≡ option_map g (if t then Some x else Some r)
        go true = refl
        go false = refl

pub foremost-map : {A B : Type 0} (better : A → A → Bool) (better' : B → B → Bool) (g : A → B) → ((x y : A) → better' (g x) (g y) ≡ better x y)
    → (xs : List A) → foremost better' (map g xs) ≡ option_map g (foremost better xs)
foremost-map better better' g k xs = fold-map better better' g k xs None
