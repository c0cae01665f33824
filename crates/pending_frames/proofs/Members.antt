-- What is among a list, a filter of it, and joined lists.
use Rattle.std.proofs.Common.{◌≡◌, ◌⊎◌, ℕ, zero, suc, Bool, true, false, cond, List, [], ◌∷◌, ◌++◌, refl, ap, ◌∙◌, inl, inr}
use Rattle.std.specs.List.{filter}
use Rattle.index_list.specs.Many.{list_at}
use Rattle.pending_frames.specs.Kept.{Placed, Among, joined}

-- a filter gives the items that pass
module _ {A : Type 0} (p : A → Bool) where
  pub in_filter : (xs : List A) (x : A) → Among (filter p xs) x → Among xs x × (p x ≡ true)
  in_filter [] x a = absurd a
  in_filter (y ∷ xs) x a = go (p y) refl a (λ b. in_filter xs x b)
    where
      go : (b : Bool) → p y ≡ b → Among (cond b (y ∷ filter p xs) (filter p xs)) x
          → (Among (filter p xs) x → Among xs x × (p x ≡ true)) → Among (y ∷ xs) x × (p x ≡ true)
      go true e (inl s) on = (inl s, ap p s ∙ e)
      go true e (inr a) on = (inr (on a).0, (on a).1)
      go false e a on = (inr (on a).0, (on a).1)

  pub filter_has : (xs : List A) (x : A) → Among xs x → p x ≡ true → Among (filter p xs) x
  filter_has [] x a e = absurd a
  filter_has (y ∷ xs) x a e = go (p y) refl a (λ b. filter_has xs x b e)
    where
      go : (b : Bool) → p y ≡ b → Among (y ∷ xs) x → (Among xs x → Among (filter p xs) x)
          → Among (cond b (y ∷ filter p xs) (filter p xs)) x
      go true t (inl s) on = inl s
      go true t (inr a) on = inr (on a)
      go false t (inl s) on = absurd (let h : p x ≡ p y = ap p s in cc)
      go false t (inr a) on = on a

  -- where all pass, all are kept
  pub filter_all : (xs : List A) → ((x : A) → Among xs x → p x ≡ true) → filter p xs ≡ xs
  filter_all [] h = refl
  filter_all (y ∷ xs) h = go (p y) (h y (inl refl)) (filter_all xs (λ x a. h x (inr a)))
    where
      go : (b : Bool) → b ≡ true → filter p xs ≡ xs → cond b (y ∷ filter p xs) (filter p xs) ≡ y ∷ xs
      go true t e = ap (λ ys. y ∷ ys) e
      go false t e = absurd cc

  -- where none passes, none is kept
  pub filter_none : (xs : List A) → ((x : A) → Among xs x → p x ≡ false) → filter p xs ≡ []
  filter_none [] h = refl
  filter_none (y ∷ xs) h = go (p y) (h y (inl refl)) (filter_none xs (λ x a. h x (inr a)))
    where
      go : (b : Bool) → b ≡ false → filter p xs ≡ [] → cond b (y ∷ filter p xs) (filter p xs) ≡ []
      go true t e = absurd cc
      go false t e = e

module _ {A : Type 0} where
  pub in_append : (xs ys : List A) (x : A) → Among (xs ++ ys) x → Among xs x ⊎ Among ys x
  in_append [] ys x a = inr a
  in_append (y ∷ xs) ys x (inl s) = inl (inl s)
  in_append (y ∷ xs) ys x (inr a) = go (in_append xs ys x a)
    where
      go : Among xs x ⊎ Among ys x → Among (y ∷ xs) x ⊎ Among ys x
      go (inl b) = inl (inr b)
      go (inr b) = inr b

  pub append_first : (xs ys : List A) (x : A) → Among xs x → Among (xs ++ ys) x
  append_first [] ys x a = absurd a
  append_first (y ∷ xs) ys x (inl s) = inl s
  append_first (y ∷ xs) ys x (inr a) = inr (append_first xs ys x a)

  pub append_second : (xs ys : List A) (x : A) → Among ys x → Among (xs ++ ys) x
  append_second [] ys x a = a
  append_second (y ∷ xs) ys x a = inr (append_second xs ys x a)

-- what is joined is among one of the lists
pub in_joined : (lists : List (List Placed)) (a : Placed) → Among (joined lists) a → (i : ℕ) × Among (list_at lists i) a
in_joined [] a h = absurd h
in_joined (list ∷ lists) a h = go (in_append list (joined lists) a h) (in_joined lists a)
  where
    go : Among list a ⊎ Among (joined lists) a → (Among (joined lists) a → (i : ℕ) × Among (list_at lists i) a)
        → (i : ℕ) × Among (list_at (list ∷ lists) i) a
    go (inl b) on = (0, b)
    go (inr b) on = let r = on b in (suc r.0, r.1)

pub joined_has : (lists : List (List Placed)) (i : ℕ) (a : Placed) → Among (list_at lists i) a → Among (joined lists) a
joined_has [] i a h = absurd h
joined_has (list ∷ lists) zero a h = append_first list (joined lists) a h
joined_has (list ∷ lists) (suc i) a h = append_second list (joined lists) a (joined_has lists i a h)
