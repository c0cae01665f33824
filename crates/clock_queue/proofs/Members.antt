-- What is among a list, a filter of it, and lists without repeats.
use Rattle.std.proofs.Common.{◌≡◌, ◌<◌, ℕ, zero, suc, Bool, true, false, cond, List, [], ◌∷◌, length, get_or, take, sym, refl, ap, ◌∙◌, inl}
use Rattle.std.proofs.Common.{inr, arith}
use Rattle.std.specs.List.{filter}
use Rattle.clock_queue.specs.Order.{Among}

-- a filter gives the items that pass
module _ {A : Type 0} (p : A → Bool) where
  pub in_filter : (xs : List A) (x : A) → Among (filter p xs) x → Among xs x × (p x ≡ true)
  in_filter [] x a = absurd a
  in_filter (y ∷ xs) x a = go (p y) refl a (λ b. in_filter xs x b)
    where
      go : (b : Bool) → p y ≡ b → Among (cond b (y ∷ filter p xs) (filter p xs)) x
          → (Among (filter p xs) x → Among xs x × (p x ≡ true)) → Among (y ∷ xs) x × (p x ≡ true)
      go true e (inl s) on = (inl s, ap p s ∙ e)
      go true e (inr a) on = (inr (on a).0, (on a).1)
      go false e a on = (inr (on a).0, (on a).1)

  pub filter_has : (xs : List A) (x : A) → Among xs x → p x ≡ true → Among (filter p xs) x
  filter_has [] x a e = absurd a
  filter_has (y ∷ xs) x a e = go (p y) refl a (λ b. filter_has xs x b e)
    where
      go : (b : Bool) → p y ≡ b → Among (y ∷ xs) x → (Among xs x → Among (filter p xs) x)
          → Among (cond b (y ∷ filter p xs) (filter p xs)) x
      go true t (inl s) on = inl s
      go true t (inr a) on = inr (on a)
      go false t (inl s) on = absurd (let h : p x ≡ p y = ap p s in cc)
      go false t (inr a) on = on a

  -- where all pass, all are kept
  pub filter_all : (xs : List A) → ((x : A) → Among xs x → p x ≡ true) → filter p xs ≡ xs
  filter_all [] h = refl
  filter_all (y ∷ xs) h = go (p y) (h y (inl refl)) (filter_all xs (λ x a. h x (inr a)))
    where
      go : (b : Bool) → b ≡ true → filter p xs ≡ xs → cond b (y ∷ filter p xs) (filter p xs) ≡ y ∷ xs
      go true t e = ap (λ ys. y ∷ ys) e
      go false t e = absurd cc

  -- where none passes, none is kept
  pub filter_none : (xs : List A) → ((x : A) → Among xs x → p x ≡ false) → filter p xs ≡ []
  filter_none [] h = refl
  filter_none (y ∷ xs) h = go (p y) (h y (inl refl)) (filter_none xs (λ x a. h x (inr a)))
    where
      go : (b : Bool) → b ≡ false → filter p xs ≡ [] → cond b (y ∷ filter p xs) (filter p xs) ≡ []
      go true t e = absurd cc
      go false t e = e

-- an item at an index is among the list
pub among_get_or : {A : Type 0} (xs : List A) (i : ℕ) (d : A) → i < length xs → Among xs (get_or xs i d)
among_get_or [] i d h = absurd (omega arith)
among_get_or (x ∷ xs) zero d h = inl refl
among_get_or (x ∷ xs) (suc i) d h = inr (among_get_or xs i d (omega arith))

pub among_take : {A : Type 0} (n : ℕ) (xs : List A) (x : A) → Among (take n xs) x → Among xs x
among_take zero xs x a = absurd a
among_take (suc n) [] x a = absurd a
among_take (suc n) (y ∷ xs) x (inl s) = inl s
among_take (suc n) (y ∷ xs) x (inr a) = inr (among_take n xs x a)

-- each number is below those behind it
abbrev pub IsRising : List ℕ → Type 0
IsRising [] = Unit {0}
IsRising (first ∷ others) = ((x : ℕ) → Among others x → first < x) × IsRising others

-- two rising lists of the same numbers are equal
pub same_rising : (xs ys : List ℕ) → IsRising xs → IsRising ys → ((x : ℕ) → Among xs x → Among ys x)
    → ((y : ℕ) → Among ys y → Among xs y) → xs ≡ ys
same_rising [] [] r s there back = refl
same_rising [] (y ∷ ys) r s there back = absurd (back y (inl refl))
same_rising (x ∷ xs) [] r s there back = absurd (there x (inl refl))
same_rising (x ∷ xs) (y ∷ ys) r s there back =
    ap (λ z. z ∷ xs) same ∙ ap (λ zs. y ∷ zs) (same_rising xs ys r.1 s.1 tail_there tail_back)
  where
    heads : Among (y ∷ ys) x → Among (x ∷ xs) y → x ≡ y
    heads (inl e) b = e
    heads (inr a) (inl e) = sym e
    heads (inr a) (inr b) = absurd (let h = s.0 x a in let k = r.0 y b in omega arith)

    same : x ≡ y
    same = heads (there x (inl refl)) (back y (inl refl))

    tail_there : (z : ℕ) → Among xs z → Among ys z
    tail_there z a = go (there z (inr a))
      where
        go : Among (y ∷ ys) z → Among ys z
        go (inl e) = absurd (let h = r.0 z a in omega (arith, same, e))
        go (inr b) = b

    tail_back : (z : ℕ) → Among ys z → Among xs z
    tail_back z a = go (back z (inr a))
      where
        go : Among (x ∷ xs) z → Among xs z
        go (inl e) = absurd (let h = s.0 z a in omega (arith, same, e))
        go (inr b) = b

-- no number stands twice
abbrev pub IsDistinct : List ℕ → Type 0
IsDistinct [] = Unit {0}
IsDistinct (first ∷ others) = (¬ Among others first) × IsDistinct others

pub distinct_filter : (p : ℕ → Bool) (xs : List ℕ) → IsDistinct xs → IsDistinct (filter p xs)
distinct_filter p [] d = tt
distinct_filter p (x ∷ xs) d = go (p x) (distinct_filter p xs d.1)
  where
    go : (b : Bool) → IsDistinct (filter p xs) → IsDistinct (cond b (x ∷ filter p xs) (filter p xs))
    go true r = (λ a. d.0 (in_filter p xs x a).0, r)
    go false r = r
