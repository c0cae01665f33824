-- Requests by rising numbers.
use Rattle.std.proofs.Common.{◌≡◌, ◌⊎◌, ◌<◌, Bool, true, false, cond, ltb, eqb, eqb-true, List, [], ◌∷◌, sym, refl, ap, ◌∙◌}
use Rattle.std.proofs.Common.{subst, inl, inr, arith}
use Rattle.std.specs.List.{filter}
use Rattle.std.proofs.lemmas.Bool.Decides.{nat_tests}
use Rattle.bus_specs.specs.Bus.{Request}
use Rattle.pending_frames.specs.Kept.{Placed, Among, put, by_number}
use Rattle.pending_frames.proofs.Members.{in_filter}

-- each number is below those behind it
abbrev pub IsRising : List Request → Type 0
IsRising [] = Unit {0}
IsRising (first ∷ others) = ((r : Request) → Among others r → first.number < r.number) × IsRising others

-- two rising lists of the same requests are equal
pub same_rising : (xs ys : List Request) → IsRising xs → IsRising ys → ((x : Request) → Among xs x → Among ys x)
    → ((y : Request) → Among ys y → Among xs y) → xs ≡ ys
same_rising [] [] r s there back = refl
same_rising [] (y ∷ ys) r s there back = absurd (back y (inl refl))
same_rising (x ∷ xs) [] r s there back = absurd (there x (inl refl))
same_rising (x ∷ xs) (y ∷ ys) r s there back =
    ap (λ z. z ∷ xs) same ∙ ap (λ zs. y ∷ zs) (same_rising xs ys r.1 s.1 tail_there tail_back)
  where
    same : x ≡ y
    same = go (there x (inl refl)) (back y (inl refl))
      where
        go : (x ≡ y) ⊎ Among ys x → (y ≡ x) ⊎ Among xs y → x ≡ y
        go (inl e) k = e
        go (inr a) (inl e) = sym e
        go (inr a) (inr b) = let h = s.0 x a in let k = r.0 y b in absurd (omega arith)

    number_same : x.number ≡ y.number
    number_same = ap (λ (z : Request). z.number) same

    tail_there : (z : Request) → Among xs z → Among ys z
    tail_there z a = go (there z (inr a))
      where
        go : (z ≡ y) ⊎ Among ys z → Among ys z
        go (inl e) = let h = r.0 z a in let k = ap (λ (q : Request). q.number) e in absurd (omega (arith, number_same))
        go (inr b) = b

    tail_back : (z : Request) → Among ys z → Among xs z
    tail_back z a = go (back z (inr a))
      where
        go : (z ≡ x) ⊎ Among xs z → Among xs z
        go (inl e) = let h = s.0 z a in let k = ap (λ (q : Request). q.number) e in absurd (omega (arith, number_same))
        go (inr b) = b

-- a filter keeps the order
pub filter_rising : (p : Request → Bool) (rs : List Request) → IsRising rs → IsRising (filter p rs)
filter_rising p [] h = tt
filter_rising p (r ∷ rs) h = go (p r) (filter_rising p rs h.1)
  where
    go : (b : Bool) → IsRising (filter p rs) → IsRising (cond b (r ∷ filter p rs) (filter p rs))
    go true k = ((λ q a. h.0 q (in_filter p rs q a).0), k)
    go false k = k

-- what `put` does, by the numbers
module _ (r q : Request) (rs : List Request) where
  abbrev pub Three : Type 0
  Three = ((r.number < q.number) × (put r (q ∷ rs) ≡ r ∷ q ∷ rs)) ⊎ (((q.number ≡ r.number) × (put r (q ∷ rs) ≡ q ∷ rs))
      ⊎ ((q.number < r.number) × (put r (q ∷ rs) ≡ q ∷ put r rs)))

  pub three : Three
  three = go (ltb r.number q.number) refl (eqb q.number r.number) refl
    where
      go : (s : Bool) → ltb r.number q.number ≡ s → (t : Bool) → eqb q.number r.number ≡ t → Three
      go true e t f = inl (grind (arith, nat_tests), rw e refl)
      go false e true f = inr (inl (eqb-true q.number r.number f, rw (e, f) refl))
      go false e false f = inr (inr (grind (arith, nat_tests), rw (e, f) refl))

pub put_in : (r : Request) (rs : List Request) (x : Request) → Among (put r rs) x → (x ≡ r) ⊎ Among rs x
put_in r [] x a = a
put_in r (q ∷ rs) x a = go (three r q rs) (put_in r rs x)
  where
    shift : (x ≡ r) ⊎ Among rs x → (x ≡ r) ⊎ Among (q ∷ rs) x
    shift (inl s) = inl s
    shift (inr c) = inr (inr c)

    deeper : (x ≡ q) ⊎ Among (put r rs) x → (Among (put r rs) x → (x ≡ r) ⊎ Among rs x) → (x ≡ r) ⊎ Among (q ∷ rs) x
    deeper (inl s) on = inr (inl s)
    deeper (inr b) on = shift (on b)

    go : Three r q rs → (Among (put r rs) x → (x ≡ r) ⊎ Among rs x) → (x ≡ r) ⊎ Among (q ∷ rs) x
    go (inl h) on = subst (λ l. Among l x) h.1 a
    go (inr (inl h)) on = inr (subst (λ l. Among l x) h.1 a)
    go (inr (inr h)) on = deeper (subst (λ l. Among l x) h.1 a) on

pub put_keeps : (r : Request) (rs : List Request) (x : Request) → Among rs x → Among (put r rs) x
put_keeps r [] x a = absurd a
put_keeps r (q ∷ rs) x a = go (three r q rs) (put_keeps r rs x)
  where
    deeper : (x ≡ q) ⊎ Among rs x → (Among rs x → Among (put r rs) x) → Among (q ∷ put r rs) x
    deeper (inl s) on = inl s
    deeper (inr b) on = inr (on b)

    go : Three r q rs → (Among rs x → Among (put r rs) x) → Among (put r (q ∷ rs)) x
    go (inl h) on = subst (λ l. Among l x) (sym h.1) (inr a)
    go (inr (inl h)) on = subst (λ l. Among l x) (sym h.1) a
    go (inr (inr h)) on = subst (λ l. Among l x) (sym h.1) (deeper a on)

-- it is there then, unless another has its number
pub put_has : (r : Request) (rs : List Request) → ((q : Request) → Among rs q → q.number ≡ r.number → q ≡ r) → Among (put r rs) r
put_has r [] same = inl refl
put_has r (q ∷ rs) same = go (three r q rs) (put_has r rs (λ p a. same p (inr a)))
  where
    go : Three r q rs → Among (put r rs) r → Among (put r (q ∷ rs)) r
    go (inl h) on = subst (λ l. Among l r) (sym h.1) (inl refl)
    go (inr (inl h)) on = subst (λ l. Among l r) (sym h.1) (inl (sym (same q (inl refl) h.0)))
    go (inr (inr h)) on = subst (λ l. Among l r) (sym h.1) (inr on)

pub put_rising : (r : Request) (rs : List Request) → IsRising rs → IsRising (put r rs)
put_rising r [] h = ((λ q a. absurd a), tt)
put_rising r (q ∷ rs) h = go (three r q rs) (put_rising r rs h.1)
  where
    go : Three r q rs → IsRising (put r rs) → IsRising (put r (q ∷ rs))
    go (inl k) on = subst IsRising (sym k.1) (ahead, h)
      where
        ahead : (p : Request) → Among (q ∷ rs) p → r.number < p.number
        ahead p (inl e) = subst (λ (z : Request). r.number < z.number) (sym e) k.0
        ahead p (inr a) = let l = h.0 p a in let m = k.0 in omega arith
    go (inr (inl k)) on = subst IsRising (sym k.1) h
    go (inr (inr k)) rising = subst IsRising (sym k.1) (ahead, rising)
      where
        ahead : (p : Request) → Among (put r rs) p → q.number < p.number
        ahead p a = on (put_in r rs p a)
          where
            on : (p ≡ r) ⊎ Among rs p → q.number < p.number
            on (inl e) = subst (λ (z : Request). q.number < z.number) (sym e) k.0
            on (inr b) = h.0 p b

pub rising_by_number : (es : List Placed) → IsRising (by_number es)
rising_by_number [] = tt
rising_by_number (a ∷ es) = put_rising a.1 (by_number es) (rising_by_number es)

pub in_by_number : (es : List Placed) (x : Request) → Among (by_number es) x → (a : Placed) × Among es a × (x ≡ a.1)
in_by_number [] x h = absurd h
in_by_number (a ∷ es) x h = go (put_in a.1 (by_number es) x h) (in_by_number es x)
  where
    go : (x ≡ a.1) ⊎ Among (by_number es) x → (Among (by_number es) x → (b : Placed) × Among es b × (x ≡ b.1))
        → (b : Placed) × Among (a ∷ es) b × (x ≡ b.1)
    go (inl e) on = (a, inl refl, e)
    go (inr b) on = let r = on b in (r.0, inr r.1, r.2)

pub by_number_has : (es : List Placed) → ((a b : Placed) → Among es a → Among es b → a.1.number ≡ b.1.number → a ≡ b)
    → (a : Placed) → Among es a → Among (by_number es) a.1
by_number_has [] one a h = absurd h
by_number_has (b ∷ es) one a h = go h (by_number_has es (λ c d x y. one c d (inr x) (inr y)) a)
  where
    go : (a ≡ b) ⊎ Among es a → (Among es a → Among (by_number es) a.1) → Among (put b.1 (by_number es)) a.1
    go (inl e) on = subst (λ (c : Placed). Among (put b.1 (by_number es)) c.1) (sym e) (put_has b.1 (by_number es) same)
      where
        same : (q : Request) → Among (by_number es) q → q.number ≡ b.1.number → q ≡ b.1
        same q k n =
            let r = in_by_number es q k in
            r.2 ∙ ap (λ (c : Placed). c.1) (one r.0 b (inr r.1) (inl refl) (ap (λ (z : Request). z.number) (sym r.2) ∙ n))
    go (inr k) on = put_keeps b.1 (by_number es) a.1 (on k)
