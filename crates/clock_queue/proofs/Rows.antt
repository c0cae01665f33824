-- A row and the places of its entries, behind an exchange of two; and which entries stand in front.
use Rattle.std.proofs.Common.{◌≡◌, ◌≢◌, ◌⊎◌, ◌<◌, ℕ, List, length, slice_index, set, Option, IsSome, sym, refl, ap, ◌∙◌, inl, inr, arith}
use Rattle.std.proofs.Common.{length-set, get_or-set_same, get_or-set_other}
use Rattle.std.proofs.lemmas.Bool.{cases_eq}
use Rattle.std.specs.List.{SwappedAt}
use Rattle.clock_queue.specs.Dues.{due_of}
use Rattle.clock_queue.specs.Order.{AreInverse, AreParted}

-- an entry stands at one place only
pub one_place : (row places : List ℕ) (a b : ℕ) → AreInverse row places → a < length row → b < length row
    → slice_index row a ≡ slice_index row b → a ≡ b
one_place row places a b h x y e = sym (h.there a x) ∙ (ap (λ n. slice_index places n) e ∙ h.there b y)

module _ (xs ys : List ℕ) (a b : ℕ) (sw : SwappedAt xs ys a b) where
  -- what stands at a place behind the exchange stood at some place before
  pub place_before : (i : ℕ) → (j : ℕ) × (slice_index ys i ≡ slice_index xs j)
      × ((i ≡ a) × (j ≡ b) ⊎ ((i ≡ b) × (j ≡ a) ⊎ ((i ≡ a → ⊥) × (i ≡ b → ⊥) × (j ≡ i))))
  place_before i = go (cases_eq i a) (cases_eq i b)
    where
      go : (i ≡ a) ⊎ (i ≡ a → ⊥) → (i ≡ b) ⊎ (i ≡ b → ⊥)
          → (j : ℕ) × (slice_index ys i ≡ slice_index xs j)
          × ((i ≡ a) × (j ≡ b) ⊎ ((i ≡ b) × (j ≡ a) ⊎ ((i ≡ a → ⊥) × (i ≡ b → ⊥) × (j ≡ i))))
      go (inl e) t = (b, ap (λ n. slice_index ys n) e ∙ sw.0 0, inl (e, refl))
      go (inr n) (inl e) = (a, ap (λ n. slice_index ys n) e ∙ sw.1 0, inr (inl (e, refl)))
      go (inr n) (inr m) = (i, sw.2 i 0 n m, inr (inr (n, m, refl)))

module _ (xs ys places : List ℕ) (a b : ℕ) (sw : SwappedAt xs ys a b) (long : length ys ≡ length xs) (h : AreInverse xs places)
    (x : a < length xs) (y : b < length xs) where
  abbrev pub moved : List ℕ
  moved = set (set places (slice_index ys a) a) (slice_index ys b) b

  at_first : slice_index ys a ≡ slice_index xs b
  at_first = sw.0 0

  at_second : slice_index ys b ≡ slice_index xs a
  at_second = sw.1 0

  first_within : slice_index ys a < length places
  first_within = let k = h.entry_at b y in omega (arith, at_first, h.same)

  second_within : slice_index ys b < length places
  second_within = let k = h.entry_at a x in omega (arith, at_second, h.same)

  -- where the places say that these two stand, and the others
  of_second : slice_index moved (slice_index ys b) ≡ b
  of_second = get_or-set_same (set places (slice_index ys a) a) (slice_index ys b) b 0
      (omega (arith, second_within, length-set places (slice_index ys a) a))

  of_first : slice_index ys a ≢ slice_index ys b → slice_index moved (slice_index ys a) ≡ a
  of_first n = get_or-set_other (set places (slice_index ys a) a) (slice_index ys b) (slice_index ys a) b 0 n
      ∙ get_or-set_same places (slice_index ys a) a 0 first_within

  of_other : (e : ℕ) → e ≢ slice_index ys a → e ≢ slice_index ys b → slice_index moved e ≡ slice_index places e
  of_other e n m = get_or-set_other (set places (slice_index ys a) a) (slice_index ys b) e b 0 m
      ∙ get_or-set_other places (slice_index ys a) e a 0 n

  pub inverse_exchanged : AreInverse ys moved
  inverse_exchanged = record {
    same = omega (
      arith,
      length-set (set places (slice_index ys a) a) (slice_index ys b) b,
      length-set places
          (slice_index ys a) a,
      h.same,
      long,
    );
    entry_at = entry_at;
    place_of = place_of;
    there = there;
    back = back;
  }
    where
      entry_at : (i : ℕ) → i < length ys → slice_index ys i < length ys
      entry_at i l = go (place_before xs ys a b sw i).0 (place_before xs ys a b sw i).1 (place_before xs ys a b sw i).2
        where
          go : (j : ℕ) → slice_index ys i ≡ slice_index xs j
              → ((i ≡ a) × (j ≡ b) ⊎ ((i ≡ b) × (j ≡ a) ⊎ ((i ≡ a → ⊥) × (i ≡ b → ⊥) × (j ≡ i)))) → slice_index ys i < length ys
          go j e (inl t) = let k = h.entry_at j (omega (arith, t.1)) in omega (arith, e, k)
          go j e (inr (inl t)) = let k = h.entry_at j (omega (arith, t.1)) in omega (arith, e, k)
          go j e (inr (inr t)) = let k = h.entry_at j (omega (arith, t.2)) in omega (arith, e, k)

      place_of : (e : ℕ) → e < length ys → slice_index moved e < length ys
      place_of e l = go (cases_eq e (slice_index ys b)) (cases_eq e (slice_index ys a))
        where
          go : (e ≡ slice_index ys b) ⊎ (e ≡ slice_index ys b → ⊥) → (e ≡ slice_index ys a) ⊎ (e ≡ slice_index ys a → ⊥)
              → slice_index moved e < length ys
          go (inl s) t = let k = ap (λ n. slice_index moved n) s ∙ of_second in omega (arith, k)
          go (inr n) (inl s) = let k = ap (λ n. slice_index moved n) s ∙ of_first (λ u. n (s ∙ u)) in omega (arith, k)
          go (inr n) (inr m) = let k = of_other e m n in let q = h.place_of e (omega arith) in omega (arith, k, q)

      there : (i : ℕ) → i < length ys → slice_index moved (slice_index ys i) ≡ i
      there i l = go (cases_eq i b) (cases_eq i a)
        where
          go : (i ≡ b) ⊎ (i ≡ b → ⊥) → (i ≡ a) ⊎ (i ≡ a → ⊥) → slice_index moved (slice_index ys i) ≡ i
          go (inl s) t = ap (λ n. slice_index moved (slice_index ys n)) s ∙ (of_second ∙ sym s)
          go (inr n) (inl s) = ap (λ n. slice_index moved (slice_index ys n)) s
              ∙ (of_first (λ u. n (s ∙ sym (one_place xs places b a h y x (sym at_first ∙ (u ∙ at_second))))) ∙ sym s)
          go (inr n) (inr m) =
              let e = sw.2 i 0 m n in
              ap (λ k. slice_index moved k) e
              ∙ (of_other (slice_index xs i) (λ u. n (one_place xs places i b h (omega arith) y (u ∙ at_first)))
              (λ u. m (one_place xs places i a h (omega arith) x (u ∙ at_second)))
              ∙ h.there i (omega arith))

      back : (e : ℕ) → e < length ys → slice_index ys (slice_index moved e) ≡ e
      back e l = go (cases_eq e (slice_index ys b)) (cases_eq e (slice_index ys a))
        where
          go : (e ≡ slice_index ys b) ⊎ (e ≡ slice_index ys b → ⊥) → (e ≡ slice_index ys a) ⊎ (e ≡ slice_index ys a → ⊥)
              → slice_index ys (slice_index moved e) ≡ e
          go (inl s) t = ap (λ n. slice_index ys n) (ap (λ n. slice_index moved n) s ∙ of_second) ∙ sym s
          go (inr n) (inl s) = ap (λ n. slice_index ys n) (ap (λ n. slice_index moved n) s ∙ of_first (λ u. n (s ∙ u))) ∙ sym s
          go (inr n) (inr m) =
              let q = h.back e (omega arith) in
              ap (λ k. slice_index ys k) (of_other e m n)
              ∙ (sw.2 (slice_index places e) 0 (λ u. n (sym q ∙ (ap (λ k. slice_index xs k) u ∙ sym at_second)))
              (λ u. m (sym q ∙ (ap (λ k. slice_index xs k) u ∙ sym at_first))) ∙ q)

module _ {D : Type 0} where
  -- an exchange in front keeps the parts
  pub parted_exchanged : (dues : List (Option D)) (row places row' places' : List ℕ) (count a b : ℕ) → AreParted dues row places count
      → SwappedAt row row' a b → length row' ≡ length row → AreInverse row' places' → a < count → b < count
      → AreParted dues row' places' count
  parted_exchanged dues row places row' places' count a b h sw long inv x y = record {
    inverse = inv;
    entries = omega (arith, long, h.entries);
    within = omega (arith, long, h.within);
    front = front;
    rest = λ i l m. let e = sw.2 i 0 (λ u. absurd (omega arith)) (λ u. absurd (omega arith)) in rw e (h.rest i l (omega (arith, long)));
  }
    where
      front : (i : ℕ) → i < count → IsSome (due_of dues (slice_index row' i))
      front i l = go (place_before row row' a b sw i).0 (place_before row row' a b sw i).1 (place_before row row' a b sw i).2
        where
          go : (j : ℕ) → slice_index row' i ≡ slice_index row j
              → ((i ≡ a) × (j ≡ b) ⊎ ((i ≡ b) × (j ≡ a) ⊎ ((i ≡ a → ⊥) × (i ≡ b → ⊥) × (j ≡ i))))
              → IsSome (due_of dues (slice_index row' i))
          go j e (inl t) = rw e (h.front j (omega (arith, t.1)))
          go j e (inr (inl t)) = rw e (h.front j (omega (arith, t.1)))
          go j e (inr (inr t)) = rw e (h.front j (omega (arith, t.2)))

module _ (xs ys places : List ℕ) (a b : ℕ) (sw : SwappedAt xs ys a b) (long : length ys ≡ length xs) (h : AreInverse xs places)
    (x : a < length xs) (y : b < length xs) where
  -- the same for what the code wrote
  pub inverse_by : (first second : ℕ) → first ≡ slice_index ys a → second ≡ slice_index ys b
      → AreInverse ys (set (set places first a) second b)
  inverse_by first second e f = rw (e, f) (inverse_exchanged xs ys places a b sw long h x y)
