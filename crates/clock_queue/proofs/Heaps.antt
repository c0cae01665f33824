-- A heap but for one entry: what a step up and a step down leave, where it is a heap, and what stands on top.
use Rattle.std.proofs.Common.{◌≡◌, ◌≢◌, ◌⊎◌, ◌<◌, ◌≤◌, ◌+◌, ◌*◌, ◌-◌, ◌/◌, ℕ, zero, suc, true, false, List, slice_index, refl, ap, ◌∙◌, inl}
use Rattle.std.proofs.Common.{inr, arith}
use Rattle.std.proofs.lemmas.Bool.{cases_eq}
use Rattle.std.specs.List.{SwappedAt}
use Rattle.clock_queue.specs.Order.{before, NotBefore, IsHeap, IsHeapBut, IsUnder, NoneBelow}
use Rattle.clock_queue.proofs.Comes.{comes_chain, comes_one_way, comes_itself}

module _ (r : ℕ → ℕ) where
  chain : (x y z : ℕ) → before r x y ≡ false → before r y z ≡ false → before r x z ≡ false
  chain x y z e f = comes_chain (r x) (r y) (r z) x y z e f

  one_way : (x y : ℕ) → before r x y ≡ true → before r y x ≡ false
  one_way x y e = comes_one_way (r x) (r y) x y e

  itself : (x : ℕ) → before r x x ≡ false
  itself x = comes_itself (r x) x

  -- what is said of these entries is said of the same at other places
  by : (x y x' y' : ℕ) → x' ≡ x → y' ≡ y → before r x y ≡ false → before r x' y' ≡ false
  by x y x' y' e f h = rw (e, f) h

  module _ (row : List ℕ) (count : ℕ) where
    pub closes : (j : ℕ) → IsHeapBut r row count j → IsUnder r row j → NoneBelow r row count j j → IsHeap r row count
    closes j h under below = record { each = λ p k a b l. go p k a b l (cases_eq p j) (cases_eq k j) }
      where
        go : (p k : ℕ) → 2 * p + 1 ≤ k → k ≤ 2 * p + 2 → k < count → (p ≡ j) ⊎ (p ≡ j → ⊥) → (k ≡ j) ⊎ (k ≡ j → ⊥) → NotBefore r row k p
        go p k a b l (inl e) t = by (slice_index row k) (slice_index row j) (slice_index row k) (slice_index row p) refl
            (ap (λ n. slice_index row n) e) (below k (omega arith) (omega arith) l)
        go p k a b l (inr n) (inl e) = by (slice_index row j) (slice_index row p) (slice_index row k) (slice_index row p)
            (ap (λ n. slice_index row n) e) refl (under p (omega arith) (omega arith))
        go p k a b l (inr n) (inr m) = h.others p k a b l n m

    -- none stands above the top, and none below a leaf
    pub under_none : (j : ℕ) → j ≡ 0 → IsUnder r row j
    under_none j e = λ p a b. absurd (omega arith)

    pub under_by : (j above : ℕ) → above ≡ (j - 1) / 2 → before r (slice_index row j) (slice_index row above) ≡ false → IsUnder r row j
    under_by j above e t = λ p a b. let s : p ≡ above = omega arith in by (slice_index row j) (slice_index row above) (slice_index row j)
        (slice_index row p) refl (ap (λ n. slice_index row n) s) t

    pub leaf : (j : ℕ) → count ≤ 2 * j + 1 → NoneBelow r row count j j
    leaf j l = λ k a b m. absurd (omega arith)

    pub rests : (j c : ℕ) → before r (slice_index row c) (slice_index row j) ≡ false → NoneBelow r row count j c → NoneBelow r row count j j
    rests j c t first = λ k a b l. chain (slice_index row k) (slice_index row c) (slice_index row j) (first k a b l) t

    pub only_left : (j c : ℕ) → c ≡ 2 * j + 1 → count ≤ c + 1 → NoneBelow r row count j c
    only_left j c e l = λ k a b m. let s : k ≡ c = omega arith in by (slice_index row c) (slice_index row c) (slice_index row k)
        (slice_index row c) (ap (λ n. slice_index row n) s) refl (itself (slice_index row c))

    pub left_first : (j c d : ℕ) → c ≡ 2 * j + 1 → d ≡ c + 1 → before r (slice_index row d) (slice_index row c) ≡ false
        → NoneBelow r row count j c
    left_first j c d e f t = λ k a b m. go k a b (cases_eq k c)
      where
        go : (k : ℕ) → 2 * j + 1 ≤ k → k ≤ 2 * j + 2 → (k ≡ c) ⊎ (k ≡ c → ⊥) → NotBefore r row k c
        go k a b (inl s) = by (slice_index row c) (slice_index row c) (slice_index row k) (slice_index row c)
            (ap (λ n. slice_index row n) s) refl (itself (slice_index row c))
        go k a b (inr n) = let s : k ≡ d = omega arith in by (slice_index row d) (slice_index row c) (slice_index row k)
            (slice_index row c) (ap (λ n. slice_index row n) s) refl t

    pub right_first : (j c d : ℕ) → c ≡ 2 * j + 1 → d ≡ c + 1 → before r (slice_index row d) (slice_index row c) ≡ true
        → NoneBelow r row count j d
    right_first j c d e f t = λ k a b m. go k a b (cases_eq k c)
      where
        go : (k : ℕ) → 2 * j + 1 ≤ k → k ≤ 2 * j + 2 → (k ≡ c) ⊎ (k ≡ c → ⊥) → NotBefore r row k d
        go k a b (inl s) = by (slice_index row c) (slice_index row d) (slice_index row k) (slice_index row d)
            (ap (λ n. slice_index row n) s) refl (one_way (slice_index row d) (slice_index row c) t)
        go k a b (inr n) = let s : k ≡ d = omega arith in by (slice_index row d) (slice_index row d) (slice_index row k)
            (slice_index row d) (ap (λ n. slice_index row n) s) refl (itself (slice_index row d))

    -- none is before the top of a heap
    top_by : IsHeap r row count → (fuel k : ℕ) → k ≤ fuel → k < count → NotBefore r row k 0
    top_by h zero k f l = let s : k ≡ 0 = omega arith in by (slice_index row 0) (slice_index row 0) (slice_index row k)
        (slice_index row 0) (ap (λ n. slice_index row n) s) refl (itself (slice_index row 0))
    top_by h (suc fuel) k f l = go (cases_eq k 0) (λ n. top_by h fuel ((k - 1) / 2) (omega (arith, n)) (omega (arith, n)))
      where
        go : (k ≡ 0) ⊎ (k ≡ 0 → ⊥) → ((k ≡ 0 → ⊥) → NotBefore r row ((k - 1) / 2) 0) → NotBefore r row k 0
        go (inl s) on = by (slice_index row 0) (slice_index row 0) (slice_index row k) (slice_index row 0)
            (ap (λ n. slice_index row n) s) refl (itself (slice_index row 0))
        go (inr n) on = chain (slice_index row k) (slice_index row ((k - 1) / 2)) (slice_index row 0)
            (h.each ((k - 1) / 2) k (omega (arith, n)) (omega (arith, n)) l) (on n)

    pub top : IsHeap r row count → (k : ℕ) → k < count → NotBefore r row k 0
    top h k l = top_by h k k (omega arith) l

  -- an entry and one right below it in each other's place
  module _ (xs ys : List ℕ) (count j c : ℕ) (low : 2 * j + 1 ≤ c) (high : c ≤ 2 * j + 2) (within : c < count) (sw : SwappedAt xs ys j c)
      (t : before r (slice_index xs c) (slice_index xs j) ≡ true) where
    upper : slice_index ys j ≡ slice_index xs c
    upper = sw.0 0

    lower : slice_index ys c ≡ slice_index xs j
    lower = sw.1 0

    other : (k : ℕ) → k ≢ j → k ≢ c → slice_index ys k ≡ slice_index xs k
    other k n m = sw.2 k 0 n m

    at : (i k : ℕ) → i ≡ k → slice_index ys i ≡ slice_index ys k
    at i k e = ap (λ n. slice_index ys n) e

    not_over : before r (slice_index xs j) (slice_index xs c) ≡ false
    not_over = one_way (slice_index xs c) (slice_index xs j) t

    pub sinks : NoneBelow r xs count j c → IsHeapBut r xs count j → IsHeapBut r ys count c
    sinks first h = record {
      others = λ p k a b l n m. others p k a b l n m (cases_eq p j) (cases_eq k j);
      across = λ p k a b d e l.
          by (slice_index xs k) (slice_index xs c) (slice_index ys k) (slice_index ys p)
          (other k (λ u. absurd (omega arith)) (λ u. absurd (omega arith)))
          (at p j (omega arith) ∙ upper)
          (h.others c k d e l (λ u. absurd (omega arith)) (λ u. absurd (omega arith)));
    }
      where
        others : (p k : ℕ) → 2 * p + 1 ≤ k → k ≤ 2 * p + 2 → k < count → p ≢ c → k ≢ c → (p ≡ j) ⊎ (p ≡ j → ⊥) → (k ≡ j) ⊎ (k ≡ j → ⊥)
            → NotBefore r ys k p
        others p k a b l n m (inl e) t' =
            by (slice_index xs k) (slice_index xs c) (slice_index ys k) (slice_index ys p)
            (other k (λ u. absurd (omega arith)) m) (at p j e ∙ upper) (first k (omega arith) (omega arith) l)
        others p k a b l n m (inr u) (inl e) =
            by (slice_index xs c) (slice_index xs p) (slice_index ys k) (slice_index ys p)
            (at k j e ∙ upper) (other p u n) (h.across p c (omega arith) (omega arith) low high within)
        others p k a b l n m (inr u) (inr v) =
            by (slice_index xs k) (slice_index xs p) (slice_index ys k) (slice_index ys p)
            (other k v m) (other p u n) (h.others p k a b l u v)

    pub sunk_under : IsUnder r ys c
    sunk_under = λ p a b. by (slice_index xs j) (slice_index xs c) (slice_index ys c) (slice_index ys p) lower
        (at p j (omega arith) ∙ upper) not_over

    pub rises : IsHeapBut r xs count c → IsHeapBut r ys count j
    rises h = record {
      others = λ p k a b l n m. others p k a b l n m (cases_eq p c);
      across = λ p k a b d e l. across p k a b d e l (cases_eq k c);
    }
      where
        others : (p k : ℕ) → 2 * p + 1 ≤ k → k ≤ 2 * p + 2 → k < count → p ≢ j → k ≢ j → (p ≡ c) ⊎ (p ≡ c → ⊥) → NotBefore r ys k p
        others p k a b l n m (inl e) =
            by (slice_index xs k) (slice_index xs j) (slice_index ys k) (slice_index ys p)
            (other k m (λ u. absurd (omega arith))) (at p c e ∙ lower) (h.across j k low high (omega arith) (omega arith) l)
        others p k a b l n m (inr u) =
            let v : k ≢ c = λ q. n (omega arith) in
            by (slice_index xs k) (slice_index xs p) (slice_index ys k) (slice_index ys p)
            (other k m v) (other p n u) (h.others p k a b l u v)

        across : (p k : ℕ) → 2 * p + 1 ≤ j → j ≤ 2 * p + 2 → 2 * j + 1 ≤ k → k ≤ 2 * j + 2 → k < count → (k ≡ c) ⊎ (k ≡ c → ⊥)
            → NotBefore r ys k p
        across p k a b d e l (inl q) =
            by (slice_index xs j) (slice_index xs p) (slice_index ys k) (slice_index ys p)
            (at k c q ∙ lower) (other p (λ u. absurd (omega arith)) (λ u. absurd (omega arith)))
            (h.others p j a b (omega arith) (λ u. absurd (omega arith)) (λ u. absurd (omega arith)))
        across p k a b d e l (inr n) =
            by (slice_index xs k) (slice_index xs p) (slice_index ys k) (slice_index ys p)
            (other k (λ u. absurd (omega arith)) n) (other p (λ u. absurd (omega arith)) (λ u. absurd (omega arith)))
            (chain (slice_index xs k) (slice_index xs j) (slice_index xs p)
            (h.others j k d e l (λ u. absurd (omega arith)) n)
            (h.others p j a b (omega arith) (λ u. absurd (omega arith)) (λ u. absurd (omega arith))))

    pub risen_over : IsHeapBut r xs count c → NoneBelow r ys count j j
    risen_over h = λ k a b l. go k a b l (cases_eq k c)
      where
        go : (k : ℕ) → 2 * j + 1 ≤ k → k ≤ 2 * j + 2 → k < count → (k ≡ c) ⊎ (k ≡ c → ⊥) → NotBefore r ys k j
        go k a b l (inl q) = by (slice_index xs j) (slice_index xs c) (slice_index ys k) (slice_index ys j)
            (at k c q ∙ lower) upper not_over
        go k a b l (inr n) =
            by (slice_index xs k) (slice_index xs c) (slice_index ys k) (slice_index ys j)
            (other k (λ u. absurd (omega arith)) n) upper
            (chain (slice_index xs k) (slice_index xs j) (slice_index xs c)
            (h.others j k a b l (λ u. absurd (omega arith)) n) not_over)

-- The entries at these places, but for one, are those of a heap, and have their ranks.
module _ (f g : ℕ → ℕ) (xs ys : List ℕ) (n m : ℕ) where
  abbrev pub AreSameBut : ℕ → Type 0
  AreSameBut place = (k : ℕ) → k < m → k ≢ place → (k < n) × (slice_index ys k ≡ slice_index xs k)
      × (g (slice_index xs k) ≡ f (slice_index xs k))

  alike : (x y x' y' : ℕ) → x' ≡ x → y' ≡ y → g x ≡ f x → g y ≡ f y → before f x y ≡ false → before g x' y' ≡ false
  alike x y x' y' e e' s s' h = rw (e, e', s, s') h

  pub but_from : (place : ℕ) → AreSameBut place → IsHeap f xs n → IsHeapBut g ys m place
  but_from place same h = record {
    others = λ p k a b l u v.
        let s = same k l v in
        let t = same p (omega arith) u in
        alike (slice_index xs k) (slice_index xs p) (slice_index ys k) (slice_index ys p) s.1 t.1 s.2 t.2 (h.each p k a b s.0);
    across = λ p k a b d e l.
        let s = same k l (λ u. absurd (omega arith)) in
        let t = same p (omega arith) (λ u. absurd (omega arith)) in
        let z = s.0 in
        alike (slice_index xs k) (slice_index xs p) (slice_index ys k) (slice_index ys p) s.1 t.1 s.2 t.2
        (chain f (slice_index xs k) (slice_index xs place) (slice_index xs p) (h.each place k d e z) (h.each p place a b (omega arith)));
  }

  pub heap_from : ((k : ℕ) → k < m → (k < n) × (slice_index ys k ≡ slice_index xs k) × (g (slice_index xs k) ≡ f (slice_index xs k)))
      → IsHeap f xs n → IsHeap g ys m
  heap_from same h = record {
    each = λ p k a b l.
        let s = same k l in
        let t = same p (omega arith) in
        alike (slice_index xs k) (slice_index xs p) (slice_index ys k) (slice_index ys p) s.1 t.1 s.2 t.2 (h.each p k a b s.0);
  }
