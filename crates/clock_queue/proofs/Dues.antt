-- What the definitions of a queue say entry by entry.
use Rattle.std.proofs.Common.{◌≡◌, ◌≢◌, ◌<◌, ◌≤◌, ◌+◌, ℕ, zero, suc, Bool, true, false, cond, eqb, List, [], ◌∷◌, length, set, map, Option}
use Rattle.std.proofs.Common.{Some, None, IsSome, sym, refl, ap, ◌∙◌, subst, inl, inr, arith}
use Rattle.std.proofs.lemmas.Bool.Decides.{nat_tests}
use Rattle.std.specs.List.{filter}
use Rattle.clock_queue.specs.Dues.{Pending, pending, pending_from, due_of, precedes, entries_at, due_unless, dues_behind}
use Rattle.clock_queue.specs.Order.{Among}
use Rattle.clock_queue.proofs.Members.{in_filter, filter_has, IsRising}
use Rattle.clock_queue.proofs.Comes.{comes_itself, comes_through}
use Rattle.clock_queue.proofs.Best.{IsStrict}

module _ {D : Type 0} where
  -- an entry with a due is one of the queue
  pub set_within : (dues : List (Option D)) (entry : ℕ) → IsSome (due_of dues entry) → entry < length dues
  set_within [] entry s = absurd cc
  set_within (o ∷ dues) zero s = omega arith
  set_within (o ∷ dues) (suc entry) s = let h = set_within dues entry s in omega arith

  pub some_within : (dues : List (Option D)) (entry : ℕ) (due : D) → due_of dues entry ≡ Some due → entry < length dues
  some_within dues entry due e = set_within dues entry (subst (λ (o : Option D). IsSome o) (sym e) refl)

  -- queues with the same due at each entry are the same
  pub same_dues : (xs ys : List (Option D)) → length xs ≡ length ys → ((entry : ℕ) → due_of xs entry ≡ due_of ys entry) → xs ≡ ys
  same_dues [] [] n h = refl
  same_dues [] (y ∷ ys) n h = absurd (omega arith)
  same_dues (x ∷ xs) [] n h = absurd (omega arith)
  same_dues (x ∷ xs) (y ∷ ys) n h =
      ap (λ (o : Option D). o ∷ xs) (h 0) ∙ ap (λ os. y ∷ os) (same_dues xs ys (omega arith) (λ entry. h (suc entry)))

  pub pending_same : (x y : Pending D) → x.number ≡ y.number → x.due ≡ y.due → x ≡ y
  pending_same x y e f =
      let first : ℕ → Pending D = λ n. record { number = n; due = x.due } in
      let second : D → Pending D = λ d. record { number = y.number; due = d } in
      ap first e ∙ ap second f

  -- a pending entry has its due, and an entry with a due is pending
  pub in_pending : (first : ℕ) (dues : List (Option D)) (x : Pending D) → Among (pending_from first dues) x
      → (entry : ℕ) × (x.number ≡ entry + first) × (due_of dues entry ≡ Some x.due)
  in_pending first [] x a = absurd a
  in_pending first (None ∷ dues) x a =
      let h = in_pending (suc first) dues x a in (suc h.0, omega (arith, h.1), h.2)
  in_pending first (Some due ∷ dues) x (inl s) =
      (0, ap (λ (y : Pending D). y.number) s ∙ omega arith, ap (λ (y : Pending D). Some y.due) (sym s))
  in_pending first (Some due ∷ dues) x (inr a) =
      let h = in_pending (suc first) dues x a in (suc h.0, omega (arith, h.1), h.2)

  pub pending_has : (first : ℕ) (dues : List (Option D)) (entry : ℕ) (due : D) → due_of dues entry ≡ Some due
      → (x : Pending D) → x.number ≡ entry + first → x.due ≡ due → Among (pending_from first dues) x
  pending_has first [] entry due e x n d = absurd cc
  pending_has first (None ∷ dues) zero due e x n d = absurd cc
  pending_has first (None ∷ dues) (suc entry) due e x n d = pending_has (suc first) dues entry due e x (omega arith) d
  pending_has first (Some own ∷ dues) zero due e x n d =
      let h : own ≡ due = cc in inl (pending_same x (record { number = first; due = own }) (omega arith) (d ∙ sym h))
  pending_has first (Some own ∷ dues) (suc entry) due e x n d =
      inr (pending_has (suc first) dues entry due e x (omega arith) d)

  pub pending_due : (dues : List (Option D)) (x : Pending D) → Among (pending dues) x → due_of dues x.number ≡ Some x.due
  pending_due dues x a =
      let h = in_pending 0 dues x a in
      let e : h.0 ≡ x.number = omega (arith, h.1) in subst (λ n. due_of dues n ≡ Some x.due) e h.2

  pub due_pending : (dues : List (Option D)) (x : Pending D) → due_of dues x.number ≡ Some x.due → Among (pending dues) x
  due_pending dues x e = pending_has 0 dues x.number x.due e x (omega arith) refl

  in_map : (xs : List (Pending D)) (k : ℕ) → Among (map (λ (x : Pending D). x.number) xs) k
      → (x : Pending D) × (Among xs x) × (k ≡ x.number)
  in_map [] k a = absurd a
  in_map (y ∷ xs) k (inl s) = (y, inl refl, s)
  in_map (y ∷ xs) k (inr a) = let h = in_map xs k a in (h.0, inr h.1, h.2)

  map_has : (xs : List (Pending D)) (x : Pending D) → Among xs x → Among (map (λ (y : Pending D). y.number) xs) x.number
  map_has [] x a = absurd a
  map_has (y ∷ xs) x (inl s) = inl (ap (λ (z : Pending D). z.number) s)
  map_has (y ∷ xs) x (inr a) = inr (map_has xs x a)

  above : (p : Pending D → Bool) (first : ℕ) (dues : List (Option D)) (k : ℕ)
      → Among (map (λ (x : Pending D). x.number) (filter p (pending_from first dues))) k → first ≤ k
  above p first dues k a =
      let h = in_map (filter p (pending_from first dues)) k a in
      let i = in_pending first dues h.0 (in_filter p (pending_from first dues) h.0 h.1).0 in
      omega (arith, h.2, i.1)

  rising : (p : Pending D → Bool) (first : ℕ) (dues : List (Option D))
      → IsRising (map (λ (x : Pending D). x.number) (filter p (pending_from first dues)))
  rising p first [] = tt
  rising p first (None ∷ dues) = rising p (suc first) dues
  rising p first (Some due ∷ dues) = go (p (record { number = first; due = due })) (rising p (suc first) dues)
    where
      go : (b : Bool) → IsRising (map (λ (x : Pending D). x.number) (filter p (pending_from (suc first) dues)))
          → IsRising (map (λ (x : Pending D). x.number) (cond b
          (record { number = first; due = due } ∷ filter p (pending_from (suc first) dues)) (filter p (pending_from (suc first) dues))))
      go true r = (λ k a. let h = above p (suc first) dues k a in omega arith, r)
      go false r = r

module _ {D : Type 0} (rank : D → ℕ) where
  pub strict_order : IsStrict (precedes rank)
  strict_order = record {
    itself = λ x. comes_itself (rank x.due) x.number;
    through = λ x y z e f. comes_through (rank x.due) (rank y.due) (rank z.due) x.number y.number z.number e f;
  }

  -- the entries at a moment
  module _ (moment : ℕ) where
    abbrev is_at : Pending D → Bool
    is_at x = eqb (rank x.due) moment

    pub in_entries_at : (dues : List (Option D)) (entry : ℕ) → Among (entries_at rank moment dues) entry
        → (due : D) × (due_of dues entry ≡ Some due) × (rank due ≡ moment)
    in_entries_at dues entry a =
        let h = in_map (filter is_at (pending dues)) entry a in
        let f = in_filter is_at (pending dues) h.0 h.1 in
        let e = pending_due dues h.0 f.0 in
        let t = f.1 in
        let r : rank (h.0).due ≡ moment = grind (arith, nat_tests) in
        ((h.0).due, subst (λ n. due_of dues n ≡ Some (h.0).due) (sym h.2) e, r)

    pub entries_at_has : (dues : List (Option D)) (entry : ℕ) (due : D) → due_of dues entry ≡ Some due → rank due ≡ moment
        → Among (entries_at rank moment dues) entry
    entries_at_has dues entry due e r =
        let x : Pending D = record { number = entry; due = due } in
        let t : is_at x ≡ true = grind (arith, nat_tests) in
        map_has (filter is_at (pending dues)) x (filter_has is_at (pending dues) x (due_pending dues x e) t)

    pub rising_entries_at : (dues : List (Option D)) → IsRising (entries_at rank moment dues)
    rising_entries_at dues = rising is_at 0 dues

    pub due_behind : (dues : List (Option D)) (entry : ℕ)
        → due_of (dues_behind rank moment dues) entry ≡ due_unless rank moment (due_of dues entry)
    due_behind [] entry = refl
    due_behind (o ∷ dues) zero = refl
    due_behind (o ∷ dues) (suc entry) = due_behind dues entry

    -- what is kept has another rank
    pub kept_due : (o : Option D) (due : D) → due_unless rank moment o ≡ Some due → (o ≡ Some due) × (rank due ≢ moment)
    kept_due None due e = absurd cc
    kept_due (Some own) due e = go (eqb (rank own) moment) refl e
      where
        go : (b : Bool) → eqb (rank own) moment ≡ b → cond b None (Some own) ≡ Some due
            → (Some own ≡ Some due) × (rank due ≢ moment)
        go true t k = absurd cc
        go false t k =
            let s : own ≡ due = cc in
            (k, λ r. let q : rank own ≡ moment = ap rank s ∙ r in absurd (grind (arith, nat_tests)))

    pub other_kept : (due : D) → rank due ≢ moment → due_unless rank moment (Some due) ≡ Some due
    other_kept due differ = go (eqb (rank due) moment) refl
      where
        go : (b : Bool) → eqb (rank due) moment ≡ b → cond b None (Some due) ≡ Some due
        go true t = absurd (let q : rank due ≡ moment = grind (arith, nat_tests) in differ q)
        go false t = refl

    pub same_taken : (due : D) → rank due ≡ moment → due_unless rank moment (Some due) ≡ None
    same_taken due r = go (eqb (rank due) moment) refl
      where
        go : (b : Bool) → eqb (rank due) moment ≡ b → cond b None (Some due) ≡ None
        go true t = refl
        go false t = absurd (grind (arith, nat_tests))

    pub kept_behind : (dues : List (Option D)) (entry : ℕ) (due : D) → due_of (dues_behind rank moment dues) entry ≡ Some due
        → (due_of dues entry ≡ Some due) × (rank due ≢ moment)
    kept_behind dues entry due e = kept_due (due_of dues entry) due (sym (due_behind dues entry) ∙ e)

    pub behind_kept : (dues : List (Option D)) (entry : ℕ) (due : D) → due_of dues entry ≡ Some due → rank due ≢ moment
        → due_of (dues_behind rank moment dues) entry ≡ Some due
    behind_kept dues entry due e n = due_behind dues entry ∙ (ap (λ o. due_unless rank moment o) e ∙ other_kept due n)

module _ {D : Type 0} where
  pub clears_at : (dues : List (Option D)) (x : ℕ) → due_of (set dues x None) x ≡ None
  clears_at [] x = refl
  clears_at (o ∷ dues) zero = refl
  clears_at (o ∷ dues) (suc x) = clears_at dues x
