-- What follows for a reader of a queue: no entry comes before the least, and a set keeps the better.
use Rattle.std.proofs.Common.{◌≡◌, ◌≢◌, ◌⊎◌, ◌<◌, ◌≤◌, ◌+◌, ℕ, zero, suc, Bool, true, false, cond, List, [], ◌∷◌, length, set, Option, Some}
use Rattle.std.proofs.Common.{None, sym, refl, ap, ◌∙◌, subst, inl, inr, arith, get_or-set_same, get_or-set_other}
use Rattle.std.proofs.lemmas.Bool.{cases_eq, cases_lt}
use Rattle.std.specs.List.{Contains, slice_index}
use Rattle.std.specs.List.Sorted.{IsStrictlyIncreasing}
use Rattle.run_specs.specs.Order.{better_of}
use Rattle.clock_queue.specs.Dues.{Pending, pending, due_of, least_pending, precedes, NoneBefore}
use Rattle.clock_queue.specs.Order.{Among}
use Rattle.clock_queue.proofs.Members.{IsRising, among_get_or}
use Rattle.clock_queue.proofs.Comes.{comes_false, comes_over, comes_through}
use Rattle.clock_queue.proofs.Best.{foremost_best, foremost_none, foremost_is}
use Rattle.clock_queue.proofs.Dues.{pending_same, pending_due, due_pending, strict_order}

module _ {D : Type 0} (rank : D → ℕ) (dues : List (Option D)) where
  -- no set entry precedes the least
  unbeaten_test : (x : Pending D) → least_pending rank dues ≡ Some x → (entry : ℕ) (due : D) → due_of dues entry ≡ Some due
      → precedes rank (record { number = entry; due = due }) x ≡ false
  unbeaten_test x e entry due d =
      (foremost_best (precedes rank) (strict_order rank) (pending dues) x e).unbeaten (record { number = entry; due = due })
      (due_pending dues (record { number = entry; due = due }) d)

  pub least_set : (x : Pending D) → least_pending rank dues ≡ Some x → due_of dues x.number ≡ Some x.due
  least_set x e = pending_due dues x (foremost_best (precedes rank) (strict_order rank) (pending dues) x e).among

  pub least_unbeaten : (x : Pending D) → least_pending rank dues ≡ Some x → (entry : ℕ) (due : D) → due_of dues entry ≡ Some due
      → (rank x.due < rank due) ⊎ ((rank x.due ≡ rank due) × (x.number ≤ entry))
  least_unbeaten x e entry due d = go (cases_lt (rank x.due) (rank due))
    where
      h : (rank x.due ≤ rank due) × (rank due ≤ rank x.due → x.number ≤ entry)
      h = comes_false (rank due) (rank x.due) entry x.number (unbeaten_test x e entry due d)

      go : (rank x.due < rank due) ⊎ (rank due ≤ rank x.due) → (rank x.due < rank due) ⊎ ((rank x.due ≡ rank due) × (x.number ≤ entry))
      go (inl lt) = inl lt
      go (inr ge) = inr (omega (arith, h.0, ge), h.1 ge)

  pub least_none_before : (x : Pending D) → least_pending rank dues ≡ Some x → NoneBefore rank (rank x.due) dues
  least_none_before x e = record {
    each = λ entry due d. (comes_false (rank due) (rank x.due) entry x.number (unbeaten_test x e entry due d)).0;
  }

  pub none_set : least_pending rank dues ≡ None → (entry : ℕ) → due_of dues entry ≡ None
  none_set e entry = go (due_of dues entry) refl
    where
      go : (o : Option D) → due_of dues entry ≡ o → o ≡ None
      go None d = refl
      go (Some due) d = absurd (subst (λ xs. Among xs (record { number = entry; due = due }))
          (foremost_none (precedes rank) (strict_order rank) (pending dues) e)
          (due_pending dues (record { number = entry; due = due }) d))

  -- an entry that had no due is set
  module _ (x : Pending D) (within : x.number < length dues) (free : due_of dues x.number ≡ None) where
    after : (y : Pending D) → due_of (set dues x.number (Some x.due)) y.number ≡ Some y.due
        → (y ≡ x) ⊎ ((y.number ≢ x.number) × (due_of dues y.number ≡ Some y.due))
    after y e = go (cases_eq y.number x.number)
      where
        go : (y.number ≡ x.number) ⊎ (y.number ≡ x.number → ⊥) → (y ≡ x) ⊎ ((y.number ≢ x.number) × (due_of dues y.number ≡ Some y.due))
        go (inl s) =
            let k : Some y.due ≡ Some x.due = sym e ∙ (ap (λ n. due_of (set dues x.number (Some x.due)) n) s
            ∙ get_or-set_same dues x.number (Some x.due) None within) in
            inl (pending_same y x s cc)
        go (inr n) = inr (n, sym (get_or-set_other dues x.number y.number (Some x.due) None n) ∙ e)

    finds : (z : Pending D) → due_of (set dues x.number (Some x.due)) z.number ≡ Some z.due
        → ((y : Pending D) → (y ≡ x) ⊎ ((y.number ≢ x.number) × (due_of dues y.number ≡ Some y.due)) → (y ≡ z) ⊎ (precedes rank z y ≡ true))
        → least_pending rank (set dues x.number (Some x.due)) ≡ Some z
    finds z e over =
        foremost_is (precedes rank) (strict_order rank) (pending (set dues x.number (Some x.due))) z
        (due_pending (set dues x.number (Some x.due)) z e)
        (λ y a. over y (after y (pending_due (set dues x.number (Some x.due)) y a)))

    new_set : due_of (set dues x.number (Some x.due)) x.number ≡ Some x.due
    new_set = get_or-set_same dues x.number (Some x.due) None within

    -- two pending entries of a queue are the same, or one precedes the other
    over_test : (z y : Pending D) → precedes rank y z ≡ false → y.number ≢ z.number → precedes rank z y ≡ true
    over_test z y e n = comes_over (rank y.due) (rank z.due) y.number z.number e n

    first_set : least_pending rank dues ≡ None → least_pending rank (set dues x.number (Some x.due)) ≡ Some x
    first_set e = finds x new_set over
      where
        over : (y : Pending D) → (y ≡ x) ⊎ ((y.number ≢ x.number) × (due_of dues y.number ≡ Some y.due))
            → (y ≡ x) ⊎ (precedes rank x y ≡ true)
        over y (inl s) = inl s
        over y (inr d) = absurd (let k = none_set e y.number in let l = d.1 in cc)

    -- an old entry is the least or preceded by it
    old_over : (z : Pending D) → least_pending rank dues ≡ Some z → (y : Pending D) → due_of dues y.number ≡ Some y.due
        → (y ≡ z) ⊎ (precedes rank z y ≡ true)
    old_over z e y d = go (cases_eq y.number z.number)
      where
        go : (y.number ≡ z.number) ⊎ (y.number ≡ z.number → ⊥) → (y ≡ z) ⊎ (precedes rank z y ≡ true)
        go (inl s) =
            let k : Some y.due ≡ Some z.due = sym d ∙ (ap (λ n. due_of dues n) s ∙ least_set z e) in
            inl (pending_same y z s cc)
        go (inr n) = inr (over_test z y (unbeaten_test z e y.number y.due d) n)

    better_set : (z : Pending D) → least_pending rank dues ≡ Some z
        → least_pending rank (set dues x.number (Some x.due)) ≡ better_of (precedes rank) (Some z) x
    better_set z e = go (precedes rank x z) refl
      where
        apart : z.number ≡ x.number → ⊥
        apart s = let k = least_set z e in let l : due_of dues z.number ≡ None = ap (λ n. due_of dues n) s ∙ free in cc

        old_set : due_of (set dues x.number (Some x.due)) z.number ≡ Some z.due
        old_set = get_or-set_other dues x.number z.number (Some x.due) None apart ∙ least_set z e

        past : precedes rank x z ≡ true → (y : Pending D) → (y ≡ z) ⊎ (precedes rank z y ≡ true) → precedes rank x y ≡ true
        past t y (inl s) = subst (λ w. precedes rank x w ≡ true) (sym s) t
        past t y (inr b) = comes_through (rank x.due) (rank z.due) (rank y.due) x.number z.number y.number t b

        by_new : precedes rank x z ≡ true → (y : Pending D) → (y ≡ x) ⊎ ((y.number ≢ x.number) × (due_of dues y.number ≡ Some y.due))
            → (y ≡ x) ⊎ (precedes rank x y ≡ true)
        by_new t y (inl s) = inl s
        by_new t y (inr d) = inr (past t y (old_over z e y d.1))

        by_old : precedes rank x z ≡ false → (y : Pending D) → (y ≡ x) ⊎ ((y.number ≢ x.number) × (due_of dues y.number ≡ Some y.due))
            → (y ≡ z) ⊎ (precedes rank z y ≡ true)
        by_old t y (inl s) = inr (subst (λ w. precedes rank z w ≡ true) (sym s) (over_test z x t (λ k. apart (sym k))))
        by_old t y (inr d) = old_over z e y d.1

        go : (b : Bool) → precedes rank x z ≡ b → least_pending rank (set dues x.number (Some x.due)) ≡ cond b (Some x) (Some z)
        go true t = finds x new_set (by_new t)
        go false t = finds z old_set (by_old t)

    pub set_better : least_pending rank (set dues x.number (Some x.due)) ≡ better_of (precedes rank) (least_pending rank dues) x
    set_better = go (least_pending rank dues) refl
      where
        go : (o : Option (Pending D)) → least_pending rank dues ≡ o
            → least_pending rank (set dues x.number (Some x.due)) ≡ better_of (precedes rank) o x
        go None e = first_set e
        go (Some z) e = better_set z e

-- between this crate's words on lists and std's
pub contains_among : {A : Type 0} (xs : List A) (x : A) → Contains xs x → Among xs x
contains_among xs x h = subst (λ y. Among xs y) h.2 (among_get_or xs h.0 x h.1)

pub among_contains : {A : Type 0} (xs : List A) (x : A) → Among xs x → Contains xs x
among_contains [] x a = absurd a
among_contains (y ∷ xs) x (inl s) = (0, omega arith, sym s)
among_contains (y ∷ xs) x (inr a) = let h = among_contains xs x a in (suc h.0, omega (arith, h.1), h.2)

pub increasing : (xs : List ℕ) → IsRising xs → IsStrictlyIncreasing xs
increasing [] r k l = absurd (omega arith)
increasing (x ∷ []) r k l = absurd (omega arith)
increasing (x ∷ y ∷ xs) r zero l = r.0 y (inl refl)
increasing (x ∷ y ∷ xs) r (suc k) l =
    let h = increasing (y ∷ xs) r.1 k (omega arith) in
    let e : suc k + 1 ≡ suc (k + 1) = omega arith in
    subst (λ n. slice_index (y ∷ xs) k < slice_index (x ∷ y ∷ xs) n) (sym e) h
