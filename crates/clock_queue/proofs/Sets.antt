-- How many entries are set behind a set or a clear, and what a taking gives behind its first entry.
use Rattle.std.proofs.Common.{◌≡◌, ◌≢◌, ◌⊎◌, ◌<◌, ◌≤◌, ◌+◌, ℕ, zero, suc, List, [], ◌∷◌, length, set, replicate, Option, Some, None, IsSome}
use Rattle.std.proofs.Common.{sym, refl, ap, ◌∙◌, subst, inl, inr, arith, length-set, get_or-set_other}
use Rattle.std.proofs.lemmas.List.{set-get_or, length-map}
use Rattle.std.proofs.lemmas.Bool.{cases_eq}
use Rattle.clock_queue.specs.Dues.{Pending, pending, pending_from, due_of, least_pending, entries_at, due_unless, dues_behind, NoneBefore}
use Rattle.clock_queue.specs.Cost.{set_count}
use Rattle.clock_queue.specs.Order.{Among, IsNext, IsDone}
use Rattle.clock_queue.proofs.Members.{same_rising}
use Rattle.clock_queue.proofs.Dues.{same_dues, in_entries_at, entries_at_has, rising_entries_at, due_behind, other_kept, same_taken}
use Rattle.clock_queue.proofs.Dues.{clears_at}
use Rattle.clock_queue.proofs.Consequences.{least_set, least_unbeaten, none_set}

count_none : (D : Type 0) (first n : ℕ) → length (pending_from {D = D} first (replicate n None)) ≡ 0
count_none D first zero = refl
count_none D first (suc n) = count_none D (suc first) n

pub new_count : (D : Type 0) (n : ℕ) → set_count {D = D} (replicate n None) ≡ 0
new_count D n = count_none D 0 n

module _ {D : Type 0} where
  count_new : (first : ℕ) (dues : List (Option D)) (i : ℕ) (d : D) → i < length dues → due_of dues i ≡ None
      → length (pending_from first (set dues i (Some d))) ≡ length (pending_from first dues) + 1
  count_new first [] i d l e = absurd (omega arith)
  count_new first (None ∷ dues) zero d l e = omega arith
  count_new first (Some x ∷ dues) zero d l e = absurd cc
  count_new first (None ∷ dues) (suc i) d l e = count_new (suc first) dues i d (omega arith) e
  count_new first (Some x ∷ dues) (suc i) d l e = let h = count_new (suc first) dues i d (omega arith) e in omega arith

  count_again : (first : ℕ) (dues : List (Option D)) (i : ℕ) (d : D) → IsSome (due_of dues i)
      → length (pending_from first (set dues i (Some d))) ≡ length (pending_from first dues)
  count_again first [] i d s = absurd cc
  count_again first (None ∷ dues) zero d s = absurd cc
  count_again first (Some x ∷ dues) zero d s = refl
  count_again first (None ∷ dues) (suc i) d s = count_again (suc first) dues i d s
  count_again first (Some x ∷ dues) (suc i) d s = let h = count_again (suc first) dues i d s in omega arith

  count_less : (first : ℕ) (dues : List (Option D)) (i : ℕ) → IsSome (due_of dues i)
      → length (pending_from first (set dues i None)) + 1 ≡ length (pending_from first dues)
  count_less first [] i s = absurd cc
  count_less first (None ∷ dues) zero s = absurd cc
  count_less first (Some x ∷ dues) zero s = omega arith
  count_less first (None ∷ dues) (suc i) s = count_less (suc first) dues i s
  count_less first (Some x ∷ dues) (suc i) s = let h = count_less (suc first) dues i s in omega arith

  pub set_new : (dues : List (Option D)) (i : ℕ) (d : D) → i < length dues → due_of dues i ≡ None
      → set_count (set dues i (Some d)) ≡ set_count dues + 1
  set_new dues i d l e = count_new 0 dues i d l e

  pub set_again : (dues : List (Option D)) (i : ℕ) (d : D) → IsSome (due_of dues i) → set_count (set dues i (Some d)) ≡ set_count dues
  set_again dues i d s = count_again 0 dues i d s

  pub set_less : (dues : List (Option D)) (i : ℕ) → IsSome (due_of dues i) → set_count (set dues i None) + 1 ≡ set_count dues
  set_less dues i s = count_less 0 dues i s

  pub clear_none : (dues : List (Option D)) (i : ℕ) → due_of dues i ≡ None → set dues i None ≡ dues
  clear_none dues i e = ap (λ o. set dues i o) (sym e) ∙ set-get_or dues i None

  none_counted : (xs : List (Pending D)) → length xs ≡ 0 → xs ≡ []
  none_counted [] e = refl
  none_counted (x ∷ xs) e = absurd (omega arith)

  pub none_pending : (dues : List (Option D)) → set_count dues ≡ 0 → pending dues ≡ []
  none_pending dues e = none_counted (pending dues) e

module _ {D : Type 0} (rank : D → ℕ) (moment : ℕ) where
  pub still_early : (dues : List (Option D)) (e : ℕ) → NoneBefore rank moment dues → NoneBefore rank moment (set dues e None)
  still_early dues e h = record { each = λ x d k. go x d k (cases_eq x e) }
    where
      go : (x : ℕ) (d : D) → due_of (set dues e None) x ≡ Some d → (x ≡ e) ⊎ (x ≡ e → ⊥) → moment ≤ rank d
      go x d k (inl s) = let q = sym (clears_at dues e) ∙ (ap (λ n. due_of (set dues e None) n) (sym s) ∙ k) in absurd cc
      go x d k (inr n) = h.each x d (sym (get_or-set_other dues e x None None n) ∙ k)

  -- the least, where it is due, is the first that is taken
  pub next_taken : (dues : List (Option D)) (x : Pending D) → least_pending rank dues ≡ Some x → rank x.due ≡ moment
      → entries_at rank moment dues ≡ x.number ∷ entries_at rank moment (set dues x.number None)
  next_taken dues x e r = same_rising (entries_at rank moment dues) (x.number ∷ entries_at rank moment (set dues x.number None))
      (rising_entries_at rank moment dues) (λ k a. first k a, rising_entries_at rank moment (set dues x.number None)) there back
    where
      at : due_of dues x.number ≡ Some x.due
      at = least_set rank dues x e

      -- an entry that is due behind the clear was so before, and is another
      behind : (k : ℕ) → Among (entries_at rank moment (set dues x.number None)) k
          → (due_of dues k ≡ None → ⊥) × (k ≢ x.number) × Among (entries_at rank moment dues) k
      behind k a =
          let h = in_entries_at rank moment (set dues x.number None) k a in
          let n : k ≢ x.number = λ s. let q = sym (clears_at dues x.number)
          ∙ (ap (λ n. due_of (set dues x.number None) n) (sym s) ∙ h.1) in absurd cc in
          let o = sym (get_or-set_other dues x.number k None None n) ∙ h.1 in
          (λ z. absurd (let q = sym z ∙ o in cc), n, entries_at_has rank moment dues k h.0 o h.2)

      first : (k : ℕ) → Among (entries_at rank moment (set dues x.number None)) k → x.number < k
      first k a =
          let b = behind k a in
          let h = in_entries_at rank moment dues k b.2 in
          let n = b.1 in
          go k (least_unbeaten rank dues x e k h.0 h.1) h.2 n
        where
          go : {d : D} (k : ℕ) → (rank x.due < rank d) ⊎ ((rank x.due ≡ rank d) × (x.number ≤ k)) → rank d ≡ moment → k ≢ x.number
              → x.number < k
          go k (inl l) q n = absurd (omega (arith, l, q, r))
          go k (inr t) q n = omega (arith, t.1, n)

      there : (k : ℕ) → Among (entries_at rank moment dues) k → Among (x.number ∷ entries_at rank moment (set dues x.number None)) k
      there k a = go (cases_eq k x.number)
        where
          go : (k ≡ x.number) ⊎ (k ≡ x.number → ⊥) → Among (x.number ∷ entries_at rank moment (set dues x.number None)) k
          go (inl s) = inl s
          go (inr n) =
              let h = in_entries_at rank moment dues k a in
              inr (entries_at_has rank moment (set dues x.number None) k h.0 (get_or-set_other dues x.number k None None n ∙ h.1) h.2)

      back : (k : ℕ) → Among (x.number ∷ entries_at rank moment (set dues x.number None)) k → Among (entries_at rank moment dues) k
      back k (inl s) = subst (λ n. Among (entries_at rank moment dues) n) (sym s) (entries_at_has rank moment dues x.number x.due at r)
      back k (inr a) = (behind k a).2

  pub next_left : (dues : List (Option D)) (x : Pending D) → least_pending rank dues ≡ Some x → rank x.due ≡ moment
      → dues_behind rank moment (set dues x.number None) ≡ dues_behind rank moment dues
  next_left dues x e r = same_dues (dues_behind rank moment (set dues x.number None)) (dues_behind rank moment dues)
      (length-map (set dues x.number None) (due_unless rank moment)
      ∙ (length-set dues x.number None ∙ sym (length-map dues (due_unless rank moment))))
      (λ k. due_behind rank moment (set dues x.number None) k ∙ (each k (cases_eq k x.number) ∙ sym (due_behind rank moment dues k)))
    where
      each : (k : ℕ) → (k ≡ x.number) ⊎ (k ≡ x.number → ⊥)
          → due_unless rank moment (due_of (set dues x.number None) k) ≡ due_unless rank moment (due_of dues k)
      each k (inl s) =
          ap (λ n. due_unless rank moment (due_of (set dues x.number None) n)) s
          ∙ (ap (λ o. due_unless rank moment o) (clears_at dues x.number)
          ∙ (sym (same_taken rank moment x.due r) ∙ (ap (λ o. due_unless rank moment o) (sym (least_set rank dues x e))
          ∙ ap (λ n. due_unless rank moment (due_of dues n)) (sym s))))
      each k (inr n) = ap (λ o. due_unless rank moment o) (get_or-set_other dues x.number k None None n)

  -- where none is due at the moment, none is taken
  none_at : (dues : List (Option D)) → ((k : ℕ) (d : D) → due_of dues k ≡ Some d → rank d ≢ moment)
      → (entries_at rank moment dues ≡ []) × (dues_behind rank moment dues ≡ dues)
  none_at dues h = (
    none (entries_at rank moment dues) (λ k a. let t = in_entries_at rank moment dues k a in h k t.0 t.1 t.2),
    same_dues (dues_behind rank moment dues) dues (length-map dues (due_unless rank moment))
        (λ k. due_behind rank moment dues k ∙ each k (due_of dues k) refl),
  )
    where
      none : (xs : List ℕ) → ((k : ℕ) → Among xs k → ⊥) → xs ≡ []
      none [] n = refl
      none (x ∷ xs) n = absurd (n x (inl refl))

      each : (k : ℕ) (o : Option D) → due_of dues k ≡ o → due_unless rank moment o ≡ o
      each k None e = refl
      each k (Some d) e = other_kept rank moment d (h k d e)

  pub last_taken : (dues : List (Option D)) (x : Pending D) → NoneBefore rank moment dues → least_pending rank dues ≡ Some x
      → rank x.due ≢ moment
      → (entries_at rank moment dues ≡ []) × (dues_behind rank moment dues ≡ dues)
  last_taken dues x early e n = none_at dues (λ k d s q. go k d q (early.each x.number x.due (least_set rank dues x e))
      (least_unbeaten rank dues x e k d s))
    where
      go : (k : ℕ) (d : D) → rank d ≡ moment → moment ≤ rank x.due → (rank x.due < rank d) ⊎ ((rank x.due ≡ rank d) × (x.number ≤ k)) → ⊥
      go k d q low (inl l) = absurd (omega (arith, low, l, q))
      go k d q low (inr t) = n (t.0 ∙ q)

  pub all_taken : (dues : List (Option D)) → least_pending rank dues ≡ None
      → (entries_at rank moment dues ≡ []) × (dues_behind rank moment dues ≡ dues)
  all_taken dues e = none_at dues (λ k d s q. absurd (let z = sym (none_set rank dues e k) ∙ s in cc))

module _ {D : Type 0} (rank : D → ℕ) (moment : ℕ) (dues : List (Option D)) (early : NoneBefore rank moment dues) where
  pub is_next : (x : Pending D) → least_pending rank dues ≡ Some x → rank x.due ≡ moment → IsNext rank moment dues x.number
  is_next x e r = record {
    is_set = subst (λ o. IsSome o) (sym (least_set rank dues x e)) refl;
    first = next_taken rank moment dues x e r;
    left = next_left rank moment dues x e r;
    early = still_early rank moment dues x.number early;
  }

  pub is_last : (x : Pending D) → least_pending rank dues ≡ Some x → rank x.due ≢ moment → IsDone rank moment dues
  is_last x e n = let h = last_taken rank moment dues x early e n in record { none = h.0; left = h.1 }

  pub is_over : least_pending rank dues ≡ None → IsDone rank moment dues
  is_over e = let h = all_taken rank moment dues e in record { none = h.0; left = h.1 }
