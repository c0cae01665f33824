-- A queue keeps its entries: what a set and a clear leave, and what stands on top.
use Rattle.std.proofs.Common.{◌≡◌, ◌≢◌, ◌⊎◌, ◌<◌, ◌≤◌, ◌+◌, ℕ, zero, suc, true, false, List, length, slice_index, set, replicate, Option}
use Rattle.std.proofs.Common.{Some, None, IsSome, sym, refl, ap, ◌∙◌, subst, inl, inr, arith, length-set, get_or-set_same, get_or-set_other}
use Rattle.std.proofs.lemmas.Bool.{cases_eq, cases_lt}
use Rattle.std.proofs.lemmas.List.{length-replicate}
use Rattle.std.specs.List.{SwappedAt}
use Rattle.std.specs.Option.{option_map_or}
use Rattle.clock_queue.specs.Dues.{Pending, pending, due_of, least_pending, precedes}
use Rattle.clock_queue.specs.Cost.{set_count}
use Rattle.clock_queue.specs.Order.{AreInverse, AreParted, CountsUp, IsKept, IsHeap, IsHeapBut, rank_of, before}
use Rattle.clock_queue.proofs.Comes.{comes_over}
use Rattle.clock_queue.proofs.Best.{foremost_is}
use Rattle.clock_queue.proofs.Dues.{some_within, pending_same, pending_due, due_pending, strict_order, clears_at}
use Rattle.clock_queue.proofs.Sets.{set_new, set_again, set_less, new_count, none_pending}
use Rattle.clock_queue.proofs.Heaps.{but_from, heap_from, top}

is_some_by : {D : Type 0} (o : Option D) (due : D) → o ≡ Some due → IsSome o
is_some_by o due e = subst (λ x. IsSome x) (sym e) refl

some_not_none : {D : Type 0} (o : Option D) → IsSome o → o ≡ None → ⊥
some_not_none None s e = cc
some_not_none (Some x) s e = cc

module _ {D : Type 0} (rank : D → ℕ) where
  rank_alike : (dues : List (Option D)) (entry x : ℕ) (o : Option D) → x ≢ entry → rank_of rank (set dues entry o) x ≡ rank_of rank dues x
  rank_alike dues entry x o n = ap (λ v. option_map_or rank v 0) (get_or-set_other dues entry x o None n)

  rank_is : (dues : List (Option D)) (x : ℕ) (due : D) → due_of dues x ≡ Some due → rank_of rank dues x ≡ rank due
  rank_is dues x due e = ap (λ o. option_map_or rank o 0) e

  -- a queue of which no entry is set
  pub kept_new : (entries : ℕ) (dues : List (Option D)) (row places : List ℕ) → dues ≡ replicate entries None
      → CountsUp entries row → CountsUp entries places → IsKept rank dues row places 0
  kept_new entries dues row places e r s =
      let long : length dues ≡ entries = ap length e ∙ length-replicate {A = Option D} entries None in record {
        parted = record {
          inverse = record {
            same = omega (arith, r.all, s.all);
            entry_at = λ i l. omega (arith, r.each i l);
            place_of = λ i l. omega (arith, s.each i (omega (arith, r.all, s.all)), l);
            there = λ i l. ap (λ n. slice_index places n) (r.each i l) ∙ s.each i (omega (arith, r.all, s.all, l));
            back = λ i l. ap (λ n. slice_index row n) (s.each i (omega (arith, r.all, s.all, l))) ∙ r.each i l;
          };
          entries = omega (arith, long, r.all);
          within = omega arith;
          front = λ i l. absurd (omega arith);
          rest = λ i l m. ap (λ ds. due_of ds (slice_index row i)) e ∙ none entries (slice_index row i);
        };
        heap = record { each = λ p k a b l. absurd (omega arith) };
        counted = sym (ap (λ ds. set_count ds) e ∙ new_count D entries);
      }
    where
      none : (n x : ℕ) → due_of (replicate {A = Option D} n None) x ≡ None
      none zero x = refl
      none (suc n) zero = refl
      none (suc n) (suc x) = none n x

  module _ (dues : List (Option D)) (row places : List ℕ) (count : ℕ) (h : IsKept rank dues row places count) where
    module _ (entry at : ℕ) (is : at ≡ slice_index places entry) (within : entry < length dues) where
      inside : entry < length row
      inside = omega (arith, within, h.parted.entries)

      pub at_within : at < length row
      at_within = let k = h.parted.inverse.place_of entry inside in omega (arith, is, k)

      stands : slice_index row at ≡ entry
      stands = ap (λ n. slice_index row n) is ∙ h.parted.inverse.back entry inside

      pub entry_set : at < count → IsSome (due_of dues entry)
      entry_set l = subst (λ n. IsSome (due_of dues n)) stands (h.parted.front at l)

      pub entry_unset : count ≤ at → due_of dues entry ≡ None
      entry_unset l = ap (λ n. due_of dues n) (sym stands) ∙ h.parted.rest at l at_within

      other_entry : (k : ℕ) → k < length row → k ≢ at → slice_index row k ≢ entry
      other_entry k l n = λ e. n (sym (h.parted.inverse.there k l) ∙ (ap (λ x. slice_index places x) e ∙ sym is))

      -- what is said of another entry's due, where this one's changes
      other_due : (o : Option D) (k : ℕ) → k < length row → k ≢ at
          → due_of (set dues entry o) (slice_index row k) ≡ due_of dues (slice_index row k)
      other_due o k l n = get_or-set_other dues entry (slice_index row k) o None (other_entry k l n)

      other_set : (o : Option D) (k : ℕ) → k < count → k ≢ at → IsSome (due_of (set dues entry o) (slice_index row k))
      other_set o k l n = subst (λ v. IsSome v) (sym (other_due o k (omega (arith, h.parted.within)) n)) (h.parted.front k l)

      other_unset : (o : Option D) (k : ℕ) → count ≤ k → k < length row → k ≢ at → due_of (set dues entry o) (slice_index row k) ≡ None
      other_unset o k l m n = other_due o k m n ∙ h.parted.rest k l m

      other_rank : (o : Option D) (k : ℕ) → k < length row → k ≢ at
          → rank_of rank (set dues entry o) (slice_index row k) ≡ rank_of rank dues (slice_index row k)
      other_rank o k l n = rank_alike dues entry (slice_index row k) o (other_entry k l n)

      its_due : (due : D) → IsSome (due_of (set dues entry (Some due)) (slice_index row at))
      its_due due = is_some_by (due_of (set dues entry (Some due)) (slice_index row at)) due
          (ap (λ n. due_of (set dues entry (Some due)) n) stands ∙ get_or-set_same dues entry (Some due) None within)

      -- an entry that is set again
      module _ (due : D) (in_front : at < count) where
        pub again_parted : AreParted (set dues entry (Some due)) row places count
        again_parted = record {
          inverse = h.parted.inverse;
          entries = omega (arith, length-set dues entry (Some due), h.parted.entries);
          within = h.parted.within;
          front = λ k l. front k l (cases_eq k at);
          rest = λ k l m. other_unset (Some due) k l m (λ e. absurd (omega arith));
        }
          where
            front : (k : ℕ) → k < count → (k ≡ at) ⊎ (k ≡ at → ⊥) → IsSome (due_of (set dues entry (Some due)) (slice_index row k))
            front k l (inl e) = subst (λ n. IsSome (due_of (set dues entry (Some due)) (slice_index row n))) (sym e) (its_due due)
            front k l (inr n) = other_set (Some due) k l n

        pub again_but : IsHeapBut (rank_of rank (set dues entry (Some due))) row count at
        again_but = but_from (rank_of rank dues) (rank_of rank (set dues entry (Some due))) row row count count at
            (λ k l n. (l, refl, other_rank (Some due) k (omega (arith, h.parted.within)) n)) h.heap

        pub again_counted : count ≡ set_count (set dues entry (Some due))
        again_counted = h.counted ∙ sym (set_again dues entry due (entry_set in_front))

      -- an entry that wasn't set comes in front of the rest
      module _ (due : D) (behind : count ≤ at) (row' places' : List ℕ) (sw : SwappedAt row row' count at)
          (long : length row' ≡ length row) (inv : AreInverse row' places') where
        stays_front : (k : ℕ) → k < count → slice_index row' k ≡ slice_index row k
        stays_front k l = sw.2 k 0 (λ e. absurd (omega arith)) (λ e. absurd (omega arith))

        pub new_parted : AreParted (set dues entry (Some due)) row' places' (count + 1)
        new_parted = record {
          inverse = inv;
          entries = omega (arith, length-set dues entry (Some due), h.parted.entries, long);
          within = omega (arith, at_within, long);
          front = λ k l. front k l (cases_eq k count);
          rest = λ k l m. rest k l m (cases_eq k at);
        }
          where
            front : (k : ℕ) → k < count + 1 → (k ≡ count) ⊎ (k ≡ count → ⊥)
                → IsSome (due_of (set dues entry (Some due)) (slice_index row' k))
            front k l (inl e) = subst (λ n. IsSome (due_of (set dues entry (Some due)) n))
                (sym (ap (λ n. slice_index row' n) e ∙ sw.0 0)) (its_due due)
            front k l (inr n) = subst (λ x. IsSome (due_of (set dues entry (Some due)) x)) (sym (stays_front k (omega (arith, n))))
                (other_set (Some due) k (omega (arith, n)) (λ e. absurd (omega (arith, n))))

            rest : (k : ℕ) → count + 1 ≤ k → k < length row' → (k ≡ at) ⊎ (k ≡ at → ⊥)
                → due_of (set dues entry (Some due)) (slice_index row' k) ≡ None
            rest k l m (inl e) = ap (λ n. due_of (set dues entry (Some due)) n) (ap (λ n. slice_index row' n) e ∙ sw.1 0)
                ∙ other_unset (Some due) count (omega arith) (omega (arith, at_within)) (λ u. absurd (omega arith))
            rest k l m (inr n) = ap (λ x. due_of (set dues entry (Some due)) x) (sw.2 k 0 (λ u. absurd (omega arith)) n)
                ∙ other_unset (Some due) k (omega arith) (omega (arith, long)) n

        pub new_but : IsHeapBut (rank_of rank (set dues entry (Some due))) row' (count + 1) count
        new_but = but_from (rank_of rank dues) (rank_of rank (set dues entry (Some due))) row row' count (count + 1) count
            (λ k l n. let m : k < count = omega (arith, n) in
            (m, stays_front k m, other_rank (Some due) k (omega (arith, h.parted.within)) (λ e. absurd (omega arith)))) h.heap

        pub new_counted : count + 1 ≡ set_count (set dues entry (Some due))
        new_counted = let e = set_new dues entry due within (entry_unset behind) in omega (arith, e, h.counted)

      -- an entry that was set goes behind the others
      module _ (in_front : at < count) (last : ℕ) (one : last + 1 ≡ count) (row' places' : List ℕ) (sw : SwappedAt row row' at last)
          (long : length row' ≡ length row) (inv : AreInverse row' places') where
        pub less_parted : AreParted (set dues entry None) row' places' last
        less_parted = record {
          inverse = inv;
          entries = omega (arith, length-set dues entry None, h.parted.entries, long);
          within = omega (arith, h.parted.within, long);
          front = λ k l. front k l (cases_eq k at);
          rest = λ k l m. rest k l m (cases_eq k last);
        }
          where
            front : (k : ℕ) → k < last → (k ≡ at) ⊎ (k ≡ at → ⊥) → IsSome (due_of (set dues entry None) (slice_index row' k))
            front k l (inl e) = subst (λ n. IsSome (due_of (set dues entry None) n)) (sym (ap (λ n. slice_index row' n) e ∙ sw.0 0))
                (other_set None last (omega arith) (λ u. absurd (omega arith)))
            front k l (inr n) = subst (λ x. IsSome (due_of (set dues entry None) x)) (sym (sw.2 k 0 n (λ u. absurd (omega arith))))
                (other_set None k (omega arith) n)

            rest : (k : ℕ) → last ≤ k → k < length row' → (k ≡ last) ⊎ (k ≡ last → ⊥)
                → due_of (set dues entry None) (slice_index row' k) ≡ None
            rest k l m (inl e) = ap (λ n. due_of (set dues entry None) n) (ap (λ n. slice_index row' n) e ∙ (sw.1 0 ∙ stands))
                ∙ clears_at dues entry
            rest k l m (inr n) = ap (λ x. due_of (set dues entry None) x) (sw.2 k 0 (λ u. absurd (omega (arith, n))) n)
                ∙ other_unset None k (omega (arith, n)) (omega (arith, long)) (λ u. absurd (omega (arith, n)))

        pub less_but : IsHeapBut (rank_of rank (set dues entry None)) row' last at
        less_but = but_from (rank_of rank dues) (rank_of rank (set dues entry None)) row row' count last at
            (λ k l n. (omega arith, sw.2 k 0 n (λ u. absurd (omega arith)), other_rank None k (omega (arith, h.parted.within)) n)) h.heap

        pub less_heap : last ≤ at → IsHeap (rank_of rank (set dues entry None)) row' last
        less_heap l = heap_from (rank_of rank dues) (rank_of rank (set dues entry None)) row row' count last
            (λ k m. let n : k ≢ at = λ u. absurd (omega arith) in
            (omega arith, sw.2 k 0 n (λ u. absurd (omega arith)), other_rank None k (omega (arith, h.parted.within)) n)) h.heap

        pub less_counted : last ≡ set_count (set dues entry None)
        less_counted = let e = set_less dues entry (entry_set in_front) in omega (arith, e, h.counted)

    -- where none is set, none is pending
    pub none_least : count ≡ 0 → least_pending rank dues ≡ None
    none_least e = let k = none_pending dues (sym h.counted ∙ e) in rw k refl

    -- the top is the least
    pub top_least : (first : ℕ) (due : D) → 0 < count → first ≡ slice_index row 0 → due_of dues first ≡ Some due
        → least_pending rank dues ≡ Some (record { number = first; due = due })
    top_least first due some e d =
        foremost_is (precedes rank) (strict_order rank) (pending dues) (record { number = first; due = due })
        (due_pending dues (record { number = first; due = due }) d)
        (λ y a. over y (pending_due dues y a) (cases_eq y.number first))
      where
        -- each entry that is set stands in front
        place : (y : Pending D) → due_of dues y.number ≡ Some y.due
            → (slice_index places y.number < count) × (slice_index row (slice_index places y.number) ≡ y.number)
        place y k = go (cases_lt (slice_index places y.number) count)
          where
            l : y.number < length row
            l = let m = some_within dues y.number y.due k in omega (arith, m, h.parted.entries)

            go : (slice_index places y.number < count) ⊎ (count ≤ slice_index places y.number)
                → (slice_index places y.number < count) × (slice_index row (slice_index places y.number) ≡ y.number)
            go (inl m) = (m, h.parted.inverse.back y.number l)
            go (inr m) =
                let q = h.parted.rest (slice_index places y.number) m (h.parted.inverse.place_of y.number l) in
                let b = h.parted.inverse.back y.number l in
                absurd (let z = sym (ap (λ n. due_of dues n) b ∙ k) ∙ q in cc)

        over : (y : Pending D) → due_of dues y.number ≡ Some y.due → (y.number ≡ first) ⊎ (y.number ≡ first → ⊥)
            → (y ≡ record { number = first; due = due }) ⊎ (precedes rank (record { number = first; due = due }) y ≡ true)
        over y k (inl s) =
            let r : Some y.due ≡ Some due = sym k ∙ (ap (λ n. due_of dues n) s ∙ d) in
            inl (pending_same y (record { number = first; due = due }) s cc)
        over y k (inr n) =
            let p = place y k in
            let r : rank_of rank dues first ≡ rank due = rank_is dues first due d in
            let q : rank_of rank dues y.number ≡ rank y.due = rank_is dues y.number y.due k in
            let t : before (rank_of rank dues) y.number first
            ≡ false = rw (← p.1, e) (top (rank_of rank dues) row count h.heap (slice_index places y.number) p.0) in
            inr (rw (← r, ← q) (comes_over (rank_of rank dues y.number) (rank_of rank dues first) y.number first t n))
