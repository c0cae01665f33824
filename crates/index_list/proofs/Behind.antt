-- What a list reads as behind a push, an insertion, and the unlinking of that item.
use Rattle.std.proofs.Common.{◌≡◌, ◌≢◌, ◌<◌, ℕ, true, false, cond, List, [], ◌∷◌, ◌++◌, length, None, Some, nat_eq, refl, sym, ap, ◌∙◌, subst, inl, inr, arith, map, set}
use Rattle.std.proofs.lemmas.List.{get_or-set_same, get_or-set_other, ext_get_or, get_or-map, length-map}
use Rattle.std.proofs.Math.ListN.{length-set}
use Rattle.index_list.specs.Many.{last_of, has, before, without, after_of, item_of, list_at}
use Rattle.index_list.proofs.Chains.{same_nat, other_nat, nat_cases, has_no, last_append, without_absent}

module _ {T : Type 0} where
  pub last_pushed : (es : List (ℕ × T)) (p : ℕ) (x : T) → last_of None (es ++ (p, x) ∷ []) ≡ Some p
  last_pushed es p x = last_append None es ((p, x) ∷ [])

  pub item_pushed : (es : List (ℕ × T)) (p : ℕ) (x : T) → has p es ≡ false → item_of p (es ++ (p, x) ∷ []) ≡ Some x
  item_pushed [] p x h = rw (same_nat p) refl
  item_pushed (e ∷ es) p x h = let n = has_no p e es h in rw (other_nat p e.0 n.0) (item_pushed es p x n.1)

  pub others_pushed : (es : List (ℕ × T)) (p q : ℕ) (x : T) → q ≢ p → item_of q (es ++ (p, x) ∷ []) ≡ item_of q es
  others_pushed [] p q x ne = rw (other_nat q p ne) refl
  others_pushed (e ∷ es) p q x ne = ap (λ r. cond (nat_eq q e.0) (Some e.1) r) (others_pushed es p q x ne)

  pub pushed_out : (es : List (ℕ × T)) (p : ℕ) (x : T) → has p es ≡ false → without p (es ++ (p, x) ∷ []) ≡ es
  pushed_out [] p x h = rw (same_nat p) refl
  pushed_out (e ∷ es) p x h = let n = has_no p e es h in rw (other_nat p e.0 n.0) (ap (λ r. e ∷ r) (pushed_out es p x n.1))

  pub all_as_before : (lists : List (List (ℕ × T))) (i p : ℕ) (x : T) → i < length lists → ((j : ℕ) → has p (list_at lists j) ≡ false)
      → map (without p) (set lists i (list_at lists i ++ (p, x) ∷ [])) ≡ lists
  all_as_before lists i p x lt h =
      let new = list_at lists i ++ (p, x) ∷ [] in
      let len : length (map (without p) (set lists i new)) ≡ length lists = length-map (set lists i new) (without p) ∙ length-set lists
      i new in
      ext_get_or [] (map (without p) (set lists i new)) lists len (λ j l.
      get_or-map (without p) (set lists i new) j [] [] (omega (arith, l, len, length-set lists i new)) ∙ elim (nat_cases j i) [
        | inl e ↦ subst (λ z. without p (list_at (set lists i new) z) ≡ list_at lists z) (sym e)
            (ap (without p) (get_or-set_same lists i new [] lt) ∙ pushed_out (list_at lists i) p x (h i))
        | inr ne ↦ ap (without p) (get_or-set_other lists i j new [] ne) ∙ without_absent p (list_at lists j) (h j)
      ])

  pub inserted_next : (es : List (ℕ × T)) (p q : ℕ) (x : T) → has p es ≡ true → has q es ≡ false
      → after_of q (before p (q, x) es) ≡ Some p
  inserted_next [] p q x h k = absurd (cc)
  inserted_next (e ∷ es) p q x h k = elim (nat_cases p e.0) [
    | inl r ↦ rw (r, same_nat e.0, same_nat q) refl
    | inr ne ↦
        let n = has_no q e es k in
        let t : has p es ≡ true = rw (other_nat p e.0 ne) at h in
        rw (other_nat p e.0 ne, other_nat q e.0 n.0) (inserted_next es p q x t n.1)
  ]

  pub inserted_out : (es : List (ℕ × T)) (p q : ℕ) (x : T) → has q es ≡ false → without q (before p (q, x) es) ≡ es
  inserted_out [] p q x k = refl
  inserted_out (e ∷ es) p q x k = elim (nat_cases p e.0) [
    | inl r ↦ rw (r, same_nat e.0, same_nat q) refl
    | inr ne ↦
        let n = has_no q e es k in
        rw (other_nat p e.0 ne, other_nat q e.0 n.0) (ap (λ r. e ∷ r) (inserted_out es p q x n.1))
  ]
