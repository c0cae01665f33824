-- The first of a node's list is what the node offers.
use Rattle.std.proofs.Common.{◌≡◌, ◌⊎◌, ◌<◌, ℕ, Bool, true, false, cond, eqb, eqb-true, eq-eqb, List, [], ◌∷◌, fold, Option, Some}
use Rattle.std.proofs.Common.{None}
use Rattle.std.proofs.Common.{sym, refl, ap, ◌∙◌, subst, inl, inr, arith}
use Rattle.std.specs.List.{filter}
use Rattle.std.proofs.lemmas.Bool.Decides.{nat_tests}
use Rattle.frame_specs.specs.Dominance.{beats}
use Rattle.run_specs.specs.Order.{better_of, foremost}
use Rattle.bus_specs.specs.Bus.{Request, offer}
use Rattle.arbitration.specs.Key.{key_of}
use Rattle.arbitration.proofs.KeyOrder.{beats-by_key}
use Rattle.index_list.specs.Many.{first_of, item_of, list_at}
use Rattle.pending_frames.specs.Kept.{Placed, Among, IsAhead, IsInOrder, IsKept, requests_of}
use Rattle.pending_frames.proofs.Members.{in_filter, filter_has, filter_none}
use Rattle.pending_frames.proofs.Numbers.{IsRising, filter_rising}
use Rattle.pending_frames.proofs.Lists.{requests_rise, in_requests, requests_have}
use Rattle.pending_frames.proofs.Steps.{other_number}

abbrev better : Request → Request → Bool
better q r = beats q.frame r.frame

lower_wins : (q r : Request) → key_of q.frame < key_of r.frame → better q r ≡ true
lower_wins q r l = beats-by_key q.frame r.frame ∙ grind (arith, nat_tests)

ahead_stays : (x y : Request) → (y ≡ x) ⊎ IsAhead x y → better y x ≡ false
ahead_stays x y (inl e) = beats-by_key y.frame x.frame ∙ rw (ap (λ (r : Request). key_of r.frame) e) (grind (arith, nat_tests))
ahead_stays x y (inr (inl l)) = beats-by_key y.frame x.frame ∙ grind (arith, nat_tests)
ahead_stays x y (inr (inr h)) = let k = h.0 in beats-by_key y.frame x.frame ∙ grind (arith, nat_tests)

-- the best so far stays where it is ahead of all that follows
stays_best : (xs : List Request) (x : Request) → ((y : Request) → Among xs y → (y ≡ x) ⊎ IsAhead x y)
    → fold (better_of better) (Some x) xs ≡ Some x
stays_best [] x over = refl
stays_best (y ∷ xs) x over = rw (ahead_stays x y (over y (inl refl))) (stays_best xs x (λ z a. over z (inr a)))

abbrev Loses : Request → Option Request → Type 0
Loses x None = Unit {0}
Loses x (Some z) = better x z ≡ true

becomes_best : (xs : List Request) (x : Request) (best : Option Request) → Loses x best → IsRising xs → Among xs x
    → ((y : Request) → Among xs y → (y ≡ x) ⊎ IsAhead x y) → fold (better_of better) best xs ≡ Some x
becomes_best [] x best loses rise a over = absurd a
becomes_best (y ∷ xs) x best loses rise a over = go best loses a (λ b l c. becomes_best xs x b l rise.1 c (λ z d. over z (inr d)))
  where
    later : (z : Request) → Among xs z → (z ≡ x) ⊎ IsAhead x z
    later z d = over z (inr d)

    -- y is before x, so its key is greater
    worse : Among xs x → better x y ≡ true
    worse c = on (over y (inl refl))
      where
        on : (y ≡ x) ⊎ IsAhead x y → better x y ≡ true
        on (inl e) = let l = rise.0 x c in let k = ap (λ (r : Request). r.number) e in absurd (omega arith)
        on (inr (inl l)) = lower_wins x y l
        on (inr (inr h)) = let l = rise.0 x c in let k = h.1 in absurd (omega arith)

    go : (b : Option Request) → Loses x b → (x ≡ y) ⊎ Among xs x
        → ((b : Option Request) → Loses x b → Among xs x → fold (better_of better) b xs ≡ Some x)
        → fold (better_of better) (better_of better b y) xs ≡ Some x
    go None l (inl e) on = subst (λ (z : Request). fold (better_of better) (Some z) xs ≡ Some x) e (stays_best xs x later)
    go (Some z) l (inl e) on = subst (λ (w : Request). fold (better_of better) (cond (better w z) (Some w) (Some z)) xs ≡ Some x) e
        (rw l (stays_best xs x later))
    go None l (inr c) on = on (Some y) (worse c) c
    go (Some z) l (inr c) on = which (better y z)
      where
        which : (t : Bool) → fold (better_of better) (cond t (Some y) (Some z)) xs ≡ Some x
        which true = on (Some y) (worse c) c
        which false = on (Some z) l c

module _ (lists : List (List Placed)) (kept : IsKept lists) (node : ℕ) where
  abbrev of_node : Request → Bool
  of_node r = eqb r.node node

  in_list : (r : Request) → Among (filter of_node (requests_of lists)) r → (a : Placed) × Among (list_at lists node) a × (r ≡ a.1)
  in_list r h =
      let f = in_filter of_node (requests_of lists) r h in
      let s = in_requests lists kept r f.0 in
      (s.0, subst (λ i. Among (list_at lists i) s.0) (eqb-true r.node node f.1) s.1, s.2)

  -- an empty list offers nothing
  pub none_offered : first_of (list_at lists node) ≡ None → None ≡ offer (requests_of lists) node
  none_offered e = sym (ap (λ rs. foremost better rs) (filter_none of_node (requests_of lists) none))
    where
      empty : (l : List Placed) (a : Placed) → first_of l ≡ None → Among l a → ⊥
      empty [] a e h = h
      empty (b ∷ l) a e h = cc

      none : (r : Request) → Among (requests_of lists) r → of_node r ≡ false
      none r h =
          let s = in_requests lists kept r h in
          other_number r.node node (λ n. empty (list_at lists node) s.0 e (subst (λ i. Among (list_at lists i) s.0) n s.1))

  pub first_offered : (place : ℕ) (r : Request) → first_of (list_at lists node) ≡ Some place
      → item_of place (list_at lists node) ≡ Some r → (Some r ≡ offer (requests_of lists) node) × (r.node ≡ node)
  first_offered place r e f = go (list_at lists node) refl (kept.order node) e f
    where
      go : (l : List Placed) → list_at lists node ≡ l → IsInOrder l → first_of l ≡ Some place → item_of place l ≡ Some r
          → (Some r ≡ offer (requests_of lists) node) × (r.node ≡ node)
      go [] is order e f = absurd cc
      go (a ∷ others) is order e f = (sym best, home)
        where
          s : a.0 ≡ place
          s = cc

          request : a.1 ≡ r
          request =
              let k : cond (eqb place a.0) (Some a.1) (item_of place others) ≡ Some a.1 = rw (eq-eqb place a.0 (sym s)) refl in
              let t : Some a.1 ≡ Some r = sym k ∙ f in cc

          here : Among (list_at lists node) a
          here = subst (λ l. Among l a) (sym is) (inl refl)

          home : r.node ≡ node
          home = ap (λ (q : Request). q.node) (sym request) ∙ kept.home node a here

          among : Among (filter of_node (requests_of lists)) r
          among = filter_has of_node (requests_of lists) r
              (subst (Among (requests_of lists)) request (requests_have lists kept node a here)) (eq-eqb r.node node home)

          over : (y : Request) → Among (filter of_node (requests_of lists)) y → (y ≡ r) ⊎ IsAhead r y
          over y h =
              let t = in_list y h in on t.0 (subst (λ l. Among l t.0) is t.1) t.2
            where
              on : (b : Placed) → Among (a ∷ others) b → y ≡ b.1 → (y ≡ r) ⊎ IsAhead r y
              on b (inl k) u = inl (u ∙ (ap (λ (c : Placed). c.1) k ∙ request))
              on b (inr k) u = inr (subst (λ (q : Request). IsAhead q y) request
                  (subst (λ (q : Request). IsAhead a.1 q) (sym u) (order.0 b k)))

          best : offer (requests_of lists) node ≡ Some r
          best = becomes_best (filter of_node (requests_of lists)) r None tt
              (filter_rising of_node (requests_of lists) (requests_rise lists)) among over
