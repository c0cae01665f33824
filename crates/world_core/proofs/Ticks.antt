-- When a clock ticks first.
use Rattle.std.proofs.Common.{◌≡◌, ◌≤◌, ℕ, suc, false, List, [], ◌∷◌, Option, Some, None, is_some, arith, sym, refl, ap, ◌∙◌, subst, inl, inr}
use Rattle.std.specs.Prelude.{option_map}
use Rattle.std.proofs.lemmas.Bool.{both_ways}
use Rattle.clock_queue.specs.Dues.{Pending, pending_from, pending, precedes, least_pending}
use Rattle.clock_queue.proofs.Comes.{comes_true, comes_by, comes_false, comes_through, comes_itself}
use Rattle.bus_sound.proofs.Among.{Among}
use Rattle.bus_sound.proofs.Orders.{IsOrder, foremost-some, foremost-among, foremost-unbeaten}
use Rattle.world_core.specs.First.{first_tick}

abbrev own : ℕ → ℕ
own moment = moment

pending-order : IsOrder (precedes own)
pending-order = record {
  itself = λ x. comes_itself x.due x.number;
  through = λ x y z e f. comes_through x.due y.due z.due x.number y.number z.number e f;
  over = λ x y z e f.
      let h = comes_true x.due z.due x.number z.number e in
      let k = comes_false y.due z.due y.number z.number f in
      comes_by x.due y.due x.number y.number (omega (arith, h.0, k.0))
      (λ l. let a = h.1 (omega (arith, k.0, l)) in let b = k.1 (omega (arith, h.0, l)) in omega (arith, a, b));
}

pending-set : (first : ℕ) (cs : List (Option ℕ)) (x : Pending ℕ) → Among (pending_from first cs) x → Among cs (Some x.due)
pending-set first [] x a = absurd a
pending-set first (None ∷ cs) x a = inr (pending-set (suc first) cs x a)
pending-set first (Some due ∷ cs) x (inl e) = inl (ap (λ (y : Pending ℕ). Some y.due) e)
pending-set first (Some due ∷ cs) x (inr a) = inr (pending-set (suc first) cs x a)

set-pending : (first : ℕ) (cs : List (Option ℕ)) (due : ℕ) → Among cs (Some due) → (number : ℕ) × Among (pending_from first cs) (record { number = number; due = due })
set-pending first [] due a = absurd a
set-pending first (None ∷ cs) due (inl e) = absurd (none e)
  where
    none : None ≡ Some due → ⊥
    none q = cc
set-pending first (None ∷ cs) due (inr a) = set-pending (suc first) cs due a
set-pending first (Some d ∷ cs) due (inl e) = (first, inl (ap (λ k. record { number = first; due = k }) (same e)))
  where
    same : Some d ≡ Some due → d ≡ due
    same q = cc
set-pending first (Some d ∷ cs) due (inr a) = let r = set-pending (suc first) cs due a in (r.0, inr r.1)

-- it is the due of one that is set
pub tick-set : (cs : List (Option ℕ)) (t : ℕ) → first_tick cs ≡ Some t → Among cs (Some t)
tick-set cs t h = go (least_pending own cs) refl h
  where
    go : (o : Option (Pending ℕ)) → least_pending own cs ≡ o → option_map (λ x. x.due) o ≡ Some t → Among cs (Some t)
    go None e k = absurd (none k)
      where
        none : None ≡ Some t → ⊥
        none q = cc
    go (Some x) e k = subst (λ d. Among cs (Some d)) (same k) (pending-set 0 cs x (foremost-among (precedes own) (pending cs) x e))
      where
        same : Some x.due ≡ Some t → x.due ≡ t
        same q = cc

-- and none that is set is due before
pub tick-first : (cs : List (Option ℕ)) (due : ℕ) → Among cs (Some due) → (t : ℕ) × (first_tick cs ≡ Some t) × (t ≤ due)
tick-first cs due a = go (least_pending own cs) refl (set-pending 0 cs due a)
  where
    go : (o : Option (Pending ℕ)) → least_pending own cs ≡ o → (number : ℕ) × Among (pending_from 0 cs) (record { number = number; due = due })
        → (t : ℕ) × (first_tick cs ≡ Some t) × (t ≤ due)
    go None e r = absurd (both_ways false refl (sym (ap is_some e) ∙ foremost-some (precedes own) (pending cs) (record { number = r.0; due = due }) r.1))
    go (Some x) e r =
        let k = comes_false due x.due r.0 x.number (foremost-unbeaten (precedes own) pending-order (pending cs) x (record { number = r.0; due = due }) e r.1) in
        (x.due, ap (option_map (λ y. y.due)) e, k.0)
