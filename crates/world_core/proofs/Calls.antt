-- A live node is called where a clock of it ticks, or mail or a due notice is there.
use Rattle.std.proofs.Common.{◌≡◌, ◌+◌, ◌||◌, ℕ, suc, Bool, true, false, if◌then◌else◌, List, [], ◌∷◌, length, map, Option, None, Some, take, arith, refl, sym, ap, ◌∙◌}
use Rattle.std.specs.Prelude.{nat_lt, slice_index}
use Rattle.std.specs.List.{list_any}
use Rattle.std.proofs.lemmas.Bool.Decides.{nat_tests}
use Rattle.bus_specs.specs.Bus.{Bus}
use Rattle.bus_specs.specs.Inbox.{has_inbox}
use Rattle.session_specs.specs.Outcome.{SessionIn}
use Rattle.world_specs.specs.Plan.{NodePlan}
use Rattle.world_specs.specs.Sessions.{ticking_from, ticks}
use Rattle.world_core.specs.Called.{call_of, input_at, ticked_of}
use Rattle.world_core.specs.declared.standing.Standing.{Standing}
use Rattle.world_core.specs.declared.standing.Standing.TheVariants.{Live}

some-of : (n : ℕ) → nat_lt 0 (suc n) ≡ true
some-of n = grind (arith, nat_tests)

pub ticks-any : (f : ℕ → ℕ) (now p : ℕ) (cs : List (Option ℕ)) → nat_lt 0 (length (map f (ticking_from p now cs))) ≡ list_any (ticks now) cs
ticks-any f now p [] = refl
ticks-any f now p (c ∷ cs) = go (ticks now c) (ticks-any f now (p + 1) cs)
  where
    go : (q : Bool) → nat_lt 0 (length (map f (ticking_from (p + 1) now cs))) ≡ list_any (ticks now) cs
        → nat_lt 0 (length (map f (if q then p ∷ ticking_from (p + 1) now cs else ticking_from (p + 1) now cs))) ≡ (q || list_any (ticks now) cs)
    go true h = some-of (length (map f (ticking_from (p + 1) now cs)))
    go false h = h

module _ (bs : List Bus) (resolution now node : ℕ) (n : NodePlan) (t : Standing) (last : ℕ) (cs : List (Option ℕ)) (ticked : List ℕ)
    (live : t ≡ Live last) (e : ticked ≡ ticked_of now n (take (length n.description.countdown) cs)) where
  test : (nat_lt 0 (length ticked) || list_any (λ b. has_inbox b now node) bs)
      ≡ (list_any (ticks now) (take (length n.description.countdown) cs) || list_any (λ b. has_inbox b now node) bs)
  test = ap (λ q. q || list_any (λ b. has_inbox b now node) bs)
      (ap (λ l. nat_lt 0 (length l)) e ∙ ticks-any (slice_index n.description.countdown) now 0 (take (length n.description.countdown) cs))

  pub not-called : false ≡ (nat_lt 0 (length ticked) || list_any (λ b. has_inbox b now node) bs) → None ≡ call_of bs resolution now node n t cs
  not-called h = rw (live, sym (h ∙ test)) refl

  pub is-called : (input : SessionIn) → true ≡ (nat_lt 0 (length ticked) || list_any (λ b. has_inbox b now node) bs) → input ≡ input_at bs resolution now node n last ticked
      → Some (record { is_new = false; input = input }) ≡ call_of bs resolution now node n t cs
  is-called input h i = rw (live, sym (h ∙ test)) (ap (λ x. Some (record { is_new = false; input = x })) (i ∙ ap (input_at bs resolution now node n last) e))
