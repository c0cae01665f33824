-- One guest more: its state is the first of those that were left.
use Rattle.std.proofs.Common.{◌≡◌, ◌<◌, ◌+◌, ℕ, suc, All, arith, List, [], ◌∷◌, ◌++◌, drop, length, get_or, sym, ap, ◌∙◌, append_assoc}
use Rattle.std.proofs.lemmas.List.{at_drop_more}
use Rattle.wasm_types.specs.declared.module.Module.{Module}
use Rattle.world_specs.specs.Plan.{NodePlan}
use Rattle.fmi_binding.specs.declared.state.GuestState.{GuestState}
use Rattle.fmi_binding.specs.Ecus.{opening_state}
use Rattle.guest_worlds.specs.Opening.{opening_states}

pub one-more : (fuel : ℕ) (m : Module) (left : List Module) (nodes : List NodePlan) (k : ℕ) (n : NodePlan) (ss : List GuestState) → k < length nodes → n ≡ get_or nodes k n
    → (ss ++ opening_state m n.description fuel ∷ []) ++ opening_states fuel left (drop (k + 1) nodes) ≡ ss ++ opening_states fuel (m ∷ left) (drop k nodes)
one-more fuel m left nodes k n ss below here =
    append_assoc ss (opening_state m n.description fuel ∷ []) (opening_states fuel left (drop (k + 1) nodes))
    ∙ ap (λ x. ss ++ opening_states fuel (m ∷ left) (x ∷ drop (k + 1) nodes)) here
    ∙ ap (λ ts. ss ++ opening_states fuel (m ∷ left) ts) (sym (at_drop_more (λ t. t) nodes k n below))

pub all-rest : {X : Type 0} (P : X → Type 0) (x : X) (xs : List X) → All P (x ∷ xs) → All P xs
all-rest P x xs h = λ k d lt. h (suc k) d (omega (arith, lt))
