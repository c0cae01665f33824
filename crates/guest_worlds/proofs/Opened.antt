-- What a network asks of its units holds of the guests of a plan.
use Rattle.std.proofs.Common.{◌≡◌, ◌≤◌, ◌<◌, ℕ, zero, suc, max, List, [], ◌∷◌, All, get_or, length, sym, ap, ◌∙◌, subst, refl, arith}
use Rattle.std.proofs.lemmas.List.{length-map}
use Rattle.fmi_states.specs.declared.ecu.Ecu.{Ghosts}
use Rattle.fmi_states.specs.declared.phase.Phase.TheVariants.{Fresh}
use Rattle.unit_specs.specs.Description.{Terminal}
use Rattle.wasm_types.specs.declared.module.Module.{Module}
use Rattle.binding_specs.specs.Guests.{greatest_size}
use Rattle.world_specs.specs.Plan.{NodePlan, IsTerminal, IsNodePlan}
use Rattle.world_core.specs.Units.{states_of}
use Rattle.fmi_binding.specs.declared.state.GuestState.{GuestState}
use Rattle.guest_worlds.specs.Opening.{IsDescribed, opening_states}
use Rattle.guest_worlds.proofs.Making.{all-rest}

all-more : {X : Type 0} (P : X → Type 0) (x : X) (xs : List X) → P x → All P xs → All P (x ∷ xs)
all-more {X} P x xs p h = λ k d. at k d
  where
    at : (k : ℕ) (d : X) → k < length (x ∷ xs) → P (get_or (x ∷ xs) k d)
    at zero d lt = p
    at (suc k) d lt = h k d (omega (arith, lt))

all-first : {X : Type 0} (P : X → Type 0) (x : X) (xs : List X) → All P (x ∷ xs) → P x
all-first P x xs h = h 0 x (omega arith)

least-of-two : (a b most : ℕ) → a ≤ most → b ≤ most → max a b ≤ most
least-of-two a b most h k = grind (arith, h, k)

sizes : (ts : List Terminal) → All IsTerminal ts → greatest_size ts ≤ 65536
sizes [] h = omega arith
sizes (t ∷ ts) h =
    let first = all-first IsTerminal t ts h in
    least-of-two (max t.rx_max t.tx_max) (greatest_size ts) 65536 (least-of-two t.rx_max t.tx_max 65536 first.rx_max.1 first.tx_max.1) (sizes ts (all-rest IsTerminal t ts h))

pub described : (buses : ℕ) (ns : List NodePlan) → All (IsNodePlan buses) ns → All IsDescribed ns
described buses [] h = λ k d lt. absurd (omega (arith, lt))
described buses (n ∷ ns) h =
    all-more IsDescribed n ns (sizes n.description.terminals (all-first (IsNodePlan buses) n ns h).description.terminals) (described buses ns (all-rest (IsNodePlan buses) n ns h))

one-each : (fuel : ℕ) (ms : List Module) (ns : List NodePlan) → length ms ≡ length ns → length (opening_states fuel ms ns) ≡ length ns
one-each fuel [] [] h = refl
one-each fuel [] (n ∷ ns) h = h
one-each fuel (m ∷ ms) [] h = refl
one-each fuel (m ∷ ms) (n ∷ ns) h = ap suc (one-each fuel ms ns (omega (arith, h)))

all-fresh : (fuel : ℕ) (ms : List Module) (ns : List NodePlan) → All (λ s. s.phase ≡ Fresh) (opening_states fuel ms ns)
all-fresh fuel [] ns = λ k d lt. absurd (omega (arith, lt))
all-fresh fuel (m ∷ ms) [] = λ k d lt. absurd (omega (arith, lt))
all-fresh fuel (m ∷ ms) (n ∷ ns) = all-more (λ s. s.phase ≡ Fresh) _ (opening_states fuel ms ns) refl (all-fresh fuel ms ns)

module _ {E G : Type 0} (g : Ghosts E G GuestState) where
  fresh-in : (es : List E) (shared : G) (P : GuestState → Type 0) → All P (states_of g es shared) → All (λ e. P (g.state e shared)) es
  fresh-in [] shared P h = λ k d lt. absurd (omega (arith, lt))
  fresh-in (e ∷ es) shared P h = all-more (λ e. P (g.state e shared)) e es (all-first P (g.state e shared) (states_of g es shared) h) (fresh-in es shared P (all-rest P (g.state e shared) (states_of g es shared) h))

  pub fresh : (es : List E) (shared : G) (fuel : ℕ) (ms : List Module) (ns : List NodePlan) → states_of g es shared ≡ opening_states fuel ms ns
      → All (λ e. (g.state e shared).phase ≡ Fresh) es
  fresh es shared fuel ms ns same = fresh-in es shared (λ s. s.phase ≡ Fresh) (subst (All (λ s. s.phase ≡ Fresh)) (sym same) (all-fresh fuel ms ns))

  pub as-many : (es : List E) (shared : G) (fuel : ℕ) (ms : List Module) (ns : List NodePlan) → states_of g es shared ≡ opening_states fuel ms ns
      → length ms ≡ length ns → length es ≡ length ns
  as-many es shared fuel ms ns same each = sym (length-map es (λ e. g.state e shared)) ∙ ap length same ∙ one-each fuel ms ns each
