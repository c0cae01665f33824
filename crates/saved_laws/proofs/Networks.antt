-- Each state of a network of accepted modules fits.
use Rattle.std.proofs.Common.{◌≡◌, ◌≤◌, ℕ, List, [], ◌∷◌, length, All, arith, refl}
use Rattle.std.proofs.lemmas.List.Elements.{All-nil, All-cons, All-head, All-tail}
use Rattle.run_specs.specs.Run.{behind}
use Rattle.wasm_types.specs.Modules.{NestedModule}
use Rattle.binding_specs.specs.Answers.{fresh_guest}
use Rattle.world_specs.specs.Network.{network}
use Rattle.world_specs.specs.Plan.{NodePlan, IsPlan}
use Rattle.network_specs.specs.Networks.{Network}
use Rattle.ideal_specs.specs.Ideal.{guests_from, guest_units, ideal_world}
use Rattle.saved_specs.specs.Fit.{Fit}
use Rattle.guest_laws.specs.Words.{Begins}
use Rattle.guest_laws.proofs.Accepted.{module-begins}
use Rattle.saved_laws.specs.Words.{IsAccepted}
use Rattle.saved_laws.proofs.Saving.{guests-fit}

one-each : (fuel : ℕ) (ms : List NestedModule) (ns : List NodePlan) → length ms ≡ length ns → length (guests_from fuel ms ns) ≡ length ns
one-each fuel [] [] l = refl
one-each fuel [] (n ∷ ns) l = absurd (omega (arith, l))
one-each fuel (m ∷ ms) [] l = absurd (omega (arith, l))
one-each fuel (m ∷ ms) (n ∷ ns) l = let r = one-each fuel ms ns (omega (arith, l)) in omega (arith, r)

all-begin : (fuel : ℕ) (ms : List NestedModule) (ns : List NodePlan) → All IsAccepted ms → All Begins (guests_from fuel ms ns)
all-begin fuel [] ns h = All-nil Begins
all-begin fuel (m ∷ ms) [] h = All-nil Begins
all-begin fuel (m ∷ ms) (n ∷ ns) h =
    let a = All-head IsAccepted m ms h in
    All-cons Begins (fresh_guest m n.description fuel) (guests_from fuel ms ns)
    (module-begins m a.file n.description fuel a.spelled a.valid a.fits) (all-begin fuel ms ns (All-tail IsAccepted m ms h))

pub network-fits : (n : Network NestedModule) (k : ℕ) → IsPlan n.plan → length n.codes ≡ length n.plan.nodes → All IsAccepted n.codes
    → k ≤ n.plan.events
    → Fit n.plan (guests_from n.plan.fuel n.codes n.plan.nodes) (behind (network (guest_units n.plan) n.plan.stop) k (ideal_world n))
network-fits n k plan same accepted few =
    guests-fit n.plan (guests_from n.plan.fuel n.codes n.plan.nodes) k plan (one-each n.plan.fuel n.codes n.plan.nodes same)
    (all-begin n.plan.fuel n.codes n.plan.nodes accepted) few
