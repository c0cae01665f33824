-- Each state of the network of two buses and two guests fits.
use Rattle.std.proofs.Common.{◌≤◌, ℕ, [], ◌∷◌, All, refl}
use Rattle.std.proofs.lemmas.List.Elements.{All-nil, All-cons}
use Rattle.run_specs.specs.Run.{behind}
use Rattle.code_specs.specs.Instances.{first_misfit}
use Rattle.unit_specs.specs.Description.{Description}
use Rattle.binding_specs.specs.Answers.{answer, fresh_guest}
use Rattle.world_specs.specs.Network.{network}
use Rattle.world_specs.specs.Plan.{opening_of, units_of}
use Rattle.world_laws.specs.Cases.{sensor, gateway, two_buses}
use Rattle.world_laws.proofs.Cases.{two_buses-is}
use Rattle.saved_specs.specs.Fit.{Fit}
use Rattle.guest_laws.specs.Words.{Begins}
use Rattle.saved_laws.specs.Cases.{one_page, two_guests}
use Rattle.guest_laws.proofs.Fresh.{fresh-begins}
use Rattle.saved_laws.proofs.Saving.{guests-fit}

one-begins : (d : Description) (budget : ℕ) → Begins (fresh_guest one_page d budget)
unfolding first_misfit
one-begins d budget = fresh-begins one_page d budget refl refl refl

two-begin : All Begins two_guests
two-begin =
    let one = fresh_guest one_page sensor two_buses.fuel in
    let other = fresh_guest one_page gateway two_buses.fuel in
    All-cons Begins one (other ∷ []) (one-begins sensor two_buses.fuel)
    (All-cons Begins other [] (one-begins gateway two_buses.fuel) (All-nil Begins))

pub two-fit : (k : ℕ) → k ≤ two_buses.events
    → Fit two_buses two_guests
    (behind (network (units_of answer (λ g. g.phase) two_buses) two_buses.stop) k (opening_of two_buses two_guests))
two-fit k few = guests-fit two_buses two_guests k two_buses-is refl two-begin few
