-- Each state of a run of guests fits, whatever their code does.
use Rattle.std.proofs.Common.{◌≡◌, ◌≤◌, ℕ, zero, suc, List, [], ◌∷◌, length, Some, All, slice_get, inl, inr}
use Rattle.run_specs.specs.Run.{behind}
use Rattle.bus_sound.proofs.Among.{Among}
use Rattle.bus_sound.proofs.Lists.{each-All}
use Rattle.code_laws.proofs.Tests.{some_is}
use Rattle.binding_specs.specs.Guests.{Guest}
use Rattle.binding_specs.specs.Answers.{answer}
use Rattle.binding_laws.proofs.Sound.{reply_is_bytes}
use Rattle.world_specs.specs.Network.{network}
use Rattle.world_specs.specs.Plan.{Plan, IsPlan, opening_of, units_of}
use Rattle.world_laws.proofs.Planned.{units-fit}
use Rattle.state_laws.proofs.Clocks.{units-near}
use Rattle.state_laws.proofs.Planned.{units-each}
use Rattle.saved_specs.specs.Fit.{Fit}
use Rattle.guest_laws.specs.Words.{Begins}
use Rattle.saved_laws.specs.Words.{KeepsSuited}
use Rattle.saved_laws.proofs.Guests.{keep-suited}
use Rattle.saved_laws.proofs.Suited.{stay-suited}
use Rattle.saved_laws.proofs.Whole.{whole}

get-among : {A : Type 0} (xs : List A) (i : ℕ) (x : A) → slice_get xs i ≡ Some x → Among xs x
get-among [] i x h = absurd cc
get-among (y ∷ xs) zero x h = inl (some_is y x h)
get-among (y ∷ xs) (suc i) x h = inr (get-among xs i x h)

pub all-keep : (p : Plan) (guests : List Guest) → All Begins guests → KeepsSuited guests (units_of answer (λ g. g.phase) p)
all-keep p guests h = keep-suited p guests (λ node fresh own. each-All Begins guests fresh h (get-among guests node fresh own))

pub guests-fit : (p : Plan) (guests : List Guest) (k : ℕ) → IsPlan p → length guests ≡ length p.nodes → All Begins guests → k ≤ p.events
    → Fit p guests (behind (network (units_of answer (λ g. g.phase) p) p.stop) k (opening_of p guests))
guests-fit p guests k plan same h few =
    whole (units_of answer (λ g. g.phase) p) p guests k (units-fit answer (λ s c. reply_is_bytes s c) (λ g. g.phase) p)
    (units-near answer (λ g. g.phase) p) (units-each answer (λ g. g.phase) p) plan same few
    (stay-suited (units_of answer (λ g. g.phase) p) p guests p.stop k (all-keep p guests h) same)
