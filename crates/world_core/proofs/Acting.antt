-- An event on one bus: what its bus needs, and what the network keeps behind it.
use Rattle.std.proofs.Common.{◌≡◌, ◌≤◌, ◌<◌, ◌+◌, ◌^◌, ℕ, Bool, false, List, All, Some, map, arith, sym, refl, ap, ◌∙◌, subst}
use Rattle.bus_specs.specs.Bus.{Bus}
use Rattle.bus_sound.proofs.Lists.{each-All, All-each}
use Rattle.fmi_states.specs.declared.ecu.Ecu.{Ghosts}
use Rattle.world_specs.specs.Next.{Event, next_event}
use Rattle.world_laws.specs.Words.{IsCounted}
use Rattle.world_laws.proofs.Order.{next-within}
use Rattle.state_laws.specs.Within.{counted_nodes}
use Rattle.world_core.specs.Courses.{Course, network_of}
use Rattle.world_core.specs.Kept.{IsKept}
use Rattle.world_core.specs.Seen.{Seen}
use Rattle.world_core.specs.Units.{states_of}

-- what is seen of a course with the units' states and parts
abbrev pub seen : {S G : Type 0} → Course → List S → List (List ℕ) → G → Bool → Seen S G
seen c states parts shared failed = record { plan = c.plan; network = network_of c states; units = states; parts = parts; shared = shared; failed = failed }

-- an event happened that left these buses
abbrev pub behind : Course → List Bus → ℕ → Course
behind c bs moment = record c { buses = bs; events = c.events + 1; now = moment }

pub counts : (c after next : Course) (bs : List Bus) (moment : ℕ) → after ≡ record c { buses = bs } → next ≡ record after { events = after.events + 1; now = moment }
    → next ≡ behind c bs moment
counts c after next bs moment e f = rw (f, e) refl

module _ {E G S : Type 0} (g : Ghosts E G S) (c : Course) (es : List E) (shared : G) (failed : Bool) (x : Seen S G)
    (is : seen c (states_of g es shared) (map g.parts es) shared failed ≡ x) where
  pub on-course : (e : Event) → next_event x.plan.stop x.network ≡ Some e → next_event c.plan.stop (network_of c (states_of g es shared)) ≡ Some e
  on-course e n = subst (λ (y : Seen S G). next_event y.plan.stop y.network ≡ Some e) (sym is) n

  pub room : x.network.events < x.plan.events → c.events < c.plan.events
  room l = subst (λ (y : Seen S G). y.network.events < y.plan.events) (sym is) l

  pub goes-on : x.failed ≡ false → failed ≡ false
  goes-on e = ap (λ (y : Seen S G). y.failed) is ∙ e

module _ {E G S : Type 0} (g : Ghosts E G S) (c : Course) (es : List E) (shared : G) (k : IsKept g c es shared) where
  pub early : (e : Event) → next_event c.plan.stop (network_of c (states_of g es shared)) ≡ Some e → e.moment ≤ 2 ^ 62
  early e n = let l = next-within c.plan.stop (network_of c (states_of g es shared)) e n in let s = k.plan.stop in omega (arith, l, s)

  pub few : c.events < 2 ^ 62
  few = let l = k.within.events in let b = k.plan.events.1 in omega (arith, l, b)

  pub attempts : All (λ (b : Bus). b.attempts < 2 ^ 63) c.buses
  attempts = All-each (λ (b : Bus). b.attempts < 2 ^ 63) c.buses
      (λ b a. let m = (each-All (IsCounted counted_nodes c.events) c.buses b k.within.counted a).attempts in let l = few in omega (arith, m, l))
