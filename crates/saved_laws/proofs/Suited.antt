-- Guests stay suited along a run, where each session leaves them so.
use Rattle.std.proofs.Common.{◌≡◌, ℕ, suc, ◌+◌, Bool, true, false, if◌then◌else◌, List, [], ◌∷◌, map, length, Option, None, Some, All}
use Rattle.std.proofs.Common.{slice_get, arith, refl, sym, subst, inl, inr}
use Rattle.std.proofs.lemmas.List.Elements.{All-head, All-tail}
use Rattle.run_specs.specs.Run.{behind}
use Rattle.session_specs.specs.Outcome.{SessionOut, End}
use Rattle.session_specs.specs.Outcome as session
use Rattle.binding_specs.specs.Guests.{Guest}
use Rattle.bus_specs.specs.Bus.{Bus}
use Rattle.bus_sound.proofs.Among.{Among}
use Rattle.bus_sound.proofs.Lists.{All-each}
use Rattle.world_specs.specs.Units.{Units}
use Rattle.world_specs.specs.World.{World, Node, Standing, New, Live, Down, Over}
use Rattle.world_specs.specs.Next.{What, Finish, Return, Sessions, Start, Event}
use Rattle.world_specs.specs.Sessions.{takes_part, given_to, session_from, standing_after, node_behind, node_after}
use Rattle.world_specs.specs.Step.{outcome_of, world_behind}
use Rattle.world_specs.specs.Network.{network}
use Rattle.world_specs.specs.Plan.{Plan, NodePlan, new_nodes, opening_of}
use Rattle.world_laws.proofs.Lists.{all-map}
use Rattle.world_laws.proofs.Changed.{number-stays, along}
use Rattle.state_laws.proofs.Planned.{planned-along}
use Rattle.saved_specs.specs.Fit.{IsSuited, StandsSuited, AreSuited}
use Rattle.saved_laws.specs.Words.{KeepsSuited}

-- ---- one node

module _ (u : Units Guest) (guests : List Guest) (keeps : KeepsSuited guests u) (bs : List Bus) (t : ℕ) (n : Node Guest) (fresh : Guest)
    (own : slice_get guests n.number ≡ Some fresh) where
  by-end : (r : SessionOut × Guest) (e : End) → (e ≡ session.Live → IsSuited fresh r.1)
      → StandsSuited fresh (standing_after t r.0 r.1 n.standing e)
  by-end r session.Live h = h refl
  by-end r session.Over h = tt
  by-end r (session.Down cause) h = tt

  node-suited : StandsSuited fresh n.standing → StandsSuited fresh (node_after u bs t n).standing
  node-suited h = part (takes_part bs t n)
    where
      ran : (s : Standing Guest) → StandsSuited fresh s → StandsSuited fresh (node_behind t n (session_from u bs t n s)).standing
      ran (New s) k = let g = given_to bs t n 0 [] in let r = u.session n.number g s in
          by-end r (r.0).end
          (λ e. subst (λ (s : Guest). ((u.session n.number g s).0).end ≡ session.Live → IsSuited fresh (u.session n.number g s).1)
          (sym k) (keeps.first n.number fresh g own) e)
      ran (Live s last clocks) k = let g = given_to bs t n last clocks in let r = u.session n.number g s in
          by-end r (r.0).end (λ e. keeps.later n.number fresh s g own k e)
      ran Down k = h
      ran Over k = h

      part : (q : Bool) → StandsSuited fresh (node_behind t n (if q then session_from u bs t n n.standing else None)).standing
      part true = ran n.standing h
      part false = h

-- ---- all nodes

-- each is suited by the guest in its place
abbrev Own : List Guest → Node Guest → Type 0
Own guests n = (fresh : Guest) → slice_get guests n.number ≡ Some fresh → StandsSuited fresh n.standing

module _ (u : Units Guest) (guests : List Guest) (keeps : KeepsSuited guests u) where
  own-stays : (bs : List Bus) (t : ℕ) (n : Node Guest) → Own guests n → Own guests (node_after u bs t n)
  own-stays bs t n h fresh own =
      let same : slice_get guests n.number ≡ Some fresh
      = subst (λ (k : ℕ). slice_get guests k ≡ Some fresh) (number-stays u bs t n) own in
      node-suited u guests keeps bs t n fresh same (h fresh same)

  step-stays : (w : World Guest) (e : Event) → All (Own guests) w.nodes → All (Own guests) (world_behind u w e).nodes
  step-stays w e h = go e.what
    where
      go : (k : What) → All (Own guests) (outcome_of u w e.moment k).nodes
      go (Finish bus) = h
      go (Return bus node) = h
      go Sessions = all-map (Own guests) (Own guests) (node_after u w.buses e.moment) w.nodes
          (λ n a i. own-stays w.buses e.moment n i) h
      go (Start bus) = h

-- these guests stand in the list of all from a place on
abbrev From : List Guest → ℕ → List Guest → Type 0
From guests place gs = (i : ℕ) (g : Guest) → slice_get gs i ≡ Some g → slice_get guests (place + i) ≡ Some g

from-first : (guests : List Guest) (place : ℕ) (g : Guest) (gs : List Guest) → From guests place (g ∷ gs) → slice_get guests place ≡ Some g
from-first guests place g gs h =
    let e : place + 0 ≡ place = omega arith in subst (λ k. slice_get guests k ≡ Some g) e (h 0 g refl)

from-rest : (guests : List Guest) (place : ℕ) (g : Guest) (gs : List Guest) → From guests place (g ∷ gs) → From guests (place + 1) gs
from-rest guests place g gs h = λ i x at.
    let e : place + suc i ≡ place + 1 + i = omega arith in subst (λ k. slice_get guests k ≡ Some x) e (h (suc i) x at)

one-guest : (g fresh : Guest) (o : Option Guest) → o ≡ Some g → o ≡ Some fresh → g ≡ fresh
one-guest g fresh o e f = cc

opens-own : (guests : List Guest) (place : ℕ) (ns : List NodePlan) (gs : List Guest) → From guests place gs
    → (n : Node Guest) → Among (new_nodes place ns gs) n → Own guests n
opens-own guests place [] gs h n a = absurd a
opens-own guests place (m ∷ ns) [] h n a = absurd a
opens-own guests place (m ∷ ns) (g ∷ gs) h n (inl e) =
    subst (Own guests) e (λ fresh own. one-guest g fresh (slice_get guests place) (from-first guests place g gs h) own)
opens-own guests place (m ∷ ns) (g ∷ gs) h n (inr a) = opens-own guests (place + 1) ns gs (from-rest guests place g gs h) n a

-- in their places
in-places : (guests : List Guest) (place : ℕ) (ps : List NodePlan) (gs : List Guest) (ns : List (Node Guest)) → length gs ≡ length ps
    → From guests place gs → map (λ n. n.number) ns ≡ map (λ n. n.number) (new_nodes place ps gs) → All (Own guests) ns → AreSuited gs ns
in-places guests place [] [] [] l f e h = tt
in-places guests place [] [] (n ∷ ns) l f e h = absurd cc
in-places guests place [] (g ∷ gs) ns l f e h = absurd (omega (arith, l))
in-places guests place (p ∷ ps) [] ns l f e h = absurd (omega (arith, l))
in-places guests place (p ∷ ps) (g ∷ gs) [] l f e h = absurd cc
in-places guests place (p ∷ ps) (g ∷ gs) (n ∷ ns) l f e h =
    let number : n.number ≡ place = cc in
    let numbers : map (λ n. n.number) ns ≡ map (λ n. n.number) (new_nodes (place + 1) ps gs) = cc in
    let own = All-head (Own guests) n ns h g (subst (λ k. slice_get guests k ≡ Some g) (sym number) (from-first guests place g gs f)) in
    (own, in-places guests (place + 1) ps gs ns (omega (arith, l)) (from-rest guests place g gs f) numbers (All-tail (Own guests) n ns h))

pub stay-suited : (u : Units Guest) (p : Plan) (guests : List Guest) (stop k : ℕ) → KeepsSuited guests u → length guests ≡ length p.nodes
    → AreSuited guests (behind (network u stop) k (opening_of p guests)).nodes
stay-suited u p guests stop k keeps same =
    let all : From guests 0 guests = λ i g at. let e : i ≡ 0 + i = omega arith in subst (λ k. slice_get guests k ≡ Some g) e at in
    let w = behind (network u stop) k (opening_of p guests) in
    let h : All (Own guests) w.nodes =
    along u stop (λ w. All (Own guests) w.nodes) (λ w e n h. step-stays u guests keeps w e h) k (opening_of p guests)
    (All-each (Own guests) (new_nodes 0 p.nodes guests) (opens-own guests 0 p.nodes guests all)) in
    in-places guests 0 p.nodes guests w.nodes same all (planned-along u p guests stop k).numbers h
