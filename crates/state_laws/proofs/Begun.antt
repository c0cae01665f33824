-- The first event of a plan's network makes every node live or out, and nobody becomes new again.
use Rattle.std.proofs.Common.{◌≡◌, ◌≤◌, ℕ, ◌⊎◌, false, if◌then◌else◌, List, [], Option, Some, None, All, arith, refl, sym, ap, subst, inl}
use Rattle.std.proofs.Common.{inr}
use Rattle.run_specs.specs.Run.{behind}
use Rattle.session_specs.specs.Outcome.{SessionOut, End}
use Rattle.session_specs.specs.Outcome as session
use Rattle.bus_specs.specs.Bus.{Bus}
use Rattle.bus_sound.proofs.Lists.{All-each}
use Rattle.world_specs.specs.Units.{Units}
use Rattle.world_specs.specs.World.{World, Node, Standing}
use Rattle.world_specs.specs.Next.{Event, What, Finish, Return, Sessions, Start, at, next_event}
use Rattle.world_specs.specs.Sessions.{is_new, is_called, given_to, session_from, session_of, node_behind, node_after, standing_after}
use Rattle.world_specs.specs.Step.{outcome_of, world_behind}
use Rattle.world_specs.specs.Network.{network}
use Rattle.world_specs.specs.Plan.{Plan, new_nodes, opening_of}
use Rattle.world_laws.proofs.Lists.{all-map}
use Rattle.world_laws.proofs.Changed.{along}
use Rattle.state_laws.specs.Words.{HasBegun, IsNewAtFirst}
use Rattle.state_laws.proofs.Opening.{IsFresh, fresh, first-event}

module _ {S : Type 0} (t : ℕ) (n : Node S) where
  begun-by : (out : SessionOut) (state : S) (e : End) → is_new (standing_after t out state n.standing e) ≡ false
  begun-by out state session.Live = refl
  begun-by out state session.Over = refl
  begun-by out state (session.Down cause) = refl

  -- a new node has its session
  new-begins : (u : Units S) (bs : List Bus) → IsFresh n → is_new (node_after u bs t n).standing ≡ false
  new-begins u bs f = subst
      (λ (s : Standing S). is_new (node_behind t n (if is_called bs t n.number s then session_from u bs t n s else None)).standing ≡ false)
      (sym f.standing)
      (let r = u.session n.number (given_to bs t n 0 []) f.state in begun-by r.0 r.1 (r.0).end)

  -- who isn't new doesn't become so
  stays-behind : (o : Option (SessionOut × S)) → is_new n.standing ≡ false → is_new (node_behind t n o).standing ≡ false
  stays-behind None h = h
  stays-behind (Some r) h = begun-by r.0 r.1 (r.0).end

pub stays-begun : {S : Type 0} (u : Units S) (w : World S) (e : Event) → HasBegun w → HasBegun (world_behind u w e)
stays-begun {S} u w e h = go e.what
  where
    go : (k : What) → All (λ (n : Node S). is_new n.standing ≡ false) (outcome_of u w e.moment k).nodes
    go (Finish bus) = h
    go (Return bus node) = h
    go Sessions =
        all-map (λ (n : Node S). is_new n.standing ≡ false) (λ (n : Node S). is_new n.standing ≡ false)
        (node_after u w.buses e.moment) w.nodes
        (λ n a i. stays-behind e.moment n (session_of u w.buses e.moment n) i) h
    go (Start bus) = h

module _ {S : Type 0} (u : Units S) (p : Plan) (states : List S) where
  all-begin : HasBegun (world_behind u (opening_of p states) (at Sessions 0))
  all-begin =
      all-map (λ (n : Node S). IsFresh n) (λ (n : Node S). is_new n.standing ≡ false) (node_after u (opening_of p states).buses 0)
      (new_nodes 0 p.nodes states)
      (λ n a i. new-begins 0 n u (opening_of p states).buses i)
      (All-each (λ (n : Node S). IsFresh n) (new_nodes 0 p.nodes states) (λ n a. fresh 0 p.nodes states n a))

  pub first-begins : (stop : ℕ) (e : Event) → next_event stop (opening_of p states) ≡ Some e
      → HasBegun (world_behind u (opening_of p states) e)
  first-begins stop e n =
      subst (λ (x : Event). HasBegun (world_behind u (opening_of p states) x)) (sym (first-event p states stop e n)) all-begin

  -- nothing has happened, or no node is new
  abbrev Either : World S → Type 0
  Either w = (w ≡ opening_of p states) ⊎ ((1 ≤ w.events) × HasBegun w)

  keeps : (stop : ℕ) (w : World S) (e : Event) → next_event stop w ≡ Some e → Either w → Either (world_behind u w e)
  keeps stop w e n (inl q) = inr (
    omega arith,
    subst (λ (v : World S). HasBegun (world_behind u v e)) (sym q)
        (first-begins stop e (subst (λ (v : World S). next_event stop v ≡ Some e) q n)),
  )
  keeps stop w e n (inr h) = inr (omega arith, stays-begun u w e h.1)

  comes-to : (w : World S) → Either w → IsNewAtFirst p states w
  comes-to w (inl q) = record {
    opens = λ z. q;
    begun = λ some. absurd (some (ap (λ (v : World S). v.events) q));
  }
  comes-to w (inr h) = record {
    opens = λ z. let l = h.0 in absurd (omega (arith, l, z));
    begun = λ some. h.1;
  }

  pub new-at-first : (stop k : ℕ) → IsNewAtFirst p states (behind (network u stop) k (opening_of p states))
  new-at-first stop k = comes-to (behind (network u stop) k (opening_of p states))
      (along u stop (λ w. Either w) (keeps stop) k (opening_of p states) (inl refl))
