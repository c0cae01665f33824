-- What an event does to the nodes.
use Rattle.std.proofs.Common.{◌≡◌, ℕ, zero, suc, Bool, true, false, List, [], ◌∷◌, All, slice_get, option_map, Option, Some, None, refl, ap, sym, ◌∙◌, subst, inl, inr}
use Rattle.std.specs.List.{cons_option}
use Rattle.run_specs.specs.Run.{then_from, behind}
use Rattle.session_specs.specs.Outcome.{SessionOut, End}
use Rattle.session_specs.specs.Outcome as session
use Rattle.bus_specs.specs.Bus.{Bus}
use Rattle.bus_sound.proofs.Among.{Among}
use Rattle.bus_sound.proofs.Lists.{All-each}
use Rattle.world_specs.specs.Units.{Units}
use Rattle.world_specs.specs.World.{World, Node, Standing, New, Live, Down, Over}
use Rattle.world_specs.specs.Next.{What, Finish, Return, Sessions, Start, Event, at, next_event}
use Rattle.world_specs.specs.Sessions.{is_called, takes_part, session_from, session_of, Turn, turn_of, turns, node_behind, node_after, standing_after, given_to}
use Rattle.world_specs.specs.Step.{world_behind, event_lines}
use Rattle.world_specs.specs.Network.{step, network, close_from, standing_by, standing_closed, node_closed}
use Rattle.world_specs.specs.Fits.{is_live}
use Rattle.world_laws.specs.Words.{IsNewOrLive, IsDownOrOver, IsSessions, LastAt}
use Rattle.world_laws.proofs.Lists.{get-map}

module _ {S : Type 0} (u : Units S) (buses : List Bus) (t : ℕ) where
  -- who is out isn't called
  pub out-not-called : (n : Node S) → IsDownOrOver n.standing → takes_part buses t n ≡ false
  out-not-called n h = go n.standing h
    where
      go : (s : Standing S) → IsDownOrOver s → is_called buses t n.number s ≡ false
      go (New s) h = absurd h
      go (Live s last clocks) h = absurd h
      go Down h = refl
      go Over h = refl

  pub not-called-stays : (n : Node S) → takes_part buses t n ≡ false → node_after u buses t n ≡ n
  not-called-stays n h = rw h refl

  -- a turn is of a node that takes part, with its session
  pub record IsTurn (n : Node S) (x : Turn S) : Type 0 where
    pub node : x.node ≡ n
    pub part : takes_part buses t n ≡ true
    pub state : S
    pub session : session_of u buses t n ≡ Some (x.out, state)

  pub turn-is : (n : Node S) (x : Turn S) → turn_of u buses t n ≡ Some x → IsTurn n x
  turn-is n x h = go (takes_part buses t n) refl
    where
      found : (o : Option (SessionOut × S)) → session_of u buses t n ≡ o → option_map (λ r. record { node = n; out = r.0 }) o ≡ Some x → takes_part buses t n ≡ true → IsTurn n x
      found None e k p = absurd cc
      found (Some r) e k p = let s : record { node = n; out = r.0 } ≡ x = cc in record {
        node = sym (ap (λ (y : Turn S). y.node) s);
        part = p;
        state = r.1;
        session = subst (λ (o : SessionOut). session_of u buses t n ≡ Some (o, r.1)) (ap (λ (y : Turn S). y.out) s) e;
      }

      go : (b : Bool) → takes_part buses t n ≡ b → IsTurn n x
      go true p = found (session_of u buses t n) refl h p
      go false p = let e : turn_of u buses t n ≡ None = rw p refl in absurd (none (sym e) h)
        where
          none : {o : Option (Turn S)} → None ≡ o → o ≡ Some x → ⊥
          none e k = cc

  pub turn-among : (nodes : List (Node S)) (x : Turn S) → Among (turns u buses t nodes) x → (n : Node S) × Among nodes n × IsTurn n x
  turn-among [] x a = absurd a
  turn-among (n ∷ nodes) x a = go (turn_of u buses t n) refl a (λ b. turn-among nodes x b)
    where
      go : (o : Option (Turn S)) → turn_of u buses t n ≡ o → Among (cons_option o (turns u buses t nodes)) x
          → (Among (turns u buses t nodes) x → (m : Node S) × Among nodes m × IsTurn m x) → (m : Node S) × Among (n ∷ nodes) m × IsTurn m x
      go None e b on = let r = on b in (r.0, inr r.1, r.2)
      go (Some y) e (inl s) on = (n, inl refl, turn-is n x (subst (λ z. turn_of u buses t n ≡ Some z) s e))
      go (Some y) e (inr b) on = let r = on b in (r.0, inr r.1, r.2)

  -- and who takes part is new or live
  pub part-in : (n : Node S) → takes_part buses t n ≡ true → IsNewOrLive n.standing
  part-in n h = go n.standing h
    where
      go : (s : Standing S) → is_called buses t n.number s ≡ true → IsNewOrLive s
      go (New s) h = tt
      go (Live s last clocks) h = tt
      go Down h = absurd cc
      go Over h = absurd cc

  pub all-in : (nodes : List (Node S)) → All (λ x. IsNewOrLive x.node.standing) (turns u buses t nodes)
  all-in nodes = All-each (λ x. IsNewOrLive x.node.standing) (turns u buses t nodes)
      (λ x a. let r = turn-among nodes x a in subst (λ (n : Node S). IsNewOrLive n.standing) (sym (r.2).node) (part-in r.0 (r.2).part))

  pub number-stays : (n : Node S) → (node_after u buses t n).number ≡ n.number
  number-stays n = go (session_of u buses t n)
    where
      go : (o : Option (SessionOut × S)) → (node_behind t n o).number ≡ n.number
      go None = refl
      go (Some r) = refl

  pub buses-stay : (n : Node S) → (node_after u buses t n).buses ≡ n.buses
  buses-stay n = go (session_of u buses t n)
    where
      go : (o : Option (SessionOut × S)) → (node_behind t n o).buses ≡ n.buses
      go None = refl
      go (Some r) = refl

  stood : (out : SessionOut) (state : S) (s : Standing S) (e : End) → LastAt t (standing_after t out state s e)
  stood out state s session.Live = refl
  stood out state s session.Over = tt
  stood out state s (session.Down cause) = tt

  pub last-at : (n : Node S) → takes_part buses t n ≡ true → LastAt t (node_after u buses t n).standing
  last-at n h = rw h (go n.standing h)
    where
      go : (s : Standing S) → is_called buses t n.number s ≡ true → LastAt t (node_behind t n (session_from u buses t n s)).standing
      go (New s) e = let r = u.session n.number (given_to buses t n 0 []) s in stood r.0 r.1 n.standing (r.0).end
      go (Live s last clocks) e = let r = u.session n.number (given_to buses t n last clocks) s in stood r.0 r.1 n.standing (r.0).end
      go Down e = absurd cc
      go Over e = absurd cc

module _ {S : Type 0} (u : Units S) where
  pub unchanged : (w : World S) (e : Event) (i : ℕ) (n : Node S) → (IsSessions e.what → takes_part w.buses e.moment n ≡ false)
      → slice_get w.nodes i ≡ Some n → slice_get (world_behind u w e).nodes i ≡ Some n
  unchanged w e i n out h = go e.what out
    where
      go : (k : What) → (IsSessions k → takes_part w.buses e.moment n ≡ false) → slice_get (world_behind u w (at k e.moment)).nodes i ≡ Some n
      go (Finish b) out = h
      go (Return b m) out = h
      go (Start b) out = h
      go Sessions out = rw (get-map (node_after u w.buses e.moment) w.nodes i, h) (ap Some (not-called-stays u w.buses e.moment n (out tt)))

  pub own-session : (w : World S) (t i : ℕ) (n : Node S) → slice_get w.nodes i ≡ Some n → slice_get (world_behind u w (at Sessions t)).nodes i ≡ Some (node_after u w.buses t n)
  own-session w t i n h = get-map (node_after u w.buses t) w.nodes i ∙ ap (option_map (node_after u w.buses t)) h

  pub not-closed : (n : Node S) → is_live n.standing ≡ false → node_closed u n ≡ n
  not-closed n h = go n.standing refl h
    where
      go : (s : Standing S) → n.standing ≡ s → is_live s ≡ false → node_closed u n ≡ n
      go (New s) e i = rw e refl
      go (Live s last clocks) e i = absurd cc
      go Down e i = rw e refl
      go Over e i = rw e refl

  pub closed-out : (n : Node S) → is_live n.standing ≡ true → IsDownOrOver (node_closed u n).standing
  closed-out n h = go n.standing refl h
    where
      by : (e : End) → IsDownOrOver {S = S} (standing_by e)
      by session.Live = tt
      by session.Over = tt
      by (session.Down cause) = tt

      go : (s : Standing S) → n.standing ≡ s → is_live s ≡ true → IsDownOrOver (standing_closed n.standing (close_from u n.number s))
      go (New s) e i = absurd cc
      go (Live s last clocks) e i = by (u.close n.number s).0
      go Down e i = absurd cc
      go Over e i = absurd cc

  -- what each step keeps holds along a run
  pub along : (stop : ℕ) (P : World S → Type 0) → ((w : World S) (e : Event) → next_event stop w ≡ Some e → P w → P (world_behind u w e))
      → (k : ℕ) (w : World S) → P w → P (behind (network u stop) k w)
  unfolding behind step
  along stop P keeps zero w h = h
  along stop P keeps (suc k) w h = go (next_event stop w) refl (λ v q. along stop P keeps k v q)
    where
      go : (o : Option Event) → next_event stop w ≡ o → ((v : World S) → P v → P (behind (network u stop) k v))
          → P (then_from w (λ p. behind (network u stop) k p.0) (option_map (λ e. (world_behind u w e, event_lines u w e)) o))
      go None e on = h
      go (Some d) e on = on (world_behind u w d) (keeps w d e h)

  pub stays-out : (stop k i : ℕ) (w : World S) (n : Node S) → IsDownOrOver n.standing → slice_get w.nodes i ≡ Some n
      → slice_get (behind (network u stop) k w).nodes i ≡ Some n
  stays-out stop k i w n out h = along stop (λ v. slice_get v.nodes i ≡ Some n)
      (λ v e next h. unchanged v e i n (λ s. out-not-called u v.buses e.moment n out) h) k w h
