-- What is enabled comes from a bus, from mail, or from a node.
use Rattle.std.proofs.Common.{◌≡◌, true, map, filter, inl, inr, ◌⊎◌}
use Rattle.std.specs.Prelude.{is_some, flat_map}
use Rattle.bus_specs.specs.Bus.{Bus, Member}
use Rattle.bus_specs.specs.Due.{Due, dues}
use Rattle.bus_sound.proofs.Among.{Among, among-append_left, among-filter, filter-among}
use Rattle.bus_sound.proofs.Lists.{map-among, append-among, flat_map-among, among-map, among-append_right, among-flat_map}
use Rattle.world_specs.specs.World.{World, Node}
use Rattle.world_specs.specs.Next.{Sessions, Event, at, event_of, of_mail, of_bus, of_standing, of_node, enabled}

pub data Source {S : Type 0} (w : World S) (e : Event) : Type 0 where
  OfBus : (b : Bus) → Among w.buses b → (d : Due) → Among (dues b w.now b.running) d → event_of b.setup.number d ≡ e → Source w e
  OfMail : (b : Bus) → Among w.buses b → (m : Member) → Among b.members m → is_some m.mail ≡ true → at Sessions w.now ≡ e → Source w e
  OfNode : (n : Node S) → Among w.nodes n → Among (of_standing w.now n.standing) e → Source w e

pub source : {S : Type 0} (w : World S) (e : Event) → Among (enabled w) e → Source w e
source {S} w e a = go (append-among (flat_map (of_bus w.now) w.buses) (flat_map (of_node w.now) w.nodes) e a)
  where
    of-bus : (b : Bus) → Among w.buses b → Among (map (event_of b.setup.number) (dues b w.now b.running)) e ⊎ Among (of_mail w.now b) e → Source w e
    of-bus b k (inl c) = let r = map-among (event_of b.setup.number) (dues b w.now b.running) e c in OfBus b k r.0 r.1 r.2
    of-bus b k (inr c) =
        let r = map-among (λ m. at Sessions w.now) (filter (λ m. is_some m.mail) b.members) e c in
        let f = filter-among (λ (m : Member). is_some m.mail) b.members r.0 r.1 in
        OfMail b k r.0 f.0 f.1 r.2

    go : Among (flat_map (of_bus w.now) w.buses) e ⊎ Among (flat_map (of_node w.now) w.nodes) e → Source w e
    go (inl b) =
        let r = flat_map-among (of_bus w.now) w.buses e b in
        of-bus r.0 r.1 (append-among (map (event_of (r.0).setup.number) (dues r.0 w.now (r.0).running)) (of_mail w.now r.0) e r.2)
    go (inr b) = let r = flat_map-among (of_node w.now) w.nodes e b in OfNode r.0 r.1 r.2

module _ {S : Type 0} (w : World S) where
  of-buses : (b : Bus) (e : Event) → Among w.buses b → Among (of_bus w.now b) e → Among (enabled w) e
  of-buses b e a c = among-append_left (flat_map (of_bus w.now) w.buses) (flat_map (of_node w.now) w.nodes) e (among-flat_map (of_bus w.now) w.buses b e a c)

  pub due-enabled : (b : Bus) (d : Due) → Among w.buses b → Among (dues b w.now b.running) d → Among (enabled w) (event_of b.setup.number d)
  due-enabled b d a c = of-buses b (event_of b.setup.number d) a
      (among-append_left (map (event_of b.setup.number) (dues b w.now b.running)) (of_mail w.now b) (event_of b.setup.number d)
      (among-map (event_of b.setup.number) (dues b w.now b.running) d c))

  pub mail-enabled : (b : Bus) (m : Member) → Among w.buses b → Among b.members m → is_some m.mail ≡ true → Among (enabled w) (at Sessions w.now)
  mail-enabled b m a c e = of-buses b (at Sessions w.now) a
      (among-append_right (map (event_of b.setup.number) (dues b w.now b.running)) (of_mail w.now b) (at Sessions w.now)
      (among-map (λ m. at Sessions w.now) (filter (λ m. is_some m.mail) b.members) m (among-filter (λ (m : Member). is_some m.mail) b.members m c e)))

  pub node-enabled : (n : Node S) (e : Event) → Among w.nodes n → Among (of_standing w.now n.standing) e → Among (enabled w) e
  node-enabled n e a c = among-append_right (flat_map (of_bus w.now) w.buses) (flat_map (of_node w.now) w.nodes) e (among-flat_map (of_node w.now) w.nodes n e a c)
