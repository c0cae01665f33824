-- The nodes that have their turns are live on the buses that they name until their own turn is over.
use Rattle.std.proofs.Common.{◌≡◌, ◌<◌, ◌≤◌, ◌+◌, ◌*◌, ◌^◌, ◌==◌, ◌||◌, ℕ, zero, suc, Bool, true, false, if◌then◌else◌, List, [], ◌∷◌, ◌++◌, All, flat_map, map, fold, length, slice_get, arith, refl, sym, ap, ◌∙◌, subst, eq-eqb, inl, inr}
use Rattle.std.proofs.lemmas.Bool.{ne_eqb, both_ways}
use Rattle.std.proofs.lemmas.List.Elements.{All-head}
use Rattle.log_specs.specs.Line.{Line}
use Rattle.operation_specs.specs.Reading.{Item, IsWhole}
use Rattle.bus_ops.specs.ItemsIn.{items_in}
use Rattle.bus_ops.proofs.ReadingLaws.{has_reading, reads_whole}
use Rattle.session_specs.specs.Outcome.{Emission, End}
use Rattle.session_specs.specs.Outcome as session
use Rattle.bus_specs.specs.Bus.{Bus, Member, is, among, member_is, waiting}
use Rattle.bus_specs.specs.Submit.{submission_of}
use Rattle.bus_specs.specs.Inbox.{take_inbox, enter, leave, member_after_leaving}
use Rattle.bus_specs.specs.Sound.{Sound}
use Rattle.bus_sound.proofs.Among.{Among}
use Rattle.bus_sound.proofs.Lists.{All-each, each-All, among-map, flat_map-among}
use Rattle.bus_sound.proofs.Left.{leave-sound}
use Rattle.bus_sound.proofs.Members.{is_from, is_to, member_is-map}
use Rattle.bus_sound.proofs.Quiet.{one, enter-sound, take_inbox-sound}
use Rattle.bus_sound.proofs.Steady.{take-steady, submit-steady, enter-steady, steady-live, steady-member}
use Rattle.world_specs.specs.Sessions.{is_new, items_at, items_on, submission_step, emission_step, end_step, on_each_bus, turn_step, with_entered}
use Rattle.world_specs.specs.Plan.{AllFrom}
use Rattle.fmi_states.specs.Reply.{AreBytes}
use Rattle.world_laws.proofs.Lists.{all-map, all-more, among-in, by-recursion, map-id, map-map, of-recursion}
use Rattle.world_laws.proofs.OneBus.{by_end, entry, turn_on}
use Rattle.world_core.specs.Asks.{submitted, MayAsk}
use Rattle.world_core.specs.Bare.{Bare, IsReadyFor, AreTurns, IsExpected, IsReady}
use Rattle.world_core.specs.OnBuses.{AreNumbered, HasNumber}
use Rattle.world_core.proofs.Asking.{asks-all, submit-gives}

-- ---- what is emitted on a bus is whole, and on a bus that the node names

pub named : (bs : List ℕ) (i bus : ℕ) → is bus (slice_get bs i) ≡ true → among bs bus ≡ true
named [] i bus h = absurd cc
named (b ∷ bs) zero bus h = rw h refl
named (b ∷ bs) (suc i) bus h = or-more (b == bus) (named bs i bus h)
  where
    or-more : (x : Bool) → among bs bus ≡ true → (x || among bs bus) ≡ true
    or-more true e = refl
    or-more false e = e

pub whole-in : (bytes : List ℕ) → AreBytes bytes → All IsWhole (items_in bytes)
whole-in bytes h = All-each IsWhole (items_in bytes) (λ i a. of-recursion IsWhole (items_in bytes) i
    (reads_whole bytes (items_in bytes) (has_reading bytes (by-recursion (λ b. b < 256) bytes (λ b c. each-All (λ b. b < 256) bytes b h c)))) a)

-- ---- what a turn leaves of the others

-- none is emitted on a bus that the node doesn't name
none-on : (names : List ℕ) (bus : ℕ) → among names bus ≡ false → (es : List Emission) → flat_map (items_at names bus) es ≡ []
none-on names bus n [] = refl
none-on names bus n (e ∷ es) = rw (none-on names bus n es) (go (is bus (slice_get names e.terminal)) refl)
  where
    go : (q : Bool) → is bus (slice_get names e.terminal) ≡ q → (if q then items_in e.bytes else []) ++ [] ≡ []
    go true h = absurd (both_ways (among names bus) n (named names e.terminal bus h))
    go false h = refl

-- and all that it emits is whole
pub items-whole : (names : List ℕ) (bus : ℕ) (es : List Emission) → All (λ (e : Emission). AreBytes e.bytes) es → All IsWhole (flat_map (items_at names bus) es)
items-whole names bus es h = All-each IsWhole (flat_map (items_at names bus) es) (λ i a.
    let r = flat_map-among (items_at names bus) es i a in
    go i r.0 (each-All (λ (e : Emission). AreBytes e.bytes) es r.0 h r.1) (is bus (slice_get names r.0.terminal)) r.2)
  where
    go : (i : Item) (e : Emission) → AreBytes e.bytes → (q : Bool) → Among (if q then items_in e.bytes else []) i → IsWhole i
    go i e k true a = each-All IsWhole (items_in e.bytes) i (whole-in e.bytes k) a
    go i e k false a = absurd a

take-asks : (b : Bus) (now node : ℕ) → (take_inbox b now node).0.next ≡ b.next
unfolding take_inbox
take-asks b now node = refl

take-requests : (b : Bus) (now node : ℕ) → (take_inbox b now node).0.requests ≡ b.requests
unfolding take_inbox
take-requests b now node = refl

take-setup : (b : Bus) (now node : ℕ) → (take_inbox b now node).0.setup ≡ b.setup
unfolding take_inbox
take-setup b now node = refl

-- a node that is ready may ask, also behind its inbox
pub ready-asks : (x : Bare) (xs : List Bare) (b : Bus) → IsReady (x ∷ xs) b → IsReadyFor x b
ready-asks x xs b r n = record {
  live = All-head (λ (y : Bare). among y.node.buses b.setup.number ≡ true → member_is (λ m. m.live) b.members y.node.number ≡ true) x xs r.live n;
  sound = r.sound;
  room = let l = r.room in omega (arith, l);
}

pub taken-ready : (x : Bare) (b : Bus) (now node : ℕ) → IsReadyFor x b → IsReadyFor x (take_inbox b now node).0
taken-ready x b now node r n =
    let h : MayAsk x.node.number b = r (subst (λ s. among x.node.buses s.number ≡ true) (take-setup b now node) n) in
    record {
      live = steady-live b (take_inbox b now node).0 x.node.number (take-steady b now node) h.live;
      sound = take_inbox-sound b now node h.sound;
      room = let l = h.room in rw (take-asks b now node, take-requests b now node) l;
    }

-- ---- the calls of a turn on one bus

module _ (t node : ℕ) where
  items-setup : (items : List Item) (p : Bus × List Line) → (submitted t node p items).0.setup ≡ p.0.setup
  items-setup [] p = refl
  items-setup (i ∷ items) p = items-setup items (submission_step t node p i) ∙ (submit-steady p.0 t node (submission_of p.0.setup i)).setup

  items-live : (items : List Item) (p : Bus × List Line) (k : ℕ) → member_is (λ m. m.live) p.0.members k ≡ true → member_is (λ m. m.live) (submitted t node p items).0.members k ≡ true
  items-live [] p k h = h
  items-live (i ∷ items) p k h = items-live items (submission_step t node p i) k
      (steady-live p.0 (submission_step t node p i).0 k (submit-steady p.0 t node (submission_of p.0.setup i)) h)

  items-give : (items : List Item) (p : Bus × List Line) → (submitted t node p items).0.next + waiting p.0.requests node ≤ p.0.next + waiting (submitted t node p items).0.requests node
  items-give [] p = omega arith
  items-give (i ∷ items) p =
      let one = submit-gives t node p.0 (submission_of p.0.setup i) in
      let more = items-give items (submission_step t node p i) in
      omega (arith, one, more)

leave-live : (b : Bus) (node k : ℕ) → (k ≡ node → ⊥) → member_is (λ m. m.live) b.members k ≡ true → member_is (λ m. m.live) (leave b node).members k ≡ true
leave-live b node k d h =
    let i = is_to (λ m. m.live) b.members k h in
    let f : Member → Member = λ m. if m.node == node then member_after_leaving m else m in
    let other : (i.member.node == node) ≡ false = ne_eqb i.member.node node (λ e. d (sym i.node ∙ e)) in
    let same : f i.member ≡ i.member = rw other refl in
    is_from (λ m. m.live) (map f b.members) i.member k (subst (Among (map f b.members)) same (among-map f b.members i.member i.among)) i.node i.holds

-- what the end leaves
record Left (xs : List Bare) (b : Bus) : Type 0 where
  sound : Sound b
  room : b.next + 256 * length xs < 2 ^ 63
  live : (y : Bare) → Among xs y → among y.node.buses b.setup.number ≡ true → member_is (λ m. m.live) b.members y.node.number ≡ true

end-left : (e : End) (node : ℕ) (xs : List Bare) (b : Bus) → ((y : Bare) → Among xs y → y.node.number ≡ node → ⊥) → Left xs b → Left xs (by_end e node b)
end-left session.Live node xs b d h = h
end-left session.Over node xs b d h = record { sound = leave-sound b node h.sound; room = h.room; live = λ y a n. leave-live b node y.node.number (d y a) (h.live y a n) }
end-left (session.Down cause) node xs b d h = record { sound = leave-sound b node h.sound; room = h.room; live = λ y a n. leave-live b node y.node.number (d y a) (h.live y a n) }

others-differ : (xs : List Bare) (node : ℕ) → among (map (λ (y : Bare). y.node.number) xs) node ≡ false → (y : Bare) → Among xs y → y.node.number ≡ node → ⊥
others-differ xs node n y a e = both_ways (among (map (λ (z : Bare). z.node.number) xs) node) n
    (among-in (map (λ (z : Bare). z.node.number) xs) node (subst (Among (map (λ (z : Bare). z.node.number) xs)) e (among-map (λ (z : Bare). z.node.number) xs y a)))

module _ (t : ℕ) (x : Bare) (xs : List Bare) (b : Bus) (d : AreTurns (x ∷ xs)) (r : IsReady (x ∷ xs) b) where
  emitted-left : (q : Bool) → among x.node.buses b.setup.number ≡ q → Left xs (emission_step t x (take_inbox b t x.node.number).0).0
  emitted-left true n =
      let k : Bus = (take_inbox b t x.node.number).0 in
      let same : k.setup ≡ b.setup = take-setup b t x.node.number in
      let items : List Item = items_on x k.setup.number in
      let after : Bus = (submitted t x.node.number (k, []) items).0 in
      let asks : MayAsk x.node.number k = taken-ready x b t x.node.number (ready-asks x xs b r) (subst (λ s. among x.node.buses s.number ≡ true) (sym same) n) in
      let still : MayAsk x.node.number after = asks-all t x.node.number items (k, []) (items-whole x.node.buses k.setup.number x.out.emitted d.1) asks in
      let give : after.next + waiting k.requests x.node.number ≤ k.next + waiting after.requests x.node.number = items-give t x.node.number items (k, []) in
      let most : waiting after.requests x.node.number ≤ 256 = (still.sound).at_most x.node.number in
      let was : k.next ≡ b.next = take-asks b t x.node.number in
      let room = r.room in
      record {
        sound = still.sound;
        room = omega (arith, give, most, was, room);
        live = λ y a m. items-live t x.node.number items (k, []) y.node.number
            (steady-live b k y.node.number (take-steady b t x.node.number)
            (each-All (λ (z : Bare). among z.node.buses b.setup.number ≡ true → member_is (λ m. m.live) b.members z.node.number ≡ true) (x ∷ xs) y r.live (inr a)
            (subst (λ s. among y.node.buses s.number ≡ true) (items-setup t x.node.number items (k, []) ∙ same) m)));
      }
  emitted-left false n =
      let k : Bus = (take_inbox b t x.node.number).0 in
      let same : k.setup ≡ b.setup = take-setup b t x.node.number in
      let none : items_on x k.setup.number ≡ [] = none-on x.node.buses k.setup.number (subst (λ s. among x.node.buses s.number ≡ false) (sym same) n) x.out.emitted in
      let was : k.next ≡ b.next = take-asks b t x.node.number in
      let room = r.room in
      let h : Left xs k = record {
        sound = take_inbox-sound b t x.node.number r.sound;
        room = omega (arith, was, room);
        live = λ y a m. steady-live b k y.node.number (take-steady b t x.node.number)
            (each-All (λ (z : Bare). among z.node.buses b.setup.number ≡ true → member_is (λ m. m.live) b.members z.node.number ≡ true) (x ∷ xs) y r.live (inr a)
            (subst (λ s. among y.node.buses s.number ≡ true) same m));
      } in
      subst (λ items. Left xs (submitted t x.node.number (k, []) items).0) (sym none) h

  pub turn-ready : IsReady xs (turn_on t b x)
  turn-ready =
      let l = end-left x.out.end x.node.number xs (emission_step t x (take_inbox b t x.node.number).0).0 (others-differ xs x.node.number d.0) (emitted-left (among x.node.buses b.setup.number) refl) in
      record {
        sound = l.sound;
        room = l.room;
        live = All-each (λ (z : Bare). among z.node.buses (turn_on t b x).setup.number ≡ true → member_is (λ m. m.live) (turn_on t b x).members z.node.number ≡ true) xs l.live;
      }

-- ---- the new nodes enter

enters-live : (b : Bus) (n : ℕ) → member_is (λ m. true) b.members n ≡ true → member_is (λ m. m.live) (enter b n).members n ≡ true
enters-live b n h = member_is-map (λ m. true) (λ m. m.live) (one n (λ m. record m { live = true })) b.members n keeps
    (λ m a e t. let same : (m.node == n) ≡ true = eq-eqb m.node n e in rw same refl) h
  where
    keeps : (m : Member) → (one n (λ m. record m { live = true }) m).node ≡ m.node
    keeps m = go (m.node == n)
      where
        go : (q : Bool) → (if q then record m { live = true } else m).node ≡ m.node
        go true = refl
        go false = refl

entry-live : (b : Bus) (x : Bare) (k : ℕ) → member_is (λ m. m.live) b.members k ≡ true → member_is (λ m. m.live) (entry b x).members k ≡ true
entry-live b x k h = go (is_new x.node.standing)
  where
    go : (q : Bool) → member_is (λ m. m.live) (if q then enter b x.node.number else b).members k ≡ true
    go true = steady-live b (enter b x.node.number) k (enter-steady b x.node.number) h
    go false = h

entry-member : (b : Bus) (x : Bare) (k : ℕ) → member_is (λ m. true) b.members k ≡ true → member_is (λ m. true) (entry b x).members k ≡ true
entry-member b x k h = go (is_new x.node.standing)
  where
    go : (q : Bool) → member_is (λ m. true) (if q then enter b x.node.number else b).members k ≡ true
    go true = steady-member b (enter b x.node.number) k (enter-steady b x.node.number) h
    go false = h

entries-live : (xs : List Bare) (b : Bus) (k : ℕ) → member_is (λ m. m.live) b.members k ≡ true → member_is (λ m. m.live) (fold entry b xs).members k ≡ true
entries-live [] b k h = h
entries-live (x ∷ xs) b k h = entries-live xs (entry b x) k (entry-live b x k h)

new-live : (xs : List Bare) (b : Bus) (x : Bare) → Among xs x → is_new x.node.standing ≡ true → member_is (λ m. true) b.members x.node.number ≡ true
    → member_is (λ m. m.live) (fold entry b xs).members x.node.number ≡ true
new-live [] b x a e h = absurd a
new-live (y ∷ xs) b x (inl s) e h =
    entries-live xs (entry b y) x.node.number
    (subst (λ (z : Bare). member_is (λ m. m.live) (if is_new z.node.standing then enter b z.node.number else b).members x.node.number ≡ true) (sym s)
    (rw e (enters-live b x.node.number h)))
new-live (y ∷ xs) b x (inr a) e h = new-live xs (entry b y) x a e (entry-member b y x.node.number h)

record Entered (b after : Bus) : Type 0 where
  sound : Sound b → Sound after
  next : after.next ≡ b.next
  setup : after.setup ≡ b.setup

entry-keeps : (b : Bus) (x : Bare) → Entered b (entry b x)
entry-keeps b x = go (is_new x.node.standing)
  where
    go : (q : Bool) → Entered b (if q then enter b x.node.number else b)
    go true = record { sound = λ h. enter-sound b x.node.number h; next = refl; setup = refl }
    go false = record { sound = λ h. h; next = refl; setup = refl }

entries-keep : (xs : List Bare) (b : Bus) → Entered b (fold entry b xs)
entries-keep [] b = record { sound = λ h. h; next = refl; setup = refl }
entries-keep (x ∷ xs) b =
    let one = entry-keeps b x in
    let more = entries-keep xs (entry b x) in
    record { sound = λ h. more.sound (one.sound h); next = more.next ∙ one.next; setup = more.setup ∙ one.setup }

pub entered-ready : (xs : List Bare) (b : Bus) → IsExpected xs b → IsReady xs (fold entry b xs)
entered-ready xs b h =
    let k = entries-keep xs b in
    let same = k.next in
    let room = h.room in
    record {
      sound = k.sound h.sound;
      room = omega (arith, same, room);
      live = All-each (λ (x : Bare). among x.node.buses (fold entry b xs).setup.number ≡ true → member_is (λ m. m.live) (fold entry b xs).members x.node.number ≡ true) xs
          (λ x a n. go x a (subst (λ s. among x.node.buses s.number ≡ true) k.setup n) (is_new x.node.standing) refl);
    }
  where
    go : (x : Bare) → Among xs x → among x.node.buses b.setup.number ≡ true → (q : Bool) → is_new x.node.standing ≡ q → member_is (λ m. m.live) (fold entry b xs).members x.node.number ≡ true
    go x a n true e = new-live xs b x a e (each-All (λ (y : Bare). among y.node.buses b.setup.number ≡ true → member_is (λ m. true) b.members y.node.number ≡ true) xs x h.member a n)
    go x a n false e = entries-live xs b x.node.number
        (each-All (λ (y : Bare). is_new y.node.standing ≡ false → among y.node.buses b.setup.number ≡ true → member_is (λ m. m.live) b.members y.node.number ≡ true) xs x h.live a e n)

-- ---- all buses

pub entered-map : (xs : List Bare) (bs : List Bus) → fold with_entered bs xs ≡ map (λ b. fold entry b xs) bs
entered-map [] bs = sym (map-id bs)
entered-map (x ∷ xs) bs =
    entered-map xs (with_entered bs x) ∙ ap (λ cs. map (λ b. fold entry b xs) cs) (go (is_new x.node.standing)) ∙ map-map (λ b. fold entry b xs) (λ b. entry b x) bs
  where
    go : (q : Bool) → (if q then map (λ b. enter b x.node.number) bs else bs) ≡ map (λ b. if q then enter b x.node.number else b) bs
    go true = refl
    go false = sym (map-id bs)

pub turn-map : (t : ℕ) (p : List Bus × List Line) (x : Bare) → (turn_step t p x).0 ≡ map (λ b. turn_on t b x) p.0
turn-map t p x = go x.out.end
  where
    emitted : map (λ b. (emission_step t x b).0) (map (λ b. (take_inbox b t x.node.number).0) p.0) ≡ map (λ b. (emission_step t x (take_inbox b t x.node.number).0).0) p.0
    emitted = map-map (λ b. (emission_step t x b).0) (λ b. (take_inbox b t x.node.number).0) p.0

    leaving : map (λ b. leave b x.node.number) (map (λ b. (emission_step t x b).0) (map (λ b. (take_inbox b t x.node.number).0) p.0))
        ≡ map (λ b. leave (emission_step t x (take_inbox b t x.node.number).0).0 x.node.number) p.0
    leaving = ap (λ cs. map (λ b. leave b x.node.number) cs) emitted ∙ map-map (λ b. leave b x.node.number) (λ b. (emission_step t x (take_inbox b t x.node.number).0).0) p.0

    go : (e : End) → (end_step t x.node.number e (on_each_bus (emission_step t x) (on_each_bus (λ b. take_inbox b t x.node.number) p))).0
        ≡ map (λ b. by_end e x.node.number (emission_step t x (take_inbox b t x.node.number).0).0) p.0
    go session.Live = emitted
    go session.Over = leaving
    go (session.Down cause) = leaving

pub turn-setup : (t : ℕ) (b : Bus) (x : Bare) → (turn_on t b x).setup ≡ b.setup
turn-setup t b x =
    let k : Bus = (take_inbox b t x.node.number).0 in
    go x.out.end (submitted t x.node.number (k, []) (items_on x k.setup.number)).0 ∙ items-setup t x.node.number (items_on x k.setup.number) (k, []) ∙ take-setup b t x.node.number
  where
    go : (e : End) (c : Bus) → (by_end e x.node.number c).setup ≡ c.setup
    go session.Live c = refl
    go session.Over c = refl
    go (session.Down cause) c = refl

numbered-map : (f : Bus → Bus) → ((b : Bus) → (f b).setup ≡ b.setup) → (place : ℕ) (bs : List Bus) → AllFrom place HasNumber bs → AllFrom place HasNumber (map f bs)
numbered-map f k place [] h = tt
numbered-map f k place (b ∷ bs) h = (subst (λ s. s.number ≡ place) (sym (k b)) h.0, numbered-map f k (place + 1) bs h.1)

pub turn-numbered : (t : ℕ) (x : Bare) (bs : List Bus) → AreNumbered bs → AreNumbered (map (λ b. turn_on t b x) bs)
turn-numbered t x bs h = numbered-map (λ b. turn_on t b x) (λ b. turn-setup t b x) 0 bs h

pub entered-numbered : (xs : List Bare) (bs : List Bus) → AreNumbered bs → AreNumbered (map (λ b. fold entry b xs) bs)
entered-numbered xs bs h = numbered-map (λ b. fold entry b xs) (λ b. (entries-keep xs b).setup) 0 bs h

pub taken-numbered : (t node : ℕ) (bs : List Bus) → AreNumbered bs → AreNumbered (map (λ b. (take_inbox b t node).0) bs)
taken-numbered t node bs h = numbered-map (λ b. (take_inbox b t node).0) (λ b. take-setup b t node) 0 bs h

pub all-taken : (t node : ℕ) (x : Bare) (bs : List Bus) → All (IsReadyFor x) bs → All (IsReadyFor x) (map (λ b. (take_inbox b t node).0) bs)
all-taken t node x bs h = all-map (IsReadyFor x) (IsReadyFor x) (λ b. (take_inbox b t node).0) bs (λ b a r. taken-ready x b t node r) h

pub all-ready-for : (x : Bare) (xs : List Bare) (bs : List Bus) → All (IsReady (x ∷ xs)) bs → All (IsReadyFor x) bs
all-ready-for x xs bs h = all-more (IsReady (x ∷ xs)) (IsReadyFor x) bs (λ b a r. ready-asks x xs b r) h

pub all-turned : (t : ℕ) (x : Bare) (xs : List Bare) (bs : List Bus) → AreTurns (x ∷ xs) → All (IsReady (x ∷ xs)) bs → All (IsReady xs) (map (λ b. turn_on t b x) bs)
all-turned t x xs bs d h = all-map (IsReady (x ∷ xs)) (IsReady xs) (λ b. turn_on t b x) bs (λ b a r. turn-ready t x xs b d r) h

pub all-entered : (xs : List Bare) (bs : List Bus) → All (IsExpected xs) bs → All (IsReady xs) (map (λ b. fold entry b xs) bs)
all-entered xs bs h = all-map (IsExpected xs) (IsReady xs) (λ b. fold entry b xs) bs (λ b a r. entered-ready xs b r) h
