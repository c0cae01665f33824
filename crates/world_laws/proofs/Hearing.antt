-- What is delivered at the end of a frame is heard in the sessions of that moment.
use Rattle.std.proofs.Common.{◌≡◌, ◌≤◌, ◌<◌, ◌⊎◌, ℕ, zero, suc, ◌+◌, ◌==◌, ◌&&◌, ◌||◌, Bool, true, false, if◌then◌else◌, List, [], ◌∷◌, ◌++◌, map, filter, Option, Some, None, All, Contains, is_some, IfSome, arith, sym, refl, ap, ◌∙◌, subst, inl, inr, eq-eqb, append-nil}
use Rattle.std.specs.Prelude.{flat_map}
use Rattle.std.specs.List.{list_any}
use Rattle.std.proofs.lemmas.Bool.{both_ways, eqb-true, eqb-false, ne_eqb, true_from_ne_false, and_parts, or_right, or_left, or_parts}
use Rattle.operation_specs.specs.Spelling.{spell}
use Rattle.bus_specs.specs.Bus.{Bus, Mail, Received, Confirm, Member, Running, Fault, among}
use Rattle.bus_specs.specs.Finish.{finish, finish_with, recover, part, Part, Sending, Listening, hurt_part, mail, mail_after, member_after_finish, member_after_return}
use Rattle.bus_specs.specs.Inbox.{inbox, has_inbox, has_notice, items_of, members_at, operation_of_mail}
use Rattle.bus_specs.specs.Sound.{Rise, Sound, SoundMember, SoundRunning, HasNothing}
use Rattle.bus_sound.proofs.Among.{Among, among-Contains, Contains-among}
use Rattle.bus_sound.proofs.Lists.{All-each, each-All, among-map, map-among, any_from, any_to}
use Rattle.world_specs.specs.Units.{Units}
use Rattle.world_specs.specs.World.{AreDistinct, World, Node, Standing, New, Live, Down, Over}
use Rattle.world_specs.specs.Next.{What, Finish, Return, Sessions, Start, Event, at, precedes, rank, comes_before, enabled, next_event}
use Rattle.world_specs.specs.Sessions.{ticks, is_called, takes_part, inbox_on}
use Rattle.world_specs.specs.Step.{world_behind, outcome_of}
use Rattle.world_specs.specs.Fits.{UnitsFit, Fits, IsJoined, is_live, is_live_node}
use Rattle.world_laws.specs.Hearing.{Waits, IsGiven, AtSessions, GoesOn, Hears}
use Rattle.world_laws.proofs.Lists.{among-in, not-among, one-of-number}
use Rattle.world_laws.proofs.Order.{no-earlier, strictly-later, next-unbeaten, next-none, next-within}
use Rattle.world_laws.proofs.Sources.{mail-enabled}
use Rattle.world_laws.proofs.OneBus.{bus_behind}
use Rattle.world_laws.proofs.Timed.{forward, to-enabled}
use Rattle.world_laws.proofs.Calm.{holds-inbox}
use Rattle.world_laws.proofs.Fitting.{fits-from, fits-step}

-- ---- the only element of a number

there : {X : Type 0} (f : X → ℕ) (xs : List X) (x : X) → Among xs x → among (map f xs) (f x) ≡ true
there f xs x a = among-in (map f xs) (f x) (among-map f xs x a)

none-of : {X : Type 0} (f : X → ℕ) (xs : List X) (k : ℕ) → among (map f xs) k ≡ false → filter (λ y. f y == k) xs ≡ []
none-of f [] k e = refl
none-of f (x ∷ xs) k e = let p = or_parts (f x == k) (among (map f xs) k) e in rw p.0 (none-of f xs k p.1)

one-of : {X : Type 0} (f : X → ℕ) (xs : List X) (x : X) → AreDistinct (map f xs) → Among xs x → filter (λ y. f y == f x) xs ≡ x ∷ []
one-of f [] x d a = absurd a
one-of f (y ∷ xs) x d (inl e) = rw (eq-eqb (f y) (f x) (ap f e), none-of f xs (f x) (subst (λ k. among (map f xs) k ≡ false) (ap f e) d.0)) (ap (λ z. z ∷ []) e)
one-of f (y ∷ xs) x d (inr a) =
    rw (ne_eqb (f y) (f x) (λ e. both_ways (among (map f xs) (f x)) (subst (λ k. among (map f xs) k ≡ false) e d.0) (there f xs x a))) (one-of f xs x d.1 a)

not-below : (n : ℕ) (ns : List ℕ) (from below : ℕ) → n < from → Rise from ns below → among ns n ≡ false
not-below n [] from below l h = refl
not-below n (m ∷ ns) from below l h = rw (ne_eqb m n (λ e. omega (arith, l, h.0, e)), not-below n ns (m + 1) below (omega (arith, l, h.0)) h.1) refl

rise-distinct : (from : ℕ) (ns : List ℕ) (below : ℕ) → Rise from ns below → AreDistinct ns
rise-distinct from [] below h = tt
rise-distinct from (n ∷ ns) below h = (not-below n ns (n + 1) below (omega arith) h.1, rise-distinct (n + 1) ns below h.1)

-- ---- mail, and what else a member is given

abbrev quiet : Member → Member
quiet m = record m { mail = None }

items-of : (now : ℕ) (m : Member) (x : Mail) → m.mail ≡ Some x → flat_map spell (items_of now m) ≡ spell (operation_of_mail x) ++ flat_map spell (items_of now (quiet m))
items-of now m x p = rw p refl

-- ---- the end of a frame

module _ {S : Type 0} (u : Units S) (w : World S) (h : Fits w) (b : Bus) (a : Among w.buses b) (r : Running) (e : b.running ≡ Some r) (t : ℕ) where
  own-bus : (c : Bus) → (finish b t).0 ≡ c → Among (world_behind u w (at (Finish b.setup.number) t)).buses c
  own-bus c s =
      subst (Among (map (bus_behind u w t (Finish b.setup.number)) w.buses)) (rw (eq-eqb b.setup.number b.setup.number refl) s)
      (among-map (bus_behind u w t (Finish b.setup.number)) w.buses b a)

  ended-waits : (m : Member) → Among b.members m → (x : Mail) → (member_after_finish r m).mail ≡ Some x
      → Waits (world_behind u w (at (Finish b.setup.number) t)) b.setup.number m.node x
  unfolding finish
  ended-waits m c x p =
      let s : (finish b t).0 ≡ (finish_with b t (Some r)).0 = ap (λ o. (finish_with b t o).0) e in record {
        on = (finish_with b t (Some r)).0;
        there = Contains-among (world_behind u w (at (Finish b.setup.number) t)).buses (finish_with b t (Some r)).0 (own-bus (finish_with b t (Some r)).0 s);
        number = refl;
        free = refl;
        member = member_after_finish r m;
        among = Contains-among (map (member_after_finish r) b.members) (member_after_finish r m) (among-map (member_after_finish r) b.members m c);
        own = refl;
        mail = p;
      }

  listening : (m : Member) → Among r.listeners m.node → part r m.node ≡ Listening
  listening m c =
      let s : SoundRunning b.setup b.members r = some (each-All Sound w.buses b h.sound a).running in
      let heard : among r.listeners m.node ≡ true = among-in r.listeners m.node c in
      rw (ne_eqb r.sender m.node (λ q. both_ways (among r.listeners r.sender) s.apart (subst (λ n. among r.listeners n ≡ true) (sym q) heard)), heard) refl
    where
      some : IfSome b.running (SoundRunning b.setup b.members) → SoundRunning b.setup b.members r
      some i = subst (λ o. IfSome o (SoundRunning b.setup b.members)) e i

  received : r.fault ≡ None → (m : Member) → Among r.listeners m.node → m.live ≡ true → m.awake ≡ true → (member_after_finish r m).mail ≡ Some (Received r.frame)
  received f m c l k = rw (f, listening m c, k, l) refl

  confirmed : r.fault ≡ None → (m : Member) → m.node ≡ r.sender → m.live ≡ true → (member_after_finish r m).mail ≡ Some (Confirm r.frame.id)
  confirmed f m q l = rw (f, eq-eqb r.sender m.node (sym q), l) refl

-- ---- while it waits

module _ {S : Type 0} (w : World S) (h : Fits w) (bus node : ℕ) (x : Mail) (i : Waits w bus node x) where
  on-bus : Among w.buses i.on
  on-bus = among-Contains w.buses i.on i.there

  has-mail : is_some i.member.mail ≡ true
  has-mail = rw i.mail refl

  enabled-now : Among (enabled w) (at Sessions w.now)
  enabled-now = mail-enabled w i.on i.member on-bus (among-Contains i.on.members i.member i.among) has-mail

  live : i.member.live ≡ true
  live = true_from_ne_false i.member.live (λ q. both_ways (is_some i.member.mail)
      (ap is_some (((each-All (SoundMember i.on.setup i.on.running) i.on.members i.member (each-All Sound w.buses i.on h.sound on-bus).members (among-Contains i.on.members i.member i.among)).absent q).mail)) has-mail)

  live-node : is_live_node w.nodes node ≡ true
  live-node = ap (is_live_node w.nodes) (sym i.own)
      ∙ sym (each-All (λ m. m.live ≡ is_live_node w.nodes m.node) i.on.members i.member (each-All (IsJoined w.nodes) w.buses i.on h.joined on-bus) (among-Contains i.on.members i.member i.among))
      ∙ live

  takes : (n : Node S) → Contains w.nodes n → n.number ≡ node → takes_part w.buses w.now n ≡ true
  takes n c e =
      let r = any_to (λ (m : Node S). (m.number == node) && is_live m.standing) w.nodes live-node in
      let p = and_parts ((r.0).number == node) (is_live (r.0).standing) r.2 in
      let s : r.0 ≡ n = one-of-number (λ (m : Node S). m.number) w.nodes r.0 n h.node_numbers r.1 (among-Contains w.nodes n c) (eqb-true (r.0).number node p.0 ∙ sym e) in
      go n.standing (subst (λ (m : Node S). is_live m.standing ≡ true) s p.1)
    where
      waits : has_inbox i.on w.now n.number ≡ true
      waits = subst (λ k. has_inbox i.on w.now k ≡ true) (i.own ∙ sym e)
          (holds-inbox w.now i.on i.member (among-Contains i.on.members i.member i.among) (or_left (is_some i.member.mail) (has_notice w.now i.member) has-mail))

      go : (s : Standing S) → is_live s ≡ true → is_called w.buses w.now n.number s ≡ true
      go (New s) q = absurd cc
      go (Live s last clocks) q = or_right (list_any (ticks w.now) clocks) (list_any (λ b. has_inbox b w.now n.number) w.buses) (any_from (λ b. has_inbox b w.now n.number) w.buses i.on on-bus waits)
      go Down q = absurd cc
      go Over q = absurd cc

  own-inbox : inbox i.on w.now node ≡ spell (operation_of_mail x) ++ flat_map spell (items_of w.now (quiet i.member))
  own-inbox =
      let rise = (each-All Sound w.buses i.on h.sound on-bus).nodes in
      let one : members_at i.on node ≡ i.member ∷ [] = subst (λ k. members_at i.on k ≡ i.member ∷ []) i.own
      (one-of (λ (m : Member). m.node) i.on.members i.member (rise-distinct 0 (map (λ m. m.node) i.on.members) rise.0 rise.1) (among-Contains i.on.members i.member i.among)) in
      ap (λ ms. flat_map spell (flat_map (items_of w.now) ms)) one ∙ ap (flat_map spell) (append-nil (items_of w.now i.member)) ∙ items-of w.now i.member x i.mail

  given : IsGiven w bus node x
  given = record {
    part = takes;
    rest = quiet i.member;
    none = refl;
    inbox = ap (flat_map (λ b. inbox b w.now node)) (subst (λ k. filter (λ (b : Bus). b.setup.number == k) w.buses ≡ i.on ∷ []) i.number
        (one-of (λ (b : Bus). b.setup.number) w.buses i.on h.bus_numbers on-bus)) ∙ append-nil (inbox i.on w.now node) ∙ own-inbox;
  }

  module _ (u : Units S) where
    moved : (k : What) (c : Bus) → bus_behind u w w.now k i.on ≡ c → Among (map (bus_behind u w w.now k) w.buses) c
    moved k c s = subst (Among (map (bus_behind u w w.now k) w.buses)) s (among-map (bus_behind u w w.now k) w.buses i.on on-bus)

    -- another frame ends, and a node returns
    by-finish : (other : ℕ) → Waits (world_behind u w (at (Finish other) w.now)) bus node x
    unfolding finish
    by-finish other = record {
      on = i.on;
      there = Contains-among (map (bus_behind u w w.now (Finish other)) w.buses) i.on (moved (Finish other) i.on (go (i.on.setup.number == other)));
      number = i.number;
      free = i.free;
      member = i.member;
      among = i.among;
      own = i.own;
      mail = i.mail;
    }
      where
        go : (q : Bool) → (if q then (finish i.on w.now).0 else i.on) ≡ i.on
        go true = ap (λ o. (finish_with i.on w.now o).0) i.free
        go false = refl

    by-return : (other n : ℕ) → Waits (world_behind u w (at (Return other n) w.now)) bus node x
    unfolding recover
    by-return other n = go (i.on.setup.number == other) refl
      where
        back : Member → Member
        back m = if m.node == n then member_after_return m else m

        node-stays : (m : Member) (q : Bool) → (if q then member_after_return m else m).node ≡ m.node
        node-stays m true = refl
        node-stays m false = refl

        mail-stays : (m : Member) (q : Bool) → (if q then member_after_return m else m).mail ≡ m.mail
        mail-stays m true = refl
        mail-stays m false = refl

        go : (q : Bool) → (i.on.setup.number == other) ≡ q → Waits (world_behind u w (at (Return other n) w.now)) bus node x
        go true p = record {
          on = (recover i.on w.now n).0;
          there = Contains-among (map (bus_behind u w w.now (Return other n)) w.buses) (recover i.on w.now n).0 (moved (Return other n) (recover i.on w.now n).0 (rw p refl));
          number = i.number;
          free = i.free;
          member = back i.member;
          among = Contains-among (map back i.on.members) (back i.member) (among-map back i.on.members i.member (among-Contains i.on.members i.member i.among));
          own = node-stays i.member (i.member.node == n) ∙ i.own;
          mail = mail-stays i.member (i.member.node == n) ∙ i.mail;
        }
        go false p = record {
          on = i.on;
          there = Contains-among (map (bus_behind u w w.now (Return other n)) w.buses) i.on (moved (Return other n) i.on (rw p refl));
          number = i.number;
          free = i.free;
          member = i.member;
          among = i.among;
          own = i.own;
          mail = i.mail;
        }

pub hears : {S : Type 0} (u : Units S) (stop bus node : ℕ) (x : Mail) (k : ℕ) (w : World S) → UnitsFit u → Fits w → w.now ≤ stop → Waits w bus node x → Hears u stop bus node x k w
unfolding Hears
hears u stop bus node x zero w fit h l i = i
hears {S} u stop bus node x (suc k) w fit h l i = go (next_event stop w) refl (λ v g m j. hears u stop bus node x k v fit g m j)
  where
    On : Type 0
    On = (v : World S) → Fits v → v.now ≤ stop → Waits v bus node x → Hears u stop bus node x k v

    kinds : (q : What) → next_event stop w ≡ Some (at q w.now) → On → AtSessions (IsGiven w bus node x) (Hears u stop bus node x k (world_behind u w (at q w.now))) q
    kinds (Finish other) p on = on (world_behind u w (at (Finish other) w.now)) (fits-step u stop w (at (Finish other) w.now) fit h p) l (by-finish w h bus node x i u other)
    kinds (Return other n) p on = on (world_behind u w (at (Return other n) w.now)) (fits-step u stop w (at (Return other n) w.now) fit h p) l (by-return w h bus node x i u other n)
    kinds Sessions p on = given w h bus node x i
    kinds (Start other) p on =
        let f = strictly-later (at (Start other) w.now) (at Sessions w.now) (next-unbeaten stop w (at (Start other) w.now) (at Sessions w.now) p (enabled-now w h bus node x i)) refl in
        absurd (omega (arith, f))

    at-now : (e : Event) → next_event stop w ≡ Some e → e.moment ≡ w.now
    at-now e p =
        let f = no-earlier e (at Sessions w.now) (next-unbeaten stop w e (at Sessions w.now) p (enabled-now w h bus node x i)) in
        let g = forward stop w e (to-enabled w (fits-from w h)) p in
        omega (arith, f, g)

    go : (o : Option Event) → next_event stop w ≡ o → On → GoesOn w.now (IsGiven w bus node x) (λ e. Hears u stop bus node x k (world_behind u w e)) o
    go None p on = absurd (let s = each-All (λ e. stop < e.moment) (enabled w) (at Sessions w.now) (next-none stop w p) (enabled-now w h bus node x i) in omega (arith, s, l))
    go (Some e) p on =
        let m = at-now e p in (
          m,
          subst (λ t. AtSessions (IsGiven w bus node x) (Hears u stop bus node x k (world_behind u w (at e.what t))) e.what) (sym m)
              (kinds e.what (p ∙ ap (λ t. Some (at e.what t)) m) on),
        )

module _ {S : Type 0} (u : Units S) (stop k t : ℕ) (w : World S) (b : Bus) (r : Running) (m : Member) where
  behind-finish : UnitsFit u → Fits w → next_event stop w ≡ Some (at (Finish b.setup.number) t) → (x : Mail)
      → Waits (world_behind u w (at (Finish b.setup.number) t)) b.setup.number m.node x → Hears u stop b.setup.number m.node x k (world_behind u w (at (Finish b.setup.number) t))
  behind-finish fit h n x i = hears u stop b.setup.number m.node x k (world_behind u w (at (Finish b.setup.number) t)) fit (fits-step u stop w (at (Finish b.setup.number) t) fit h n)
      (next-within stop w (at (Finish b.setup.number) t) n) i

  pub receiver-hears : UnitsFit u → Fits w → next_event stop w ≡ Some (at (Finish b.setup.number) t) → Contains w.buses b → b.running ≡ Some r → r.fault ≡ None → Contains b.members m
      → Contains r.listeners m.node → m.live ≡ true → m.awake ≡ true → Hears u stop b.setup.number m.node (Received r.frame) k (world_behind u w (at (Finish b.setup.number) t))
  receiver-hears fit h n c e f d heard l a =
      let a' = among-Contains w.buses b c in
      behind-finish fit h n (Received r.frame) (ended-waits u w h b a' r e t m (among-Contains b.members m d) (Received r.frame)
      (received u w h b a' r e t f m (among-Contains r.listeners m.node heard) l a))

  pub sender-hears : UnitsFit u → Fits w → next_event stop w ≡ Some (at (Finish b.setup.number) t) → Contains w.buses b → b.running ≡ Some r → r.fault ≡ None → Contains b.members m
      → m.node ≡ r.sender → m.live ≡ true → Hears u stop b.setup.number m.node (Confirm r.frame.id) k (world_behind u w (at (Finish b.setup.number) t))
  sender-hears fit h n c e f d own l =
      let a' = among-Contains w.buses b c in
      behind-finish fit h n (Confirm r.frame.id) (ended-waits u w h b a' r e t m (among-Contains b.members m d) (Confirm r.frame.id) (confirmed u w h b a' r e t f m own l))
