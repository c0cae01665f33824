-- The sessions of a moment keep each bus sound.
use Rattle.std.proofs.Common.{◌≡◌, ◌≤◌, ◌<◌, ℕ, zero, suc, ◌==◌, ◌||◌, ◌⊎◌, Bool, true, false, if◌then◌else◌, List, [], ◌∷◌, map, fold, slice_get, All, sym, refl, ap, ◌∙◌, subst, inl, inr, eq-eqb}
use Rattle.std.proofs.lemmas.Bool.{ne_eqb}
use Rattle.log_specs.specs.Line.{Line}
use Rattle.operation_specs.specs.Reading.{Item, IsWhole}
use Rattle.bus_ops.specs.ItemsIn.{items_in}
use Rattle.bus_ops.proofs.ReadingLaws.{has_reading, reads_whole}
use Rattle.session_specs.specs.Outcome.{Emission, SessionOut, End}
use Rattle.session_specs.specs.Outcome as session
use Rattle.bus_specs.specs.Bus.{Bus, Member, Setup, is, among, member_is}
use Rattle.bus_specs.specs.Submit.{submission_of}
use Rattle.bus_specs.specs.Inbox.{take_inbox, enter}
use Rattle.bus_specs.specs.Sound.{Sound}
use Rattle.bus_sound.proofs.Among.{Among}
use Rattle.bus_sound.proofs.Lists.{each-All, flat_map-among}
use Rattle.bus_sound.proofs.Members.{is_from, is_to}
use Rattle.bus_sound.proofs.Quiet.{enter-sound, take_inbox-sound}
use Rattle.bus_sound.proofs.Left.{leave-sound}
use Rattle.bus_sound.proofs.Submitted.{submit-sound, submission_of-fits}
use Rattle.world_specs.specs.Sessions.{Turn, is_new, items_at, items_on, submission_step, emission_step}
use Rattle.fmi_states.specs.Reply.{AreBytes}
use Rattle.world_laws.proofs.Lists.{by-recursion, of-recursion}
use Rattle.world_laws.proofs.OneBus.{entry, by_end, turn_on, turns_on}
use Rattle.world_laws.proofs.Calls.{Call, was-member, as_it_was, end_live, entries_live, entries-call, submit-call, take-call, end-call, emitted-call}

-- ---- what is emitted on a bus

named : (bs : List ℕ) (i bus : ℕ) → is bus (slice_get bs i) ≡ true → among bs bus ≡ true
named bs i bus h = go bs i h
  where
    go : (bs : List ℕ) (i : ℕ) → is bus (slice_get bs i) ≡ true → among bs bus ≡ true
    go [] i h = absurd cc
    go (b ∷ bs) zero h = rw h refl
    go (b ∷ bs) (suc i) h = or-more (b == bus) (among bs bus) (go bs i h)
      where
        or-more : (x y : Bool) → y ≡ true → (x || y) ≡ true
        or-more true y e = refl
        or-more false y e = e

whole : (bytes : List ℕ) → AreBytes bytes → (i : Item) → Among (items_in bytes) i → IsWhole i
whole bytes h i a = of-recursion IsWhole (items_in bytes) i
    (reads_whole bytes (items_in bytes) (has_reading bytes (by-recursion (λ b. b < 256) bytes (λ b c. each-All (λ b. b < 256) bytes b h c)))) a

-- an item on a bus is whole, and one of the node's terminals names the bus
record IsEmitted {S : Type 0} (x : Turn S) (bus : ℕ) (i : Item) : Type 0 where
  whole : IsWhole i
  named : among x.node.buses bus ≡ true

emitted-is : {S : Type 0} (x : Turn S) (bus : ℕ) → All (λ e. AreBytes e.bytes) x.out.emitted → (i : Item) → Among (items_on x bus) i → IsEmitted x bus i
emitted-is x bus h i a =
    let r = flat_map-among (items_at x.node.buses bus) x.out.emitted i a in
    go r.0 (each-All (λ e. AreBytes e.bytes) x.out.emitted r.0 h r.1) (is bus (slice_get x.node.buses (r.0).terminal)) refl r.2
  where
    go : (e : Emission) → AreBytes e.bytes → (q : Bool) → is bus (slice_get x.node.buses e.terminal) ≡ q → Among (if q then items_in e.bytes else []) i → IsEmitted x bus i
    go e k true n c = record { whole = whole e.bytes k i c; named = named x.node.buses e.terminal bus n }
    go e k false n c = absurd c

end-sound : (e : End) (k : ℕ) (b : Bus) → Sound b → Sound (by_end e k b)
end-sound session.Live k b h = h
end-sound session.Over k b h = leave-sound b k h
end-sound (session.Down cause) k b h = leave-sound b k h

end-stays : (e : End) (k n : ℕ) → (n ≡ k → ⊥) → (l : Bool) → l ≡ true → end_live e k n l ≡ true
end-stays session.Live k n d l h = h
end-stays session.Over k n d l h = rw (ne_eqb n k d) h
end-stays (session.Down cause) k n d l h = rw (ne_eqb n k d) h

module _ {S : Type 0} (t : ℕ) where
  -- a node that is a member where it has to be, and live there
  record IsReady (x : Turn S) (b : Bus) : Type 0 where
    member : among x.node.buses b.setup.number ≡ true → member_is (λ m. true) b.members x.node.number ≡ true
    lives : (m : Member) → Among b.members m → m.node ≡ x.node.number → m.live ≡ true

  ready-live : (x : Turn S) (b : Bus) → IsReady x b → among x.node.buses b.setup.number ≡ true → member_is (λ m. m.live) b.members x.node.number ≡ true
  ready-live x b r e =
      let i = is_to (λ m. true) b.members x.node.number (r.member e) in
      is_from (λ m. m.live) b.members i.member x.node.number i.among i.node (r.lives i.member i.among i.node)

  -- a call that leaves its live flag
  call-ready : (live : ℕ → Bool → Bool) (x : Turn S) (b after : Bus) → ((l : Bool) → l ≡ true → live x.node.number l ≡ true) → Call t live b after → IsReady x b → IsReady x after
  call-ready live x b after stays c r = record {
    member = λ e. members (r.member (subst (λ s. among x.node.buses s.number ≡ true) c.setup e));
    lives = λ m a e. let w = was-member t live b after c m a in
        let n : (w.before).node ≡ x.node.number = sym w.node ∙ e in
        w.lives ∙ subst (λ k. live k (w.before).live ≡ true) (sym n) (stays (w.before).live (r.lives w.before w.among n));
  }
    where
      among-change : (ms : List Member) (m : Member) → Among ms m → Among (map c.change ms) (c.change m)
      among-change [] m a = absurd a
      among-change (y ∷ ms) m (inl e) = inl (ap c.change e)
      among-change (y ∷ ms) m (inr a) = inr (among-change ms m a)

      members : member_is (λ m. true) b.members x.node.number ≡ true → member_is (λ m. true) after.members x.node.number ≡ true
      members h =
          let i = is_to (λ m. true) b.members x.node.number h in
          subst (λ ms. member_is (λ m. true) ms x.node.number ≡ true) (sym c.members)
          (is_from (λ m. true) (map c.change b.members) (c.change i.member) x.node.number (among-change b.members i.member i.among) (c.node i.member ∙ i.node) refl)

  -- the items of a node are submitted
  items-sound : (x : Turn S) (bus : ℕ) (items : List Item) (p : Bus × List Line) → ((i : Item) → Among items i → IsEmitted x bus i) → p.0.setup.number ≡ bus → 1 ≤ p.0.setup.nominal
      → IsReady x p.0 → Sound p.0 → Sound (fold (submission_step t x.node.number) p items).0
  items-sound x bus [] p h n bits r sound = sound
  items-sound x bus (i ∷ items) p h n bits r sound =
      let e = h i (inl refl) in
      let c = submit-call t p.0 x.node.number (submission_of p.0.setup i) bits in
      items-sound x bus items (submission_step t x.node.number p i) (λ j a. h j (inr a)) (ap (λ (s : Setup). s.number) c.setup ∙ n) (subst (λ s. 1 ≤ s.nominal) (sym c.setup) bits)
      (call-ready as_it_was x p.0 (submission_step t x.node.number p i).0 (λ l k. k) c r)
      (submit-sound p.0 t x.node.number (submission_of p.0.setup i) sound (submission_of-fits p.0.setup i e.whole) (ready-live x p.0 r (subst (λ k. among x.node.buses k ≡ true) (sym n) e.named)))

  turn-sound : (x : Turn S) (b : Bus) → All (λ e. AreBytes e.bytes) x.out.emitted → 1 ≤ b.setup.nominal → IsReady x b → Sound b → Sound (turn_on t b x)
  turn-sound x b h bits r sound =
      let taken : Bus = (take_inbox b t x.node.number).0 in
      let c = take-call t b x.node.number in
      end-sound x.out.end x.node.number (emission_step t x taken).0
      (items-sound x taken.setup.number (items_on x taken.setup.number) (taken, []) (emitted-is x taken.setup.number h) refl (subst (λ s. 1 ≤ s.nominal) (sym c.setup) bits)
      (call-ready as_it_was x b taken (λ l k. k) c r) (take_inbox-sound b t x.node.number sound))

  -- turns of different numbers: one leaves the others ready
  abbrev pub Differ : List (Turn S) → Type 0
  Differ [] = Unit {0}
  Differ (x ∷ xs) = ((y : Turn S) → Among xs y → y.node.number ≡ x.node.number → ⊥) × Differ xs

  all-sound : (xs : List (Turn S)) (b : Bus) → Differ xs → ((x : Turn S) → Among xs x → All (λ e. AreBytes e.bytes) x.out.emitted) → 1 ≤ b.setup.nominal
      → ((x : Turn S) → Among xs x → IsReady x b) → Sound b → Sound (fold (turn_on t) b xs)
  all-sound [] b d h bits r sound = sound
  all-sound (x ∷ xs) b d h bits r sound =
      let emitted : Bus = (emission_step t x (take_inbox b t x.node.number).0).0 in
      let c = emitted-call t x b bits in
      let e = end-call t x.out.end x.node.number emitted in
      all-sound xs (turn_on t b x) d.1 (λ y a. h y (inr a)) (subst (λ s. 1 ≤ s.nominal) (sym (e.setup ∙ c.setup)) bits)
      (λ y a. call-ready (end_live x.out.end x.node.number) y emitted (turn_on t b x) (end-stays x.out.end x.node.number y.node.number (d.0 y a)) e
      (call-ready as_it_was y b emitted (λ l k. k) c (r y (inr a))))
      (turn-sound x b (h x (inl refl)) bits (r x (inl refl)) sound)

  entries-sound : (xs : List (Turn S)) (b : Bus) → Sound b → Sound (fold entry b xs)
  entries-sound [] b h = h
  entries-sound (x ∷ xs) b h = entries-sound xs (entry b x) (go (is_new x.node.standing))
    where
      go : (q : Bool) → Sound (if q then enter b x.node.number else b)
      go true = enter-sound b x.node.number h
      go false = h

  -- the entries leave a live member live, and make the new ones so
  entry-keeps : (xs : List (Turn S)) (n : ℕ) (l : Bool) → l ≡ true → entries_live xs n l ≡ true
  entry-keeps [] n l h = h
  entry-keeps (x ∷ xs) n l h = entry-keeps xs n _ (go (is_new x.node.standing) (n == x.node.number))
    where
      go : (q r : Bool) → (if q then (if r then true else l) else l) ≡ true
      go true true = refl
      go true false = h
      go false r = h

  entered : (xs : List (Turn S)) (x : Turn S) → Among xs x → is_new x.node.standing ≡ true → (l : Bool) → entries_live xs x.node.number l ≡ true
  entered [] x a e l = absurd a
  entered (y ∷ xs) x (inl s) e l = entry-keeps xs x.node.number _ (subst (λ (z : Turn S). (if is_new z.node.standing then (if x.node.number == z.node.number then true else l) else l) ≡ true) (sym s) (rw (e, eq-eqb x.node.number x.node.number refl) refl))
  entered (y ∷ xs) x (inr a) e l = entered xs x a e _

  -- a turn is of a member that is live or new, where a terminal names the bus
  pub record MayTurn (x : Turn S) (b : Bus) : Type 0 where
    pub member : among x.node.buses b.setup.number ≡ true → member_is (λ m. true) b.members x.node.number ≡ true
    pub lives : (is_new x.node.standing ≡ true) ⊎ ((m : Member) → Among b.members m → m.node ≡ x.node.number → m.live ≡ true)

  pub turns-sound : (xs : List (Turn S)) (b : Bus) → Differ xs → ((x : Turn S) → Among xs x → All (λ e. AreBytes e.bytes) x.out.emitted) → 1 ≤ b.setup.nominal
      → ((x : Turn S) → Among xs x → MayTurn x b) → Sound b → Sound (turns_on t xs b)
  turns-sound xs b d h bits r sound =
      let c = entries-call t xs b in
      all-sound xs (fold entry b xs) d h (subst (λ s. 1 ≤ s.nominal) (sym c.setup) bits) (λ x a. ready x a c (r x a)) (entries-sound xs b sound)
    where
      ready : (x : Turn S) → Among xs x → Call t (entries_live xs) b (fold entry b xs) → MayTurn x b → IsReady x (fold entry b xs)
      ready x a c m = record {
        member = λ e. members (m.member (subst (λ s. among x.node.buses s.number ≡ true) c.setup e));
        lives = λ y i e. let w = was-member t (entries_live xs) b (fold entry b xs) c y i in
            let n : (w.before).node ≡ x.node.number = sym w.node ∙ e in
            w.lives ∙ subst (λ k. entries_live xs k (w.before).live ≡ true) (sym n) (by m.lives w.before w.among n);
      }
        where
          by : (is_new x.node.standing ≡ true) ⊎ ((m : Member) → Among b.members m → m.node ≡ x.node.number → m.live ≡ true)
              → (before : Member) → Among b.members before → before.node ≡ x.node.number → entries_live xs x.node.number before.live ≡ true
          by (inl e) before i n = entered xs x a e before.live
          by (inr l) before i n = entry-keeps xs x.node.number before.live (l before i n)

          among-change : (ms : List Member) (m : Member) → Among ms m → Among (map c.change ms) (c.change m)
          among-change [] m a = absurd a
          among-change (y ∷ ms) m (inl e) = inl (ap c.change e)
          among-change (y ∷ ms) m (inr a) = inr (among-change ms m a)

          members : member_is (λ m. true) b.members x.node.number ≡ true → member_is (λ m. true) (fold entry b xs).members x.node.number ≡ true
          members q =
              let i = is_to (λ m. true) b.members x.node.number q in
              subst (λ ms. member_is (λ m. true) ms x.node.number ≡ true) (sym c.members)
              (is_from (λ m. true) (map c.change b.members) (c.change i.member) x.node.number (among-change b.members i.member i.among) (c.node i.member ∙ i.node) refl)
