-- Behind the sessions of a moment no mail and no due notice is left.
use Rattle.std.proofs.Common.{◌≡◌, ◌≤◌, ℕ, ◌==◌, ◌&&◌, ◌||◌, Bool, true, false, if◌then◌else◌, List, [], ◌∷◌, fold, Option, Some, None, option_map, is_some, sym, refl, ap, ◌∙◌, subst, inl, inr, eq-eqb}
use Rattle.std.specs.List.{cons_option, list_any}
use Rattle.std.proofs.lemmas.Bool.{both_ways, eqb-true, eqb-false, or_right, and_parts, false_from_ne_true}
use Rattle.session_specs.specs.Outcome.{SessionOut}
use Rattle.bus_specs.specs.Bus.{Bus, Member}
use Rattle.bus_specs.specs.Inbox.{has_inbox, has_notice, members_at, take_inbox, member_after_inbox}
use Rattle.bus_specs.specs.Sound.{Sound, SoundMember, HasNothing}
use Rattle.bus_sound.proofs.Among.{Among, among-filter, filter-among}
use Rattle.bus_sound.proofs.Lists.{each-All, any_from, any_to, map-among}
use Rattle.world_specs.specs.Units.{Units}
use Rattle.world_specs.specs.World.{Node, Standing, New, Live, Down, Over}
use Rattle.world_specs.specs.Sessions.{Turn, turn_of, turns, ticks, is_called, takes_part, session_from, given_to, emission_step, items_on}
use Rattle.world_specs.specs.Fits.{is_live, is_live_node, IsJoined}
use Rattle.world_laws.specs.Words.{NothingWaits}
use Rattle.world_laws.proofs.OneBus.{entry, turn_on, turns_on}
use Rattle.world_laws.proofs.Calls.{holds, Call, was-member, taken-holds, entries-call, items-call, end-call, as_it_was, end_live, entries_live, take-call}

-- a turn of this number
pub record OneOf {S : Type 0} (xs : List (Turn S)) (k : ℕ) : Type 0 where
  pub turn : Turn S
  pub among : Among xs turn
  pub number : turn.node.number ≡ k

module _ {S : Type 0} (u : Units S) (bs : List Bus) (t : ℕ) where
  -- who takes part has a turn
  has-turn : (n : Node S) → takes_part bs t n ≡ true → (out : SessionOut) × (turn_of u bs t n ≡ Some (record { node = n; out = out }))
  has-turn n p = go n.standing p
    where
      go : (s : Standing S) → is_called bs t n.number s ≡ true
          → (out : SessionOut) × (option_map {U = Turn S} (λ (r : SessionOut × S). record { node = n; out = r.0 }) (if takes_part bs t n then session_from u bs t n s else None) ≡ Some (record { node = n; out = out }))
      go (New s) q = ((u.session n.number (given_to bs t n 0 []) s).0, rw p refl)
      go (Live s last clocks) q = ((u.session n.number (given_to bs t n last clocks) s).0, rw p refl)
      go Down q = absurd cc
      go Over q = absurd cc

  pub part-turn : (ns : List (Node S)) (n : Node S) → Among ns n → takes_part bs t n ≡ true → OneOf (turns u bs t ns) n.number
  part-turn [] n a p = absurd a
  part-turn (m ∷ ns) n (inl e) p = first (has-turn n p)
    where
      first : (out : SessionOut) × (turn_of u bs t n ≡ Some (record { node = n; out = out })) → OneOf (turns u bs t (m ∷ ns)) n.number
      first r = let q : turn_of u bs t m ≡ Some (record { node = n; out = r.0 }) = subst (λ (x : Node S). turn_of u bs t x ≡ Some (record { node = n; out = r.0 })) (sym e) r.1 in
          record { turn = record { node = n; out = r.0 }; among = rw q (inl refl); number = refl }
  part-turn (m ∷ ns) n (inr a) p = later (turn_of u bs t m) (part-turn ns n a p)
    where
      later : (o : Option (Turn S)) → OneOf (turns u bs t ns) n.number → OneOf (cons_option o (turns u bs t ns)) n.number
      later None r = record { turn = r.turn; among = r.among; number = r.number }
      later (Some x) r = record { turn = r.turn; among = inr r.among; number = r.number }

-- who isn't live holds nothing
absent-holds : (t : ℕ) (m : Member) → HasNothing m → holds t m ≡ false
absent-holds t m h = rw (h.lost, h.format, h.wake, h.mail) refl

-- a member that holds something has an inbox, and only then
pub holds-inbox : (t : ℕ) (b : Bus) (m : Member) → Among b.members m → holds t m ≡ true → has_inbox b t m.node ≡ true
holds-inbox t b m a h = any_from (λ x. is_some x.mail || has_notice t x) (members_at b m.node) m
    (among-filter (λ (x : Member). x.node == m.node) b.members m a (eq-eqb m.node m.node refl)) h

pub no-inbox : (t : ℕ) (b : Bus) → ((m : Member) → Among b.members m → holds t m ≡ false) → NothingWaits t b
no-inbox t b h node = false_from_ne_true (has_inbox b t node) (λ e.
    let r = any_to (λ x. is_some x.mail || has_notice t x) (members_at b node) e in
    let f = filter-among (λ (x : Member). x.node == node) b.members r.0 r.1 in
    both_ways (holds t r.0) (h r.0 f.0) r.2)

module _ {S : Type 0} (t : ℕ) where
  -- what is held is held for those whose turn is to come
  abbrev Waits : List (Turn S) → Bus → Type 0
  Waits xs b = (m : Member) → Among b.members m → holds t m ≡ true → OneOf xs m.node

  call-waits : (live : ℕ → Bool → Bool) (xs : List (Turn S)) (b after : Bus) → Call t live b after → Waits xs b → Waits xs after
  call-waits live xs b after c h m a k =
      let w = was-member t live b after c m a in
      let r = h w.before w.among (w.held k) in
      record { turn = r.turn; among = r.among; number = r.number ∙ sym w.node }

  take-waits : (x : Turn S) (xs : List (Turn S)) (b : Bus) → Waits (x ∷ xs) b → Waits xs (take_inbox b t x.node.number).0
  unfolding take_inbox
  take-waits x xs b h m a k =
      let r = map-among (λ m. if m.node == x.node.number then member_after_inbox t m else m) b.members m a in
      go r.0 r.1 (r.0.node == x.node.number) refl r.2
    where
      other : (old : Member) → (old.node == x.node.number) ≡ false → OneOf (x ∷ xs) old.node → OneOf xs old.node
      other old e r = by r.among
        where
          by : Among (x ∷ xs) r.turn → OneOf xs old.node
          by (inl s) = absurd (eqb-false old.node x.node.number e (sym (ap (λ (y : Turn S). y.node.number) s ∙ r.number)))
          by (inr i) = record { turn = r.turn; among = i; number = r.number }

      go : (old : Member) → Among b.members old → (q : Bool) → (old.node == x.node.number) ≡ q
          → (if old.node == x.node.number then member_after_inbox t old else old) ≡ m → OneOf xs m.node
      go old i true e s =
          let s' : member_after_inbox t old ≡ m = subst (λ q. (if q then member_after_inbox t old else old) ≡ m) e s in
          absurd (both_ways (holds t (member_after_inbox t old)) (taken-holds t old) (subst (λ (y : Member). holds t y ≡ true) (sym s') k))
      go old i false e s =
          let s' : old ≡ m = subst (λ q. (if q then member_after_inbox t old else old) ≡ m) e s in
          let r = other old e (h old i (subst (λ (y : Member). holds t y ≡ true) (sym s') k)) in
          record { turn = r.turn; among = r.among; number = r.number ∙ ap (λ (y : Member). y.node) s' }

  -- a turn
  turn-waits : (x : Turn S) (xs : List (Turn S)) (b : Bus) → 1 ≤ b.setup.nominal → Waits (x ∷ xs) b → Waits xs (turn_on t b x)
  turn-waits x xs b p h =
      let taken : Bus = (take_inbox b t x.node.number).0 in
      let c = take-call t b x.node.number in
      let emitted : Bus = (emission_step t x taken).0 in
      call-waits (end_live x.out.end x.node.number) xs emitted (turn_on t b x) (end-call t x.out.end x.node.number emitted)
      (call-waits as_it_was xs taken emitted (items-call t x.node.number (items_on x taken.setup.number) (taken, []) (subst (λ s. 1 ≤ s.nominal) (sym c.setup) p))
      (take-waits x xs b h))

  all-waits : (xs : List (Turn S)) (b : Bus) → 1 ≤ b.setup.nominal → Waits xs b → Waits [] (fold (turn_on t) b xs)
  all-waits [] b p h = h
  all-waits (x ∷ xs) b p h =
      let c = turn-nominal in all-waits xs (turn_on t b x) c (turn-waits x xs b p h)
    where
      turn-nominal : 1 ≤ (turn_on t b x).setup.nominal
      turn-nominal =
          let taken : Bus = (take_inbox b t x.node.number).0 in
          let first = take-call t b x.node.number in
          let second = items-call t x.node.number (items_on x taken.setup.number) (taken, []) (subst (λ s. 1 ≤ s.nominal) (sym first.setup) p) in
          let third = end-call t x.out.end x.node.number (emission_step t x taken).0 in
          subst (λ s. 1 ≤ s.nominal) (sym (third.setup ∙ second.setup ∙ first.setup)) p

module _ {S : Type 0} (u : Units S) (bs : List Bus) (t : ℕ) (ns : List (Node S)) where
  -- who holds something is live, so its node is, and it takes part
  called : (b : Bus) → Among bs b → Sound b → IsJoined ns b → Waits {S = S} t (turns u bs t ns) b
  called b i sound joined m a k = go m.live refl
    where
      member : SoundMember b.setup b.running m
      member = each-All (SoundMember b.setup b.running) b.members m sound.members a

      node-of : is_live_node ns m.node ≡ true → OneOf (turns u bs t ns) m.node
      node-of e =
          let r = any_to (λ n. (n.number == m.node) && is_live n.standing) ns e in
          let both = and_parts ((r.0).number == m.node) (is_live (r.0).standing) r.2 in
          let same : (r.0).number ≡ m.node = eqb-true (r.0).number m.node both.0 in
          let waits : list_any (λ c. has_inbox c t (r.0).number) bs ≡ true = subst (λ j. list_any (λ c. has_inbox c t j) bs ≡ true) (sym same)
          (any_from (λ c. has_inbox c t m.node) bs b i (holds-inbox t b m a k)) in
          let q = part-turn u bs t ns r.0 r.1 (part (r.0).number (r.0).standing both.1 waits) in
          record { turn = q.turn; among = q.among; number = q.number ∙ same }
        where
          part : (number : ℕ) (s : Standing S) → is_live s ≡ true → list_any (λ c. has_inbox c t number) bs ≡ true → is_called bs t number s ≡ true
          part number (New s) e w = refl
          part number (Live s last clocks) e w = or_right (list_any (ticks t) clocks) (list_any (λ c. has_inbox c t number) bs) w
          part number Down e w = absurd cc
          part number Over e w = absurd cc

      go : (q : Bool) → m.live ≡ q → OneOf (turns u bs t ns) m.node
      go true e = node-of (sym (each-All (λ x. x.live ≡ is_live_node ns x.node) b.members m joined a) ∙ e)
      go false e = absurd (both_ways (holds t m) (absent-holds t m (member.absent e)) k)

  pub turns-calm : (b : Bus) → Among bs b → 1 ≤ b.setup.nominal → Sound b → IsJoined ns b
      → (m : Member) → Among (turns_on t (turns u bs t ns) b).members m → holds t m ≡ false
  turns-calm b i p sound joined m a =
      let xs : List (Turn S) = turns u bs t ns in
      let c = entries-call t xs b in
      let w = all-waits t xs (fold entry b xs) (subst (λ s. 1 ≤ s.nominal) (sym c.setup) p) (call-waits t (entries_live xs) xs b (fold entry b xs) c (called b i sound joined)) in
      false_from_ne_true (holds t m) (λ k. none (w m a k))
    where
      none : OneOf {S = S} [] m.node → ⊥
      none r = r.among
