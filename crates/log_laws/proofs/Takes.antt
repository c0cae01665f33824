-- A node takes its inbox, and a node returns from off: their lines, and what is seen behind them.
use Rattle.std.proofs.Common.{◌≡◌, ℕ, ◌+◌, ◌<◌, ◌==◌, ◌⊎◌, Bool, true, false, cond, if◌then◌else◌, List, [], ◌∷◌, ◌++◌, map, filter, fold, Option, Some, None, arith, refl, ap, ◌∙◌, sym, subst, inl, inr}
use Rattle.std.specs.Prelude.{◌||◌, flat_map, option_map, option_to_list, is_some, ⊤}
use Rattle.std.proofs.lemmas.Bool.{eqb-true}
use Rattle.bus_specs.specs.Bus.{Bus, Setup, Member, LostNotice, FormatNotice}
use Rattle.bus_specs.specs.Inbox.{take_inbox, members_at, told_notices, member_after_inbox, due_lost, due_format, due_wake}
use Rattle.bus_specs.specs.Finish.{recover, member_after_return}
use Rattle.operation_specs.specs.Operation.{Active}
use Rattle.bus_specs.specs.Sound.{Sound, Rise}
use Rattle.log_specs.specs.Line.{Line, On, Told, ToldLost, ToldFormat, ToldWake, Back}
use Rattle.bus_sound.proofs.Among.{Among, among-filter}
use Rattle.bus_sound.proofs.Lists.{unique}
use Rattle.bus_sound.proofs.Members.{nodes_of}
use Rattle.bus_sound.proofs.Quiet.{one}
use Rattle.log_laws.specs.Mirror.{Seen, Mirror, mirror_after, mirror_told, nodes_after, with_node}
use Rattle.log_laws.specs.Deliveries.{hurt_node}
use Rattle.log_laws.specs.Losers.{tells_loss, loss_next}
use Rattle.log_laws.proofs.Rows.{map-among-same, map-map}
use Rattle.log_laws.proofs.Lawful.{Opens, LawfulTold, Within, Follows, Agrees, seen, follow}
use Rattle.log_laws.proofs.Known.{Offered, own, one-line, with_node-seen}

-- what is told changes nothing but a node, and is lawful anywhere
record Gentle (node : ℕ) (told : Told) : Type 0 where
  same : (s : Setup) (m : Mirror) (t : ℕ) → mirror_told s m t node told ≡ record m { nodes = nodes_after node told m.nodes }
  law : (s : Setup) (m : Mirror) (t bus : ℕ) (rest : List Line) → loss_next rest ≡ false → LawfulTold s m t bus node told rest
  loss : tells_loss told ≡ false
  hurt : hurt_node node told ≡ None

abbrev AllGentle : ℕ → List Told → Type 0
AllGentle node [] = ⊤
AllGentle node (told ∷ ts) = Gentle node told × AllGentle node ts

gentle-append : (node : ℕ) (xs ys : List Told) → AllGentle node xs → AllGentle node ys → AllGentle node (xs ++ ys)
gentle-append node [] ys h k = k
gentle-append node (x ∷ xs) ys h k = (h.0, gentle-append node xs ys h.1 k)

nodes_behind : ℕ → List Told → List Seen → List Seen
nodes_behind node ts xs = fold (λ ys told. nodes_after node told ys) xs ts

module _ (s : Setup) (t node : ℕ) where
  lines_of : List Told → List Line
  lines_of ts = map (On t s.number node) ts

  gentle-opens : (ts : List Told) → AllGentle node ts → (after : List Line) → Opens after → Opens (lines_of ts ++ after)
  unfolding lines_of
  gentle-opens [] h after o = o
  gentle-opens (told ∷ ts) h after o = record { loss = (h.0).loss; hurt = (h.0).hurt }

  gentle-within : (ts : List Told) (m : Mirror) → AllGentle node ts → (after : List Line) → Opens after → Within s m (lines_of ts) after
  unfolding lines_of
  gentle-within [] m h after o = tt
  gentle-within (told ∷ ts) m h after o =
      ((h.0).law s m t s.number (lines_of ts ++ after) (gentle-opens ts h.1 after o).loss, gentle-within ts (mirror_after s m (On t s.number node told)) h.1 after o)

  gentle-follow : (ts : List Told) (m : Mirror) → AllGentle node ts → follow s m (lines_of ts) ≡ record m { nodes = nodes_behind node ts m.nodes }
  unfolding lines_of nodes_behind
  gentle-follow [] m h = refl
  gentle-follow (told ∷ ts) m h =
      ap (λ x. follow s x (lines_of ts)) (own s m t node told ∙ (h.0).same s m t)
      ∙ gentle-follow ts (record m { nodes = nodes_after node told m.nodes }) h.1

lost-gentle : (node id : ℕ) → Gentle node (ToldLost id)
lost-gentle node id = record { same = λ s m t. refl; law = λ s m t bus rest o. o; loss = refl; hurt = refl }

format-gentle : (node : ℕ) (bytes : List ℕ) → Gentle node (ToldFormat bytes)
format-gentle node bytes = record { same = λ s m t. refl; law = λ s m t bus rest o. o; loss = refl; hurt = refl }

wake-gentle : (node : ℕ) → Gentle node ToldWake
wake-gentle node = record { same = λ s m t. refl; law = λ s m t bus rest o. o; loss = refl; hurt = refl }

module _ (node : ℕ) where
  abbrev told_of_three : Option LostNotice → Option FormatNotice → Option ℕ → List Told
  told_of_three l f w = option_to_list (option_map (λ (n : LostNotice). ToldLost n.id) l)
      ++ option_to_list (option_map (λ (n : FormatNotice). ToldFormat n.bytes) f)
      ++ option_to_list (option_map (λ (n : ℕ). ToldWake) w)

  three-gentle : (l : Option LostNotice) (f : Option FormatNotice) (w : Option ℕ) → AllGentle node (told_of_three l f w)
  three-gentle None None None = tt
  three-gentle None None (Some w) = (wake-gentle node, tt)
  three-gentle None (Some f) None = (format-gentle node f.bytes, tt)
  three-gentle None (Some f) (Some w) = (format-gentle node f.bytes, (wake-gentle node, tt))
  three-gentle (Some l) None None = (lost-gentle node l.id, tt)
  three-gentle (Some l) None (Some w) = (lost-gentle node l.id, (wake-gentle node, tt))
  three-gentle (Some l) (Some f) None = (lost-gentle node l.id, (format-gentle node f.bytes, tt))
  three-gentle (Some l) (Some f) (Some w) = (lost-gentle node l.id, (format-gentle node f.bytes, (wake-gentle node, tt)))

  three-nodes : (l : Option LostNotice) (f : Option FormatNotice) (w : Option ℕ) (xs : List Seen)
      → nodes_behind node (told_of_three l f w) xs ≡ (if is_some w then with_node node (λ x. record x { awake = true }) xs else xs)
  unfolding nodes_behind
  three-nodes None None None xs = refl
  three-nodes None None (Some w) xs = refl
  three-nodes None (Some f) None xs = refl
  three-nodes None (Some f) (Some w) xs = refl
  three-nodes (Some l) None None xs = refl
  three-nodes (Some l) None (Some w) xs = refl
  three-nodes (Some l) (Some f) None xs = refl
  three-nodes (Some l) (Some f) (Some w) xs = refl

-- where nodes rise, a node has one member or none
record OneMember (ms : List Member) (node : ℕ) (x : Member) : Type 0 where
  among : Among ms x
  at : x.node ≡ node
  list : filter (λ (m : Member). m.node == node) ms ≡ x ∷ []

no-more : (node from : ℕ) (ms : List Member) (below : ℕ) → Rise from (nodes_of ms) below → node < from → filter (λ (m : Member). m.node == node) ms ≡ []
no-more node from [] below h l = refl
no-more node from (m ∷ ms) below h l = go (m.node == node) refl (λ k. no-more node (m.node + 1) ms below h.1 k)
  where
    go : (t : Bool) → (m.node == node) ≡ t → (node < m.node + 1 → filter (λ (x : Member). x.node == node) ms ≡ []) → cond t (m ∷ filter (λ (x : Member). x.node == node) ms) (filter (λ (x : Member). x.node == node) ms) ≡ []
    go true e on = absurd (omega (arith, eqb-true m.node node e, h.0, l))
    go false e on = on (omega (arith, h.0, l))

members-at : (node from : ℕ) (ms : List Member) (below : ℕ) → Rise from (nodes_of ms) below
    → (filter (λ (m : Member). m.node == node) ms ≡ []) ⊎ ((x : Member) × OneMember ms node x)
members-at node from [] below h = inl refl
members-at node from (m ∷ ms) below h = go (m.node == node) refl (members-at node (m.node + 1) ms below h.1)
  where
    rest : List Member
    rest = filter (λ (x : Member). x.node == node) ms

    go : (t : Bool) → (m.node == node) ≡ t → (rest ≡ []) ⊎ ((x : Member) × OneMember ms node x)
        → (filter (λ (m : Member). m.node == node) (m ∷ ms) ≡ []) ⊎ ((x : Member) × OneMember (m ∷ ms) node x)
    go true e k =
        let same : m.node ≡ node = eqb-true m.node node e in
        inr (m, record { among = inl refl; at = same; list = rw e (ap (λ l. m ∷ l) (no-more node (m.node + 1) ms below h.1 (omega (arith, same)))) })
    go false e (inl k) = inl (rw e k)
    go false e (inr k) = inr (k.0, record { among = inr (k.1).among; at = (k.1).at; list = rw e (k.1).list })

module _ (b : Bus) (m : Mirror) (now node : ℕ) (sound : Sound b) (a : Agrees m b) where
  inbox_seen : Bool → Member → Seen
  inbox_seen t x = if t then record (seen x) { awake = true } else seen x

  abbrev after_inbox : List Member
  after_inbox = map (one node (member_after_inbox now)) b.members

  -- nobody is this node
  none-seen : filter (λ (x : Member). x.node == node) b.members ≡ [] → map seen after_inbox ≡ map seen b.members
  none-seen e = map-map seen (one node (member_after_inbox now)) b.members
      ∙ map-among-same (λ x. seen (one node (member_after_inbox now) x)) seen b.members (λ x k. go x k (x.node == node) refl)
    where
      never : (x : Member) → Among b.members x → (x.node == node) ≡ true → ⊥
      never x k t = subst (λ l. Among l x) e (among-filter (λ (y : Member). y.node == node) b.members x k t)

      go : (x : Member) → Among b.members x → (t : Bool) → (x.node == node) ≡ t → seen (if t then member_after_inbox now x else x) ≡ seen x
      go x k true t = absurd (never x k t)
      go x k false t = refl

  one-seen : (x : Member) → OneMember b.members node x
      → (if is_some (due_wake now x) then with_node node (λ y. record y { awake = true }) (map seen b.members) else map seen b.members) ≡ map seen after_inbox
  one-seen x k = go (is_some (due_wake now x)) refl
    where
      this : (y : Member) → Among b.members y → (y.node == node) ≡ true → y ≡ x
      this y c t = unique (λ (z : Member). z.node) 0 b.members y x (sound.nodes).0 (sound.nodes).1 c k.among (eqb-true y.node node t ∙ sym k.at)

      wakes : (y : Member) → (u : Bool) → is_some (due_wake now y) ≡ u → seen (member_after_inbox now y) ≡ record (seen y) { awake = y.awake || u }
      wakes y u e = ap (λ v. record (seen y) { awake = y.awake || v }) e

      or-true : (t : Bool) → (t || true) ≡ true
      or-true true = refl
      or-true false = refl

      or-false : (t : Bool) → (t || false) ≡ t
      or-false true = refl
      or-false false = refl

      each : (u : Bool) → is_some (due_wake now x) ≡ u → (y : Member) → Among b.members y → (t : Bool) → (y.node == node) ≡ t
          → (if u then (if t then record (seen y) { awake = true } else seen y) else seen y) ≡ seen (if t then member_after_inbox now y else y)
      each true e y c true t = sym (wakes y true (ap (λ z. is_some (due_wake now z)) (this y c t) ∙ e) ∙ ap (λ v. record (seen y) { awake = v }) (or-true y.awake))
      each true e y c false t = refl
      each false e y c true t = sym (wakes y false (ap (λ z. is_some (due_wake now z)) (this y c t) ∙ e) ∙ ap (λ v. record (seen y) { awake = v }) (or-false y.awake))
      each false e y c false t = refl

      go : (u : Bool) → is_some (due_wake now x) ≡ u
          → (if u then with_node node (λ y. record y { awake = true }) (map seen b.members) else map seen b.members) ≡ map seen after_inbox
      go true e = map-map (λ y. if y.node == node then record y { awake = true } else y) seen b.members
          ∙ map-among-same (λ y. if y.node == node then record (seen y) { awake = true } else seen y) (λ y. seen (one node (member_after_inbox now) y)) b.members
          (λ y c. each true e y c (y.node == node) refl)
          ∙ sym (map-map seen (one node (member_after_inbox now)) b.members)
      go false e = map-among-same seen (λ y. seen (one node (member_after_inbox now) y)) b.members
          (λ y c. each false e y c (y.node == node) refl)
          ∙ sym (map-map seen (one node (member_after_inbox now)) b.members)

  told-follows : (ts : List Told) → AllGentle node ts → nodes_behind node ts m.nodes ≡ map seen after_inbox
      → Follows m b.setup (map (On now b.setup.number node) ts) (record b { members = after_inbox })
  unfolding lines_of
  told-follows ts g e = record {
    agrees = subst (λ x. Agrees x (record b { members = after_inbox })) (sym (gentle-follow b.setup now node ts m g)) (record {
      nodes = e;
      waits = a.waits;
      idle = a.idle;
      last = a.last;
      running = a.running;
    });
    lawful = λ after o. gentle-within b.setup now node ts m g after o;
    opens = λ after o. gentle-opens b.setup now node ts g after o;
  }

  append-none : (xs : List Line) → xs ++ [] ≡ xs
  append-none [] = refl
  append-none (x ∷ xs) = ap (λ l. x ∷ l) (append-none xs)

  pub take-follows : Follows m b.setup (take_inbox b now node).1 (take_inbox b now node).0
  unfolding take_inbox nodes_behind
  take-follows = go (members-at node 0 b.members (sound.nodes).0 (sound.nodes).1)
    where
      go : (filter (λ (x : Member). x.node == node) b.members ≡ []) ⊎ ((x : Member) × OneMember b.members node x)
          → Follows m b.setup (flat_map (λ x. map (On now b.setup.number node) (told_notices now x)) (members_at b node)) (record b { members = after_inbox })
      go (inl e) = rw e (told-follows [] tt (a.nodes ∙ sym (none-seen e)))
      go (inr k) = rw ((k.1).list) (subst (λ l. Follows m b.setup l (record b { members = after_inbox })) (sym (append-none (map (On now b.setup.number node) (told_notices now k.0))))
          (told-follows (told_notices now k.0) (three-gentle node (due_lost now k.0) (due_format now k.0) (due_wake now k.0))
          (three-nodes node (due_lost now k.0) (due_format now k.0) (due_wake now k.0) m.nodes
          ∙ ap (λ xs. if is_some (due_wake now k.0) then with_node node (λ y. record y { awake = true }) xs else xs) a.nodes ∙ one-seen k.0 k.1)))

  pub recover-follows : Follows m b.setup (recover b now node).1 (recover b now node).0
  unfolding recover
  recover-follows = one-line b.setup m now node Back (record b { members = map (one node member_after_return) b.members }) (record {
    nodes = rw a.nodes (with_node-seen node (λ x. record x { level = Active }) member_after_return (λ x. refl) b.members);
    waits = a.waits;
    idle = a.idle;
    last = a.last;
    running = a.running;
  }) (λ rest o. o.loss) refl refl

pub take-offered : (b : Bus) (now node : ℕ) → Offered b → Offered (take_inbox b now node).0
unfolding take_inbox
take-offered b now node h = h

pub recover-offered : (b : Bus) (now node : ℕ) → Offered b → Offered (recover b now node).0
unfolding recover
recover-offered b now node h = h
