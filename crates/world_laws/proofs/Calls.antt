-- What a call of the medium in a session does to a bus: it changes the members one by one, and no frame.
use Rattle.std.proofs.Common.{◌≡◌, ◌≤◌, ◌<◌, ℕ, ◌+◌, ◌==◌, ◌||◌, ◌⊎◌, Bool, true, false, if◌then◌else◌, List, [], ◌∷◌, map, fold, nat_le, Option, Some, None, is_some, arith, sym, refl, ap, ◌∙◌, subst, inl, inr}
use Rattle.std.proofs.lemmas.Bool.{both_ways, lt-leb, or_cases, or_left, or_right}
use Rattle.operation_specs.specs.Reading.{Item}
use Rattle.log_specs.specs.Line.{Line}
use Rattle.session_specs.specs.Outcome.{End}
use Rattle.session_specs.specs.Outcome as session
use Rattle.bus_specs.specs.Bus.{Bus, Member, FormatNotice, LostNotice, bits, with_member}
use Rattle.bus_specs.specs.Submit.{Submission, Transmit, Keep, Discard, Wakeup, Sleep, Rate, FdRate, Declare, FormatError, Unfit, Fate, Accepted, Full, Dropped, fate, with_request, submission_of, submit, member_after_wakeup, wake_notice, format_notice}
use Rattle.bus_specs.specs.Inbox.{due, later_part, due_lost, due_format, due_wake, has_notice, take_inbox, member_after_inbox, enter, leave, member_after_leaving}
use Rattle.bus_sound.proofs.Among.{Among}
use Rattle.bus_sound.proofs.Lists.{map-among}
use Rattle.world_specs.specs.Sessions.{Turn, is_new, items_on, submission_step, emission_step}
use Rattle.world_laws.proofs.Lists.{map-map, map-id}
use Rattle.world_laws.proofs.OneBus.{entry, by_end, turn_on, turns_on}

-- mail, or a notice that is due
abbrev pub holds : ℕ → Member → Bool
holds t m = is_some m.mail || has_notice t m

pub record Call (t : ℕ) (live : ℕ → Bool → Bool) (b after : Bus) : Type 0 where
  pub setup : after.setup ≡ b.setup
  pub running : after.running ≡ b.running
  pub idle : after.idle ≡ b.idle
  pub change : Member → Member
  pub members : after.members ≡ map change b.members
  pub node : (m : Member) → (change m).node ≡ m.node
  pub seen : (m : Member) → (change m).occurrences ≡ m.occurrences
  pub lives : (m : Member) → (change m).live ≡ live m.node m.live
  pub held : (m : Member) → holds t (change m) ≡ true → holds t m ≡ true

-- a member behind a call was one before
pub record WasMember (t : ℕ) (live : ℕ → Bool → Bool) (b : Bus) (m : Member) : Type 0 where
  pub before : Member
  pub among : Among b.members before
  pub node : m.node ≡ before.node
  pub seen : m.occurrences ≡ before.occurrences
  pub lives : m.live ≡ live before.node before.live
  pub held : holds t m ≡ true → holds t before ≡ true

pub was-member : (t : ℕ) (live : ℕ → Bool → Bool) (b after : Bus) → Call t live b after → (m : Member) → Among after.members m → WasMember t live b m
was-member t live b after c m a =
    let r = map-among c.change b.members m (subst (λ ms. Among ms m) c.members a) in record {
      before = r.0;
      among = r.1;
      node = ap (λ (x : Member). x.node) (sym r.2) ∙ c.node r.0;
      seen = ap (λ (x : Member). x.occurrences) (sym r.2) ∙ c.seen r.0;
      lives = ap (λ (x : Member). x.live) (sym r.2) ∙ c.lives r.0;
      held = λ h. c.held r.0 (subst (λ (x : Member). holds t x ≡ true) (sym r.2) h);
    }

-- the live flag of a member: one that is changed by a rule, at an entry, at the end of a session, at all of them
abbrev pub at_node : ℕ → (Bool → Bool) → ℕ → Bool → Bool
at_node node rule n live = if n == node then rule live else live

abbrev pub entry_live : {S : Type 0} → Turn S → ℕ → Bool → Bool
entry_live x n live = if is_new x.node.standing then at_node x.node.number (λ l. true) n live else live

abbrev pub end_live : End → ℕ → ℕ → Bool → Bool
end_live session.Live k n live = live
end_live session.Over k n live = at_node k (λ l. false) n live
end_live (session.Down cause) k n live = at_node k (λ l. false) n live

abbrev pub entries_live : {S : Type 0} → List (Turn S) → ℕ → Bool → Bool
entries_live xs n live = fold (λ l x. entry_live x n l) live xs

abbrev pub ends_live : {S : Type 0} → List (Turn S) → ℕ → Bool → Bool
ends_live xs n live = fold (λ l x. end_live x.out.end x.node.number n l) live xs

abbrev pub as_it_was : ℕ → Bool → Bool
as_it_was node live = live

module _ (t : ℕ) where
  pub no-call : (b after : Bus) → after.setup ≡ b.setup → after.running ≡ b.running → after.idle ≡ b.idle → after.members ≡ b.members → Call t as_it_was b after
  no-call b after e f g h = record {
    setup = e;
    running = f;
    idle = g;
    change = λ m. m;
    members = h ∙ sym (map-id b.members);
    node = λ m. refl;
    seen = λ m. refl;
    lives = λ m. refl;
    held = λ m k. k;
  }

  pub then-call : (f g : ℕ → Bool → Bool) (b c d : Bus) → Call t f b c → Call t g c d → Call t (λ node live. g node (f node live)) b d
  then-call f g b c d x y = record {
    setup = y.setup ∙ x.setup;
    running = y.running ∙ x.running;
    idle = y.idle ∙ x.idle;
    change = λ m. y.change (x.change m);
    members = y.members ∙ ap (map y.change) x.members ∙ map-map y.change x.change b.members;
    node = λ m. y.node (x.change m) ∙ x.node m;
    seen = λ m. y.seen (x.change m) ∙ x.seen m;
    lives = λ m. y.lives (x.change m) ∙ subst (λ n. g n (x.change m).live ≡ g m.node (f m.node m.live)) (sym (x.node m)) (ap (g m.node) (x.lives m));
    held = λ m h. x.held m (y.held (x.change m) h);
  }

  -- what a node holds is less where each part is
  less : (m n : Member) → (is_some n.mail ≡ true → is_some m.mail ≡ true) → (is_some (due_lost t n) ≡ true → is_some (due_lost t m) ≡ true)
      → (is_some (due_format t n) ≡ true → is_some (due_format t m) ≡ true) → (is_some (due_wake t n) ≡ true → is_some (due_wake t m) ≡ true)
      → holds t n ≡ true → holds t m ≡ true
  less m n a l f w h = mails (or_cases (is_some n.mail) (has_notice t n) h)
    where
      pair : (x y : Bool) → (x ≡ true) ⊎ (y ≡ true) → (x || y) ≡ true
      pair x y (inl e) = or_left x y e
      pair x y (inr e) = or_right x y e

      firsts : (is_some (due_lost t n) ≡ true) ⊎ (is_some (due_format t n) ≡ true) → (is_some (due_lost t m) || is_some (due_format t m)) ≡ true
      firsts (inl e) = pair (is_some (due_lost t m)) (is_some (due_format t m)) (inl (l e))
      firsts (inr e) = pair (is_some (due_lost t m)) (is_some (due_format t m)) (inr (f e))

      notices : ((is_some (due_lost t n) || is_some (due_format t n)) ≡ true) ⊎ (is_some (due_wake t n) ≡ true) → has_notice t m ≡ true
      notices (inl e) = pair (is_some (due_lost t m) || is_some (due_format t m)) (is_some (due_wake t m)) (inl (firsts (or_cases (is_some (due_lost t n)) (is_some (due_format t n)) e)))
      notices (inr e) = pair (is_some (due_lost t m) || is_some (due_format t m)) (is_some (due_wake t m)) (inr (w e))

      mails : (is_some n.mail ≡ true) ⊎ (has_notice t n ≡ true) → holds t m ≡ true
      mails (inl e) = pair (is_some m.mail) (has_notice t m) (inl (a e))
      mails (inr e) = pair (is_some m.mail) (has_notice t m) (inr (notices (or_cases (is_some (due_lost t n) || is_some (due_format t n)) (is_some (due_wake t n)) e)))

  one-call : (b : Bus) (node : ℕ) (rule : Bool → Bool) (change : Member → Member) → ((m : Member) → (change m).node ≡ m.node) → ((m : Member) → (change m).occurrences ≡ m.occurrences)
      → ((m : Member) → (change m).live ≡ rule m.live) → ((m : Member) → holds t (change m) ≡ true → holds t m ≡ true)
      → Call t (at_node node rule) b (with_member b node change)
  one-call b node rule change n s l h = record {
    setup = refl;
    running = refl;
    idle = refl;
    change = λ m. if m.node == node then change m else m;
    members = refl;
    node = λ m. nodes m (m.node == node);
    seen = λ m. seens m (m.node == node);
    lives = λ m. lifes m (m.node == node);
    held = λ m k. helds m (m.node == node) k;
  }
    where
      nodes : (m : Member) (q : Bool) → (if q then change m else m).node ≡ m.node
      nodes m true = n m
      nodes m false = refl

      seens : (m : Member) (q : Bool) → (if q then change m else m).occurrences ≡ m.occurrences
      seens m true = s m
      seens m false = refl

      lifes : (m : Member) (q : Bool) → (if q then change m else m).live ≡ (if q then rule m.live else m.live)
      lifes m true = l m
      lifes m false = refl

      helds : (m : Member) (q : Bool) → holds t (if q then change m else m) ≡ true → holds t m ≡ true
      helds m true k = h m k
      helds m false k = k

  -- a member whose live flag stays
  same-live : (b after : Bus) (node : ℕ) → Call t (at_node node (λ l. l)) b after → Call t as_it_was b after
  same-live b after node c = record {
    setup = c.setup;
    running = c.running;
    idle = c.idle;
    change = c.change;
    members = c.members;
    node = c.node;
    seen = c.seen;
    lives = λ m. c.lives m ∙ go (m.node == node) m.live;
    held = c.held;
  }
    where
      go : (q l : Bool) → (if q then l else l) ≡ l
      go true l = refl
      go false l = refl

  -- a notice that falls due later isn't due
  later-wake : (d : ℕ) → t < d → (o : Option ℕ) → is_some (due (λ n. n) t (wake_notice d o)) ≡ true → is_some (due (λ n. n) t o) ≡ true
  later-wake d l None h = go (nat_le d t) (lt-leb d t l) h
    where
      go : (q : Bool) → q ≡ false → is_some (if q then Some d else None) ≡ true → false ≡ true
      go true e k = absurd (both_ways true e refl)
      go false e k = k
  later-wake d l (Some n) h = h

  later-format : (d : ℕ) (bytes : List ℕ) → t < d → (o : Option FormatNotice) → is_some (due (λ n. n.due) t (format_notice d bytes o)) ≡ true → is_some (due (λ n. n.due) t o) ≡ true
  later-format d bytes l None h = go (nat_le d t) (lt-leb d t l) h
    where
      go : (q : Bool) → q ≡ false → is_some {T = FormatNotice} (if q then Some (record { due = d; bytes = bytes }) else None) ≡ true → false ≡ true
      go true e k = absurd (both_ways true e refl)
      go false e k = k
  later-format d bytes l (Some n) h = h

  wakeup-call : (b : Bus) (node : ℕ) → 1 ≤ b.setup.nominal → Call t as_it_was b (record b { members = map (member_after_wakeup node (t + bits b 1)) b.members })
  wakeup-call b node p = record {
    setup = refl;
    running = refl;
    idle = refl;
    change = member_after_wakeup node (t + bits b 1);
    members = refl;
    node = λ m. nodes m (m.node == node) m.live;
    seen = λ m. seens m (m.node == node) m.live;
    lives = λ m. lifes m (m.node == node) m.live;
    held = λ m k. helds m (m.node == node) m.live k;
  }
    where
      nodes : (m : Member) (q r : Bool) → (if q then record m { awake = true } else if r then record m { wake = wake_notice (t + bits b 1) m.wake } else m).node ≡ m.node
      nodes m true r = refl
      nodes m false true = refl
      nodes m false false = refl

      seens : (m : Member) (q r : Bool) → (if q then record m { awake = true } else if r then record m { wake = wake_notice (t + bits b 1) m.wake } else m).occurrences ≡ m.occurrences
      seens m true r = refl
      seens m false true = refl
      seens m false false = refl

      lifes : (m : Member) (q r : Bool) → (if q then record m { awake = true } else if r then record m { wake = wake_notice (t + bits b 1) m.wake } else m).live ≡ m.live
      lifes m true r = refl
      lifes m false true = refl
      lifes m false false = refl

      helds : (m : Member) (q r : Bool) → holds t (if q then record m { awake = true } else if r then record m { wake = wake_notice (t + bits b 1) m.wake } else m) ≡ true → holds t m ≡ true
      helds m true r k = k
      helds m false true k = less m (record m { wake = wake_notice (t + bits b 1) m.wake }) (λ e. e) (λ e. e) (λ e. e) (later-wake (t + bits b 1) (omega (arith, p)) m.wake) k
      helds m false false k = k

  pub submit-call : (b : Bus) (node : ℕ) (what : Submission) → 1 ≤ b.setup.nominal → Call t as_it_was b (submit b t node what).0
  unfolding submit
  submit-call b node (Transmit f) p = go (fate b node)
    where
      go : (x : Fate) → Call t as_it_was b (with_request b node f x)
      go Accepted = no-call b (with_request b node f Accepted) refl refl refl refl
      go Full = no-call b b refl refl refl refl
      go Dropped = no-call b b refl refl refl refl
  submit-call b node Keep p = same-live b _ node (one-call b node (λ l. l) (λ m. record m { discards = false }) (λ m. refl) (λ m. refl) (λ m. refl) (λ m k. k))
  submit-call b node Discard p = same-live b _ node (one-call b node (λ l. l) (λ m. record m { discards = true }) (λ m. refl) (λ m. refl) (λ m. refl) (λ m k. k))
  submit-call b node Wakeup p = wakeup-call b node p
  submit-call b node Sleep p = same-live b _ node (one-call b node (λ l. l) (λ m. record m { awake = false }) (λ m. refl) (λ m. refl) (λ m. refl) (λ m k. k))
  submit-call b node (Rate v) p = no-call b b refl refl refl refl
  submit-call b node (FdRate v) p = no-call b b refl refl refl refl
  submit-call b node (Declare l) p = no-call b b refl refl refl refl
  submit-call b node (FormatError bytes) p = no-call b b refl refl refl refl
  submit-call b node (Unfit bytes) p = same-live b _ node (one-call b node (λ l. l) (λ m. record m { format = format_notice (t + bits b 1) bytes m.format }) (λ m. refl) (λ m. refl) (λ m. refl)
      (λ m k. less m (record m { format = format_notice (t + bits b 1) bytes m.format }) (λ e. e) (λ e. e) (later-format (t + bits b 1) bytes (omega (arith, p)) m.format) (λ e. e) k))

  -- what is left of a notice isn't due
  left-over : {A : Type 0} (when : A → ℕ) (o : Option A) → is_some (due when t (later_part when t o)) ≡ false
  left-over when None = refl
  left-over when (Some n) = go (nat_le (when n) t) refl
    where
      go : (q : Bool) → nat_le (when n) t ≡ q → is_some (due when t (if q then None else Some n)) ≡ false
      go true e = refl
      go false e = rw e refl

  -- a node that has taken its inbox holds nothing
  pub taken-holds : (m : Member) → holds t (member_after_inbox t m) ≡ false
  taken-holds m = rw (left-over (λ (n : LostNotice). n.due) m.lost, left-over (λ (n : FormatNotice). n.due) m.format, left-over (λ n. n) m.wake) refl

  pub take-call : (b : Bus) (node : ℕ) → Call t as_it_was b (take_inbox b t node).0
  unfolding take_inbox
  take-call b node = same-live b _ node (one-call b node (λ l. l) (member_after_inbox t) (λ m. refl) (λ m. refl) (λ m. refl) (λ m k. absurd (both_ways (holds t (member_after_inbox t m)) (taken-holds m) k)))

  pub enter-call : (b : Bus) (node : ℕ) → Call t (at_node node (λ l. true)) b (enter b node)
  enter-call b node = one-call b node (λ l. true) (λ m. record m { live = true }) (λ m. refl) (λ m. refl) (λ m. refl) (λ m k. k)

  pub leave-call : (b : Bus) (node : ℕ) → Call t (at_node node (λ l. false)) b (leave b node)
  leave-call b node =
      let c = one-call b node (λ l. false) member_after_leaving (λ m. refl) (λ m. refl) (λ m. refl) (λ m k. absurd (both_ways false refl k)) in record {
        setup = c.setup;
        running = c.running;
        idle = c.idle;
        change = c.change;
        members = c.members;
        node = c.node;
        seen = c.seen;
        lives = c.lives;
        held = c.held;
      }

  -- ---- entries, emissions, turns

  pub entry-call : {S : Type 0} (x : Turn S) (b : Bus) → Call t (entry_live x) b (entry b x)
  entry-call x b = go (is_new x.node.standing)
    where
      go : (q : Bool) → Call t (λ n live. if q then at_node x.node.number (λ l. true) n live else live) b (if q then enter b x.node.number else b)
      go true = enter-call b x.node.number
      go false = no-call b b refl refl refl refl

  pub items-call : (node : ℕ) (items : List Item) (p : Bus × List Line) → 1 ≤ p.0.setup.nominal → Call t as_it_was p.0 (fold (submission_step t node) p items).0
  items-call node [] p h = no-call p.0 p.0 refl refl refl refl
  items-call node (i ∷ items) p h =
      let c = submit-call p.0 node (submission_of p.0.setup i) h in
      let next : Bus = (submission_step t node p i).0 in
      then-call as_it_was as_it_was p.0 next (fold (submission_step t node) p (i ∷ items)).0 c
      (items-call node items (submission_step t node p i) (subst (λ s. 1 ≤ s.nominal) (sym c.setup) h))

  pub end-call : (e : End) (k : ℕ) (b : Bus) → Call t (end_live e k) b (by_end e k b)
  end-call session.Live k b = no-call b b refl refl refl refl
  end-call session.Over k b = leave-call b k
  end-call (session.Down cause) k b = leave-call b k

  -- up to the end of a session
  pub emitted-call : {S : Type 0} (x : Turn S) (b : Bus) → 1 ≤ b.setup.nominal → Call t as_it_was b (emission_step t x (take_inbox b t x.node.number).0).0
  emitted-call x b h =
      let taken : Bus = (take_inbox b t x.node.number).0 in
      let c = take-call b x.node.number in
      then-call as_it_was as_it_was b taken (emission_step t x taken).0 c
      (items-call x.node.number (items_on x taken.setup.number) (taken, []) (subst (λ s. 1 ≤ s.nominal) (sym c.setup) h))

  pub turn-call : {S : Type 0} (x : Turn S) (b : Bus) → 1 ≤ b.setup.nominal → Call t (end_live x.out.end x.node.number) b (turn_on t b x)
  turn-call x b h =
      let emitted : Bus = (emission_step t x (take_inbox b t x.node.number).0).0 in
      then-call as_it_was (end_live x.out.end x.node.number) b emitted (turn_on t b x) (emitted-call x b h) (end-call x.out.end x.node.number emitted)

  pub entries-call : {S : Type 0} (xs : List (Turn S)) (b : Bus) → Call t (entries_live xs) b (fold entry b xs)
  entries-call [] b = no-call b b refl refl refl refl
  entries-call (x ∷ xs) b = then-call (entry_live x) (entries_live xs) b (entry b x) (fold entry b (x ∷ xs)) (entry-call x b) (entries-call xs (entry b x))

  pub ends-call : {S : Type 0} (xs : List (Turn S)) (b : Bus) → 1 ≤ b.setup.nominal → Call t (ends_live xs) b (fold (turn_on t) b xs)
  ends-call [] b h = no-call b b refl refl refl refl
  ends-call (x ∷ xs) b h =
      let c = turn-call x b h in
      then-call (end_live x.out.end x.node.number) (ends_live xs) b (turn_on t b x) (fold (turn_on t) b (x ∷ xs)) c
      (ends-call xs (turn_on t b x) (subst (λ s. 1 ≤ s.nominal) (sym c.setup) h))

  pub turns-call : {S : Type 0} (xs : List (Turn S)) (b : Bus) → 1 ≤ b.setup.nominal → Call t (λ n live. ends_live xs n (entries_live xs n live)) b (turns_on t xs b)
  turns-call xs b h =
      let c = entries-call xs b in
      then-call (entries_live xs) (ends_live xs) b (fold entry b xs) (turns_on t xs b) c (ends-call xs (fold entry b xs) (subst (λ s. 1 ≤ s.nominal) (sym c.setup) h))
