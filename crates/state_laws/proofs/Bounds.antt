-- What each step of a bus keeps: by which moment all that is to come happens, and how low the identifiers are.
use Rattle.std.proofs.Common.{◌≡◌, ◌≤◌, ◌<◌, ℕ, zero, suc, ◌+◌, ◌*◌, ◌-◌, ◌^◌, ◌==◌, Bool, true, false, not, min, if◌then◌else◌, List, []}
use Rattle.std.proofs.Common.{◌∷◌, map, find, IfSome, Option, Some, None, arith, refl, subst}
use Rattle.std.specs.Prelude.{nat_le, option_map}
use Rattle.frame_specs.specs.Frame.{Frame}
use Rattle.frame_specs.specs.Wire.{wire_bits, ack_place}
use Rattle.bus_specs.specs.Bus.{Bus, Setup, ErrorEntry, Member, Mail, Received, Request, Running, Fault, Hurt, LostNotice, FormatNotice}
use Rattle.bus_specs.specs.Bus.{new_bus, new_member, bits, data_bit, with_member, winner, offers}
use Rattle.bus_specs.specs.Submit.{Submission, Transmit, Keep, Discard, Wakeup, Sleep, Rate, FdRate, Declare, FormatError, Unfit, Fate}
use Rattle.bus_specs.specs.Submit.{Accepted, Full, Dropped, fate, with_request, submit, member_after_wakeup, wake_notice, format_notice}
use Rattle.bus_specs.specs.Inbox.{enter, leave, member_after_leaving, take_inbox, member_after_inbox, later_part}
use Rattle.bus_specs.specs.Start.{start, start_with, bus_after_start, member_after_start, losers, discards, discarded, lost_by, lost_id, course, course_with}
use Rattle.bus_specs.specs.Start.{course_of_frame, course_to_error, only_hurts, node_of_entry, entry_of_attempt, listeners, Course}
use Rattle.bus_specs.specs.Finish.{Part, Sending, Listening, Hurting, Apart, part, mail, mail_after, finish, finish_with, bus_after_finish}
use Rattle.bus_specs.specs.Finish.{member_after_finish, recover, member_after_return, return_moment}
use Rattle.bus_specs.specs.Sound.{Sound, SoundRequest, SoundRunning}
use Rattle.bus_sound.proofs.Among.{Among, filter-among}
use Rattle.bus_sound.proofs.Lists.{All-each, each-All, map-among, find_to}
use Rattle.bus_sound.proofs.Started.{offers-among, winner-among}
use Rattle.bus_sound.proofs.Quiet.{one}
use Rattle.world_laws.proofs.OneBus.{Kept}
use Rattle.state_laws.specs.Words.{NoticesBy, MailBelow, IdentifiersBelow, Bounded}
use Rattle.state_laws.proofs.Short.{identifier-low, duration-short, time_of-short}

-- ---- one bus

module _ (limit bit ids : ℕ) where
  -- what a member of a bus has
  record HeldBy (running : Option Running) (moment_of : ℕ → ℕ) (m : Member) : Type 0 where
    notices : NoticesBy limit m
    identifiers : IdentifiersBelow ids m
    returns : running ≡ None → IfSome m.occurrences (λ n. moment_of n ≤ limit)

  abbrev Held : Bus → Member → Type 0
  Held b m = HeldBy b.running (λ n. return_moment b n) m

  held : (b : Bus) → Bounded limit bit ids b → (m : Member) → Among b.members m → Held b m
  held b h m a = record {
    notices = each-All (NoticesBy limit) b.members m h.due.notices a;
    identifiers = each-All (IdentifiersBelow ids) b.members m h.identifiers a;
    returns = λ e. each-All (λ m. IfSome m.occurrences (λ n. return_moment b n ≤ limit)) b.members m (h.due.returns e) a;
  }

  whole : (b : Bus) → b.setup.nominal ≤ bit → data_bit b ≤ bit → b.idle ≤ limit → IfSome b.running (λ r. r.end ≤ limit)
      → ((m : Member) → Among b.members m → Held b m) → Bounded limit bit ids b
  whole b n d i e k = record {
    nominal = n;
    fast = d;
    due = record {
      idle = i;
      end = e;
      notices = All-each (NoticesBy limit) b.members (λ m a. (k m a).notices);
      returns = λ none. All-each (λ m. IfSome m.occurrences (λ n. return_moment b n ≤ limit)) b.members (λ m a. (k m a).returns none);
    };
    identifiers = All-each (IdentifiersBelow ids) b.members (λ m a. (k m a).identifiers);
  }

  changed : (b : Bus) (f : Member → Member) → ((m : Member) → Held b m → Held b (f m)) → Bounded limit bit ids b
      → Bounded limit bit ids (record b { members = map f b.members })
  changed b f k h = whole (record b { members = map f b.members }) h.nominal h.fast h.due.idle h.due.end
      (λ m a. let r = map-among f b.members m a in
      let q = k r.0 (held b h r.0 r.1) in
      subst (Held b) r.2 q)

  one-changed : (b : Bus) (node : ℕ) (change : Member → Member) → ((m : Member) → Held b m → Held b (change m)) → Bounded limit bit ids b
      → Bounded limit bit ids (with_member b node change)
  one-changed b node change k h = changed b (one node change) (λ m q. go m (m.node == node) q) h
    where
      go : (m : Member) (t : Bool) → Held b m → Held b (if t then change m else m)
      go m true q = k m q
      go m false q = q

  -- the same occurrences, notices and mail
  same : (b : Bus) (m n : Member) → n.occurrences ≡ m.occurrences → n.lost ≡ m.lost → n.format ≡ m.format → n.wake ≡ m.wake → n.mail ≡ m.mail
      → Held b m → Held b n
  same b m n o l f w x h = record {
    notices = record { lost = rw l h.notices.lost; format = rw f h.notices.format; wake = rw w h.notices.wake };
    identifiers = record { lost = rw l h.identifiers.lost; mail = rw x h.identifiers.mail };
    returns = λ e. rw o (h.returns e);
  }

  nothing : (b : Bus) (m : Member) → (b.running ≡ None → IfSome m.occurrences (λ n. return_moment b n ≤ limit))
      → m.lost ≡ None → m.format ≡ None → m.wake ≡ None → m.mail ≡ None → Held b m
  nothing b m o l f w x = record {
    notices = record { lost = rw l tt; format = rw f tt; wake = rw w tt };
    identifiers = record { lost = rw l tt; mail = rw x tt };
    returns = o;
  }

  pub new_bus-bounded : (s : Setup) (nodes : List ℕ) → s.nominal ≤ bit → data_bit (new_bus s nodes) ≤ bit
      → Bounded limit bit ids (new_bus s nodes)
  new_bus-bounded s nodes n d = whole (new_bus s nodes) n d (omega arith) tt
      (λ m a. let r = map-among new_member nodes m a in
      subst (Held (new_bus s nodes)) r.2 (nothing (new_bus s nodes) (new_member r.0) (λ e. tt) refl refl refl refl))

  -- ---- sessions

  pub enter-bounded : (b : Bus) (node : ℕ) → Bounded limit bit ids b → Bounded limit bit ids (enter b node)
  enter-bounded b node h =
      one-changed b node (λ m. record m { live = true }) (λ m k. same b m (record m { live = true }) refl refl refl refl refl k) h

  pub leave-bounded : (b : Bus) (node : ℕ) → Bounded limit bit ids b → Bounded limit bit ids (leave b node)
  leave-bounded b node h =
      let k = one-changed b node member_after_leaving (λ m k. nothing b (member_after_leaving m) k.returns refl refl refl refl) h in
      record {
        nominal = k.nominal;
        fast = k.fast;
        due = record { idle = k.due.idle; end = k.due.end; notices = k.due.notices; returns = k.due.returns };
        identifiers = k.identifiers;
      }

  later : {A : Type 0} (when : A → ℕ) (now : ℕ) (P : A → Type 0) (o : Option A) → IfSome o P → IfSome (later_part when now o) P
  later when now P None h = tt
  later {A} when now P (Some n) h = go (nat_le (when n) now)
    where
      go : (t : Bool) → IfSome (if t then None else Some n) P
      go true = tt
      go false = h

  pub take-bounded : (now : ℕ) (b : Bus) (node : ℕ) → Bounded limit bit ids b → Bounded limit bit ids (take_inbox b now node).0
  unfolding take_inbox
  take-bounded now b node h = one-changed b node (member_after_inbox now) (λ m k. record {
    notices = record {
      lost = later (λ (n : LostNotice). n.due) now (λ (n : LostNotice). n.due ≤ limit) m.lost k.notices.lost;
      format = later (λ (n : FormatNotice). n.due) now (λ (n : FormatNotice). n.due ≤ limit) m.format k.notices.format;
      wake = later (λ (n : ℕ). n) now (λ (n : ℕ). n ≤ limit) m.wake k.notices.wake;
    };
    identifiers = record {
      lost = later (λ (n : LostNotice). n.due) now (λ (n : LostNotice). n.id < ids) m.lost k.identifiers.lost;
      mail = tt;
    };
    returns = k.returns;
  }) h

  pub recover-keeps : (now : ℕ) (b : Bus) (node : ℕ) → Bounded limit bit ids b → Bounded limit bit ids (recover b now node).0
  unfolding recover
  recover-keeps now b node h = one-changed b node member_after_return (λ m k. record {
    notices = record { lost = k.notices.lost; format = k.notices.format; wake = k.notices.wake };
    identifiers = record { lost = k.identifiers.lost; mail = k.identifiers.mail };
    returns = λ e. tt;
  }) h

  fate-bounded : (b : Bus) (node : ℕ) (f : Frame) (x : Fate) → Bounded limit bit ids b → Bounded limit bit ids (with_request b node f x)
  fate-bounded b node f Accepted h = record {
    nominal = h.nominal;
    fast = h.fast;
    due = record { idle = h.due.idle; end = h.due.end; notices = h.due.notices; returns = h.due.returns };
    identifiers = h.identifiers;
  }
  fate-bounded b node f Full h = h
  fate-bounded b node f Dropped h = h

  wake-by : (due : ℕ) (o : Option ℕ) → due ≤ limit → IfSome o (λ t. t ≤ limit) → IfSome (wake_notice due o) (λ t. t ≤ limit)
  wake-by due None l h = l
  wake-by due (Some t) l h = h

  wakeup-held : (b : Bus) (node due : ℕ) → due ≤ limit → (m : Member) (t u : Bool) → Held b m
      → Held b (if t then record m { awake = true } else if u then record m { wake = wake_notice due m.wake } else m)
  wakeup-held b node due l m true u h = same b m (record m { awake = true }) refl refl refl refl refl h
  wakeup-held b node due l m false true h = record {
    notices = record { lost = h.notices.lost; format = h.notices.format; wake = wake-by due m.wake l h.notices.wake };
    identifiers = record { lost = h.identifiers.lost; mail = h.identifiers.mail };
    returns = h.returns;
  }
  wakeup-held b node due l m false false h = h

  format-by : (due : ℕ) (bytes : List ℕ) (o : Option FormatNotice) → due ≤ limit → IfSome o (λ n. n.due ≤ limit)
      → IfSome (format_notice due bytes o) (λ n. n.due ≤ limit)
  format-by due bytes None l h = l
  format-by due bytes (Some n) l h = h

  -- a bit later
  next_bit : (now : ℕ) (b : Bus) → now + 2000 * bit ≤ limit → Bounded limit bit ids b → now + bits b 1 ≤ limit
  next_bit now b l h = let n = h.nominal in omega (arith, l, n)

  pub submit-bounded : (now : ℕ) → now + 2000 * bit ≤ limit → (b : Bus) (node : ℕ) (what : Submission) → Bounded limit bit ids b
      → Bounded limit bit ids (submit b now node what).0
  unfolding submit
  submit-bounded now l b node (Transmit f) h = fate-bounded b node f (fate b node) h
  submit-bounded now l b node Keep h =
      one-changed b node (λ m. record m { discards = false }) (λ m k. same b m (record m { discards = false }) refl refl refl refl refl k) h
  submit-bounded now l b node Discard h =
      one-changed b node (λ m. record m { discards = true }) (λ m k. same b m (record m { discards = true }) refl refl refl refl refl k) h
  submit-bounded now l b node Wakeup h = changed b (member_after_wakeup node (now + bits b 1))
      (λ m k. wakeup-held b node (now + bits b 1) (next_bit now b l h) m (m.node == node) m.live k) h
  submit-bounded now l b node Sleep h =
      one-changed b node (λ m. record m { awake = false }) (λ m k. same b m (record m { awake = false }) refl refl refl refl refl k) h
  submit-bounded now l b node (Rate v) h = h
  submit-bounded now l b node (FdRate v) h = h
  submit-bounded now l b node (Declare v) h = h
  submit-bounded now l b node (FormatError bytes) h = h
  submit-bounded now l b node (Unfit bytes) h =
      one-changed b node (λ m. record m { format = format_notice (now + bits b 1) bytes m.format })
      (λ m k. record {
        notices = record {
          lost = k.notices.lost;
          format = format-by (now + bits b 1) bytes m.format (next_bit now b l h) k.notices.format;
          wake = k.notices.wake;
        };
        identifiers = record { lost = k.identifiers.lost; mail = k.identifiers.mail };
        returns = k.returns;
      }) h

  pub sessions-keep : (now : ℕ) → now + 2000 * bit ≤ limit → Kept now (Bounded limit bit ids)
  sessions-keep now l = record {
    enter = λ b node h. enter-bounded b node h;
    take = λ b node h. take-bounded now b node h;
    submit = λ b node what h. submit-bounded now l b node what h;
    leave = λ b node h. leave-bounded b node h;
  }

  -- ---- a start

  discarded-among : (b : Bus) (now n : ℕ) (q : Request) → Among (discarded b now n) q → Among b.requests q
  discarded-among b now n q a = offers-among b now q
      (filter-among (λ r. not (r.node == n)) (offers b now) q (filter-among (discards b) (losers b now n) q a).0).0

  request-low : (b : Bus) (q : Request) → Sound b → Among b.requests q → q.frame.id < 2 ^ 29
  request-low b q s a = identifier-low q.frame (each-All (SoundRequest b.setup b.members) b.requests q s.requests a).frame.well_formed

  lost-low : (b : Bus) (now n node : ℕ) → Sound b → IfSome (lost_id (discarded b now n) node) (λ id. id < 2 ^ 29)
  lost-low b now n node s = go (find (λ r. r.node == node) (discarded b now n)) refl
    where
      go : (o : Option Request) → find (λ r. r.node == node) (discarded b now n) ≡ o
          → IfSome (option_map (λ r. r.frame.id) o) (λ id. id < 2 ^ 29)
      go None e = tt
      go (Some q) e = request-low b q s (discarded-among b now n q (find_to (λ r. r.node == node) (discarded b now n) q e).0)

  lost-by : (due : ℕ) (stands : Option LostNotice) (o : Option ℕ) → due ≤ limit → IfSome stands (λ n. n.due ≤ limit)
      → IfSome (lost_by due stands o) (λ n. n.due ≤ limit)
  lost-by due stands None l h = h
  lost-by due stands (Some id) l h = l

  lost-under : (due : ℕ) (stands : Option LostNotice) (o : Option ℕ) → 2 ^ 29 ≤ ids → IfSome o (λ id. id < 2 ^ 29)
      → IfSome stands (λ n. n.id < ids) → IfSome (lost_by due stands o) (λ n. n.id < ids)
  lost-under due stands None i l h = h
  lost-under due stands (Some id) i l h = omega (arith, i, l)

  module _ (now : ℕ) (l : now + 2000 * bit ≤ limit) (i : 2 ^ 29 ≤ ids) (b : Bus) (s : Sound b) (h : Bounded limit bit ids b) where
    to_error-short : (w : Request) → Among b.requests w → (k : ℕ) (fault : Fault) (hurt : Option Hurt) (heard : List ℕ)
        → (course_to_error b now w.frame k fault hurt heard).end ≤ limit
    to_error-short w a k fault hurt heard =
        let f = (each-All (SoundRequest b.setup b.members) b.requests w s.requests a).frame.well_formed in
        let t = time_of-short bit b.setup.nominal (data_bit b) h.nominal h.fast w.frame k f in
        let n = h.nominal in
        omega (arith, l, t, n)

    goes_on-short : (w : Request) → Among b.requests w → (hurt : Option Hurt) (heard : List ℕ)
        → (course_of_frame b now w hurt heard).end ≤ limit
    goes_on-short w a hurt [] = to_error-short w a (ack_place w.frame) (record { kind = 5; by = w.node }) hurt []
    goes_on-short w a hurt (n ∷ ns) =
        let f = (each-All (SoundRequest b.setup b.members) b.requests w s.requests a).frame.well_formed in
        let t = duration-short bit b.setup.nominal (data_bit b) h.nominal h.fast w.frame f in
        omega (arith, l, t)

    either : (t : Bool) (x y : Course) → x.end ≤ limit → y.end ≤ limit
        → (if t then x else y).end ≤ limit
    either true x y p q = p
    either false x y p q = q

    course-short : (w : Request) → Among b.requests w → (course b now w).end ≤ limit
    unfolding course
    course-short w a = go (entry_of_attempt b w.node (listeners b w.node))
      where
        go : (o : Option ErrorEntry) → (course_with b now w (listeners b w.node) o).end ≤ limit
        go None = goes_on-short w a None (listeners b w.node)
        go (Some e) = either (only_hurts b w.node (node_of_entry e w.node)) _ _ (goes_on-short w a _ _)
            (to_error-short w a (min e.bit (wire_bits w.frame - 1)) (record { kind = e.kind; by = node_of_entry e w.node }) None
            (listeners b w.node))

    member-held : (w : Request) (m : Member) → Held b m → Held (bus_after_start b now w) (member_after_start b now (discarded b now w.node) m)
    member-held w m k = record {
      notices = record {
        lost = lost-by (now + bits b 1) m.lost (lost_id (discarded b now w.node) m.node) (next_bit now b l h) k.notices.lost;
        format = k.notices.format;
        wake = k.notices.wake;
      };
      identifiers = record {
        lost = lost-under (now + bits b 1) m.lost (lost_id (discarded b now w.node) m.node) i
            (lost-low b now w.node m.node s) k.identifiers.lost;
        mail = k.identifiers.mail;
      };
      returns = λ e. absurd cc;
    }

    pub start-keeps : Bounded limit bit ids (start b now).0
    unfolding start
    start-keeps = go (winner b now) refl
      where
        go : (o : Option Request) → winner b now ≡ o → Bounded limit bit ids (start_with b now o).0
        go None e = h
        go (Some w) e = let a = winner-among b now w e in
            let after : Bus = bus_after_start b now w in
            whole after h.nominal h.fast h.due.idle (course-short w a)
            (λ m c. let r = map-among (member_after_start b now (discarded b now w.node)) b.members m c in
            subst (Held after) r.2 (member-held w r.0 (held b h r.0 r.1)))

    -- ---- a finish

    mail-low : (f : Frame) → f.id < ids → (fault : Option Fault) (p : Part) (m : Member) → IfSome (mail f fault p m) (MailBelow (ids))
    mail-low f l None Sending m = l
    mail-low f l None Listening m = go m.awake
      where
        go : (q : Bool) → IfSome (if q then Some (Received f) else None) (MailBelow (ids))
        go true = l
        go false = tt
    mail-low f l (Some e) Sending m = l
    mail-low f l (Some e) Listening m = l
    mail-low f l None (Hurting kind) m = l
    mail-low f l (Some e) (Hurting kind) m = l
    mail-low f l None Apart m = tt
    mail-low f l (Some e) Apart m = tt

    mail-stays : (live : Bool) (stands new : Option Mail) → IfSome stands (MailBelow (ids)) → IfSome new (MailBelow (ids))
        → IfSome (mail_after live stands new) (MailBelow (ids))
    mail-stays live stands None p q = p
    mail-stays true stands (Some x) p q = q
    mail-stays false stands (Some x) p q = p

    some-always : {A : Type 0} (o : Option A) (P : A → Type 0) → ((x : A) → P x) → IfSome o P
    some-always None P h = tt
    some-always (Some x) P h = h x

    -- behind it a return takes 128 times 11 bits at most
    return-soon : (r : Running) (n : ℕ) → return_moment (bus_after_finish b now r) n ≤ limit
    return-soon r n =
        let m = h.nominal in
        let k = part-of (128 - n) 128 (bits b 11) (omega arith) in
        omega (arith, l, m, k)
      where
        part-of : (k m x : ℕ) → k ≤ m → k * x ≤ m * x
        part-of zero m x le = omega arith
        part-of (suc k) zero x le = absurd (omega (arith, le))
        part-of (suc k) (suc m) x le = let r = part-of k m x (omega (arith, le)) in omega (arith, r)

    finished : (r : Running) → SoundRunning b.setup b.members r → (m : Member) → Held b m → Held (bus_after_finish b now r) (member_after_finish r m)
    finished r k m x =
        let low = identifier-low r.frame k.frame.well_formed in record {
          notices = record { lost = x.notices.lost; format = x.notices.format; wake = x.notices.wake };
          identifiers = record {
            lost = x.identifiers.lost;
            mail = mail-stays m.live m.mail (mail r.frame r.fault (part r m.node) m) x.identifiers.mail
                (mail-low r.frame (omega (arith, low, i)) r.fault (part r m.node) m);
          };
          returns = λ e. some-always (member_after_finish r m).occurrences
              (λ n. return_moment (bus_after_finish b now r) n ≤ limit) (λ n. return-soon r n);
        }

    pub finish-keeps : Bounded limit bit ids (finish b now).0
    unfolding finish
    finish-keeps = go b.running s.running
      where
        go : (o : Option Running) → IfSome o (SoundRunning b.setup b.members) → Bounded limit bit ids (finish_with b now o).0
        go None k = h
        go (Some r) k =
            let after : Bus = bus_after_finish b now r in
            whole after h.nominal h.fast (let n = h.nominal in omega (arith, l, n)) tt
            (λ m c. let q = map-among (member_after_finish r) b.members m c in
            subst (Held after) q.2 (finished r k q.0 (held b h q.0 q.1)))
