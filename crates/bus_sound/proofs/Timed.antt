-- What each step keeps of the order of moments.
use Rattle.std.proofs.Common.{◌≡◌, ℕ, ◌+◌, ◌≤◌, ◌==◌, ◌⊎◌, Bool, true, false, if◌then◌else◌, max, List, [], ◌∷◌, ◌++◌, map, filter, flat_map, IfSome, Option, Some, None, arith, refl, subst, inl, inr}
use Rattle.std.specs.Prelude.{nat_le, option_map, option_to_list}
use Rattle.std.proofs.lemmas.List.Elements.{All-map}
use Rattle.frame_specs.specs.Frame.{Frame}
use Rattle.bus_specs.specs.Bus.{Bus, Setup, Member, Request, ErrorEntry, Running, Hurt, LostNotice, FormatNotice, new_bus, new_member, bits, with_member, winner, wants, ready_moment}
use Rattle.bus_specs.specs.Submit.{Submission, Transmit, Keep, Discard, Wakeup, Sleep, Rate, FdRate, Declare, FormatError, Unfit, Fate, Accepted, Full, Dropped, fate, with_request, submit, member_after_wakeup, wake_notice, format_notice}
use Rattle.bus_specs.specs.Inbox.{enter, leave, member_after_leaving, take_inbox, member_after_inbox, later_part}
use Rattle.bus_specs.specs.Start.{start, start_with, member_after_start, discarded, lost_by, lost_id, course, course_with, course_of_frame, only_hurts, node_of_entry, entry_of_attempt, listeners, Course}
use Rattle.bus_specs.specs.Finish.{finish, finish_with, bus_after_finish, member_after_finish, recover, member_after_return, return_moment}
use Rattle.bus_specs.specs.Due.{Due, Notices, Return, Start, at, notices, returns, starts, dues, next_due, notice_moments, precedes}
use Rattle.bus_specs.specs.InTime.{InTime, NoticesFrom}
use Rattle.bus_sound.proofs.Among.{Among, filter_map-among}
use Rattle.bus_sound.proofs.Lists.{All-each, each-All, map-among, append-among, flat_map-among}
use Rattle.bus_sound.proofs.Orders.{foremost-among}
use Rattle.bus_sound.proofs.Quiet.{one}

-- a change of members that brings no past notice and no new return
record Timely (now : ℕ) (f : Member → Member) : Type 1 where
  notices : (m : Member) → NoticesFrom now m → NoticesFrom now (f m)
  seen : (m : Member) (P : ℕ → Type 0) → IfSome m.occurrences P → IfSome (f m).occurrences P

timely : (now : ℕ) (b : Bus) (f : Member → Member) → Timely now f → InTime now b → InTime now (record b { members = map f b.members })
timely now b f t h = record {
  end = h.end;
  notices = All-map (NoticesFrom now) f b.members
      (All-each (λ m. NoticesFrom now (f m)) b.members (λ m a. t.notices m (each-All (NoticesFrom now) b.members m h.notices a)));
  returns = λ free. All-map (λ m. IfSome m.occurrences (λ n. now ≤ return_moment b n)) f b.members
      (All-each (λ m. IfSome (f m).occurrences (λ n. now ≤ return_moment b n)) b.members
      (λ m a. t.seen m (λ n. now ≤ return_moment b n) (each-All (λ m. IfSome m.occurrences (λ n. now ≤ return_moment b n)) b.members m (h.returns free) a)));
}

one-timely : (now node : ℕ) (change : Member → Member) → Timely now change → Timely now (one node change)
one-timely now node change t = record { notices = λ m h. by_notices m (m.node == node) h; seen = λ m P h. by_seen m P (m.node == node) h }
  where
    by_notices : (m : Member) (u : Bool) → NoticesFrom now m → NoticesFrom now (if u then change m else m)
    by_notices m true h = t.notices m h
    by_notices m false h = h

    by_seen : (m : Member) (P : ℕ → Type 0) (u : Bool) → IfSome m.occurrences P → IfSome (if u then change m else m).occurrences P
    by_seen m P true h = t.seen m P h
    by_seen m P false h = h

one-in-time : (now : ℕ) (b : Bus) (node : ℕ) (change : Member → Member) → Timely now change → InTime now b → InTime now (with_member b node change)
one-in-time now b node change t h = timely now b (one node change) (one-timely now node change t) h

same-notices : (now : ℕ) (m n : Member) → n.lost ≡ m.lost → n.format ≡ m.format → n.wake ≡ m.wake → NoticesFrom now m → NoticesFrom now n
same-notices now m n e f g h = record {
  lost = rw e h.lost;
  format = rw f h.format;
  wake = rw g h.wake;
}

pub new_bus-in-time : (s : Setup) (nodes : List ℕ) → InTime 0 (new_bus s nodes)
new_bus-in-time s nodes = record {
  end = tt;
  notices = All-map (NoticesFrom 0) new_member nodes (All-each (λ n. NoticesFrom 0 (new_member n)) nodes (λ n a. record { lost = tt; format = tt; wake = tt }));
  returns = λ free. All-map (λ m. IfSome m.occurrences (λ n. 0 ≤ return_moment (new_bus s nodes) n)) new_member nodes
      (All-each (λ n. IfSome (new_member n).occurrences (λ n. 0 ≤ return_moment (new_bus s nodes) n)) nodes (λ n a. tt));
}

pub enter-in-time : (now : ℕ) (b : Bus) (node : ℕ) → InTime now b → InTime now (enter b node)
enter-in-time now b node h = one-in-time now b node (λ m. record m { live = true })
    (record { notices = λ m k. same-notices now m (record m { live = true }) refl refl refl k; seen = λ m P k. k }) h

pub leave-in-time : (now : ℕ) (b : Bus) (node : ℕ) → InTime now b → InTime now (leave b node)
leave-in-time now b node h =
    let k = one-in-time now b node member_after_leaving (record { notices = λ m k. record { lost = tt; format = tt; wake = tt }; seen = λ m P k. k }) h in
    record { end = k.end; notices = k.notices; returns = k.returns }

later_part-from : {A : Type 0} (when : A → ℕ) (now : ℕ) (P : A → Type 0) (o : Option A) → IfSome o P → IfSome (later_part when now o) P
later_part-from when now P None h = tt
later_part-from {A} when now P (Some n) h = go (nat_le (when n) now)
  where
    go : (t : Bool) → IfSome (if t then None else Some n) P
    go true = tt
    go false = h

pub take-in-time : (now : ℕ) (b : Bus) (node : ℕ) → InTime now b → InTime now (take_inbox b now node).0
unfolding take_inbox
take-in-time now b node h = one-in-time now b node (member_after_inbox now) (record {
  notices = λ m k. record {
    lost = later_part-from (λ (n : LostNotice). n.due) now (λ (n : LostNotice). now ≤ n.due) m.lost k.lost;
    format = later_part-from (λ (n : FormatNotice). n.due) now (λ (n : FormatNotice). now ≤ n.due) m.format k.format;
    wake = later_part-from (λ (n : ℕ). n) now (λ (n : ℕ). now ≤ n) m.wake k.wake;
  };
  seen = λ m P k. k;
}) h

pub recover-in-time : (now : ℕ) (b : Bus) (node : ℕ) → InTime now b → InTime now (recover b now node).0
unfolding recover
recover-in-time now b node h = one-in-time now b node member_after_return
    (record { notices = λ m k. same-notices now m (member_after_return m) refl refl refl k; seen = λ m P k. tt }) h

aside : (now : ℕ) (b : Bus) (node : ℕ) (change : Member → Member)
    → ((m : Member) → NoticesFrom now m → NoticesFrom now (change m)) → ((m : Member) → (change m).occurrences ≡ m.occurrences)
    → InTime now b → InTime now (with_member b node change)
aside now b node change t e h = one-in-time now b node change (record { notices = t; seen = λ m P k. rw (e m) k }) h

fate-in-time : (now : ℕ) (b : Bus) (node : ℕ) (f : Frame) (x : Fate) → InTime now b → InTime now (with_request b node f x)
fate-in-time now b node f Accepted h = record { end = h.end; notices = h.notices; returns = h.returns }
fate-in-time now b node f Full h = h
fate-in-time now b node f Dropped h = h

wake_notice-from : (now due : ℕ) (o : Option ℕ) → now ≤ due → IfSome o (λ t. now ≤ t) → IfSome (wake_notice due o) (λ t. now ≤ t)
wake_notice-from now due None l h = l
wake_notice-from now due (Some t) l h = h

member_after_wakeup-timely : (now node due : ℕ) → now ≤ due → Timely now (member_after_wakeup node due)
member_after_wakeup-timely now node due l = record { notices = λ m h. by_notices m (m.node == node) m.live h; seen = λ m P h. by_seen m P (m.node == node) m.live h }
  where
    by_notices : (m : Member) (t u : Bool) → NoticesFrom now m → NoticesFrom now (if t then record m { awake = true } else if u then record m { wake = wake_notice due m.wake } else m)
    by_notices m true u h = record { lost = h.lost; format = h.format; wake = h.wake }
    by_notices m false true h = record { lost = h.lost; format = h.format; wake = wake_notice-from now due m.wake l h.wake }
    by_notices m false false h = h

    by_seen : (m : Member) (P : ℕ → Type 0) (t u : Bool) → IfSome m.occurrences P → IfSome (if t then record m { awake = true } else if u then record m { wake = wake_notice due m.wake } else m).occurrences P
    by_seen m P true u h = h
    by_seen m P false true h = h
    by_seen m P false false h = h

format_notice-from : (now due : ℕ) (bytes : List ℕ) (o : Option FormatNotice) → now ≤ due → IfSome o (λ n. now ≤ n.due) → IfSome (format_notice due bytes o) (λ n. now ≤ n.due)
format_notice-from now due bytes None l h = l
format_notice-from now due bytes (Some n) l h = h

pub submit-in-time : (now : ℕ) (b : Bus) (node : ℕ) (what : Submission) → InTime now b → InTime now (submit b now node what).0
unfolding submit
submit-in-time now b node (Transmit f) h = fate-in-time now b node f (fate b node) h
submit-in-time now b node Keep h = aside now b node (λ m. record m { discards = false }) (λ m k. same-notices now m (record m { discards = false }) refl refl refl k) (λ m. refl) h
submit-in-time now b node Discard h = aside now b node (λ m. record m { discards = true }) (λ m k. same-notices now m (record m { discards = true }) refl refl refl k) (λ m. refl) h
submit-in-time now b node Wakeup h = timely now b (member_after_wakeup node (now + bits b 1)) (member_after_wakeup-timely now node (now + bits b 1) (omega arith)) h
submit-in-time now b node Sleep h = aside now b node (λ m. record m { awake = false }) (λ m k. same-notices now m (record m { awake = false }) refl refl refl k) (λ m. refl) h
submit-in-time now b node (Rate v) h = h
submit-in-time now b node (FdRate v) h = h
submit-in-time now b node (Declare l) h = h
submit-in-time now b node (FormatError bytes) h = h
submit-in-time now b node (Unfit bytes) h = aside now b node (λ m. record m { format = format_notice (now + bits b 1) bytes m.format })
    (λ m k. record { lost = k.lost; format = format_notice-from now (now + bits b 1) bytes m.format (omega arith) k.format; wake = k.wake }) (λ m. refl) h

goes-on-from : (b : Bus) (now : ℕ) (w : Request) (hurt : Option Hurt) (heard : List ℕ) → now ≤ (course_of_frame b now w hurt heard).end
goes-on-from b now w hurt [] = omega arith
goes-on-from b now w hurt (n ∷ ns) = omega arith

course-from : (b : Bus) (now : ℕ) (w : Request) → now ≤ (course b now w).end
unfolding course
course-from b now w = go (entry_of_attempt b w.node (listeners b w.node))
  where
    node_of_entry-from : (e : ErrorEntry) (t : Bool) (x y : Course) → now ≤ x.end → now ≤ y.end → now ≤ (if t then x else y).end
    node_of_entry-from e true x y h k = h
    node_of_entry-from e false x y h k = k

    go : (o : Option ErrorEntry) → now ≤ (course_with b now w (listeners b w.node) o).end
    go None = goes-on-from b now w None (listeners b w.node)
    go (Some e) = node_of_entry-from e (only_hurts b w.node (node_of_entry e w.node)) _ _ (goes-on-from b now w _ _) (omega arith)

lost-from : (now due : ℕ) (stands : Option LostNotice) (o : Option ℕ) → now ≤ due → IfSome stands (λ n. now ≤ n.due) → IfSome (lost_by due stands o) (λ n. now ≤ n.due)
lost-from now due stands None l h = h
lost-from now due stands (Some r) l h = l

pub start-in-time : (now : ℕ) (b : Bus) → InTime now b → InTime now (start b now).0
unfolding start
start-in-time now b h = go (winner b now)
  where
    go : (o : Option Request) → InTime now (start_with b now o).0
    go None = h
    go (Some w) = record {
      end = course-from b now w;
      notices = All-map (NoticesFrom now) (member_after_start b now (discarded b now w.node)) b.members
          (All-each (λ m. NoticesFrom now (member_after_start b now (discarded b now w.node) m)) b.members
          (λ m a. let k = each-All (NoticesFrom now) b.members m h.notices a in record {
            lost = lost-from now (now + bits b 1) m.lost (lost_id (discarded b now w.node) m.node) (omega arith) k.lost;
            format = k.format;
            wake = k.wake;
          }));
      returns = λ free. absurd cc;
    }

some-always : {A : Type 0} (o : Option A) (P : A → Type 0) → ((x : A) → P x) → IfSome o P
some-always None P h = tt
some-always (Some x) P h = h x

pub finish-in-time : (now : ℕ) (b : Bus) → InTime now b → InTime now (finish b now).0
unfolding finish
finish-in-time now b h = go b.running
  where
    late : (r : Running) (n : ℕ) → now ≤ return_moment (bus_after_finish b now r) n
    late r n = omega arith

    go : (o : Option Running) → InTime now (finish_with b now o).0
    go None = h
    go (Some r) = record {
      end = tt;
      notices = All-map (NoticesFrom now) (member_after_finish r) b.members
          (All-each (λ m. NoticesFrom now (member_after_finish r m)) b.members
          (λ m a. same-notices now m (member_after_finish r m) refl refl refl (each-All (NoticesFrom now) b.members m h.notices a)));
      returns = λ free. All-each (λ m. IfSome m.occurrences (λ n. now ≤ return_moment (bus_after_finish b now r) n)) (map (member_after_finish r) b.members)
          (λ m a. some-always m.occurrences (λ n. now ≤ return_moment (bus_after_finish b now r) n) (late r));
    }

-- what a bus does next is not past
in-time-list : (now : ℕ) (m : Member) → NoticesFrom now m → (t : ℕ) → Among (notice_moments m) t → now ≤ t
in-time-list now m h t a = first (append-among (option_to_list (option_map (λ (n : LostNotice). n.due) m.lost) ++ option_to_list (option_map (λ (n : FormatNotice). n.due) m.format)) (option_to_list m.wake) t a)
  where
    listed : {A : Type 0} (when : A → ℕ) (o : Option A) → IfSome o (λ x. now ≤ when x) → Among (option_to_list (option_map when o)) t → now ≤ t
    listed when None h a = absurd a
    listed when (Some x) h (inl e) = subst (λ k. now ≤ k) e h
    listed when (Some x) h (inr a) = absurd a

    waked : (o : Option ℕ) → IfSome o (λ x. now ≤ x) → Among (option_to_list o) t → now ≤ t
    waked None h a = absurd a
    waked (Some x) h (inl e) = subst (λ k. now ≤ k) e h
    waked (Some x) h (inr a) = absurd a

    second : Among (option_to_list (option_map (λ (n : LostNotice). n.due) m.lost)) t ⊎ Among (option_to_list (option_map (λ (n : FormatNotice). n.due) m.format)) t → now ≤ t
    second (inl k) = listed (λ (n : LostNotice). n.due) m.lost h.lost k
    second (inr k) = listed (λ (n : FormatNotice). n.due) m.format h.format k

    first : Among (option_to_list (option_map (λ (n : LostNotice). n.due) m.lost) ++ option_to_list (option_map (λ (n : FormatNotice). n.due) m.format)) t ⊎ Among (option_to_list m.wake) t → now ≤ t
    first (inl k) = second (append-among (option_to_list (option_map (λ (n : LostNotice). n.due) m.lost)) (option_to_list (option_map (λ (n : FormatNotice). n.due) m.format)) t k)
    first (inr k) = waked m.wake h.wake k

-- what is due next is never past
pub next-in-time : (now : ℕ) (b : Bus) (d : Due) → InTime now b → next_due b now ≡ Some d → now ≤ d.moment
unfolding next_due
next-in-time now b d h e = by b.running refl (foremost-among precedes (dues b now b.running) d e)
  where
    noticed : Among (notices b) d → now ≤ d.moment
    noticed a =
        let r = map-among (at Notices) (flat_map notice_moments b.members) d a in
        let f = flat_map-among notice_moments b.members r.0 r.1 in
        subst (λ (x : Due). now ≤ x.moment) r.2 (in-time-list now f.0 (each-All (NoticesFrom now) b.members f.0 h.notices f.1) r.0 f.2)

    back : (m : Member) (o : Option ℕ) → IfSome o (λ n. now ≤ return_moment b n)
        → option_map (λ seen. at (Return m.node) (return_moment b seen)) o ≡ Some d → now ≤ d.moment
    back m None k q = absurd cc
    back m (Some n) k q = let s : at (Return m.node) (return_moment b n) ≡ d = cc in subst (λ (x : Due). now ≤ x.moment) s k

    returned' : b.running ≡ None → Among (returns b) d → now ≤ d.moment
    returned' free a =
        let r = filter_map-among (λ (m : Member). option_map (λ seen. at (Return m.node) (return_moment b seen)) m.occurrences) b.members d a in
        back r.0 (r.0).occurrences (each-All (λ m. IfSome m.occurrences (λ n. now ≤ return_moment b n)) b.members r.0 (h.returns free) r.1) r.2

    started' : Among (starts b now) d → now ≤ d.moment
    started' a =
        let r = map-among (λ m. at Start (max now (ready_moment b m))) (filter (wants b) b.members) d a in
        subst (λ (x : Due). now ≤ x.moment) r.2 (omega arith)

    idle : b.running ≡ None → Among (returns b ++ notices b) d ⊎ Among (starts b now) d → now ≤ d.moment
    idle free (inl a) = either (append-among (returns b) (notices b) d a)
      where
        either : Among (returns b) d ⊎ Among (notices b) d → now ≤ d.moment
        either (inl k) = returned' free k
        either (inr k) = noticed k
    idle free (inr a) = started' a

    by : (o : Option Running) → b.running ≡ o → Among (dues b now o) d → now ≤ d.moment
    by None q a = idle q (append-among (returns b ++ notices b) (starts b now) d a)
    by (Some r) q (inl s) = subst (λ (x : Due). now ≤ x.moment) s (subst (λ o. IfSome o (λ r. now ≤ r.end)) q h.end)
    by (Some r) q (inr a) = noticed a
