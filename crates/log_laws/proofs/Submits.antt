-- A submission: its line, and what waits and is seen behind it.
use Rattle.std.proofs.Common.{◌≡◌, ℕ, ◌<◌, ◌≤◌, ◌==◌, Bool, true, false, if◌then◌else◌, List, [], ◌∷◌, ◌++◌, map, Option, Some, None, IfSome, arith, refl, ap, ◌∙◌, sym, subst}
use Rattle.std.specs.Prelude.{◌+◌, nat_le}
use Rattle.std.proofs.lemmas.Bool.{leb-true, leb-false}
use Rattle.frame_specs.specs.Frame.{Frame}
use Rattle.bus_specs.specs.Bus.{Bus, Member, Running, off, member_is, waiting, bits}
use Rattle.bus_specs.specs.Submit.{Submission, Transmit, Keep, Discard, Wakeup, Sleep, Rate, FdRate, Declare, FormatError, Unfit, Fate, Accepted, Full, Dropped, fate, with_request, submit, bus_after_submission, told_fate, member_after_wakeup, wake_notice, format_notice}
use Rattle.bus_specs.specs.Sound.{Sound}
use Rattle.log_specs.specs.Line.{Line, On, Told}
use Rattle.log_specs.specs.Line as log
use Rattle.bus_sound.proofs.Quiet.{one}
use Rattle.log_laws.specs.Mirror.{Mirror, with_node, mirror_told}
use Rattle.log_laws.proofs.Rows.{map-append}
use Rattle.log_laws.proofs.Firsts.{First, first-push, shown}
use Rattle.log_laws.proofs.Lawful.{Opens, LawfulTold, Follows, Agrees, seen}
use Rattle.log_laws.proofs.Known.{Offered, request_of, one-line, how-many, node-off, with_node-seen, map-unseen, one-unseen}

-- which fate, and why
record Fits (b : Bus) (node : ℕ) (x : Fate) : Type 0 where
  accepted : x ≡ Accepted → (member_is off b.members node ≡ false) × (waiting b.requests node < 256)
  full : x ≡ Full → (member_is off b.members node ≡ false) × (256 ≤ waiting b.requests node)
  dropped : x ≡ Dropped → member_is off b.members node ≡ true

fate-fits : (b : Bus) (node : ℕ) → Fits b node (fate b node)
fate-fits b node = go (member_is off b.members node) (nat_le 256 (waiting b.requests node)) refl refl
  where
    go : (t u : Bool) → member_is off b.members node ≡ t → nat_le 256 (waiting b.requests node) ≡ u → Fits b node (if t then Dropped else if u then Full else Accepted)
    go true u p q = record { accepted = λ e. absurd cc; full = λ e. absurd cc; dropped = λ e. p }
    go false true p q = record { accepted = λ e. absurd cc; full = λ e. (p, leb-true 256 (waiting b.requests node) q); dropped = λ e. absurd cc }
    go false false p q = record { accepted = λ e. (p, leb-false 256 (waiting b.requests node) q); full = λ e. absurd cc; dropped = λ e. absurd cc }

module _ (b : Bus) (m : Mirror) (now node : ℕ) (sound : Sound b) (a : Agrees m b) where
  fate-agrees : (f : Frame) (x : Fate) → Agrees (mirror_told b.setup m now node (told_fate f x)) (with_request b node f x)
  fate-agrees f Accepted = record {
    nodes = a.nodes;
    waits = ap (λ ws. ws ++ record { node = node; frame = f } ∷ []) a.waits ∙ sym (map-append shown b.requests (record { node = node; number = b.next; frame = f } ∷ []));
    idle = a.idle;
    last = a.last;
    running = a.running;
  }
  fate-agrees f Full = record { nodes = a.nodes; waits = a.waits; idle = a.idle; last = a.last; running = a.running }
  fate-agrees f Dropped = record { nodes = a.nodes; waits = a.waits; idle = a.idle; last = a.last; running = a.running }

  fate-lawful : (f : Frame) (x : Fate) → Fits b node x → (rest : List Line) → Opens rest → LawfulTold b.setup m now b.setup.number node (told_fate f x) rest
  fate-lawful f Accepted k rest o = let e = k.accepted refl in
      (record { on = node-off m b node a ∙ e.0; fewer = subst (λ n. n < 256) (sym (how-many m b node a)) e.1 }, o.loss)
  fate-lawful f Full k rest o = let e = k.full refl in
      let l : waiting b.requests node ≡ 256 = omega (arith, e.1, sound.at_most node) in
      (record { on = node-off m b node a ∙ e.0; full = how-many m b node a ∙ l }, o.loss)
  fate-lawful f Dropped k rest o = (node-off m b node a ∙ k.dropped refl, o.loss)

  fate-follows : (f : Frame) (x : Fate) → Fits b node x → Follows m b.setup (On now b.setup.number node (told_fate f x) ∷ []) (with_request b node f x)
  fate-follows f Accepted k = one-line b.setup m now node (told_fate f Accepted) (with_request b node f Accepted) (fate-agrees f Accepted) (fate-lawful f Accepted k) refl refl
  fate-follows f Full k = one-line b.setup m now node (told_fate f Full) (with_request b node f Full) (fate-agrees f Full) (fate-lawful f Full k) refl refl
  fate-follows f Dropped k = one-line b.setup m now node (told_fate f Dropped) (with_request b node f Dropped) (fate-agrees f Dropped) (fate-lawful f Dropped k) refl refl

  -- a bus of which only members change
  changed : (told : Told) (f : Member → Member) → (mirror_told b.setup m now node told).nodes ≡ map seen (map f b.members)
      → (mirror_told b.setup m now node told).waits ≡ m.waits → (mirror_told b.setup m now node told).idle ≡ m.idle
      → (mirror_told b.setup m now node told).last_sender ≡ m.last_sender → (mirror_told b.setup m now node told).running ≡ m.running
      → Agrees (mirror_told b.setup m now node told) (record b { members = map f b.members })
  changed told f n w i l r = record {
    nodes = n;
    waits = w ∙ a.waits;
    idle = i ∙ a.idle;
    last = l ∙ a.last;
    running = rw r a.running;
  }

  same : Agrees m b → (told : Told) → mirror_told b.setup m now node told ≡ m → Agrees (mirror_told b.setup m now node told) b
  same k told e = rw e k

  wake-seen : (due : ℕ) (ms : List Member) → with_node node (λ x. record x { awake = true }) (map seen ms) ≡ map seen (map (member_after_wakeup node due) ms)
  wake-seen due [] = refl
  wake-seen due (x ∷ ms) = rw (wake-seen due ms) (ap (λ y. y ∷ map seen (map (member_after_wakeup node due) ms)) (go (x.node == node) x.live))
    where
      go : (t u : Bool) → (if t then record (seen x) { awake = true } else seen x)
          ≡ seen (if t then record x { awake = true } else if u then record x { wake = wake_notice due x.wake } else x)
      go true u = refl
      go false true = refl
      go false false = refl

  pub submit-follows : (what : Submission) → Follows m b.setup ((submit b now node what).1 ∷ []) (submit b now node what).0
  unfolding submit
  submit-follows (Transmit f) = fate-follows f (fate b node) (fate-fits b node)
  submit-follows Keep = one-line b.setup m now node log.Keep (bus_after_submission b now node Keep)
      (changed log.Keep (one node (λ x. record x { discards = false }))
      (rw a.nodes (with_node-seen node (λ x. record x { discards = false }) (λ x. record x { discards = false }) (λ x. refl) b.members)) refl refl refl refl) (λ rest o. o.loss) refl refl
  submit-follows Discard = one-line b.setup m now node log.Discard (bus_after_submission b now node Discard)
      (changed log.Discard (one node (λ x. record x { discards = true }))
      (rw a.nodes (with_node-seen node (λ x. record x { discards = true }) (λ x. record x { discards = true }) (λ x. refl) b.members)) refl refl refl refl) (λ rest o. o.loss) refl refl
  submit-follows Wakeup = one-line b.setup m now node log.Wake (bus_after_submission b now node Wakeup)
      (changed log.Wake (member_after_wakeup node (now + bits b 1)) (rw a.nodes (wake-seen (now + bits b 1) b.members)) refl refl refl refl) (λ rest o. o.loss) refl refl
  submit-follows Sleep = one-line b.setup m now node log.Sleep (bus_after_submission b now node Sleep)
      (changed log.Sleep (one node (λ x. record x { awake = false }))
      (rw a.nodes (with_node-seen node (λ x. record x { awake = false }) (λ x. record x { awake = false }) (λ x. refl) b.members)) refl refl refl refl) (λ rest o. o.loss) refl refl
  submit-follows (Rate v) = one-line b.setup m now node (log.Rate v) b (same a (log.Rate v) refl) (λ rest o. o.loss) refl refl
  submit-follows (FdRate v) = one-line b.setup m now node (log.FdRate v) b (same a (log.FdRate v) refl) (λ rest o. o.loss) refl refl
  submit-follows (Declare l) = one-line b.setup m now node (log.Status l) b (same a (log.Status l) refl) (λ rest o. o.loss) refl refl
  submit-follows (FormatError bytes) = one-line b.setup m now node (log.FormatError bytes) b (same a (log.FormatError bytes) refl) (λ rest o. o.loss) refl refl
  submit-follows (Unfit bytes) = one-line b.setup m now node (log.Bad bytes) (bus_after_submission b now node (Unfit bytes))
      (changed (log.Bad bytes) (one node notes)
      (a.nodes ∙ sym (map-unseen (one node notes) (one-unseen node notes (λ x. refl)) b.members)) refl refl refl refl) (λ rest o. o.loss) refl refl
    where
      notes : Member → Member
      notes x = record x { format = format_notice (now + bits b 1) bytes x.format }

fate-offered : (b : Bus) (node : ℕ) (f : Frame) (x : Fate) → Offered b → Offered (with_request b node f x)
fate-offered b node f Accepted h = go b.running h
  where
    go : (o : Option Running) → IfSome o (λ r. First b.requests (request_of r)) → IfSome o (λ r. First (b.requests ++ record { node = node; number = b.next; frame = f } ∷ []) (request_of r))
    go None k = tt
    go (Some r) k = first-push b.requests (request_of r) (record { node = node; number = b.next; frame = f }) k
fate-offered b node f Full h = h
fate-offered b node f Dropped h = h

pub submit-offered : (b : Bus) (now node : ℕ) (what : Submission) → Offered b → Offered (submit b now node what).0
unfolding submit
submit-offered b now node (Transmit f) h = fate-offered b node f (fate b node) h
submit-offered b now node Keep h = h
submit-offered b now node Discard h = h
submit-offered b now node Wakeup h = h
submit-offered b now node Sleep h = h
submit-offered b now node (Rate v) h = h
submit-offered b now node (FdRate v) h = h
submit-offered b now node (Declare l) h = h
submit-offered b now node (FormatError bytes) h = h
submit-offered b now node (Unfit bytes) h = h
