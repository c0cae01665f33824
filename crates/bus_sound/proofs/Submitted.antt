-- A submission of a live member keeps a sound bus sound. What an item asks is a submission that a bus takes.
use Rattle.std.proofs.Common.{◌≡◌, ℕ, ◌+◌, ◌<◌, ◌≤◌, ◌==◌, Bool, true, false, not, if◌then◌else◌, List, [], ◌∷◌, ◌++◌, length, IfSome, Option, Some, None, arith, sym, refl, ap, ◌∙◌, subst, eq-eqb, nat_le}
use Rattle.std.specs.Prelude.{◌&&◌, cond}
use Rattle.std.proofs.lemmas.Bool.{and_from, both_ways, not-true, not_from_false, eqb-true, leb-false, false_from_ne_true}
use Rattle.std.proofs.lemmas.List.{length-take, length-append}
use Rattle.std.proofs.lemmas.List.Elements.{All-push}
use Rattle.std.proofs.lemmas.List.Sums.{sum_by_push}
use Rattle.std.specs.Int.{w32, to_le_bytes}
use Rattle.frame_specs.specs.Frame.{Frame, is_fd}
use Rattle.operation_specs.specs.Operation.{Operation, Parameter, IsOperation, is_valid}
use Rattle.operation_specs.specs.Operation as op
use Rattle.operation_specs.specs.Reading.{Item, Op, Bad, IsWhole}
use Rattle.operation_specs.specs.Spelling.{spell, code_of, fields_of}
use Rattle.bus_specs.specs.Bus.{Bus, Setup, Member, Request, FormatNotice, member_is, off, has_fd, waiting, bits}
use Rattle.bus_specs.specs.Submit.{Submission, Transmit, Keep, Discard, Wakeup, Sleep, Rate, FdRate, Declare, FormatError, Unfit, Fate, Accepted, Full, Dropped, fate, with_request, bus_after_submission, submit, member_after_wakeup, wake_notice, format_notice, submission_of, unfit_operation, first_64, is_own}
use Rattle.bus_specs.specs.Sound.{Sound, SoundMember, SoundRequest, IsSubmission, IsFrame, IsEcho, may_send}
use Rattle.bus_sound.proofs.Among.{Among}
use Rattle.bus_sound.proofs.Lists.{rise-push, none_at}
use Rattle.bus_sound.proofs.Members.{is_from, is_to, is_at}
use Rattle.bus_sound.proofs.Quiet.{IsQuiet, quiet-sound, one-sound, one}

-- a live member
abbrev pub live_at : List Member → ℕ → Bool
live_at ms node = member_is (λ m. m.live) ms node

accepted-fewer : (b : Bus) (node : ℕ) → fate b node ≡ Accepted → (member_is off b.members node ≡ false) × (waiting b.requests node < 256)
accepted-fewer b node e = go (member_is off b.members node) (nat_le 256 (waiting b.requests node)) refl refl e
  where
    go : (t u : Bool) → member_is off b.members node ≡ t → nat_le 256 (waiting b.requests node) ≡ u
        → (if t then Dropped else if u then Full else Accepted) ≡ Accepted
        → (member_is off b.members node ≡ false) × (waiting b.requests node < 256)
    go true u p q k = absurd cc
    go false true p q k = absurd cc
    go false false p q k = (p, leb-false 256 (waiting b.requests node) q)

live-may : (ms : List Member) (node : ℕ) → live_at ms node ≡ true → member_is off ms node ≡ false → may_send ms node ≡ true
live-may ms node h o =
    let i = is_to (λ m. m.live) ms node h in
    let none : ((i.member).node == node) && off i.member ≡ false = none_at (λ m. (m.node == node) && off m) ms i.member o i.among in
    let on : off i.member ≡ false = false_from_ne_true (off i.member) (λ t. both_ways (((i.member).node == node) && off i.member) none
    (and_from ((i.member).node == node) (off i.member) (eq-eqb (i.member).node node i.node) t)) in
    is_from (λ m. m.live && not (off m)) ms i.member node i.among i.node
    (and_from (i.member).live (not (off i.member)) i.holds (not_from_false (off i.member) on))

with_request-sound : (b : Bus) (node : ℕ) (f : Frame) (x : Fate) → fate b node ≡ x → Sound b → IsFrame b.setup f
    → live_at b.members node ≡ true → Sound (with_request b node f x)
with_request-sound b node f Full e h fits live = h
with_request-sound b node f Dropped e h fits live = h
with_request-sound b node f Accepted e h fits live =
    let room = accepted-fewer b node e in
    let q : Request = record { node = node; number = b.next; frame = f } in
    record {
      setup = h.setup;
      nodes = h.nodes;
      numbers = rise-push (λ (x : Request). x.number) 0 b.requests q b.next h.numbers refl;
      requests = All-push (SoundRequest b.setup b.members) b.requests q h.requests
          (record { sender = live-may b.members node live room.0; frame = fits });
      at_most = λ n. by_node n (node == n) refl room.1;
      members = h.members;
      running = h.running;
      last = h.last;
    }
  where
    q : Request
    q = record { node = node; number = b.next; frame = f }

    by_node : (n : ℕ) (t : Bool) → (node == n) ≡ t → waiting b.requests node < 256 → waiting (b.requests ++ q ∷ []) n ≤ 256
    by_node n true t room =
        let same : node ≡ n = eqb-true node n t in
        let there : waiting b.requests n < 256 = subst (λ k. waiting b.requests k < 256) same room in
        let push = sum_by_push (λ (x : Request). cond (x.node == n) 1 0) b.requests q in
        let weight : cond (node == n) 1 0 ≡ 1 = ap {B = ℕ} (λ v. cond v 1 0) t in
        omega (arith, there, push, weight)
    by_node n false t room =
        let push = sum_by_push (λ (x : Request). cond (x.node == n) 1 0) b.requests q in
        let weight : cond (node == n) 1 0 ≡ 0 = ap {B = ℕ} (λ v. cond v 1 0) t in
        omega (arith, h.at_most n, push, weight)

member_after_wakeup-quiet : (b : Bus) (node due : ℕ) → IsQuiet b.setup b.running b.members (member_after_wakeup node due)
member_after_wakeup-quiet b node due = record {
  node = λ m. by_node m (m.node == node) m.live;
  off = λ m h. by_off m (m.node == node) m.live h;
  live = λ m h. by_live m (m.node == node) m.live h;
  sound = λ m a h. by_sound m (m.node == node) m.live refl h;
}
  where
    by_node : (m : Member) (t u : Bool) → (if t then record m { awake = true } else if u then record m { wake = wake_notice due m.wake } else m).node ≡ m.node
    by_node m true u = refl
    by_node m false true = refl
    by_node m false false = refl

    by_off : (m : Member) (t u : Bool) → off m ≡ false → off (if t then record m { awake = true } else if u then record m { wake = wake_notice due m.wake } else m) ≡ false
    by_off m true u h = h
    by_off m false true h = h
    by_off m false false h = h

    by_live : (m : Member) (t u : Bool) → m.live ≡ true → (if t then record m { awake = true } else if u then record m { wake = wake_notice due m.wake } else m).live ≡ true
    by_live m true u h = h
    by_live m false true h = h
    by_live m false false h = h

    by_sound : (m : Member) (t u : Bool) → m.live ≡ u → SoundMember b.setup b.running m
        → SoundMember b.setup b.running (if t then record m { awake = true } else if u then record m { wake = wake_notice due m.wake } else m)
    by_sound m true u e k = record {
      tec = k.tec;
      rec = k.rec;
      off = k.off;
      seen = k.seen;
      echo = k.echo;
      mail = k.mail;
      absent = λ d. let n = k.absent d in record { lost = n.lost; format = n.format; wake = n.wake; mail = n.mail };
    }
    by_sound m false true e k = record {
      tec = k.tec;
      rec = k.rec;
      off = k.off;
      seen = k.seen;
      echo = k.echo;
      mail = k.mail;
      absent = λ d. absurd (both_ways m.live d e);
    }
    by_sound m false false e k = k

-- the change keeps all but its awake and its keep or discard
aside-quiet : (b : Bus) (change : Member → Member)
    → ((m : Member) → change m ≡ record m { awake = (change m).awake; discards = (change m).discards }) → IsQuiet b.setup b.running b.members change
aside-quiet b change e = record {
  node = λ m. ap (λ (x : Member). x.node) (e m);
  off = λ m h. ap off (e m) ∙ h;
  live = λ m h. ap (λ (x : Member). x.live) (e m) ∙ h;
  sound = λ m a k. subst (λ (x : Member). SoundMember b.setup b.running x) (sym (e m)) (record {
    tec = k.tec;
    rec = k.rec;
    off = k.off;
    seen = k.seen;
    echo = k.echo;
    mail = k.mail;
    absent = λ d. let n = k.absent d in record { lost = n.lost; format = n.format; wake = n.wake; mail = n.mail };
  });
}

format_notice-echo : (due : ℕ) (bytes : List ℕ) (o : Option FormatNotice) → IsEcho bytes → IfSome o (λ n. IsEcho n.bytes)
    → IfSome (format_notice due bytes o) (λ n. IsEcho n.bytes)
format_notice-echo due bytes None e h = e
format_notice-echo due bytes (Some n) e h = h

-- A format notice goes to a live member: each member of this node is live.
unfit_operation-sound : (b : Bus) (now node : ℕ) (bytes : List ℕ) → Sound b → IsEcho bytes → live_at b.members node ≡ true
    → Sound (bus_after_submission b now node (Unfit bytes))
unfit_operation-sound b now node bytes h echo live = quiet-sound b (one node (λ m. record m { format = format_notice due bytes m.format })) h (record {
  node = λ m. by_node m (m.node == node);
  off = λ m k. by_off m (m.node == node) k;
  live = λ m k. by_live m (m.node == node) k;
  sound = λ m a k. by_sound m a (m.node == node) refl k;
})
  where
    due : ℕ
    due = now + bits b 1

    by_node : (m : Member) (t : Bool) → (if t then record m { format = format_notice due bytes m.format } else m).node ≡ m.node
    by_node m true = refl
    by_node m false = refl

    by_off : (m : Member) (t : Bool) → off m ≡ false → off (if t then record m { format = format_notice due bytes m.format } else m) ≡ false
    by_off m true k = k
    by_off m false k = k

    by_live : (m : Member) (t : Bool) → m.live ≡ true → (if t then record m { format = format_notice due bytes m.format } else m).live ≡ true
    by_live m true k = k
    by_live m false k = k

    by_sound : (m : Member) → Among b.members m → (t : Bool) → (m.node == node) ≡ t → SoundMember b.setup b.running m
        → SoundMember b.setup b.running (if t then record m { format = format_notice due bytes m.format } else m)
    by_sound m a true e k = record {
      tec = k.tec;
      rec = k.rec;
      off = k.off;
      seen = k.seen;
      mail = k.mail;
      echo = format_notice-echo due bytes m.format echo k.echo;
      absent = λ d. absurd (both_ways m.live d (is_at (λ x. x.live) b.members m (h.nodes).0 (h.nodes).1 a
          (subst (λ n. live_at b.members n ≡ true) (sym (eqb-true m.node node e)) live)));
    }
    by_sound m a false e k = k

pub submit-sound : (b : Bus) (now node : ℕ) (what : Submission) → Sound b → IsSubmission b.setup what → live_at b.members node ≡ true
    → Sound (submit b now node what).0
unfolding submit
submit-sound b now node (Transmit f) h fits live = with_request-sound b node f (fate b node) refl h fits live
submit-sound b now node Keep h fits live = one-sound b node (λ m. record m { discards = false }) h (aside-quiet b (λ m. record m { discards = false }) (λ m. refl))
submit-sound b now node Discard h fits live = one-sound b node (λ m. record m { discards = true }) h (aside-quiet b (λ m. record m { discards = true }) (λ m. refl))
submit-sound b now node Wakeup h fits live = quiet-sound b (member_after_wakeup node (now + bits b 1)) h (member_after_wakeup-quiet b node (now + bits b 1))
submit-sound b now node Sleep h fits live = one-sound b node (λ m. record m { awake = false }) h (aside-quiet b (λ m. record m { awake = false }) (λ m. refl))
submit-sound b now node (Rate v) h fits live = h
submit-sound b now node (FdRate v) h fits live = h
submit-sound b now node (Declare l) h fits live = h
submit-sound b now node (FormatError bytes) h fits live = h
submit-sound b now node (Unfit bytes) h fits live = unfit_operation-sound b now node bytes h fits live

echo-cut : (bytes : List ℕ) → 0 < length bytes → IsEcho (first_64 bytes)
echo-cut bytes l = record { some = omega (arith, length-take 64 bytes); cut = omega (arith, length-take 64 bytes) }

spell-long : (o : Operation) → 0 < length (spell o)
unfolding spell
spell-long o = omega (arith, length-append (to_le_bytes w32 (code_of o)) (to_le_bytes w32 (8 + length (fields_of o)) ++ fields_of o))

pub unfit_operation-fits : (s : Setup) (o : Operation) → IsSubmission s (unfit_operation o)
unfit_operation-fits s o = echo-cut (spell o) (spell-long o)

either-fits : (s : Setup) (t : Bool) (x y : Submission) → (t ≡ true → IsSubmission s x) → IsSubmission s y → IsSubmission s (if t then x else y)
either-fits s true x y h k = h refl
either-fits s false x y h k = k

-- what an operation or some bytes that are none ask is what a bus takes
pub submission_of-fits : (s : Setup) (item : Item) → IsWhole item → IsSubmission s (submission_of s item)
unfolding submission_of
submission_of-fits s (Bad bytes) h = echo-cut bytes h
submission_of-fits s (Op (op.FormatError bytes)) h = omega (arith, length-take 64 bytes)
submission_of-fits s (Op (op.Transmit f)) h = record { well_formed = h.in_range; rate = λ e. absurd (both_ways (is_fd f.kind) (not-true (is_fd f.kind) h.valid) e) }
submission_of-fits s (Op (op.FdTransmit f)) h = either-fits s (has_fd s) (Transmit f) (unfit_operation (op.FdTransmit f))
    (λ e. record { well_formed = h.in_range; rate = λ k. e }) (unfit_operation-fits s (op.FdTransmit f))
submission_of-fits s (Op (op.Confirm id)) h = unfit_operation-fits s (op.Confirm id)
submission_of-fits s (Op (op.ArbitrationLost id)) h = unfit_operation-fits s (op.ArbitrationLost id)
submission_of-fits s (Op (op.BusError id kind primary sender)) h = unfit_operation-fits s (op.BusError id kind primary sender)
submission_of-fits s (Op (op.Configuration (op.Rate v))) h = either-fits s (s.rate == v) (Rate v) (unfit_operation (op.Configuration (op.Rate v))) (λ e. tt) (unfit_operation-fits s (op.Configuration (op.Rate v)))
submission_of-fits s (Op (op.Configuration (op.FdRate v))) h = either-fits s (is_own s.fd_rate v) (FdRate v) (unfit_operation (op.Configuration (op.FdRate v))) (λ e. tt) (unfit_operation-fits s (op.Configuration (op.FdRate v)))
submission_of-fits s (Op (op.Configuration op.Keep)) h = tt
submission_of-fits s (Op (op.Configuration op.Discard)) h = tt
submission_of-fits s (Op (op.Status l)) h = tt
submission_of-fits s (Op op.Wakeup) h = tt
submission_of-fits s (Op op.Sleep) h = tt
