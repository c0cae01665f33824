-- What a node asks, takes, and its entering and leaving keep: a sound bus whose idle moment leaves room.
use Rattle.std.proofs.Common.{◌≡◌, ℕ, Bool, true, false, ◌++◌, List, map, filter, take, drop, length, refl, ap, ◌∙◌, subst, sym}
use Rattle.std.proofs.lemmas.List.{take_at, length-map}
use Rattle.frame_specs.specs.Frame.{Frame}
use Rattle.bus_specs.specs.Bus.{Bus, Member, Request, member_is, with_member}
use Rattle.bus_specs.specs.Submit.{Submission, Transmit, Keep, Discard, Wakeup, Sleep, Rate, FdRate, Declare, FormatError, Unfit, Fate, Accepted, Full, Dropped, fate, with_request, bus_after_submission, submit}
use Rattle.bus_specs.specs.Inbox.{take_inbox, member_after_inbox, enter, leave}
use Rattle.bus_specs.specs.Sound.{Sound, IsSubmission}
use Rattle.bus_sound.proofs.Submitted.{submit-sound}
use Rattle.bus_sound.proofs.Quiet.{enter-sound, take_inbox-sound}
use Rattle.bus_sound.proofs.Left.{leave-sound}
use Rattle.bus_medium.specs.Setups.{IsKept}
use Rattle.bus_medium.specs.Places.{changed}

request-idle : (b : Bus) (node : ℕ) (f : Frame) (x : Fate) → (with_request b node f x).idle ≡ b.idle
request-idle b node f Accepted = refl
request-idle b node f Full = refl
request-idle b node f Dropped = refl

submission-idle : (b : Bus) (now node : ℕ) (what : Submission) → (bus_after_submission b now node what).idle ≡ b.idle
submission-idle b now node (Transmit f) = request-idle b node f (fate b node)
submission-idle b now node Keep = refl
submission-idle b now node Discard = refl
submission-idle b now node Wakeup = refl
submission-idle b now node Sleep = refl
submission-idle b now node (Rate v) = refl
submission-idle b now node (FdRate v) = refl
submission-idle b now node (Declare l) = refl
submission-idle b now node (FormatError bytes) = refl
submission-idle b now node (Unfit bytes) = refl

submission-sound : (b : Bus) (now node : ℕ) (what : Submission) → Sound b → IsSubmission b.setup what
    → member_is (λ m. m.live) b.members node ≡ true → Sound (bus_after_submission b now node what)
unfolding submit
submission-sound b now node what h fits live = submit-sound b now node what h fits live

pub submission-kept : (b : Bus) (now node : ℕ) (what : Submission) → IsKept b → IsSubmission b.setup what
    → member_is (λ m. m.live) b.members node ≡ true → IsKept (bus_after_submission b now node what)
submission-kept b now node what h fits live = record {
  sound = submission-sound b now node what h.sound fits live;
  idle = rw (submission-idle b now node what) h.idle;
}

-- a bus that equals what a submission leaves
pub submission-leaves : (b c : Bus) (now node : ℕ) (what : Submission) → c ≡ bus_after_submission b now node what → IsKept b → IsSubmission b.setup what
    → member_is (λ m. m.live) b.members node ≡ true → IsKept c
submission-leaves b c now node what e h fits live = subst IsKept (sym e) (submission-kept b now node what h fits live)

pub discard-leaves : (b c : Bus) (now node : ℕ) (d : Bool) → c ≡ record b { members = map (changed node (λ m. record m { discards = d })) b.members } → IsKept b
    → member_is (λ m. m.live) b.members node ≡ true → IsKept c
discard-leaves b c now node true e h live = submission-leaves b c now node Discard e h tt live
discard-leaves b c now node false e h live = submission-leaves b c now node Keep e h tt live

-- members changed, and all else as it was
pub members-leave : (b inside : Bus) (ms : List Member) (f : Member → Member) → inside ≡ b → ms ≡ map f inside.members
    → record inside { members = ms } ≡ record b { members = map f b.members }
members-leave b inside ms f view e =
    ap (λ xs. record inside { members = xs }) e ∙ ap (λ (v : Bus). record v { members = map f v.members }) view

-- a vector behind a change of all that a slice of it shows
pub all-changed : {X : Type 0} (f : X → X) (xs seen ys : List X) (n : ℕ) → n ≡ length xs → seen ≡ xs → ys ≡ map f seen
    → take n (ys ++ drop (length ys) xs) ≡ map f xs
all-changed f xs seen ys n size same e =
    let long : length ys ≡ n = ap length e ∙ length-map seen f ∙ ap length same ∙ sym size in
    take_at ys (drop (length ys) xs) n long ∙ e ∙ ap (map f) same

pub enter-kept : (b : Bus) (node : ℕ) → IsKept b → IsKept (enter b node)
enter-kept b node h = record { sound = enter-sound b node h.sound; idle = h.idle }

pub leave-kept : (b : Bus) (node : ℕ) → IsKept b → IsKept (leave b node)
leave-kept b node h = record { sound = leave-sound b node h.sound; idle = h.idle }

pub take_inbox-leaves : (b : Bus) (now node : ℕ) → IsKept b → IsKept (with_member b node (member_after_inbox now))
unfolding take_inbox
take_inbox-leaves b now node h = record { sound = take_inbox-sound b now node h.sound; idle = h.idle }

-- members changed and requests left out, and all else as it was
pub rest-leaves : (b inside : Bus) (ms : List Member) (rs : List Request) (f : Member → Member) (p : Request → Bool) → inside ≡ b
    → ms ≡ map f inside.members → rs ≡ filter p inside.requests
    → record inside { members = ms; requests = rs } ≡ record b { members = map f b.members; requests = filter p b.requests }
rest-leaves b inside ms rs f p view e k =
    ap (λ xs. record inside { members = xs; requests = rs }) e ∙ ap (λ ys. record inside { members = map f inside.members; requests = ys }) k
    ∙ ap (λ (v : Bus). record v { members = map f v.members; requests = filter p v.requests }) view
