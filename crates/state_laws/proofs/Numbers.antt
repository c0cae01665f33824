-- The number of a running frame: it is one that was given out, or is within a bound that those are within.
use Rattle.std.proofs.Common.{◌≡◌, ◌≤◌, ◌<◌, ℕ, ◌+◌, ◌==◌, Bool, true, false, if◌then◌else◌, List, [], ◌∷◌, map, IfSome, Option, Some, None}
use Rattle.std.proofs.Common.{arith, refl, inl, inr}
use Rattle.bus_specs.specs.Bus.{Bus, Request, Running, winner}
use Rattle.bus_specs.specs.Submit.{Submission, Transmit, Keep, Discard, Wakeup, Sleep, Rate, FdRate, Declare, FormatError, Unfit, Fate}
use Rattle.bus_specs.specs.Submit.{Accepted, Full, Dropped, fate, with_request, submit}
use Rattle.bus_specs.specs.Inbox.{enter, leave, take_inbox}
use Rattle.bus_specs.specs.Start.{start, start_with}
use Rattle.bus_specs.specs.Finish.{finish, finish_with, recover}
use Rattle.bus_specs.specs.Sound.{Sound, Rise}
use Rattle.bus_sound.proofs.Among.{Among}
use Rattle.bus_sound.proofs.Lists.{among-map}
use Rattle.bus_sound.proofs.Started.{winner-among}
use Rattle.world_laws.proofs.OneBus.{Kept, bus_behind, each-bus, turns-kept}
use Rattle.world_specs.specs.Units.{Units}
use Rattle.world_specs.specs.World.{World}
use Rattle.world_specs.specs.Next.{What, Finish, Return, Sessions, Start}
use Rattle.world_specs.specs.Sessions.{turns}

rise-end : (from : ℕ) (ns : List ℕ) (below : ℕ) → Rise from ns below → from ≤ below
rise-end from [] below h = h
rise-end from (n ∷ ns) below h = let l = h.0 in let r = rise-end (n + 1) ns below h.1 in omega (arith, l, r)

rise-below : (from : ℕ) (ns : List ℕ) (below n : ℕ) → Rise from ns below → Among ns n → n < below
rise-below from [] below n h a = absurd a
rise-below from (x ∷ ns) below n h (inl e) = let r = rise-end (x + 1) ns below h.1 in omega (arith, r, e)
rise-below from (x ∷ ns) below n h (inr a) = rise-below (x + 1) ns below n h.1 a

-- of a number and of how many were given out so far: it goes on to hold as more are
module _ (P : ℕ → ℕ → Type 0) (rises : (n given more : ℕ) → given ≤ more → P n given → P n more) where
  abbrev pub Numbered : Bus → Type 0
  Numbered b = IfSome b.running (λ r. P r.number b.next)

  up : (o : Option Running) (given more : ℕ) → given ≤ more → IfSome o (λ r. P r.number given) → IfSome o (λ r. P r.number more)
  up None given more l h = tt
  up (Some r) given more l h = rises r.number given more l h

  fate-keeps : (b : Bus) (node : ℕ) (x : Fate) (what : Submission) → Numbered b → (f : _) → Numbered (with_request b node f x)
  fate-keeps b node Accepted what h f = up b.running b.next (b.next + 1) (omega arith) h
  fate-keeps b node Full what h f = h
  fate-keeps b node Dropped what h f = h

  submit-keeps : (now : ℕ) (b : Bus) (node : ℕ) (what : Submission) → Numbered b → Numbered (submit b now node what).0
  unfolding submit
  submit-keeps now b node (Transmit f) h = fate-keeps b node (fate b node) (Transmit f) h f
  submit-keeps now b node Keep h = h
  submit-keeps now b node Discard h = h
  submit-keeps now b node Wakeup h = h
  submit-keeps now b node Sleep h = h
  submit-keeps now b node (Rate v) h = h
  submit-keeps now b node (FdRate v) h = h
  submit-keeps now b node (Declare v) h = h
  submit-keeps now b node (FormatError bytes) h = h
  submit-keeps now b node (Unfit bytes) h = h

  take-keeps : (now : ℕ) (b : Bus) (node : ℕ) → Numbered b → Numbered (take_inbox b now node).0
  unfolding take_inbox
  take-keeps now b node h = h

  sessions-keep : (now : ℕ) → Kept now Numbered
  sessions-keep now = record {
    enter = λ b node h. h;
    take = λ b node h. take-keeps now b node h;
    submit = λ b node what h. submit-keeps now b node what h;
    leave = λ b node h. h;
  }

  start-keeps : (now : ℕ) (b : Bus) → Sound b → ((n : ℕ) → n < b.next → P n b.next) → Numbered b → Numbered (start b now).0
  unfolding start
  start-keeps now b s new h = go (winner b now) refl
    where
      go : (o : Option Request) → winner b now ≡ o → Numbered (start_with b now o).0
      go None e = h
      go (Some w) e = new w.number (rise-below 0 (map (λ q. q.number) b.requests) b.next w.number s.numbers
          (among-map (λ (q : Request). q.number) b.requests w (winner-among b now w e)))

  finish-keeps : (now : ℕ) (b : Bus) → Numbered b → Numbered (finish b now).0
  unfolding finish
  finish-keeps now b h = go b.running
    where
      go : (o : Option Running) → Numbered (finish_with b now o).0
      go None = h
      go (Some r) = tt

  recover-keeps : (now : ℕ) (b : Bus) (node : ℕ) → Numbered b → Numbered (recover b now node).0
  unfolding recover
  recover-keeps now b node h = h

  pub numbered-behind : {S : Type 0} (u : Units S) (w : World S) (t : ℕ) (k : What) (b : Bus) → Sound b
      → ((n : ℕ) → n < b.next → P n b.next) → Numbered b → Numbered (bus_behind u w t k b)
  numbered-behind u w t (Finish bus) b s new h = go (b.setup.number == bus)
    where
      go : (q : Bool) → Numbered (if q then (finish b t).0 else b)
      go true = finish-keeps t b h
      go false = h
  numbered-behind u w t (Return bus node) b s new h = go (b.setup.number == bus)
    where
      go : (q : Bool) → Numbered (if q then (recover b t node).0 else b)
      go true = recover-keeps t b node h
      go false = h
  numbered-behind u w t Sessions b s new h = turns-kept t Numbered (sessions-keep t) (turns u w.buses t w.nodes) b h
  numbered-behind u w t (Start bus) b s new h = go (b.setup.number == bus)
    where
      go : (q : Bool) → Numbered (if q then (start b t).0 else b)
      go true = start-keeps t b s new h
      go false = h
