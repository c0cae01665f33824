-- The lines of an event: there is one at least, all at its moment and of its bus, and a start only first.
use Rattle.std.proofs.Common.{◌≡◌, ℕ, Bool, true, false, if◌then◌else◌, List, [], ◌∷◌, ◌++◌, map, Option, Some, None, refl}
use Rattle.std.specs.Prelude.{flat_map, option_map, option_to_list, ⊤}
use Rattle.bus_specs.specs.Bus.{Bus, Setup, Member, Request, Running, Fault, Hurt, LostNotice, FormatNotice}
use Rattle.bus_specs.specs.Submit.{Submission, Transmit, Keep, Discard, Wakeup, Sleep, Rate, FdRate, Declare, FormatError, Unfit, Fate, Accepted, Full, Dropped, fate, submit, told_of, told_fate}
use Rattle.bus_specs.specs.Inbox.{take_inbox, members_at, told_notices, due_lost, due_format, due_wake}
use Rattle.bus_specs.specs.Start.{discards, loser_told}
use Rattle.bus_specs.specs.Finish.{finish, finish_with, outcome_line, hurt_lines, state_lines, same_level, counters_after, recover}
use Rattle.bus_specs.specs.Counters.{level}
use Rattle.log_specs.specs.Line.{Line, On, Down, Over, End, Told, LostKept, LostGone}
use Rattle.log_specs.specs.Line as log
use Rattle.log_laws.specs.Losers.{tells_start}

abbrev pub IsAt : Setup → ℕ → Line → Type 0
IsAt s now (On t bus node told) = (t ≡ now) × (bus ≡ s.number)
IsAt s now (Down t node cause) = ⊥
IsAt s now (Over t node) = ⊥
IsAt s now (End status events) = ⊥

abbrev pub IsNoStart : Line → Type 0
IsNoStart (On t bus node told) = tells_start told ≡ false
IsNoStart (Down t node cause) = ⊤
IsNoStart (Over t node) = ⊤
IsNoStart (End status events) = ⊤

-- all lines of the bus at this moment, none of a start
abbrev pub Quiet : Setup → ℕ → List Line → Type 0
Quiet s now [] = ⊤
Quiet s now (line ∷ lines) = (IsAt s now line × IsNoStart line) × Quiet s now lines

pub quiet-append : (s : Setup) (now : ℕ) (xs ys : List Line) → Quiet s now xs → Quiet s now ys → Quiet s now (xs ++ ys)
quiet-append s now [] ys h k = k
quiet-append s now (x ∷ xs) ys h k = (h.0, quiet-append s now xs ys h.1 k)

pub quiet-flat : {X : Type 0} (s : Setup) (now : ℕ) (f : X → List Line) (xs : List X) → ((x : X) → Quiet s now (f x)) → Quiet s now (flat_map f xs)
quiet-flat s now f [] h = tt
quiet-flat s now f (x ∷ xs) h = quiet-append s now (f x) (flat_map f xs) (h x) (quiet-flat s now f xs h)

module _ (b : Bus) (now : ℕ) where
  states-quiet : (r : Running) (m : Member) → Quiet b.setup now (state_lines b now r m)
  states-quiet r m = go (same_level (level m.counters) (level (counters_after r m)))
    where
      go : (t : Bool) → Quiet b.setup now (if t then [] else On now b.setup.number m.node (log.State (level (counters_after r m))) ∷ [])
      go true = tt
      go false = (((refl, refl), refl), tt)

  hurt-quiet : (h : Option Hurt) → Quiet b.setup now (hurt_lines b now h)
  hurt-quiet None = tt
  hurt-quiet (Some h) = (((refl, refl), refl), tt)

  outcome-quiet : (r : Running) (o : Option Fault) → IsAt b.setup now (outcome_line b now r o) × IsNoStart (outcome_line b now r o)
  outcome-quiet r None = ((refl, refl), refl)
  outcome-quiet r (Some e) = ((refl, refl), refl)

  pub finish-quiet : Quiet b.setup now (finish b now).1
  unfolding finish
  finish-quiet = go b.running
    where
      go : (o : Option Running) → Quiet b.setup now (finish_with b now o).1
      go None = tt
      go (Some r) = (
        outcome-quiet r r.fault,
        quiet-append b.setup now (hurt_lines b now r.hurt) (flat_map (state_lines b now r) b.members)
            (hurt-quiet r.hurt) (quiet-flat b.setup now (state_lines b now r) b.members (states-quiet r)),
      )

  pub recover-quiet : (node : ℕ) → Quiet b.setup now (recover b now node).1
  unfolding recover
  recover-quiet node = (((refl, refl), refl), tt)

  fate-quiet : (node : ℕ) (f : Rattle.frame_specs.specs.Frame.Frame) (x : Fate) → tells_start (told_fate f x) ≡ false
  fate-quiet node f Accepted = refl
  fate-quiet node f Full = refl
  fate-quiet node f Dropped = refl

  told-quiet : (node : ℕ) (what : Submission) → tells_start (told_of b node what) ≡ false
  told-quiet node (Transmit f) = fate-quiet node f (fate b node)
  told-quiet node Keep = refl
  told-quiet node Discard = refl
  told-quiet node Wakeup = refl
  told-quiet node Sleep = refl
  told-quiet node (Rate v) = refl
  told-quiet node (FdRate v) = refl
  told-quiet node (Declare l) = refl
  told-quiet node (FormatError bytes) = refl
  told-quiet node (Unfit bytes) = refl

  pub submit-quiet : (node : ℕ) (what : Submission) → Quiet b.setup now ((submit b now node what).1 ∷ [])
  unfolding submit
  submit-quiet node what = (((refl, refl), told-quiet node what), tt)

  three-quiet : (node : ℕ) (l : Option LostNotice) (f : Option FormatNotice) (w : Option ℕ)
      → Quiet b.setup now (map (On now b.setup.number node) (option_to_list (option_map (λ (n : LostNotice). log.ToldLost n.id) l)
      ++ option_to_list (option_map (λ (n : FormatNotice). log.ToldFormat n.bytes) f)
      ++ option_to_list (option_map (λ (n : ℕ). log.ToldWake) w)))
  three-quiet node None None None = tt
  three-quiet node None None (Some w) = (((refl, refl), refl), tt)
  three-quiet node None (Some f) None = (((refl, refl), refl), tt)
  three-quiet node None (Some f) (Some w) = (((refl, refl), refl), (((refl, refl), refl), tt))
  three-quiet node (Some l) None None = (((refl, refl), refl), tt)
  three-quiet node (Some l) None (Some w) = (((refl, refl), refl), (((refl, refl), refl), tt))
  three-quiet node (Some l) (Some f) None = (((refl, refl), refl), (((refl, refl), refl), tt))
  three-quiet node (Some l) (Some f) (Some w) = (((refl, refl), refl), (((refl, refl), refl), (((refl, refl), refl), tt)))

  pub take-quiet : (node : ℕ) → Quiet b.setup now (take_inbox b now node).1
  unfolding take_inbox
  take-quiet node = quiet-flat b.setup now (λ m. map (On now b.setup.number node) (told_notices now m)) (members_at b node)
      (λ m. three-quiet node (due_lost now m) (due_format now m) (due_wake now m))

  pub losses-quiet : (ls : List Request) → Quiet b.setup now (map (λ r. On now b.setup.number r.node (loser_told b r)) ls)
  losses-quiet [] = tt
  losses-quiet (r ∷ ls) = (((refl, refl), go (discards b r)), losses-quiet ls)
    where
      go : (t : Bool) → tells_start (if t then LostGone r.frame else LostKept r.frame) ≡ false
      go true = refl
      go false = refl

-- what is not empty
abbrev pub Some_lines : List Line → Type 0
Some_lines [] = ⊥
Some_lines (line ∷ lines) = ⊤

pub some-left : (xs ys : List Line) → Some_lines xs → Some_lines (xs ++ ys)
some-left [] ys h = absurd h
some-left (x ∷ xs) ys h = tt

pub some-right : (xs ys : List Line) → Some_lines ys → Some_lines (xs ++ ys)
some-right [] ys h = h
some-right (x ∷ xs) ys h = tt
