-- How far a step raises the next request number and the number of attempts.
use Rattle.std.proofs.Common.{ℕ, Option, Some, None, arith}
use Rattle.frame_specs.specs.Frame.{Frame}
use Rattle.bus_specs.specs.Bus.{Bus, Request, Running, winner}
use Rattle.bus_sound.specs.Counts.{Rises}
use Rattle.bus_specs.specs.Submit.{Submission, Transmit, Keep, Discard, Wakeup, Sleep, Rate, FdRate, Declare, FormatError, Unfit, Fate, Accepted, Full, Dropped, fate, with_request, submit}
use Rattle.bus_specs.specs.Start.{start, start_with}
use Rattle.bus_specs.specs.Finish.{finish, finish_with}

same : (b : Bus) (n k : ℕ) → Rises b b n k
same b n k = record { next = omega arith; attempts = omega arith }

fate-rises : (b : Bus) (node : ℕ) (f : Frame) (x : Fate) → Rises b (with_request b node f x) 1 0
fate-rises b node f Accepted = record { next = omega arith; attempts = omega arith }
fate-rises b node f Full = same b 1 0
fate-rises b node f Dropped = same b 1 0

pub submit-rises : (b : Bus) (now node : ℕ) (what : Submission) → Rises b (submit b now node what).0 1 0
unfolding submit
submit-rises b now node (Transmit f) = fate-rises b node f (fate b node)
submit-rises b now node Keep = record { next = omega arith; attempts = omega arith }
submit-rises b now node Discard = record { next = omega arith; attempts = omega arith }
submit-rises b now node Wakeup = record { next = omega arith; attempts = omega arith }
submit-rises b now node Sleep = record { next = omega arith; attempts = omega arith }
submit-rises b now node (Rate v) = same b 1 0
submit-rises b now node (FdRate v) = same b 1 0
submit-rises b now node (Declare l) = same b 1 0
submit-rises b now node (FormatError bytes) = same b 1 0
submit-rises b now node (Unfit bytes) = record { next = omega arith; attempts = omega arith }

pub start-rises : (b : Bus) (now : ℕ) → Rises b (start b now).0 0 1
unfolding start
start-rises b now = go (winner b now)
  where
    go : (o : Option Request) → Rises b (start_with b now o).0 0 1
    go None = same b 0 1
    go (Some w) = record { next = omega arith; attempts = omega arith }

pub finish-rises : (b : Bus) (now : ℕ) → Rises b (finish b now).0 0 0
unfolding finish
finish-rises b now = go b.running
  where
    go : (o : Option Running) → Rises b (finish_with b now o).0 0 0
    go None = same b 0 0
    go (Some r) = record { next = omega arith; attempts = omega arith }
