-- What lasts through a call on a bus with two nodes.
use Rattle.std.proofs.Common.{◌≤◌, ◌<◌, ◌+◌, ◌^◌, ℕ, zero, suc, List, [], ◌∷◌, ◌++◌, Option, Some, None, refl, arith}
use Rattle.std.specs.List.{AllByRecursion}
use Rattle.std.specs.Option.{IfSome, option_to_list}
use Rattle.std.specs.Prelude.{Result, Ok, Err, OnOk}
use Rattle.operation_specs.specs.Reading.{IsWhole}
use Rattle.bus_ops.specs.declared.op.Item.{Item as Held}
use Rattle.bus_ops.specs.Views.{item_of, items_of}
use Rattle.bus_specs.specs.Bus.{Setup, Bus, new_bus}
use Rattle.bus_specs.specs.Submit.{Submission, submit}
use Rattle.bus_specs.specs.Start.{start}
use Rattle.bus_specs.specs.Finish.{finish, recover}
use Rattle.bus_specs.specs.Inbox.{enter, take_inbox}
use Rattle.bus_sound.specs.Counts.{Rises}
use Rattle.bus_sound.proofs.Counts.{submit-rises, start-rises, finish-rises}
use Rattle.bus_sound.proofs.Steady.{Steady, submit-steady, start-steady, finish-steady, recover-steady, take-steady, steady-live}
use Rattle.line_cases.specs.Tried.{IsTried, is_live}

stays : (b after : Bus) (calls given tried : ℕ) → given ≤ 1 → tried ≤ 1
    → Steady b after → Rises b after given tried → IsTried b calls → IsTried after (calls + 1)
stays b after calls given tried g t s r h = record {
  first = steady-live b after 0 s h.first;
  other = steady-live b after 1 s h.other;
  next = let n : b.next ≤ calls = h.next in let m : after.next ≤ b.next + given = r.next in omega arith;
  attempts = let n : b.attempts ≤ calls = h.attempts in let m : after.attempts ≤ b.attempts + tried = r.attempts in omega arith;
}

take-rises : (b : Bus) (now node : ℕ) → Rises b (take_inbox b now node).0 0 0
unfolding take_inbox
take-rises b now node = record { next = omega arith; attempts = omega arith }

recover-rises : (b : Bus) (now node : ℕ) → Rises b (recover b now node).0 0 0
unfolding recover
recover-rises b now node = record { next = omega arith; attempts = omega arith }

pub tried_at_first : (s : Setup) → IsTried (enter (enter (new_bus s (0 ∷ 1 ∷ [])) 0) 1) 0
tried_at_first s = record { first = refl; other = refl; next = omega arith; attempts = omega arith }

pub first_whole : (o : Option Held) (rest : List Held) → AllByRecursion IsWhole (items_of (option_to_list o ++ rest))
    → IfSome o (λ item. IsWhole (item_of item))
first_whole None rest h = tt
first_whole (Some item) rest h = h.0

pub live_node : (b : Bus) (calls node : ℕ) → IsTried b calls → node < 2 → is_live b node
live_node b calls zero h l = h.first
live_node b calls (suc zero) h l = h.other
live_node b calls (suc (suc n)) h l = absurd (omega (arith, l))

pub few : (b : Bus) (calls : ℕ) → IsTried b calls → calls < 2 ^ 62 → (b.next < 2 ^ 63) × (b.attempts < 2 ^ 63)
few b calls h l = let n : b.next ≤ calls = h.next in let m : b.attempts ≤ calls = h.attempts in (omega arith, omega arith)

pub later : (b : Bus) (calls : ℕ) → IsTried b calls → IsTried b (calls + 1)
later b calls h = record {
  first = h.first;
  other = h.other;
  next = let n : b.next ≤ calls = h.next in omega arith;
  attempts = let n : b.attempts ≤ calls = h.attempts in omega arith;
}

pub submitted : (b : Bus) (calls now node : ℕ) (what : Submission) → IsTried b calls → IsTried (submit b now node what).0 (calls + 1)
submitted b calls now node what h = stays b (submit b now node what).0 calls 1 0 (omega arith) (omega arith)
    (submit-steady b now node what) (submit-rises b now node what) h

pub started : (b : Bus) (calls now : ℕ) → IsTried b calls → IsTried (start b now).0 (calls + 1)
started b calls now h = stays b (start b now).0 calls 0 1 (omega arith) (omega arith) (start-steady b now) (start-rises b now) h

pub finished : (b : Bus) (calls now : ℕ) → IsTried b calls → IsTried (finish b now).0 (calls + 1)
finished b calls now h = stays b (finish b now).0 calls 0 0 (omega arith) (omega arith) (finish-steady b now) (finish-rises b now) h

pub recovered : (b : Bus) (calls now node : ℕ) → IsTried b calls → IsTried (recover b now node).0 (calls + 1)
recovered b calls now node h = stays b (recover b now node).0 calls 0 0 (omega arith) (omega arith)
    (recover-steady b now node) (recover-rises b now node) h

pub taken : (b : Bus) (calls now node : ℕ) → IsTried b calls → IsTried (take_inbox b now node).0 (calls + 1)
taken b calls now node h = stays b (take_inbox b now node).0 calls 0 0 (omega arith) (omega arith)
    (take-steady b now node) (take-rises b now node) h

pub always : {T E P : Type 0} (r : Result T E) → P → OnOk r P
always (Ok x) p = p
always (Err e) p = tt
