-- The buses of the cases are sound, and what they do next is computed.
use Rattle.std.proofs.Common.{◌≡◌, ◌≤◌, ℕ, ◌==◌, true, List, [], ◌∷◌, All, Some, None, is_some, refl, arith}
use Rattle.std.specs.Prelude.{option_map}
use Rattle.std.proofs.lemmas.List.Elements.{All-nil, All-cons}
use Rattle.std.proofs.lemmas.List.Sums.{count_by-le-length}
use Rattle.bus_specs.specs.Bus.{ErrorEntry, Member, Request, winner, waiting}
use Rattle.bus_specs.specs.Start.{course, start}
use Rattle.bus_specs.specs.Due.{next_due, at, Return}
use Rattle.bus_specs.specs.Sound.{Sound, SoundMember, SoundRequest, IsKind, IsSetup}
use Rattle.play_laws.specs.Steps.{Starts}
use Rattle.play_laws.specs.Cases.{setup, node, request, first_frame, hurt_bus, failing_bus, returning_bus}

setup-fits : IsSetup setup
setup-fits = All-cons (λ (e : ErrorEntry). IsKind e.kind 4) (record { first = 1; count = 1; kind = 2; by = Some 1; bit = 9 }) [] (record { some = omega arith; within = omega arith })
    (All-nil (λ (e : ErrorEntry). IsKind e.kind 4))

few : (n : ℕ) → waiting (request ∷ []) n ≤ 256
few n = omega (arith, count_by-le-length (λ (r : Request). r.node == n) (request ∷ []))

one-asks : (ms : List Member) → SoundRequest setup ms request → All (SoundRequest setup ms) (request ∷ [])
one-asks ms h = All-cons (SoundRequest setup ms) request [] h (All-nil (SoundRequest setup ms))

two : (x y : Member) → SoundMember setup None x → SoundMember setup None y → All (SoundMember setup None) (x ∷ y ∷ [])
two x y h k = All-cons (SoundMember setup None) x (y ∷ []) h (All-cons (SoundMember setup None) y [] k (All-nil (SoundMember setup None)))

hurt-sound : Sound hurt_bus
hurt-sound = record {
  setup = setup-fits;
  nodes = (2, (omega arith, (omega arith, omega arith)));
  numbers = (omega arith, omega arith);
  requests = one-asks hurt_bus.members (record { sender = refl; frame = record { well_formed = refl; rate = λ e. absurd cc } });
  at_most = few;
  members = two (node 0 (record { tec = 0; rec = 0 }) None) (node 1 (record { tec = 0; rec = 128 }) None)
      (record { tec = omega arith; rec = omega arith; off = refl; seen = tt; absent = λ e. absurd cc; echo = tt; mail = tt })
      (record { tec = omega arith; rec = omega arith; off = refl; seen = tt; absent = λ e. absurd cc; echo = tt; mail = tt });
  running = tt;
  last = tt;
}

failing-sound : Sound failing_bus
failing-sound = record {
  setup = setup-fits;
  nodes = (2, (omega arith, (omega arith, omega arith)));
  numbers = (omega arith, omega arith);
  requests = one-asks failing_bus.members (record { sender = refl; frame = record { well_formed = refl; rate = λ e. absurd cc } });
  at_most = few;
  members = two (node 0 (record { tec = 0; rec = 0 }) None) (node 1 (record { tec = 0; rec = 0 }) None)
      (record { tec = omega arith; rec = omega arith; off = refl; seen = tt; absent = λ e. absurd cc; echo = tt; mail = tt })
      (record { tec = omega arith; rec = omega arith; off = refl; seen = tt; absent = λ e. absurd cc; echo = tt; mail = tt });
  running = tt;
  last = tt;
}

pub returning-sound : Sound returning_bus
returning-sound = record {
  setup = setup-fits;
  nodes = (3, (omega arith, (omega arith, omega arith)));
  numbers = omega arith;
  requests = All-nil (SoundRequest setup returning_bus.members);
  at_most = λ n. omega arith;
  members = two (node 0 (record { tec = 0; rec = 0 }) None) (node 2 (record { tec = 256; rec = 0 }) (Some 127))
      (record { tec = omega arith; rec = omega arith; off = refl; seen = tt; absent = λ e. absurd cc; echo = tt; mail = tt })
      (record { tec = omega arith; rec = omega arith; off = refl; seen = omega arith; absent = λ e. absurd cc; echo = tt; mail = tt });
  running = tt;
  last = tt;
}

pub hurt-starts : Starts hurt_bus 0 0 (first_frame hurt_bus)
unfolding start winner next_due
hurt-starts = record { sound = hurt-sound; due = refl; runs = refl }

pub failing-starts : Starts failing_bus 0 0 (first_frame failing_bus)
unfolding start winner next_due
failing-starts = record { sound = failing-sound; due = refl; runs = refl }

pub hurt-hurts : is_some (first_frame hurt_bus).hurt ≡ true
unfolding course
hurt-hurts = refl

pub failing-by : option_map (λ e. e.by) (first_frame failing_bus).fault ≡ Some 1
unfolding course
failing-by = refl

pub returning-next : next_due returning_bus 0 ≡ Some (at (Return 2) 11000)
unfolding next_due
returning-next = refl
