-- What holds of the scenario of every play: of its setup, its nodes and its actions.
use Rattle.std.proofs.Common.{◌≡◌, ◌≤◌, ◌<◌, ℕ, zero, suc, ◌+◌, ◌^◌, Bool, true, false, List, [], ◌∷◌, Option, refl, arith}
use Rattle.std.specs.Prelude.{if◌then◌else◌, map, All, AllPairs}
use Rattle.std.specs.List.{range_with_len}
use Rattle.std.proofs.lemmas.List.Elements.{All-weaker, All-map, All-nil, All-cons}
use Rattle.std.proofs.lemmas.List.Kept.{AllPairs-cons}
use Rattle.frame_specs.specs.Frame.{is_fd}
use Rattle.operation_specs.specs.Operation as op
use Rattle.operation_specs.specs.Operation.{IsOperation}
use Rattle.operation_specs.specs.Reading.{IsWhole}
use Rattle.bus_specs.specs.Sound.{IsSetup, IsKind, Rise}
use Rattle.play_specs.specs.Scenario.{Action}
use Rattle.play_specs.specs.Play.{Play, PlayAction, Verb, Send, Wake, Sleep, Keep, Discard, IsEntry, IsVerb, IsAction, Rises, IsPlay, item_of, action_of, setup_of, nodes_of, scenario_of}

pub setup_of-IsSetup : (p : Play) → IsPlay p → IsSetup (setup_of p)
setup_of-IsSetup p is = All-weaker (IsEntry p.nodes) (λ e. IsKind e.kind 4) (λ e entry. record { some = entry.kind.0; within = entry.kind.1 }) p.errors is.errors

range_rises : (from n : ℕ) → Rise from (range_with_len from n) (from + n)
range_rises from zero = omega arith
range_rises from (suc n) = (omega arith, rise (from + 1 + n) (omega arith) (range_rises (from + 1) n))
  where
    rise : (below : ℕ) → below ≡ from + suc n → Rise (from + 1) (range_with_len (from + 1) n) below → Rise (from + 1) (range_with_len (from + 1) n) (from + suc n)
    rise below same rises = rw (← same) rises

-- the nodes rise from 0, below their number
pub nodes_of-Rise : (p : Play) → Rise 0 (nodes_of p) (0 + p.nodes)
nodes_of-Rise p = range_rises 0 p.nodes

-- each item is an operation that can be written
pub item_of-IsWhole : (fd_rate : Option ℕ) (v : Verb) → IsVerb fd_rate v → IsWhole (item_of v)
item_of-IsWhole fd_rate (Send f) is = by (is_fd f.kind) refl
  where
    by : (fd : Bool) → is_fd f.kind ≡ fd → IsOperation (if fd then op.FdTransmit f else op.Transmit f)
    by true e = record { valid = e; in_range = is.well_formed }
    by false e = record { valid = rw e refl; in_range = is.well_formed }
item_of-IsWhole fd_rate Wake is = record { valid = refl; in_range = refl }
item_of-IsWhole fd_rate Sleep is = record { valid = refl; in_range = refl }
item_of-IsWhole fd_rate Keep is = record { valid = refl; in_range = refl }
item_of-IsWhole fd_rate Discard is = record { valid = refl; in_range = refl }

-- an action of a node of this many, up to the last moment, of an operation that can be written
pub record IsPossible (nodes : ℕ) (a : Action) : Type 0 where
  pub moment : a.moment ≤ 2 ^ 62
  pub node : a.node < nodes
  pub item : IsWhole a.item

pub actions-IsPossible : (p : Play) → IsPlay p → All (IsPossible p.nodes) (scenario_of p).actions
actions-IsPossible p is = All-map (IsPossible p.nodes) action_of p.actions
    (All-weaker (IsAction p.nodes p.fd_rate) (λ a. IsPossible p.nodes (action_of a)) (λ a x. record { moment = x.moment; node = x.node; item = item_of-IsWhole p.fd_rate a.verb x.verb }) p.actions is.actions)

all_later : (last : ℕ) (as' : List PlayAction) → Rises last as' → All (λ (a : Action). last ≤ a.moment) (map action_of as')
all_later last [] rises = All-nil (λ (a : Action). last ≤ a.moment)
all_later last (a ∷ as') rises = All-cons (λ (x : Action). last ≤ x.moment) (action_of a) (map action_of as') rises.0
    (All-weaker (λ (x : Action). a.moment ≤ x.moment) (λ (x : Action). last ≤ x.moment) (λ x later. omega (arith, later, rises.0)) (map action_of as') (all_later a.moment as' rises.1))

by_moment : (last : ℕ) (as' : List PlayAction) → Rises last as' → AllPairs (λ (a b : Action). a.moment ≤ b.moment) (map action_of as')
by_moment last [] rises = λ i j d before inside. absurd (omega arith)
by_moment last (a ∷ as') rises = AllPairs-cons (λ (x y : Action). x.moment ≤ y.moment) (action_of a) (map action_of as') (all_later a.moment as' rises.1) (by_moment a.moment as' rises.1)

-- no action is later than one behind it
pub actions-by_moment : (p : Play) → IsPlay p → AllPairs (λ (a b : Action). a.moment ≤ b.moment) (scenario_of p).actions
actions-by_moment p is = by_moment 0 p.actions is.rises
