-- The frames that wait on a bus, as contracts see them: the requests of the bus, by rising numbers.
use Rattle.std.specs.Prelude.{◌≡◌, ℕ, ◌==◌, ◌&&◌, Bool, false, not, List, [], ◌∷◌, filter, Option, None, Some, if◌then◌else◌}
use Rattle.std.specs.Prelude.{refl}
use Rattle.std.specs.Borrow.{Bor}
use Rattle.frame_specs.specs.Frame.{Frame, Data}
use Rattle.bus_specs.specs.Bus.{Request}

-- how many nodes there are, what waits, and the number of the next request
pub record Waiting : Type 0 where
  pub nodes : ℕ
  pub requests : List Request
  pub next : ℕ

-- nothing waits, and no request was ever made
abbrev pub none_waiting : ℕ → Waiting
none_waiting nodes = record { nodes = nodes; requests = []; next = 0 }

-- whether it is the request of this node with this number
abbrev pub is_request : (node number : ℕ) → Request → Bool
is_request node number r = (r.node == node) && (r.number == number)

-- the frame of the request of this node with this number, if there is one
abbrev pub frame_of : List Request → (node number : ℕ) → Option Frame
frame_of [] node number = None
frame_of (r ∷ rs) node number = if is_request node number r then Some r.frame else frame_of rs node number

-- what waits without that request
abbrev pub without_request : Waiting → (node number : ℕ) → Waiting
without_request w node number = record w { requests = filter (λ r. not (is_request node number r)) w.requests }

-- what waits without the requests of a node
abbrev pub without_node : Waiting → ℕ → Waiting
without_node w node = record w { requests = filter (λ r. not (r.node == node)) w.requests }

-- the request of a node that a look at its number and frame shows
abbrev pub request_of : (node : ℕ) → ℕ × Bor Frame → Request
request_of node shown = record { node = node; number = shown.0; frame = shown.1.now }

-- Node 1 has two requests, and node 0 has one between them.
abbrev numbered : (node number : ℕ) → Request
numbered node number = record { node = node; number = number; frame = record { id = number; ext = false; kind = Data; bytes = [] } }

abbrev three : Waiting
three = record { nodes = 2; requests = numbered 1 4 ∷ numbered 0 5 ∷ numbered 1 7 ∷ []; next = 8 }

one_taken : without_request three 1 4 ≡ record three { requests = numbered 0 5 ∷ numbered 1 7 ∷ [] }
one_taken = refl

none_of_another_node : frame_of three.requests 0 4 ≡ None
none_of_another_node = refl

node_cleared : without_node three 1 ≡ record three { requests = numbered 0 5 ∷ [] }
node_cleared = refl
