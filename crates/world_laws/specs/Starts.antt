-- Which request starts.
use Rattle.std.specs.Prelude.{◌≡◌, ℕ, Bool, true, false, All, Contains, Some}
use Rattle.frame_specs.specs.Dominance.{beats}
use Rattle.bus_specs.specs.Bus.{Bus, Request, Running, able, member_is}
use Rattle.bus_specs.specs.Start.{start}

-- the node is able to start a frame at this moment
abbrev pub is_able : Bus → ℕ → ℕ → Bool
is_able b t node = member_is (able b t) b.members node

-- The request waits, its node is able, and nothing that waits of an able node beats it: its frame runs then.
pub record IsForemostStart (b : Bus) (t : ℕ) (q : Request) : Type 0 where
  pub waits : Contains b.requests q
  pub able : is_able b t q.node ≡ true
  pub unbeaten : All (λ r. is_able b t r.node ≡ true → beats r.frame q.frame ≡ false) b.requests
  pub frame : Running
  pub runs : (start b t).0.running ≡ Some frame
  pub own : frame.frame ≡ q.frame
  pub sender : frame.sender ≡ q.node
  pub number : frame.number ≡ q.number
