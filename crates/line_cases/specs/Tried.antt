-- What a case may ask of a bus with two nodes.
use Rattle.std.specs.Prelude.{◌≡◌, ◌≤◌, ℕ, true}
use Rattle.bus_specs.specs.Bus.{Bus, member_is}

abbrev pub is_live : Bus → ℕ → Type 0
is_live b node = member_is (λ m. m.live) b.members node ≡ true

-- Both nodes are live, and no request and no attempt is without its call.
pub record IsTried (b : Bus) (calls : ℕ) : Type 0 where
  pub first : is_live b 0
  pub other : is_live b 1
  pub next : b.next ≤ calls
  pub attempts : b.attempts ≤ calls
