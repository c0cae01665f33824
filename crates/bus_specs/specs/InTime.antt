-- Nothing that a bus still has to do is past.
use Rattle.std.specs.Prelude.{◌≡◌, ◌≤◌, ℕ, All, IfSome, None}
use Rattle.bus_specs.specs.Bus.{Bus, Member}
use Rattle.bus_specs.specs.Finish.{return_moment}

pub record NoticesFrom (now : ℕ) (m : Member) : Type 0 where
  pub lost : IfSome m.lost (λ n. now ≤ n.due)
  pub format : IfSome m.format (λ n. now ≤ n.due)
  pub wake : IfSome m.wake (λ t. now ≤ t)

-- the end of the running frame, the notices, and where no frame runs the returns
pub record InTime (now : ℕ) (b : Bus) : Type 0 where
  pub end : IfSome b.running (λ r. now ≤ r.end)
  pub notices : All (NoticesFrom now) b.members
  pub returns : b.running ≡ None → All (λ m. IfSome m.occurrences (λ n. now ≤ return_moment b n)) b.members
