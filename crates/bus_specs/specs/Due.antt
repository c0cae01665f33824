-- What a bus does next: the foremost of all that is due.
use Rattle.std.specs.Prelude.{ℕ, ◌==◌, ◌&&◌, ◌||◌, Bool, List, ◌∷◌, ◌++◌, filter, filter_map, map, flat_map, max, option_map, option_to_list, Option, Some, None, nat_lt}
use Rattle.bus_specs.specs.Bus.{Bus, Member, Running, wants, ready_moment}
use Rattle.bus_specs.specs.Finish.{return_moment}
use Rattle.run_specs.specs.Order.{foremost}

-- a frame ends, a node returns from off, notices fall due, a frame starts
pub data What : Type 0 where
  Finish Notices Start : What
  Return : (node : ℕ) → What

pub record Due : Type 0 where
  pub moment : ℕ
  pub what : What

-- the order of the kinds at one moment
abbrev pub rank : What → ℕ
rank Finish = 0
rank (Return node) = 1
rank Notices = 2
rank Start = 3

abbrev pub precedes : Due → Due → Bool
precedes d c = nat_lt d.moment c.moment || ((d.moment == c.moment) && nat_lt (rank d.what) (rank c.what))

abbrev pub at : What → ℕ → Due
at what moment = record { moment = moment; what = what }

abbrev pub notice_moments : Member → List ℕ
notice_moments m = option_to_list (option_map (λ n. n.due) m.lost) ++ option_to_list (option_map (λ n. n.due) m.format) ++ option_to_list m.wake

abbrev pub notices : Bus → List Due
notices b = map (at Notices) (flat_map notice_moments b.members)

abbrev pub returns : Bus → List Due
returns b = filter_map (λ m. option_map (λ seen. at (Return m.node) (return_moment b seen)) m.occurrences) b.members

-- a node that has a request may start once it is ready, and not before this moment
abbrev pub starts : Bus → ℕ → List Due
starts b now = map (λ m. at Start (max now (ready_moment b m))) (filter (wants b) b.members)

-- a return or a start only while no frame runs
abbrev pub dues : Bus → ℕ → Option Running → List Due
dues b now (Some r) = at Finish r.end ∷ notices b
dues b now None = returns b ++ notices b ++ starts b now

-- what the bus does next, where the last event was at this moment; at one moment the first node returns first
unfoldable pub next_due : Bus → ℕ → Option Due
next_due b now = foremost precedes (dues b now b.running)
