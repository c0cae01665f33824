-- The first start and the returns, by the parts of a bus. No public clause cites this file.
use Rattle.std.specs.Prelude.{ℕ, ◌+◌, ◌-◌, ◌*◌, ◌&&◌, Bool, false, not, List, option_map, Option, Some, None, if◌then◌else◌}
use Rattle.std.specs.List.{list_any}
use Rattle.bus_specs.specs.Bus.{Bus, Member, Request, bits, passive, is, takes_part, member_is, has_request}
use Rattle.bus_specs.specs.Due.{Due, Return, at}

-- suspend transmission, where this was the last sender
abbrev pub suspended_by : Option ℕ → Member → Bool
suspended_by last m = passive m && is m.node last

abbrev pub starts_at_once : Option ℕ → Member → Bool
starts_at_once last m = takes_part m && not (suspended_by last m)

abbrev pub starts_later : Option ℕ → Member → Bool
starts_later last m = takes_part m && suspended_by last m

-- the last sender has a request, and is suspended
abbrev pub last_waits : Option ℕ → List Member → List Request → Bool
last_waits None ms rs = false
last_waits (Some n) ms rs = member_is (starts_later (Some n)) ms n && has_request rs n

abbrev pub first_ready : Bus → Option ℕ
first_ready b = if list_any (λ q. member_is (starts_at_once b.last_sender) b.members q.node) b.requests then Some b.idle
    else if last_waits b.last_sender b.members b.requests then Some (b.idle + bits b 8) else None

-- when a node that is off returns
abbrev pub return_of : ℕ → ℕ → Member → Option Due
return_of idle nominal m = option_map (λ seen. at (Return m.node) (idle + (128 - seen) * (11 * nominal))) m.occurrences
