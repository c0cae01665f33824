-- Offers by the places of requests in their list, as one walk over the requests finds them. No public clause cites this file.
use Rattle.std.specs.Prelude.{◌<◌, ◌&&◌, ℕ, Bool, List, Option, Some, None, IfSome, map, filter_map, length, slice_get, if◌then◌else◌, nat_le}
use Rattle.bus_specs.specs.Bus.{Request, Member, Bus, offer, takes_part, ready_moment}

-- the request at a place
abbrev pub request_at : List Request → Option ℕ → Option Request
request_at rs None = None
request_at rs (Some i) = slice_get rs i

-- a place that is there
abbrev pub IsPlaceIn : List Request → Option ℕ → Type 0
IsPlaceIn rs o = IfSome o (λ i. i < length rs)

-- whether a member may start at this moment, if it has a request
abbrev pub may_start : Bus → ℕ → Member → Bool
may_start b now m = takes_part m && nat_le (ready_moment b m) now

-- what a member offers of these requests, where it may
abbrev pub offer_by : (Member → Bool) → List Request → Member → Option Request
offer_by may rs m = if may m then offer rs m.node else None

-- what each member offers of these requests
abbrev pub offers_of : (Member → Bool) → List Request → List Member → List (Option Request)
offers_of may rs ms = map (offer_by may rs) ms

abbrev pub somes : {A : Type 0} → List (Option A) → List A
somes os = filter_map (λ o. o) os
