-- Where a node stands among the members. No public clause cites this file.
use Rattle.std.specs.Prelude.{◌==◌, if◌then◌else◌, ℕ, Bool, false, List, map, slice_get, Option, Some, None}
use Rattle.bus_specs.specs.Bus.{Member}
use Rattle.bus_specs.specs.Sound.{Rise}

-- the members rise by node
abbrev pub Rising : List Member → Type 0
Rising ms = (last : ℕ) × Rise 0 (map (λ m. m.node) ms) last

abbrev pub holds : (Member → Bool) → Option Member → Bool
holds test None = false
holds test (Some m) = test m

-- whether the test holds of the member at this place
abbrev pub is_at : (Member → Bool) → List Member → Option ℕ → Bool
is_at test ms None = false
is_at test ms (Some p) = holds test (slice_get ms p)

-- the member of this node changed, another as it is
abbrev pub changed : ℕ → (Member → Member) → Member → Member
changed node change m = if m.node == node then change m else m
