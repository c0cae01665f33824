-- How the frames that wait are kept: for each node a list in the order in which it offers them. No public clause cites this module.
use Rattle.std.specs.Prelude.{◌≡◌, ◌⊎◌, ℕ, ◌<◌, nat_lt, List, [], ◌∷◌, ◌++◌, Option, None, Some, nat_eq, if◌then◌else◌}
use Rattle.bus_specs.specs.Bus.{Request}
use Rattle.arbitration.specs.Key.{key_of}
use Rattle.index_list.specs.Many.{list_at, first_of}

-- a request under its place in the lists
abbrev pub Placed : Type 0
Placed = ℕ × Request

-- the item is one of these
abbrev pub Among : {A : Type 0} → List A → A → Type 0
Among [] x = ⊥
Among (first ∷ others) x = (x ≡ first) ⊎ Among others x

-- a request among those by rising numbers, unless its number is there
abbrev pub put : Request → List Request → List Request
put r [] = r ∷ []
put r (q ∷ rs) = if nat_lt r.number q.number then r ∷ q ∷ rs else if nat_eq q.number r.number then q ∷ rs else q ∷ put r rs

abbrev pub by_number : List Placed → List Request
by_number [] = []
by_number (a ∷ others) = put a.1 (by_number others)

abbrev pub joined : List (List Placed) → List Placed
joined [] = []
joined (list ∷ lists) = list ++ joined lists

-- all requests of the lists, by rising numbers
unfoldable pub requests_of : List (List Placed) → List Request
requests_of lists = by_number (joined lists)

-- a node offers one before the other: by their keys, and then by their numbers
abbrev pub IsAhead : Request → Request → Type 0
IsAhead r q = (key_of r.frame < key_of q.frame) ⊎ ((key_of r.frame ≡ key_of q.frame) × (r.number < q.number))

-- each is ahead of those behind it
abbrev pub IsInOrder : List Placed → Type 0
IsInOrder [] = Unit {0}
IsInOrder (a ∷ others) = ((b : Placed) → Among others b → IsAhead a.1 b.1) × IsInOrder others

-- The lists of the nodes: in order, of the node's own requests, and neither a place nor a number stands in them twice.
pub record IsKept (lists : List (List Placed)) : Type 0 where
  pub order : (i : ℕ) → IsInOrder (list_at lists i)
  pub home : (i : ℕ) (a : Placed) → Among (list_at lists i) a → a.1.node ≡ i
  pub places : (i j : ℕ) (a b : Placed) → Among (list_at lists i) a → Among (list_at lists j) b → a.0 ≡ b.0 → a ≡ b
  pub numbers : (i j : ℕ) (a b : Placed) → Among (list_at lists i) a → Among (list_at lists j) b → a.1.number ≡ b.1.number → a ≡ b

-- each number is below the next one
pub record AreBelow (next : ℕ) (lists : List (List Placed)) : Type 0 where
  pub each : (i : ℕ) (a : Placed) → Among (list_at lists i) a → a.1.number < next

-- what stands in a list from a place on
abbrev pub from_place : Option ℕ → List Placed → List Placed
from_place None list = []
from_place (Some place) [] = []
from_place (Some place) (a ∷ others) = if nat_eq place a.0 then a ∷ others else from_place (Some place) others

-- a walk through a list has come to a place, and so is what it passed
pub record HasCome (list : List Placed) (at : Option ℕ) (Passed : Request → Type 0) : Type 0 where
  pub behind : List Placed
  pub whole : list ≡ behind ++ from_place at list
  pub here : first_of (from_place at list) ≡ at
  pub passed : (a : Placed) → Among behind a → Passed a.1

-- the list has an entry at this place, and its request is so
pub record IsThere (list : List Placed) (place : ℕ) (Sought : Request → Type 0) : Type 0 where
  pub request : Request
  pub among : Among list (place, request)
  pub sought : Sought request
