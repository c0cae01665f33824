-- Two network files that tell the same: at each key that is read the same stands in both.
use Rattle.std.specs.Prelude.{ℕ, Bool, List, [], ◌∷◌, ◌++◌, codes}
use Rattle.std.specs.List.{list_any}
use Rattle.toml.specs.Data.{Members, same_key}
use Rattle.description_laws.specs.Keys.{AgreeAt, SameRows}

-- the keys that are read: at the top, and in the rows of each array; in the table at bus of a node all keys are read
abbrev pub top_keys : List (List ℕ)
top_keys = codes "resolution" ∷ codes "stop" ∷ codes "events" ∷ codes "fuel" ∷ []

abbrev pub bus_keys : List (List ℕ)
bus_keys = codes "name" ∷ codes "rate" ∷ codes "fd_rate" ∷ []

abbrev pub node_keys : List (List ℕ)
node_keys = codes "name" ∷ codes "fmu" ∷ codes "bus" ∷ []

abbrev pub error_keys : List (List ℕ)
error_keys = codes "bus" ∷ codes "attempt" ∷ codes "count" ∷ codes "kind" ∷ codes "by" ∷ codes "bit" ∷ []

-- at each key that is read the same stands in both documents
pub record TellTheSame (t u : Members) : Type 0 where
  pub top : AgreeAt top_keys t u
  pub buses : SameRows bus_keys (codes "bus") t u
  pub nodes : SameRows node_keys (codes "node") t u
  pub errors : SameRows error_keys (codes "error") t u

-- a key that is read at the top
abbrev pub is_read : List ℕ → Bool
is_read key = list_any (λ known. same_key known key) (top_keys ++ codes "bus" ∷ codes "node" ∷ codes "error" ∷ [])
