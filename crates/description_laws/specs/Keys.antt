-- Two documents that tell the same: at each key that is read the same stands in both.
use Rattle.std.specs.Prelude.{◌≡◌, ℕ, Bool, List, [], ◌∷◌, ◌++◌, Some, ◌⊎◌, codes}
use Rattle.std.specs.List.{list_any}
use Rattle.toml.specs.Data.{Data, array, table, Items, no_items, item, Members, get_member, same_key}

-- at each of these keys both have the same, or nothing
abbrev pub AgreeAt : List (List ℕ) → Members → Members → Type 0
AgreeAt [] t u = Unit {0}
AgreeAt (key ∷ keys) t u = (get_member key t ≡ get_member key u) × AgreeAt keys t u

-- both values are tables that agree at these keys
pub record TablesAgree (keys : List (List ℕ)) (d e : Data) : Type 0 where
  pub one : Members
  pub other : Members
  pub is_one : d ≡ table one
  pub is_other : e ≡ table other
  pub agree : AgreeAt keys one other

-- two rows that agree at these keys, or are the same value
abbrev pub RowAgrees : List (List ℕ) → Data → Data → Type 0
RowAgrees keys d e = (d ≡ e) ⊎ TablesAgree keys d e

-- as many rows in both, and each agrees
abbrev pub RowsAgree : List (List ℕ) → Items → Items → Type 0
RowsAgree keys no_items no_items = Unit {0}
RowsAgree keys no_items (item e es) = ⊥
RowsAgree keys (item d ds) no_items = ⊥
RowsAgree keys (item d ds) (item e es) = RowAgrees keys d e × RowsAgree keys ds es

-- at this key both have tables that agree at these keys
pub record HaveTables (keys : List (List ℕ)) (key : List ℕ) (t u : Members) : Type 0 where
  pub one : Data
  pub other : Data
  pub at_one : get_member key t ≡ Some one
  pub at_other : get_member key u ≡ Some other
  pub agree : TablesAgree keys one other

-- at this key both have arrays whose rows agree at these keys
pub record HaveRows (keys : List (List ℕ)) (key : List ℕ) (t u : Members) : Type 0 where
  pub one : Items
  pub other : Items
  pub at_one : get_member key t ≡ Some (array one)
  pub at_other : get_member key u ≡ Some (array other)
  pub agree : RowsAgree keys one other

abbrev pub SameTable : List (List ℕ) → List ℕ → Members → Members → Type 0
SameTable keys key t u = (get_member key t ≡ get_member key u) ⊎ HaveTables keys key t u

abbrev pub SameRows : List (List ℕ) → List ℕ → Members → Members → Type 0
SameRows keys key t u = (get_member key t ≡ get_member key u) ⊎ HaveRows keys key t u

-- the keys that are read: at the top, in the table of co-simulation, and in the rows of each array
abbrev pub head_keys : List (List ℕ)
head_keys = codes "fmiVersion" ∷ codes "modelName" ∷ codes "instantiationToken" ∷ []

abbrev pub unit_keys : List (List ℕ)
unit_keys = codes "modelIdentifier" ∷ codes "hasEventMode" ∷ []

abbrev pub clock_keys : List (List ℕ)
clock_keys = codes "name" ∷ codes "valueReference" ∷ codes "causality" ∷ codes "intervalVariability" ∷ []

abbrev pub binary_keys : List (List ℕ)
binary_keys = codes "name" ∷ codes "valueReference" ∷ codes "causality" ∷ codes "clocks" ∷ codes "maxSize" ∷ []

abbrev pub terminal_keys : List (List ℕ)
terminal_keys = codes "name" ∷ codes "Rx_Data" ∷ codes "Rx_Clock" ∷ codes "Tx_Data" ∷ codes "Tx_Clock" ∷ []

-- at each key that is read the same stands in both documents
pub record TellTheSame (t u : Members) : Type 0 where
  pub head : AgreeAt head_keys t u
  pub unit : SameTable unit_keys (codes "CoSimulation") t u
  pub clocks : SameRows clock_keys (codes "Clock") t u
  pub binaries : SameRows binary_keys (codes "Binary") t u
  pub terminals : SameRows terminal_keys (codes "Terminal") t u

-- a key that is read at the top
abbrev pub is_read : List ℕ → Bool
is_read key = list_any (λ known. same_key known key) (head_keys ++ codes "CoSimulation" ∷ codes "Clock" ∷ codes "Binary" ∷ codes "Terminal" ∷ [])
