-- Units that share a value.
use Rattle.std.specs.Prelude.{◌≡◌, ℕ, List, map, slice_get, Some}
use Rattle.fmi_states.specs.declared.ecu.Ecu.{Ghosts}
use Rattle.world_core.specs.Owners.{EachHasOneOwner}

module _ {E G S : Type 0} (g : Ghosts E G S) where
  -- the state of each
  abbrev pub states_of : List E → G → List S
  states_of es shared = map (λ e. g.state e shared) es

  -- the parts of each unit are in the shared value, and no part has two owners
  pub record AreApart (es : List E) (shared : G) : Type 0 where
    pub here : (place : ℕ) (e : E) → slice_get es place ≡ Some e → g.is_in e shared
    pub apart : EachHasOneOwner (map g.parts es)
