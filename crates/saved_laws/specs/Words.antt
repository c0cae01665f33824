-- The words of the laws of saved states. Contracts cite this module.
use Rattle.std.specs.Prelude.{◌≡◌, ◌≤◌, ℕ, All, List, None, Some, slice_get}
use Rattle.wasm_types.specs.Modules.{NestedModule}
use Rattle.module_specs.specs.ModuleSpelling.{SpellsModule}
use Rattle.code_specs.specs.Instances.{first_misfit}
use Rattle.code_specs.specs.Validity.{IsValid}
use Rattle.session_specs.specs.Outcome.{Live}
use Rattle.binding_specs.specs.Guests.{Guest}
use Rattle.world_specs.specs.Units.{Given, Units}
use Rattle.saved_specs.specs.Fit.{IsSuited}

-- a module that a file spells, that is valid, and whose segments fit
pub record IsAccepted (m : NestedModule) : Type 0 where
  pub file : List ℕ
  pub spelled : SpellsModule m file
  pub valid : IsValid m
  pub fits : first_misfit m ≡ None

-- A session of a node, from its fresh guest or from one that is suited, leaves a guest that is suited where the node goes on.
pub record KeepsSuited (guests : List Guest) (u : Units Guest) : Type 0 where
  pub first : (node : ℕ) (fresh : Guest) (g : Given) → slice_get guests node ≡ Some fresh
      → ((u.session node g fresh).0).end ≡ Live → IsSuited fresh (u.session node g fresh).1
  pub later : (node : ℕ) (fresh s : Guest) (g : Given) → slice_get guests node ≡ Some fresh → IsSuited fresh s
      → ((u.session node g s).0).end ≡ Live → IsSuited fresh (u.session node g s).1
