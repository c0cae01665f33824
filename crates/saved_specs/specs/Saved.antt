-- What is saved of a network of guests: all of its state that its plan and its modules don't tell. Contracts cite this module.
use Rattle.std.specs.Prelude.{ℕ}
use Rattle.code_specs.specs.Stores.{Store}
use Rattle.binding_specs.specs.Guests.{Guest}
use Rattle.network_images.specs.Images.{NetworkImage, network_image}
use Rattle.world_specs.specs.World.{World}

-- a guest without its code: its area, its memory and its globals; it is in Step Mode
pub record GuestImage : Type 0 where
  pub area : ℕ
  pub store : Store

abbrev pub Saved : Type 0
Saved = NetworkImage GuestImage

-- ---- what is saved

abbrev pub guest_image : Guest → GuestImage
guest_image g = record { area = g.area; store = g.store }

abbrev pub saved_of : World Guest → Saved
saved_of w = network_image guest_image w
