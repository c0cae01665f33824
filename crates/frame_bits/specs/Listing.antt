-- What listing keeps of the bits that were written.
use Rattle.std.specs.Prelude.{◌≡◌, Bool, List}
use Rattle.frame_specs.specs.Wire.{stuff_open}
use Rattle.frame_bits.specs.Counting.{Took}
use Rattle.frame_bits.specs.declared.listing.Lister.{Lister}

-- These bits went in, and are listed with their stuff bits.
pub record Lists (l : Lister) (bits : List Bool) : Type 0 where
  pub took : Took l.counter bits
  pub list_is : l.list.items ≡ stuff_open bits
