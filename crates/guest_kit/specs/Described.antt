-- The descriptions of guests (docs/DESCRIPTION.md).
use Rattle.std.specs.Prelude.{ℕ, ◌+◌, Bool, List, [], ◌∷◌, length, if◌then◌else◌, codes, nat_le, Result, Ok, Err}
use Rattle.unit_specs.specs.Description.{Description, Terminal}
use Rattle.description_specs.specs.declared.field.Field.TheVariants.{Size}
use Rattle.description_specs.specs.Variables.{Refusal, refusal}
use Rattle.description_specs.specs.Descriptions.{most_bytes}

-- a terminal of this name, whose variables stand from this reference on
abbrev pub terminal : List ℕ → ℕ → Terminal
terminal name first = record {
  name = name;
  rx_data = first + 1;
  tx_data = first + 3;
  rx_clock = first;
  tx_clock = first + 2;
  rx_max = 8192;
  tx_max = 8192;
}

abbrev pub terminals_of : Bool → List Terminal
terminals_of two = if two then terminal (codes "CAN0") 0 ∷ terminal (codes "CAN1") 4 ∷ [] else terminal (codes "CAN0") 0 ∷ []

-- of this identifier, with two terminals or one, and with or without the countdown clock 100
abbrev pub guest_description : List ℕ → Bool → Bool → Description
guest_description identifier two countdown = record {
  identifier = identifier;
  countdown = if countdown then 100 ∷ [] else [];
  terminals = terminals_of two;
}

-- that description, or the refusal of a text that is too long
abbrev pub described : List ℕ → Description → Result Description Refusal
described text d = if nat_le (length text) most_bytes then Ok d else Err (refusal Size most_bytes)
