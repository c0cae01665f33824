-- Tables as the code keeps them.
use Rattle.std.specs.Prelude.{ℕ, List, Option, map, refl}
use Rattle.std.specs.Coded.{Coded, code_by, coded×, coded_list, coded_option, coded_ℕ}

-- the page names of a table that is there, and how many have room
pub record Slot : Type 0 where
  pub names : Option (List ℕ)
  pub room : ℕ

abbrev pub slot_code : Coded Slot
slot_code = code_by (Option (List ℕ) × ℕ) (coded× (coded_option (coded_list coded_ℕ)) coded_ℕ) (λ s. (s.names, s.room))
    (λ p. record { names = p.0; room = p.1 }) (λ _. refl)

abbrev pub names_of : List Slot → List (Option (List ℕ))
names_of slots = map (λ (s : Slot). s.names) slots

abbrev pub rooms_of : List Slot → List ℕ
rooms_of slots = map (λ (s : Slot). s.room) slots
