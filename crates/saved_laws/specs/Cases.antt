-- A network of which the laws say something: the plan of two buses, whose two guests have a page of memory each.
use Rattle.std.specs.Prelude.{List, [], ◌∷◌, None}
use Rattle.wasm_types.specs.Modules.{NestedModule}
use Rattle.module_specs.specs.ModuleSpelling.{empty}
use Rattle.binding_specs.specs.Guests.{Guest}
use Rattle.binding_specs.specs.Answers.{fresh_guest}
use Rattle.world_laws.specs.Cases.{sensor, gateway, two_buses}

abbrev pub one_page : NestedModule
one_page = record empty { memories = record { min = 1; max = None } ∷ [] }

abbrev pub two_guests : List Guest
two_guests = fresh_guest one_page sensor two_buses.fuel ∷ fresh_guest one_page gateway two_buses.fuel ∷ []
