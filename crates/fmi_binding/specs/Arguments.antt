-- The arguments of a function, as numbers.
use Rattle.std.specs.Prelude.{ℕ, List, [], ◌∷◌}
use Rattle.fmi_binding.specs.declared.arguments.Arguments.{Arguments}
use Rattle.fmi_binding.specs.declared.arguments.Arguments.TheVariants as arguments

abbrev pub numbers_of : Arguments → List ℕ
numbers_of arguments.Nothing = []
numbers_of (arguments.One number) = number ∷ []
numbers_of (arguments.Two first second) = first ∷ second ∷ []
