-- Files that begin as a module does.
use Rattle.std.specs.Prelude.{◌≡◌, ℕ, ◌+◌, List, [], ◌∷◌, ◌++◌, Ok}
use Rattle.module_specs.specs.Spelling.{Here}
use Rattle.module_specs.specs.ModuleSpelling.{Section, Before, start, after, SpellsSections, magic, version}
use Rattle.module_specs.specs.Reading.{byte_at, u32_at}

-- the header, and these sections up to a place
pub record Begins (b : List ℕ) (xs : List Section) (at : ℕ) : Type 0 where
  pub header : Here b 0 (magic ++ version) 8
  pub text : List ℕ
  pub here : Here b 8 text at
  pub spelled : SpellsSections start xs text

-- a section's id and size stand at a place, and the size states this end
pub record StatesEnd (b : List ℕ) (at end : ℕ) : Type 0 where
  pub id : ℕ
  pub size : ℕ
  pub next : ℕ
  pub id_is : byte_at b at ≡ Ok (id, at + 1)
  pub size_is : u32_at b (at + 1) ≡ Ok (size, next)
  pub end_is : end ≡ next + size

-- what was read before the section behind these
abbrev pub after_all : List Section → Before → Before
after_all [] s = s
after_all (x ∷ xs) s = after_all xs (after x s)
