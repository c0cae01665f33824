-- Which row of an array a refusal names.
use Rattle.std.specs.Prelude.{◌≡◌, List, [], ◌∷◌, ◌++◌, length, Result, Ok, Err}
use Rattle.toml.specs.Data.{Members}
use Rattle.document_specs.specs.Checks.{each}
use Rattle.description_specs.specs.Variables.{Refusal}

-- a refusal among rows: those in front are accepted, the next is refused so, and the place is its position
pub record IsFirstRefusal {A : Type 0} (read : List A → Members → Result A Refusal) (rows : List Members) (e : Refusal) : Type 0 where
  pub front : List Members
  pub row : Members
  pub back : List Members
  pub before : List A
  pub all : rows ≡ front ++ row ∷ back
  pub accepted : each read [] front ≡ Ok before
  pub refused : read before row ≡ Err e
  pub place : e.place ≡ length front
