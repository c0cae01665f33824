-- The description that a file is, or its first refusal: the list of checks in the format's order.
use Rattle.std.specs.Prelude.{ℕ, Bool, List, length, Option, option_and_then, Result, Ok, nat_le, codes, bytes_eq, take}
use Rattle.toml.specs.Data.{Members}
use Rattle.document_specs.specs.Checks.{◌>>=◌, needs, needs_that}
use Rattle.document_specs.specs.Documents.{document, that, text, flag, table_at, identifier}
use Rattle.unit_specs.specs.Description.{Description}
use Rattle.description_specs.specs.declared.field.Field.TheVariants.{Size, Toml, FmiVersion, ModelName, InstantiationToken, CoSimulation, ModelIdentifier, HasEventMode}
use Rattle.description_specs.specs.Variables.{Refusal, refusal}
use Rattle.description_specs.specs.Clocks.{clocks_of, countdown_references}
use Rattle.description_specs.specs.Binaries.{binaries_of}
use Rattle.description_specs.specs.Terminals.{terminals_of}

-- a text that begins with 3.0
abbrev pub is_version : List ℕ → Bool
is_version s = bytes_eq (take 3 s) (codes "3.0")

abbrev pub version : List ℕ → Members → Option (List ℕ)
version key t = option_and_then (that is_version) (text key t)

-- the identifier, and what stands before the clocks
unfoldable pub head_of : Members → Result (List ℕ) Refusal
head_of t = do
  fmi ← needs (refusal FmiVersion 0) (version (codes "fmiVersion") t)
  model ← needs (refusal ModelName 0) (text (codes "modelName") t)
  token ← needs (refusal InstantiationToken 0) (text (codes "instantiationToken") t)
  unit ← needs (refusal CoSimulation 0) (table_at (codes "CoSimulation") t)
  name ← needs (refusal ModelIdentifier 0) (identifier (codes "modelIdentifier") unit)
  events ← needs (refusal HasEventMode 0) (flag (codes "hasEventMode") unit)
  on ← needs_that (refusal HasEventMode 0) events
  Ok name

-- the description that a document is
unfoldable pub description_in : Members → Result Description Refusal
description_in t = do
  name ← head_of t
  clocks ← clocks_of t
  binaries ← binaries_of clocks t
  terminals ← terminals_of binaries t
  Ok (record { identifier = name; countdown = countdown_references clocks; terminals = terminals })

-- how long a description may be, in bytes: 1 MiB
abbrev pub most_bytes : ℕ
most_bytes = 1048576

-- the description that these bytes are, or its first refusal
unfoldable pub description_of : List ℕ → Result Description Refusal
description_of bytes = do
  size ← needs_that (refusal Size most_bytes) (nat_le (length bytes) most_bytes)
  t ← needs (refusal Toml 0) (document bytes)
  description_in t
