-- Worked descriptions, computed from their bytes on.
use Rattle.std.specs.Prelude.{◌≡◌, ℕ, List, [], ◌∷◌, ◌++◌, Ok, Err, codes, refl}
use Rattle.std.specs.Str.{is_utf8, chars}
use Rattle.toml.proofs.OnLiterals.{toml_on_literals}
use Rattle.document_specs.specs.Documents.{document}
use Rattle.unit_specs.specs.Description.{Description}
use Rattle.description_specs.specs.declared.field.Field.TheVariants.{Toml, HasEventMode, BinaryMaxSize}
use Rattle.description_specs.specs.Variables.{refusal}
use Rattle.description_specs.specs.Clocks.{clock_at, clocks_of}
use Rattle.description_specs.specs.Binaries.{binary_at, binaries_of}
use Rattle.description_specs.specs.Terminals.{terminal_at, terminals_of}
use Rattle.description_specs.specs.Descriptions.{description_of, description_in, head_of}

abbrev pub line : List ℕ → List ℕ
line text = text ++ 10 ∷ []

abbrev pub head : List ℕ → List ℕ
head event_mode = line (codes "fmiVersion = \"3.0\"") ++ line (codes "modelName = \"engine\"") ++ line (codes "instantiationToken = \"e1\"")
    ++ line (codes "[CoSimulation]") ++ line (codes "modelIdentifier = \"engine\"") ++ event_mode

abbrev pub clocks : List ℕ
clocks = line (codes "[[Clock]]") ++ line (codes "name = \"CAN.Rx_Clock\"") ++ line (codes "valueReference = 0") ++ line (codes "causality = \"input\"") ++ line (codes "intervalVariability = \"triggered\"")
    ++ line (codes "[[Clock]]") ++ line (codes "name = \"CAN.Tx_Clock\"") ++ line (codes "valueReference = 2") ++ line (codes "causality = \"output\"") ++ line (codes "intervalVariability = \"triggered\"")

abbrev pub binaries : List ℕ → List ℕ
binaries most = line (codes "[[Binary]]") ++ line (codes "name = \"CAN.Rx_Data\"") ++ line (codes "valueReference = 1") ++ line (codes "causality = \"input\"") ++ line (codes "clocks = [0]") ++ line most
    ++ line (codes "[[Binary]]") ++ line (codes "name = \"CAN.Tx_Data\"") ++ line (codes "valueReference = 3") ++ line (codes "causality = \"output\"") ++ line (codes "clocks = [2]") ++ line (codes "maxSize = 4096")

abbrev pub terminals : List ℕ
terminals = line (codes "[[Terminal]]") ++ line (codes "name = \"CAN\"") ++ line (codes "Rx_Data = 1") ++ line (codes "Rx_Clock = 0") ++ line (codes "Tx_Data = 3") ++ line (codes "Tx_Clock = 2")

abbrev pub engine_description : Description
engine_description = record {
  identifier = codes "engine";
  countdown = [];
  terminals = record { name = codes "CAN"; rx_data = 1; tx_data = 3; rx_clock = 0; tx_clock = 2; rx_max = 4096; tx_max = 4096 } ∷ [];
}

pub engine : description_of (head (line (codes "hasEventMode = true")) ++ clocks ++ binaries (codes "maxSize = 4096") ++ terminals) ≡ Ok engine_description
unfolding toml_on_literals is_utf8 chars document description_of description_in head_of clock_at binary_at terminal_at clocks_of binaries_of terminals_of
engine = refl

-- keys that aren't read, at the top, in a table and in a row
pub unknown_keys : description_of (line (codes "author = 7") ++ head (line (codes "hasEventMode = true") ++ line (codes "canGetAndSetFMUState = 0"))
    ++ clocks ++ line (codes "unit = []") ++ binaries (codes "maxSize = 4096") ++ terminals) ≡ Ok engine_description
unfolding toml_on_literals is_utf8 chars document description_of description_in head_of clock_at binary_at terminal_at clocks_of binaries_of terminals_of
unknown_keys = refl

pub no_event_mode : description_of (head [] ++ clocks ++ binaries (codes "maxSize = 4096") ++ terminals) ≡ Err (refusal HasEventMode 0)
unfolding toml_on_literals is_utf8 chars document description_of description_in head_of clock_at binary_at terminal_at clocks_of binaries_of terminals_of
no_event_mode = refl

pub small_data : description_of (head (line (codes "hasEventMode = true")) ++ clocks ++ binaries (codes "maxSize = 255") ++ terminals) ≡ Err (refusal BinaryMaxSize 0)
unfolding toml_on_literals is_utf8 chars document description_of description_in head_of clock_at binary_at terminal_at clocks_of binaries_of terminals_of
small_data = refl

-- a key that is given twice
pub key_twice : description_of (codes "a = 1\na = 2\n") ≡ Err (refusal Toml 0)
unfolding toml_on_literals is_utf8 chars document description_of
key_twice = refl

-- bytes that aren't UTF-8, here in a comment
pub no_text : description_of (35 ∷ 255 ∷ 10 ∷ []) ≡ Err (refusal Toml 0)
unfolding toml_on_literals is_utf8 chars document description_of
no_text = refl
