-- The parts of a line: its moment, its bus, its node, and its words behind these.
use Rattle.std.specs.Prelude.{ℕ, List, [], ◌∷◌, ◌++◌, Option, Some, None, decimal, codes}
use Rattle.log_specs.specs.Line.{Line, On, Down, Over, End, said, cause_text}

abbrev pub moment_of : Line → Option ℕ
moment_of (On t b n told) = Some t
moment_of (Down t n cause) = Some t
moment_of (Over t n) = Some t
moment_of (End status events) = None

abbrev pub bus_of : Line → Option ℕ
bus_of (On t b n told) = Some b
bus_of (Down t n cause) = None
bus_of (Over t n) = None
bus_of (End status events) = None

abbrev pub node_of : Line → Option ℕ
node_of (On t b n told) = Some n
node_of (Down t n cause) = Some n
node_of (Over t n) = Some n
node_of (End status events) = None

-- the word that says what the line tells
abbrev pub verb_of : Line → List ℕ
verb_of (On t b n told) = let s = said told in s.0
verb_of (Down t n cause) = codes "down"
verb_of (Over t n) = codes "over"
verb_of (End status events) = codes "end"

-- the words behind the node, or behind the word end
abbrev pub rest_of : Line → List (List ℕ)
rest_of (On t b n told) = let s = said told in s.1
rest_of (Down t n cause) = cause_text cause ∷ []
rest_of (Over t n) = []
rest_of (End status events) = decimal status ∷ decimal events ∷ []

-- a number, a dash for none
abbrev pub number_or_dash : Option ℕ → List ℕ
number_or_dash (Some n) = decimal n
number_or_dash None = codes "-"

-- each word behind a space
abbrev pub spaced : List (List ℕ) → List ℕ
spaced [] = []
spaced (w ∷ ws) = 32 ∷ w ++ spaced ws

-- the words up to the node, or the word end
abbrev pub head_of : Line → List ℕ
head_of (On t b n told) = let s = said told in decimal t ++ spaced (decimal b ∷ s.0 ∷ decimal n ∷ [])
head_of (Down t n cause) = decimal t ++ spaced (codes "-" ∷ codes "down" ∷ decimal n ∷ [])
head_of (Over t n) = decimal t ++ spaced (codes "-" ∷ codes "over" ∷ decimal n ∷ [])
head_of (End status events) = codes "end"
