-- What becomes of a request, read off the lines before it.
use Rattle.std.specs.Prelude.{◌≡◌, ◌≤◌, ◌<◌, ℕ, ◌==◌, Bool, true, false, List, ◌∷◌, ◌++◌, count_by}
use Rattle.frame_specs.specs.Frame.{Frame}
use Rattle.bus_specs.specs.Bus.{Setup}
use Rattle.log_specs.specs.Line.{Line, On, Req, Full, Drop}
use Rattle.log_laws.specs.Mirror.{Mirror, mirror, is_off, seen_is}

-- how many frames of a node wait
abbrev pub how_many : Mirror → ℕ → ℕ
how_many m node = count_by (λ w. w.node == node) m.waits

abbrev pub node_off : Mirror → ℕ → Bool
node_off m node = seen_is is_off m.nodes node

pub record HasRoom (m : Mirror) (node : ℕ) : Type 0 where
  pub on : node_off m node ≡ false
  pub fewer : how_many m node < 256

pub record IsFull (m : Mirror) (node : ℕ) : Type 0 where
  pub on : node_off m node ≡ false
  pub full : how_many m node ≡ 256

-- A request is accepted where fewer than 256 frames of its node wait, full where 256 do, and dropped where its node is off.
pub record RequestsFit (s : Setup) (nodes : List ℕ) (lines : List Line) : Type 0 where
  pub accepted : (before rest : List Line) (t bus node : ℕ) (f : Frame) → lines ≡ before ++ On t bus node (Req f) ∷ rest → HasRoom (mirror s nodes before) node
  pub full : (before rest : List Line) (t bus node : ℕ) (f : Frame) → lines ≡ before ++ On t bus node (Full f) ∷ rest → IsFull (mirror s nodes before) node
  pub dropped : (before rest : List Line) (t bus node : ℕ) (f : Frame) → lines ≡ before ++ On t bus node (Drop f) ∷ rest
      → node_off (mirror s nodes before) node ≡ true
  pub at_most : (before rest : List Line) (node : ℕ) → lines ≡ before ++ rest → how_many (mirror s nodes before) node ≤ 256
