-- Which frame a start is of, and when, read off the lines before it.
use Rattle.std.specs.Prelude.{◌≡◌, ◌≤◌, ◌<◌, ℕ, ◌+◌, ◌*◌, ◌==◌, ◌&&◌, Bool, true, List, [], ◌∷◌, ◌++◌, filter, flat_map, fold, None, if◌then◌else◌, nat_le}
use Rattle.frame_specs.specs.Frame.{Frame}
use Rattle.frame_specs.specs.Dominance.{beats}
use Rattle.operation_specs.specs.Operation.{Passive}
use Rattle.run_specs.specs.Order.{IsForemost}
use Rattle.bus_specs.specs.Bus.{Setup, is}
use Rattle.bus_specs.specs.Finish.{same_level}
use Rattle.bus_specs.specs.Waits.{Waiting}
use Rattle.log_specs.specs.Line.{Line, On, Down, Over, End, Start}
use Rattle.log_laws.specs.Mirror.{Seen, Mirror, mirror, takes_part, seen_is}

abbrev pub stronger : Waiting → Waiting → Bool
stronger v w = beats v.frame w.frame

-- from when on a node may start: a passive last sender 8 bits later
abbrev pub ready_from : Setup → Mirror → Seen → ℕ
ready_from s m x = m.idle + (if same_level x.level Passive && is x.node m.last_sender then 8 * s.nominal else 0)

abbrev pub able : Setup → Mirror → ℕ → Seen → Bool
able s m moment x = takes_part x && nat_le (ready_from s m x) moment

-- what waits of a node, in the order of its requests
abbrev pub of_node : List Waiting → ℕ → List Waiting
of_node ws node = filter (λ w. w.node == node) ws

-- what waits of the nodes able to start at this moment, in the order of the nodes
abbrev pub contenders : Setup → Mirror → ℕ → List Waiting
contenders s m moment = flat_map (λ x. of_node m.waits x.node) (filter (able s m moment) m.nodes)

-- Each start is of the foremost contender: none beats it, and it beats those of lower nodes, and the earlier ones of its own.
abbrev pub StartsAreForemost : Setup → List ℕ → List Line → Type 0
StartsAreForemost s nodes lines = (before rest : List Line) (t bus node : ℕ) (f : Frame) → lines ≡ before ++ On t bus node (Start f) ∷ rest
    → IsForemost stronger (contenders s (mirror s nodes before) t) (record { node = node; frame = f })

-- Each start is of a node that is awake and not off.
abbrev pub StartersTakePart : Setup → List ℕ → List Line → Type 0
StartersTakePart s nodes lines = (before rest : List Line) (t bus node : ℕ) (f : Frame) → lines ≡ before ++ On t bus node (Start f) ∷ rest
    → seen_is takes_part (mirror s nodes before).nodes node ≡ true

-- No frame starts while one runs, nor within the intermission behind it.
pub record IsFree (m : Mirror) (moment : ℕ) : Type 0 where
  pub running : m.running ≡ None
  pub idle : m.idle ≤ moment

abbrev pub StartsWhereFree : Setup → List ℕ → List Line → Type 0
StartsWhereFree s nodes lines = (before rest : List Line) (t bus node : ℕ) (f : Frame) → lines ≡ before ++ On t bus node (Start f) ∷ rest
    → IsFree (mirror s nodes before) t

-- the moment of the last line, 0 where there is none
abbrev pub moment_after : ℕ → Line → ℕ
moment_after last (On moment bus node told) = moment
moment_after last (Down moment node cause) = moment
moment_after last (Over moment node) = moment
moment_after last (End status events) = last

abbrev pub last_moment : List Line → ℕ
last_moment lines = fold moment_after 0 lines

-- From the last line on a frame couldn't have started earlier: nothing waited that was able to start.
pub record IsPrompt (s : Setup) (m : Mirror) (last moment : ℕ) : Type 0 where
  pub later : last ≤ moment
  pub not_before : (earlier : ℕ) → last ≤ earlier → earlier < moment → contenders s m earlier ≡ []

-- Each start is prompt.
abbrev pub StartsArePrompt : Setup → List ℕ → List Line → Type 0
StartsArePrompt s nodes lines = (before rest : List Line) (t bus node : ℕ) (f : Frame) → lines ≡ before ++ On t bus node (Start f) ∷ rest
    → IsPrompt s (mirror s nodes before) (last_moment before) t
