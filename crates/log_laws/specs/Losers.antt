-- Which nodes lose at a start, read off the lines before it.
use Rattle.std.specs.Prelude.{◌≡◌, ℕ, ◌==◌, Bool, true, false, not, List, [], ◌∷◌, ◌++◌, filter, filter_map, map, if◌then◌else◌}
use Rattle.std.specs.List.{list_any}
use Rattle.frame_specs.specs.Frame.{Frame}
use Rattle.run_specs.specs.Order.{foremost}
use Rattle.bus_specs.specs.Bus.{Setup}
use Rattle.bus_specs.specs.Waits.{Waiting, is_meant}
use Rattle.log_specs.specs.Line.{Line, On, Down, Over, End, Told, Start, LostKept, LostGone}
use Rattle.log_laws.specs.Mirror.{Mirror, mirror, seen_is}
use Rattle.log_laws.specs.Starts.{stronger, able, of_node}

abbrev pub tells_loss : Told → Bool
tells_loss (LostKept f) = true
tells_loss (LostGone f) = true
tells_loss other = false

abbrev pub tells_start : Told → Bool
tells_start (Start f) = true
tells_start other = false

abbrev pub is_loss : Line → Bool
is_loss (On moment bus node told) = tells_loss told
is_loss (Down moment node cause) = false
is_loss (Over moment node) = false
is_loss (End status events) = false

abbrev pub is_start : Line → Bool
is_start (On moment bus node told) = tells_start told
is_start (Down moment node cause) = false
is_start (Over moment node) = false
is_start (End status events) = false

-- the lines of losers that come first
abbrev pub losses : List Line → List Line
losses [] = []
losses (line ∷ rest) = if is_loss line then line ∷ losses rest else []

-- what each node able to start at this moment offers: the foremost that waits of it; by node
abbrev pub offers : Setup → Mirror → ℕ → List Waiting
offers s m moment = filter_map (λ x. foremost stronger (of_node m.waits x.node)) (filter (able s m moment) m.nodes)

abbrev pub loss_line : Mirror → ℕ → ℕ → Waiting → Line
loss_line m moment bus w = On moment bus w.node (if seen_is (λ x. x.discards) m.nodes w.node then LostGone w.frame else LostKept w.frame)

-- the lines of the nodes but the winner that offer a frame
abbrev pub losing : Setup → Mirror → ℕ → ℕ → ℕ → List Line
losing s m moment bus winner = map (loss_line m moment bus) (filter (λ w. not (w.node == winner)) (offers s m moment))

-- Directly behind each start stand the lines of its losers, and no other line of a loser.
abbrev pub LosersAreTold : Setup → List ℕ → List Line → Type 0
LosersAreTold s nodes lines = (before rest : List Line) (t bus node : ℕ) (f : Frame) → lines ≡ before ++ On t bus node (Start f) ∷ rest
    → losses rest ≡ losing s (mirror s nodes before) t bus node

abbrev pub loss_next : List Line → Bool
loss_next [] = false
loss_next (line ∷ rest) = is_loss line

-- Each line of a loser stands directly behind a start, or behind a further loser.
pub record LossesStandBehindStarts (lines : List Line) : Type 0 where
  pub first : loss_next lines ≡ false
  pub behind : (before rest : List Line) (line : Line) → lines ≡ before ++ line ∷ rest → is_start line ≡ false → is_loss line ≡ false → loss_next rest ≡ false

-- Each frame that is discarded waits.
abbrev pub DiscardedFramesWait : Setup → List ℕ → List Line → Type 0
DiscardedFramesWait s nodes lines = (before rest : List Line) (t bus node : ℕ) (f : Frame)
    → lines ≡ before ++ On t bus node (LostGone f) ∷ rest → list_any (is_meant node f) (mirror s nodes before).waits ≡ true
