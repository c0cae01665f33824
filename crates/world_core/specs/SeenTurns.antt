-- A turn of the code as one of the definitions. No public clause cites this file.
use Rattle.std.specs.Prelude.{ℕ, List, [], fold, if◌then◌else◌, map}
use Rattle.std.specs.List.{slice_index_or}
use Rattle.bus_specs.specs.Bus.{Bus}
use Rattle.bus_specs.specs.Inbox.{enter}
use Rattle.world_specs.specs.Plan.{NodePlan}
use Rattle.world_core.specs.Bare.{Bare, bare}
use Rattle.world_core.specs.declared.turns.Turn.{Turn}

abbrev pub seen_turn : List ℕ → Turn → Bare
seen_turn names x = bare x.node names x.is_new x.out

-- the buses that a node names
abbrev pub names_of : List NodePlan → ℕ → List ℕ
names_of plans node = slice_index_or (map (λ n. n.buses) plans) node []

abbrev pub seen : List NodePlan → Turn → Bare
seen plans x = seen_turn (names_of plans x.node) x

-- the new nodes enter
abbrev pub entered : List Bus → List Turn → List Bus
entered bs xs = fold (λ cs x. if x.is_new then map (λ b. enter b x.node) cs else cs) bs xs
