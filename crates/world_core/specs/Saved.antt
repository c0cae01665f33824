-- What is saved of a network without its units. Public clauses cite this file.
use Rattle.std.specs.Prelude.{ℕ, List, [], ◌∷◌, Option, drop, length, map, take}
use Rattle.bus_images.specs.Images.{bus_image}
use Rattle.network_images.specs.Images as model
use Rattle.network_images.specs.Images.{NetworkImage}
use Rattle.world_specs.specs.Plan.{NodePlan}
use Rattle.world_core.specs.Courses.{Course}
use Rattle.world_core.specs.declared.standing.Standing.{Standing}
use Rattle.world_core.specs.declared.standing.Standing.TheVariants.{New, Live, Down, Over}
use Rattle.world_core.specs.declared.image.NodeImage.{NodeImage}
use Rattle.world_core.specs.declared.image.NodeImage.TheVariants as code

-- of the unit of a live node nothing is saved here
abbrev pub Image : Type 0
Image = model.NodeImage (Unit {0})

-- a node's image of the code, as one of the definitions
abbrev pub image_of : NodeImage → Image
image_of code.New = model.New
image_of (code.Live last dues) = model.Live last dues.items tt
image_of code.Down = model.Down
image_of code.Over = model.Over

-- what is saved of a node, whose clocks these are
abbrev pub standing_image : Standing → List (Option ℕ) → Image
standing_image New clocks = model.New
standing_image (Live last) clocks = model.Live last clocks tt
standing_image Down clocks = model.Down
standing_image Over clocks = model.Over

-- of the nodes, the first of whose eight entries are those of their clocks
abbrev pub standing_images : List NodePlan → List Standing → List (Option ℕ) → List Image
standing_images (n ∷ ns) (t ∷ ts) cs = standing_image t (take (length n.description.countdown) cs) ∷ standing_images ns ts (drop 8 cs)
standing_images ns ts cs = []

abbrev pub course_image : Course → NetworkImage (Unit {0})
course_image c = record {
  events = c.events;
  now = c.now;
  buses = map bus_image c.buses;
  nodes = standing_images c.plan.nodes c.standings c.clocks;
}
