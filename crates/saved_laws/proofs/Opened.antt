-- The network of a plan and its guests fits as it opens.
use Rattle.std.proofs.Common.{◌≡◌, ℕ, ◌+◌, ◌^◌, List, [], ◌∷◌, length, replicate, arith, refl}
use Rattle.std.proofs.lemmas.List.{length-replicate}
use Rattle.std.proofs.lemmas.List.Elements.{All-replicate}
use Rattle.run_specs.specs.Run.{behind}
use Rattle.session_specs.specs.Outcome.{Emission, DueChange, Keep}
use Rattle.session_specs.specs.Outcome as session
use Rattle.fmi_states.specs.Reply.{AreBytes}
use Rattle.bus_sound.proofs.Lists.{All-each}
use Rattle.binding_specs.specs.Guests.{Guest}
use Rattle.world_specs.specs.Units.{Units}
use Rattle.world_specs.specs.Plan.{Plan, IsPlan, NodePlan, new_nodes, opening_of}
use Rattle.world_specs.specs.Fits.{UnitsFit, IsSetBehind}
use Rattle.state_laws.specs.Words.{IsSetBy, SetsWithin, ChangesEach, clocks_in}
use Rattle.saved_specs.specs.Fit.{AreSuited, Fit}
use Rattle.saved_laws.proofs.Whole.{whole}

-- units that do nothing
module _ (p : Plan) where
  abbrev idle : Units Guest
  idle = record {
    session = λ node g s. (record { emitted = []; dues = replicate (clocks_in p node) Keep; end = session.Live }, s);
    close = λ node s. (session.Over, s);
  }

  idle-fits : UnitsFit idle
  idle-fits = record {
    clocks = λ node g s. All-replicate (IsSetBehind g.moment) (clocks_in p node) Keep tt;
    bytes = λ node g s. All-each (λ (e : Emission). AreBytes e.bytes) [] (λ e a. absurd a);
  }

  idle-sets : SetsWithin (2 ^ 62) idle
  idle-sets = record { clocks = λ node g s. All-replicate (IsSetBy (g.moment + 2 ^ 62)) (clocks_in p node) Keep tt }

  idle-changes : ChangesEach (clocks_in p) idle
  idle-changes = record { each = λ node g s. length-replicate (clocks_in p node) Keep }

fresh-suited : (place : ℕ) (ns : List NodePlan) (gs : List Guest) → length gs ≡ length ns → AreSuited gs (new_nodes place ns gs)
fresh-suited place [] [] e = tt
fresh-suited place [] (g ∷ gs) e = absurd (omega (arith, e))
fresh-suited place (n ∷ ns) [] e = absurd (omega (arith, e))
fresh-suited place (n ∷ ns) (g ∷ gs) e = (refl, fresh-suited (place + 1) ns gs (omega (arith, e)))

pub opened : (p : Plan) (guests : List Guest) → IsPlan p → length guests ≡ length p.nodes → Fit p guests (opening_of p guests)
unfolding behind
opened p guests plan same = whole (idle p) p guests 0 (idle-fits p) (idle-sets p) (idle-changes p) plan same (omega arith)
    (fresh-suited 0 p.nodes guests same)
