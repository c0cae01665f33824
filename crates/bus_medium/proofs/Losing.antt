-- What is taken down of those that lose is what the definitions say.
use Rattle.std.proofs.Common.{◌≡◌, ℕ, List, [], ◌∷◌, Bool, true, false, map, refl}
use Rattle.std.specs.Prelude.{◌==◌}
use Rattle.bus_specs.specs.Bus.{Request}
use Rattle.bus_specs.specs.Start.{lost_id, is_gone}
use Rattle.bus_medium.specs.Losers.{gone_of, gone_id, is_among_gone}

pub gone_id-is : (rs : List Request) (node : ℕ) → gone_id (map gone_of rs) node ≡ lost_id rs node
gone_id-is [] node = refl
gone_id-is (r ∷ rs) node = go (r.node == node) refl (gone_id-is rs node)
  where
    go : (b : Bool) → (r.node == node) ≡ b → gone_id (map gone_of rs) node ≡ lost_id rs node → gone_id (map gone_of (r ∷ rs)) node ≡ lost_id (r ∷ rs) node
    go true e rest = rw e refl
    go false e rest = rw e rest

pub is_among_gone-is : (rs : List Request) (q : Request) → is_among_gone (map gone_of rs) q ≡ is_gone rs q
is_among_gone-is [] q = refl
is_among_gone-is (r ∷ rs) q = rw (is_among_gone-is rs q) refl
