-- A change of one member: where members rise, a write at its place is the change of each member of this node.
use Rattle.std.proofs.Common.{◌≡◌, ℕ, zero, suc, ◌+◌, ◌<◌, ◌≤◌, ◌==◌, Bool, true, false, if◌then◌else◌, List, [], ◌∷◌, Option, Some, None, map, filter, set, slice_get, get_or, length, arith, sym, refl, ap, ◌∙◌, subst}
use Rattle.std.specs.Prelude.{◌&&◌, ◌||◌}
use Rattle.std.specs.List.{list_any}
use Rattle.bus_specs.specs.Bus.{Member, member_is}
use Rattle.bus_specs.specs.Sound.{Rise}
use Rattle.std.proofs.lemmas.Option.{slice_get_read}
use Rattle.bus_medium.specs.Places.{Rising, changed}

differs : (a b : ℕ) → a < b → (b == a) ≡ false
differs a b l = grind arith

differs-back : (a b : ℕ) → a < b → (a == b) ≡ false
differs-back a b l = grind arith

itself : (a b : ℕ) → a ≡ b → (a == b) ≡ true
itself a b e = grind arith

changed-here : (change : Member → Member) (node : ℕ) (m : Member) → (m.node == node) ≡ true → changed node change m ≡ change m
changed-here change node m e = rw e refl

changed-not : (change : Member → Member) (node : ℕ) (m : Member) → (m.node == node) ≡ false → changed node change m ≡ m
changed-not change node m e = rw e refl

-- nodes from a higher one on
change-above : (change : Member → Member) (node from : ℕ) (ms : List Member) (last : ℕ) → Rise from (map (λ m. m.node) ms) last → node < from
    → map (changed node change) ms ≡ ms
change-above change node from [] last rise l = refl
change-above change node from (m ∷ ms) last rise l =
    let here : changed node change m ≡ m = changed-not change node m (differs node m.node (omega (arith, l, rise.0))) in
    let rest : map (changed node change) ms ≡ ms = change-above change node (m.node + 1) ms last rise.1 (omega (arith, l, rise.0)) in
    rw (here, rest) refl

members-above : (node from : ℕ) (ms : List Member) (last : ℕ) → Rise from (map (λ m. m.node) ms) last → node < from
    → filter (λ m. m.node == node) ms ≡ []
members-above node from [] last rise l = refl
members-above node from (m ∷ ms) last rise l =
    let here : (m.node == node) ≡ false = differs node m.node (omega (arith, l, rise.0)) in
    let rest : filter (λ x. x.node == node) ms ≡ [] = members-above node (m.node + 1) ms last rise.1 (omega (arith, l, rise.0)) in
    rw (here, rest) refl

node_or : Option Member → ℕ → ℕ
node_or None d = d
node_or (Some m) d = m.node

member_or : Option Member → Member → Member
member_or None d = d
member_or (Some m) d = m

-- the node at a place is no lower than the first
place-from : (from : ℕ) (ms : List Member) (last p : ℕ) (m : Member) → Rise from (map (λ m. m.node) ms) last → slice_get ms p ≡ Some m → from ≤ m.node
place-from from [] last p m rise at = absurd cc
place-from from (x ∷ ms) last zero m rise at = let e : x ≡ m = cc in omega (arith, rise.0, ap {B = ℕ} (λ (y : Member). y.node) e)
place-from from (x ∷ ms) last (suc p) m rise at =
    let l = place-from (x.node + 1) ms last p m rise.1 at in omega (arith, rise.0, l)

placed-from : (change : Member → Member) (from : ℕ) (ms : List Member) (last p : ℕ) (m : Member) → Rise from (map (λ m. m.node) ms) last
    → slice_get ms p ≡ Some m → set ms p (change m) ≡ map (changed m.node change) ms
placed-from change from [] last p m rise at = absurd cc
placed-from change from (x ∷ ms) last zero m rise at =
    let e : x ≡ m = cc in
    let n : x.node ≡ m.node = ap {B = ℕ} (λ (y : Member). y.node) e in
    let here : changed m.node change x ≡ change m = changed-here change m.node x (itself x.node m.node n) ∙ ap change e in
    let rest : map (changed m.node change) ms ≡ ms = change-above change m.node (x.node + 1) ms last rise.1 (omega (arith, n)) in
    rw (here, rest) refl
placed-from change from (x ∷ ms) last (suc p) m rise at =
    let l = place-from (x.node + 1) ms last p m rise.1 at in
    let here : changed m.node change x ≡ x = changed-not change m.node x (differs-back x.node m.node (omega (arith, l))) in
    let rest : set ms p (change m) ≡ map (changed m.node change) ms = placed-from change (x.node + 1) ms last p m rise.1 at in
    rw (here, rest) refl

pub placed : (change : Member → Member) (ms : List Member) (node p : ℕ) (m y : Member) → Rising ms → slice_get ms p ≡ Some m → m.node ≡ node
    → y ≡ change m → set ms p y ≡ map (changed node change) ms
placed change ms node p m y rising at n e =
    ap (set ms p) e ∙ placed-from change 0 ms rising.0 p m rising.1 at ∙ ap (λ k. map (changed k change) ms) n

-- a write of what indexing read, changed
pub written : (change : Member → Member) (ms : List Member) (node p : ℕ) (r y : Member) → Rising ms → p < length ms → r ≡ get_or ms p r
    → ((m : Member) → slice_get ms p ≡ Some m → m.node ≡ node) → y ≡ change r → set ms p y ≡ map (changed node change) ms
written change ms node p r y rising l is n e =
    let at : slice_get ms p ≡ Some r = slice_get_read ms (length ms) p r refl l is in
    placed change ms node p r y rising at (n r at) e

none-here : (t b : Bool) → ((t && true) || b) ≡ false → (t ≡ false) × (b ≡ false)
none-here true b h = absurd cc
none-here false b h = (refl, h)

pub unplaced : (change : Member → Member) (ms : List Member) (node : ℕ) → member_is (λ m. true) ms node ≡ false → map (changed node change) ms ≡ ms
unplaced change [] node h = refl
unplaced change (m ∷ ms) node h =
    let both = none-here (m.node == node) (member_is (λ m. true) ms node) h in
    let here : changed node change m ≡ m = changed-not change node m both.0 in
    let rest : map (changed node change) ms ≡ ms = unplaced change ms node both.1 in
    rw (here, rest) refl

pub unwritten : (change : Member → Member) (ms : List Member) (node : ℕ) → ((test : Member → Bool) → member_is test ms node ≡ false)
    → ms ≡ map (changed node change) ms
unwritten change ms node none = sym (unplaced change ms node (none (λ m. true)))

-- the members of a node: the one at its place, or none
found-from : (from : ℕ) (ms : List Member) (last p : ℕ) (m : Member) → Rise from (map (λ m. m.node) ms) last
    → slice_get ms p ≡ Some m → filter (λ x. x.node == m.node) ms ≡ m ∷ []
found-from from [] last p m rise at = absurd cc
found-from from (x ∷ ms) last zero m rise at =
    let e : x ≡ m = cc in
    let n : x.node ≡ m.node = ap {B = ℕ} (λ (y : Member). y.node) e in
    let here : (x.node == m.node) ≡ true = itself x.node m.node n in
    let rest : filter (λ y. y.node == m.node) ms ≡ [] = members-above m.node (x.node + 1) ms last rise.1 (omega (arith, n)) in
    rw (here, rest) (ap (λ y. y ∷ []) e)
found-from from (x ∷ ms) last (suc p) m rise at =
    let l = place-from (x.node + 1) ms last p m rise.1 at in
    let here : (x.node == m.node) ≡ false = differs-back x.node m.node (omega (arith, l)) in
    rw here (found-from (x.node + 1) ms last p m rise.1 at)

pub found-members : (ms : List Member) (node p : ℕ) (m : Member) → Rising ms → slice_get ms p ≡ Some m → m.node ≡ node
    → filter (λ x. x.node == node) ms ≡ m ∷ []
found-members ms node p m rising at n = subst (λ k. filter (λ x. x.node == k) ms ≡ m ∷ []) n (found-from 0 ms rising.0 p m rising.1 at)

pub missing-members : (ms : List Member) (node : ℕ) → member_is (λ m. true) ms node ≡ false → filter (λ m. m.node == node) ms ≡ []
missing-members [] node h = refl
missing-members (m ∷ ms) node h =
    let both = none-here (m.node == node) (member_is (λ m. true) ms node) h in
    let rest : filter (λ m. m.node == node) ms ≡ [] = missing-members ms node both.1 in
    rw (both.0, rest) refl

-- a test of the members of a node is a test of the node
pub any-members : (test : Member → Bool) (ms : List Member) (node : ℕ) → list_any test (filter (λ m. m.node == node) ms) ≡ member_is test ms node
any-members test [] node = refl
any-members test (m ∷ ms) node = go (m.node == node) (any-members test ms node)
  where
    go : (t : Bool) → list_any test (filter (λ m. m.node == node) ms) ≡ member_is test ms node
        → list_any test (if t then m ∷ filter (λ m. m.node == node) ms else filter (λ m. m.node == node) ms) ≡ ((t && test m) || member_is test ms node)
    go true e = ap (λ b. test m || b) e
    go false e = e
