-- Offers by the places of requests, one more request at a time; and what they are together.
use Rattle.std.proofs.Common.{◌≡◌, ◌<◌, ◌≤◌, ◌+◌, ℕ, zero, suc, List, [], ◌∷◌, ◌++◌, Bool, true, false, cond, Option, Some, None, map, set, slice_get, take, length, get_or, filter, filter_map, fold, ◌&&◌, ap, sym, ◌∙◌, arith, refl}
use Rattle.std.specs.Prelude.{◌==◌, if◌then◌else◌, is_some, option_to_list, nat_le}
use Rattle.std.specs.List.{cons_option}
use Rattle.std.proofs.lemmas.Bool.{or_parts}
use Rattle.std.proofs.lemmas.List.{map-set, take_more, length-map, get_or-map}
use Rattle.std.proofs.Math.ListN.{get_or-map as get_or-mapped}
use Rattle.std.proofs.lemmas.List.Elements.{filter-append}
use Rattle.std.proofs.lemmas.List.Sums.{fold-append}
use Rattle.std.proofs.lemmas.Option.{slice_get_within, get_or_from_slice_get}
use Rattle.frame_specs.specs.Dominance.{beats}
use Rattle.run_specs.specs.Order.{better_of}
use Rattle.bus_specs.specs.Bus.{Bus, Member, Request, offer, offers, has_request, takes_part, ready_moment, member_is}
use Rattle.bus_specs.specs.Sound.{Rise}
use Rattle.bus_sound.proofs.Members.{nodes_of}
use Rattle.bus_medium.specs.Offers.{request_at, offer_by, offers_of, somes, may_start}

abbrev pub before : Request → Request → Bool
before q r = beats q.frame r.frame

abbrev pub choose : Option Request → Request → Option Request
choose o r = better_of before o r

-- members that rise: what stands at a place is above what stands before it
placed-least : (from : ℕ) (ms : List Member) (below p : ℕ) (m : Member) → Rise from (nodes_of ms) below → slice_get ms p ≡ Some m → from ≤ m.node
placed-least from [] below p m up at = absurd cc
placed-least from (x ∷ ms) below zero m up at = let s : x ≡ m = cc in let n : x.node ≡ m.node = ap (λ (y : Member). y.node) s in omega (arith, up.0, n)
placed-least from (x ∷ ms) below (suc p) m up at = omega (arith, up.0, placed-least (x.node + 1) ms below p m up.1 at)

apart-low : (a b : ℕ) → a < b → (a == b) ≡ false
apart-low a b l = grind arith

apart-high : (a b : ℕ) → b < a → (a == b) ≡ false
apart-high a b l = grind arith

module _ {A : Type 0} (n : ℕ) (f g : Member → A) (elsewhere : (m : Member) → (m.node == n) ≡ false → g m ≡ f m) where
  -- behind the node nothing changes
  map-behind : (from : ℕ) (ms : List Member) (below : ℕ) → n < from → Rise from (nodes_of ms) below → map g ms ≡ map f ms
  map-behind from [] below l up = refl
  map-behind from (m ∷ ms) below l up =
      let one : g m ≡ f m = elsewhere m (apart-high m.node n (omega (arith, l, up.0))) in
      let rest : map g ms ≡ map f ms = map-behind (m.node + 1) ms below (omega (arith, l, up.0)) up.1 in
      rw (one, rest) refl

  -- a change at the place of the node
  map-placed : (from : ℕ) (ms : List Member) (below p : ℕ) (m : Member) → Rise from (nodes_of ms) below → slice_get ms p ≡ Some m → m.node ≡ n
      → set (map f ms) p (g m) ≡ map g ms
  map-placed from [] below p m up at e = refl
  map-placed from (x ∷ ms) below zero m up at e =
      let s : m ≡ x = cc in
      let lower : n < x.node + 1 = (let k : m.node ≡ x.node = ap (λ (y : Member). y.node) s in omega (arith, k, e)) in
      rw (s, map-behind (x.node + 1) ms below lower up.1) refl
  map-placed from (x ∷ ms) below (suc p) m up at e =
      let lower : x.node < n = omega (arith, placed-least (x.node + 1) ms below p m up.1 at, e) in
      let here : g x ≡ f x = elsewhere x (apart-low x.node n lower) in
      let rest : set (map f ms) p (g m) ≡ map g ms = map-placed (x.node + 1) ms below p m up.1 at e in
      rw (here, rest) refl

eq-sides : (a b : ℕ) (v : Bool) → (a == b) ≡ v → (b == a) ≡ v
eq-sides a b true h = grind arith
eq-sides a b false h = grind arith

filtered-one : (r : Request) (n : ℕ) (v : Bool) → (r.node == n) ≡ v → filter (λ q. q.node == n) (r ∷ []) ≡ (if v then r ∷ [] else [])
filtered-one r n true e = rw e refl
filtered-one r n false e = rw e refl

offer-push : (rs : List Request) (r : Request) (n : ℕ) → offer (rs ++ r ∷ []) n ≡ fold choose (offer rs n) (filter (λ q. q.node == n) (r ∷ []))
offer-push rs r n =
    ap (fold choose None) (filter-append (λ q. q.node == n) rs (r ∷ []))
    ∙ fold-append choose None (filter (λ q. q.node == n) rs) (filter (λ q. q.node == n) (r ∷ []))

-- another node's offer stays, and its own node chooses
offer-elsewhere : (rs : List Request) (r : Request) (n : ℕ) → (n == r.node) ≡ false → offer (rs ++ r ∷ []) n ≡ offer rs n
offer-elsewhere rs r n h =
    offer-push rs r n ∙ ap (fold choose (offer rs n)) (filtered-one r n false (eq-sides n r.node false h))

itself : (n : ℕ) → (n == n) ≡ true
itself n = grind arith

offer-here : (rs : List Request) (r : Request) → offer (rs ++ r ∷ []) r.node ≡ choose (offer rs r.node) r
offer-here rs r = offer-push rs r r.node ∙ ap (fold choose (offer rs r.node)) (filtered-one r r.node true (itself r.node))

taken-more : (all : List Request) (i : ℕ) (r : Request) → slice_get all i ≡ Some r → take (i + 1) all ≡ take i all ++ r ∷ []
taken-more all i r at = take_more all i r (slice_get_within all i r at) ∙ ap (λ x. take i all ++ x ∷ []) (get_or_from_slice_get all i r r at)

module _ (may : Member → Bool) where
  by-elsewhere : (rs : List Request) (r : Request) (m : Member) → (m.node == r.node) ≡ false → offer_by may (rs ++ r ∷ []) m ≡ offer_by may rs m
  by-elsewhere rs r m h = ap (λ o. if may m then o else None) (offer-elsewhere rs r m.node h)

  -- a request of a node that may not start changes nothing
  unless : (rs : List Request) (r : Request) (ms : List Member) → member_is may ms r.node ≡ false → offers_of may (rs ++ r ∷ []) ms ≡ offers_of may rs ms
  unless rs r [] h = refl
  unless rs r (m ∷ ms) h =
      let parts = or_parts ((m.node == r.node) && may m) (member_is may ms r.node) h in
      let rest : offers_of may (rs ++ r ∷ []) ms ≡ offers_of may rs ms = unless rs r ms parts.1 in
      go (m.node == r.node) (may m) refl refl parts.0 rest
    where
      go : (a b : Bool) → (m.node == r.node) ≡ a → may m ≡ b → ((m.node == r.node) && may m) ≡ false → offers_of may (rs ++ r ∷ []) ms ≡ offers_of may rs ms
          → offers_of may (rs ++ r ∷ []) (m ∷ ms) ≡ offers_of may rs (m ∷ ms)
      go false b e f k rest = let here : offer_by may (rs ++ r ∷ []) m ≡ offer_by may rs m = by-elsewhere rs r m e in rw (here, rest) refl
      go true false e f k rest = let here : offer_by may (rs ++ r ∷ []) m ≡ offer_by may rs m = rw f refl in rw (here, rest) refl
      go true true e f k rest = let no : true ≡ false = rw (e, f) at k in absurd cc

  pub passed : (all : List Request) (i : ℕ) (r : Request) (ms : List Member) → slice_get all i ≡ Some r
      → member_is may ms r.node ≡ false → offers_of may (take (i + 1) all) ms ≡ offers_of may (take i all) ms
  passed all i r ms at none = ap (λ rs. offers_of may rs ms) (taken-more all i r at) ∙ unless (take i all) r ms none

  pub within : (all : List Request) (os : List (Option ℕ)) (rs : List Request) (ms : List Member) (p : ℕ) (m : Member)
      → map (request_at all) os ≡ offers_of may rs ms → slice_get ms p ≡ Some m → p < length os
  within all os rs ms p m same at =
      omega (arith, slice_get_within ms p m at, ap length same, length-map os (request_at all), length-map ms (offer_by may rs))

  offered-at : (all : List Request) (os : List (Option ℕ)) (rs : List Request) (ms : List Member) (p : ℕ) (m : Member)
      → map (request_at all) os ≡ offers_of may rs ms → slice_get ms p ≡ Some m → request_at all (get_or os p None) ≡ offer_by may rs m
  offered-at all os rs ms p m same at =
      sym (get_or-mapped (request_at all) os p None)
      ∙ ap (λ l. get_or l p None) same
      ∙ get_or-map (offer_by may rs) ms p m None (slice_get_within ms p m at)
      ∙ ap (offer_by may rs) (get_or_from_slice_get ms p m m at)

  by-may : (rs : List Request) (m : Member) → may m ≡ true → offer_by may rs m ≡ offer rs m.node
  by-may rs m t = rw t refl

  by-here : (rs : List Request) (r : Request) (m : Member) → may m ≡ true → m.node ≡ r.node → offer_by may (rs ++ r ∷ []) m ≡ choose (offer_by may rs m) r
  by-here rs r m t e =
      by-may (rs ++ r ∷ []) m t ∙ ap (offer (rs ++ r ∷ [])) e ∙ offer-here rs r ∙ ap (λ n. choose (offer rs n) r) (sym e)
      ∙ ap (λ o. choose o r) (sym (by-may rs m t))

  pub considered : (all : List Request) (i p j : ℕ) (r : Request) (os : List (Option ℕ)) (ms : List Member) (m : Member) (below : ℕ)
      → Rise 0 (nodes_of ms) below → slice_get all i ≡ Some r → slice_get ms p ≡ Some m → m.node ≡ r.node → may m ≡ true
      → map (request_at all) os ≡ offers_of may (take i all) ms
      → slice_get all j ≡ choose (request_at all (get_or os p None)) r
      → map (request_at all) (set os p (Some j)) ≡ offers_of may (take (i + 1) all) ms
  considered all i p j r os ms m below up at here e t same chosen =
      let rs = take i all in
      map-set (request_at all) os p (Some j)
      ∙ ap (λ l. set l p (slice_get all j)) same
      ∙ ap (λ o. set (offers_of may rs ms) p o) chosen
      ∙ ap (λ o. set (offers_of may rs ms) p (choose o r)) (offered-at all os rs ms p m same here)
      ∙ ap (λ o. set (offers_of may rs ms) p o) (sym (by-here rs r m t e))
      ∙ map-placed r.node (offer_by may rs) (offer_by may (rs ++ r ∷ [])) (by-elsewhere rs r) 0 ms below p m up here e
      ∙ ap (λ l. offers_of may l ms) (sym (taken-more all i r at))

  offers-none : (m : Member) (b : Bool) → may m ≡ b → (None ≡ offer_by may [] m)
  offers-none m true e = rw e refl
  offers-none m false e = rw e refl

  -- at first nobody offers anything
  pub no-offers : (all : List Request) (ms : List Member) → map (request_at all) (map (λ m. None) ms) ≡ offers_of may [] ms
  no-offers all [] = refl
  no-offers all (m ∷ ms) =
      let here : None ≡ offer_by may [] m = offers-none m (may m) refl in
      let rest : map (request_at all) (map (λ m. None) ms) ≡ offers_of may [] ms = no-offers all ms in
      ap (λ os. None ∷ os) rest ∙ ap (λ o. o ∷ offers_of may [] ms) here

onto : (o best : Option Request) (os : List (Option Request))
    → fold choose (fold choose best (option_to_list o)) (somes os) ≡ fold choose best (somes (o ∷ os))
onto None best os = refl
onto (Some r) best os = refl

-- one more offer is looked at
pub one-more : (rs : List Request) (best result o : Option ℕ) (os : List (Option ℕ))
    → request_at rs result ≡ fold choose (request_at rs best) (option_to_list (request_at rs o))
    → fold choose (request_at rs result) (somes (map (request_at rs) os)) ≡ fold choose (request_at rs best) (somes (map (request_at rs) (o ∷ os)))
one-more rs best result o os e = rw e (onto (request_at rs o) (request_at rs best) (map (request_at rs) os))

some-best : (rs : List Request) (r : Request) → is_some (fold choose (Some r) rs) ≡ true
some-best [] r = refl
some-best (q ∷ rs) r = go (before q r) (some-best rs q) (some-best rs r)
  where
    go : (b : Bool) → is_some (fold choose (Some q) rs) ≡ true → is_some (fold choose (Some r) rs) ≡ true
        → is_some (fold choose (if b then Some q else Some r) rs) ≡ true
    go true h k = h
    go false h k = k

first-is : (r : Request) (rs : List Request) (n : ℕ) (b : Bool) → (r.node == n) ≡ b → is_some (offer rs n) ≡ has_request rs n
    → is_some (offer (r ∷ rs) n) ≡ has_request (r ∷ rs) n
first-is r rs n true e rest = rw e (some-best (filter (λ q. q.node == n) rs) r)
first-is r rs n false e rest = rw e rest

-- a node offers something exactly where it has a request
has-offer : (rs : List Request) (n : ℕ) → is_some (offer rs n) ≡ has_request rs n
has-offer [] n = refl
has-offer (r ∷ rs) n = first-is r rs n (r.node == n) refl (has-offer rs n)

and-false : (b : Bool) → (b && false) ≡ false
and-false true = refl
and-false false = refl

-- those that take part, have something and are ready, one after the other
module _ (f : Member → Option Request) (part has ready : Member → Bool) (same : (m : Member) → is_some (f m) ≡ has m) where
  abbrev kept : Member → Bool
  kept m = part m && has m && ready m

  abbrev by : Member → Option Request
  by m = if part m && ready m then f m else None

  one-kept : (m : Member) (ms : List Member) (a c : Bool) (o : Option Request) → f m ≡ o → is_some o ≡ has m
      → filter_map f (filter kept ms) ≡ somes (map by ms)
      → filter_map f (cond (a && has m && c) (m ∷ filter kept ms) (filter kept ms)) ≡ somes ((if a && c then o else None) ∷ map by ms)
  one-kept m ms true true None e h rest = rw (sym h) rest
  one-kept m ms true true (Some r) e h rest = rw (sym h) (ap (λ o. cons_option o (filter_map f (filter kept ms))) e ∙ ap (λ l. r ∷ l) rest)
  one-kept m ms true false o e h rest = rw (and-false (has m)) rest
  one-kept m ms false c o e h rest = rest

  all-kept : (ms : List Member) → filter_map f (filter kept ms) ≡ somes (map by ms)
  all-kept [] = refl
  all-kept (m ∷ ms) = one-kept m ms (part m) (ready m) (f m) refl (same m) (all-kept ms)

pub offers-are : (b : Bus) (now : ℕ) → somes (offers_of (may_start b now) b.requests b.members) ≡ offers b now
offers-are b now = sym (all-kept (λ m. offer b.requests m.node) takes_part (λ m. has_request b.requests m.node) (λ m. nat_le (ready_moment b m) now)
    (λ m. has-offer b.requests m.node) b.members)
