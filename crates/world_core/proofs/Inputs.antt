-- What a called node's session is given is what a session may be given.
use Rattle.std.proofs.Common.{◌≡◌, ◌≤◌, ◌<◌, ◌+◌, ◌^◌, ◌||◌, ℕ, zero, suc, Bool, true, false, if◌then◌else◌, List, [], ◌∷◌, All, drop, length, map, take, get_or, Option, Some, None, slice_get, arith, refl, sym, ◌∙◌, subst, eq-eqb}
use Rattle.std.specs.Prelude.{◌==◌, slice_index}
use Rattle.std.specs.List.{list_any}
use Rattle.std.proofs.lemmas.List.{drop_more, length-map}
use Rattle.bus_specs.specs.Bus.{Bus}
use Rattle.bus_specs.specs.Inbox.{has_inbox}
use Rattle.bus_specs.specs.Sound.{Sound}
use Rattle.bus_sound.proofs.Boxed.{inbox-short}
use Rattle.session_specs.specs.Session.{is_sublist}
use Rattle.world_specs.specs.Plan.{NodePlan, IsNodePlan}
use Rattle.world_specs.specs.Sessions.{inbox_on, ticking_from, ticks}
use Rattle.world_laws.proofs.Lists.{all-map}
use Rattle.world_core.specs.Called.{call_of, input_at, ticked_of}
use Rattle.world_core.specs.Held.{LastIsBy}
use Rattle.world_core.specs.OnBuses.{AreNumbered}
use Rattle.world_core.specs.Sitting.{IsInput}
use Rattle.world_core.specs.declared.sessions.Call.{Call}
use Rattle.world_core.specs.declared.standing.Standing.{Standing}
use Rattle.world_core.specs.declared.standing.Standing.TheVariants.{New, Live, Down, Over}
use Rattle.world_core.proofs.Numbered.{all-at, inbox-at}

-- ---- the clocks that tick are clocks of the node, in order

sublist-step : (x z : ℕ) (zs rest : List ℕ) → (is_sublist zs rest ≡ true) → (is_sublist (z ∷ zs) rest ≡ true) → is_sublist (z ∷ zs) (x ∷ rest) ≡ true
sublist-step x z zs rest h k = go (z == x)
  where
    go : (q : Bool) → (if q then is_sublist zs rest else is_sublist (z ∷ zs) rest) ≡ true
    go true = h
    go false = k

none-of : (z : ℕ) (zs : List ℕ) → is_sublist (z ∷ zs) [] ≡ true → ⊥
none-of z zs e = cc

-- without its first, and with one more in front of the others
record Both (rest : List ℕ) : Type 0 where
  tail : (z : ℕ) (zs : List ℕ) → is_sublist (z ∷ zs) rest ≡ true → is_sublist zs rest ≡ true
  more : (x : ℕ) (zs : List ℕ) → is_sublist zs rest ≡ true → is_sublist zs (x ∷ rest) ≡ true

more-from : (rest : List ℕ) → ((z : ℕ) (zs : List ℕ) → is_sublist (z ∷ zs) rest ≡ true → is_sublist zs rest ≡ true)
    → (x : ℕ) (zs : List ℕ) → is_sublist zs rest ≡ true → is_sublist zs (x ∷ rest) ≡ true
more-from rest tail x [] h = refl
more-from rest tail x (z ∷ zs) h = sublist-step x z zs rest (tail z zs h) h

tail-from : (y : ℕ) (rest : List ℕ) → Both rest → (z : ℕ) (zs : List ℕ) → is_sublist (z ∷ zs) (y ∷ rest) ≡ true → is_sublist zs (y ∷ rest) ≡ true
tail-from y rest b z zs h = go (z == y) h
  where
    go : (q : Bool) → (if q then is_sublist zs rest else is_sublist (z ∷ zs) rest) ≡ true → is_sublist zs (y ∷ rest) ≡ true
    go true k = b.more y zs k
    go false k = b.more y zs (b.tail z zs k)

both : (rest : List ℕ) → Both rest
both [] = record { tail = λ z zs h. absurd (none-of z zs h); more = more-from [] (λ z zs h. absurd (none-of z zs h)) }
both (y ∷ rest) =
    let b = both rest in
    record { tail = tail-from y rest b; more = more-from (y ∷ rest) (tail-from y rest b) }

sublist-more : (x : ℕ) (zs rest : List ℕ) → is_sublist zs rest ≡ true → is_sublist zs (x ∷ rest) ≡ true
sublist-more x zs rest h = (both rest).more x zs h

ticked-from : (now : ℕ) (xs : List ℕ) (p : ℕ) (cs : List (Option ℕ)) → p + length cs ≤ length xs → is_sublist (map (slice_index xs) (ticking_from p now cs)) (drop p xs) ≡ true
ticked-from now xs p [] l = refl
ticked-from now xs p (c ∷ cs) l =
    let inside : p < length xs = omega (arith, l) in
    subst (λ ys. is_sublist (map (slice_index xs) (ticking_from p now (c ∷ cs))) ys ≡ true) (sym (drop_more xs p 0 inside))
    (go (ticks now c) (ticked-from now xs (p + 1) cs (omega (arith, l))))
  where
    go : (q : Bool) → is_sublist (map (slice_index xs) (ticking_from (p + 1) now cs)) (drop (p + 1) xs) ≡ true
        → is_sublist (map (slice_index xs) (if q then p ∷ ticking_from (p + 1) now cs else ticking_from (p + 1) now cs)) (get_or xs p 0 ∷ drop (p + 1) xs) ≡ true
    go true h = rw (eq-eqb (get_or xs p 0) (get_or xs p 0) refl) h
    go false h = sublist-more (get_or xs p 0) (map (slice_index xs) (ticking_from (p + 1) now cs)) (drop (p + 1) xs) h

short-front : {X : Type 0} (n : ℕ) (xs : List X) → length (take n xs) ≤ n
short-front zero xs = omega arith
short-front (suc n) [] = omega arith
short-front (suc n) (x ∷ xs) = let l = short-front n xs in omega (arith, l)

pub ticked-sublist : (now : ℕ) (n : NodePlan) (cs : List (Option ℕ)) → is_sublist (ticked_of now n (take (length n.description.countdown) cs)) n.description.countdown ≡ true
ticked-sublist now n cs = ticked-from now n.description.countdown 0 (take (length n.description.countdown) cs)
    (let l = short-front (length n.description.countdown) cs in omega (arith, l))

-- ---- what comes in is short

-- what stands at a place that is there
pub record At {X : Type 0} (xs : List X) (i : ℕ) : Type 0 where
  pub item : X
  pub here : slice_get xs i ≡ Some item

pub at-place : {X : Type 0} (xs : List X) (i : ℕ) → i < length xs → At xs i
at-place [] i l = absurd (omega (arith, l))
at-place (x ∷ xs) zero l = record { item = x; here = refl }
at-place (x ∷ xs) (suc i) l = let a = at-place xs i (omega (arith, l)) in record { item = a.item; here = a.here }

inbox-length : (bs : List Bus) (now node bus : ℕ) → AreNumbered bs → All Sound bs → bus < length bs → length (inbox_on bs now node bus) ≤ 175
inbox-length bs now node bus h s l =
    let a = at-place bs bus l in
    subst (λ bytes. length bytes ≤ 175) (inbox-at now node bus bs a.item h a.here) (inbox-short a.item now node (all-at Sound bs bus a.item s a.here))

module _ (bs : List Bus) (resolution now node : ℕ) (n : NodePlan) (numbered : AreNumbered bs) (sound : All Sound bs) (early : now ≤ 2 ^ 62) (plan : IsNodePlan (length bs) n) where
  input-is : (last : ℕ) (ticked : List ℕ) → last ≤ now → is_sublist ticked n.description.countdown ≡ true → IsInput n.description (input_at bs resolution now node n last ticked)
  input-is last ticked l t = record {
    since = l;
    early = early;
    ticked = t;
    each = length-map n.buses (inbox_on bs now node) ∙ plan.one_each;
    short = all-map (λ bus. bus < length bs) (λ bytes. length bytes ≤ 175) (inbox_on bs now node) n.buses (λ bus a k. inbox-length bs now node bus numbered sound k) plan.there;
  }

  pub call-input : (t : Standing) (cs : List (Option ℕ)) (call : Call) → LastIsBy now t → Some call ≡ call_of bs resolution now node n t cs → IsInput n.description call.input
  call-input New cs call l e =
      let made : Call = record { is_new = true; input = input_at bs resolution now node n 0 [] } in
      let same : call ≡ made = cc in
      subst (λ (c : Call). IsInput n.description c.input) (sym same) (input-is 0 [] (omega arith) refl)
  call-input (Live last) cs call l e = go (list_any (ticks now) (take (length n.description.countdown) cs) || list_any (λ b. has_inbox b now node) bs) e
    where
      go : (q : Bool) → Some call ≡ (if q then Some (record { is_new = false; input = input_at bs resolution now node n last (ticked_of now n (take (length n.description.countdown) cs)) }) else None) → IsInput n.description call.input
      go false e = absurd cc
      go true e =
          let made : Call = record { is_new = false; input = input_at bs resolution now node n last (ticked_of now n (take (length n.description.countdown) cs)) } in
          let same : call ≡ made = cc in
          subst (λ (c : Call). IsInput n.description c.input) (sym same) (input-is last (ticked_of now n (take (length n.description.countdown) cs)) l (ticked-sublist now n cs))
  call-input Down cs call l e = absurd cc
  call-input Over cs call l e = absurd cc
