-- A node looked up by its place: where members rise, a test of the node is a test of the member at that place.
use Rattle.std.proofs.Common.{◌≡◌, ◌<◌, ◌≤◌, ◌⊎◌, ℕ, ◌==◌, Bool, true, false, List, Option, Some, None, IfSome, All, length, slice_get, get_or, inl, inr, arith, sym, refl, ap, ◌∙◌, subst}
use Rattle.std.specs.Prelude.{◌&&◌, position}
use Rattle.std.specs.List.{position_or_len}
use Rattle.std.proofs.lemmas.Bool.{both_ways, false_from_ne_true, and_parts, eqb-true, false≢true}
use Rattle.std.proofs.lemmas.Grind.{common_steps}
use Rattle.std.proofs.lemmas.List.Sums.{fails_before_first}
use Rattle.std.proofs.lemmas.List.Quantifiers.{position-Some}
use Rattle.std.proofs.lemmas.Option.{slice_get_within, slice_get_cases, get_or_from_slice_get}
use Rattle.bus_specs.specs.Bus.{Member, member_is, new_member}
use Rattle.bus_sound.proofs.Among.{Among, among-Contains}
use Rattle.bus_sound.proofs.Lists.{each-All, any_to}
use Rattle.bus_sound.proofs.Members.{is_from, is_at}
use Rattle.bus_medium.specs.Places as places
use Rattle.bus_medium.specs.Places.{Rising, holds}

pub at-among : {X : Type 0} (xs : List X) (p : ℕ) (x : X) → slice_get xs p ≡ Some x → Among xs x
at-among xs p x e = among-Contains xs x (p, slice_get_within xs p x e, get_or_from_slice_get xs p x x e)

pub found-test : (test : Member → Bool) (ms : List Member) (node p : ℕ) (m : Member) → Rising ms → slice_get ms p ≡ Some m → m.node ≡ node
    → member_is test ms node ≡ places.is_at test ms (Some p)
found-test test ms node p m rising e n = go (test m) refl ∙ sym (ap (holds test) e)
  where
    go : (b : Bool) → test m ≡ b → member_is test ms node ≡ test m
    go true t = is_from test ms m node (at-among ms p m e) n t ∙ sym t
    go false t = false_from_ne_true (member_is test ms node) (λ h. both_ways (test m) t
        (is_at test ms m rising.0 rising.1 (at-among ms p m e) (subst (λ k. member_is test ms k ≡ true) (sym n) h))) ∙ sym t

pub missing-test : (test : Member → Bool) (ms : List Member) (node : ℕ) → All (λ m. (m.node == node) ≡ false) ms
    → member_is test ms node ≡ false
missing-test test ms node all = false_from_ne_true (member_is test ms node) (λ h.
    let r = any_to (λ m. (m.node == node) && test m) ms h in
    let both = and_parts ((r.0).node == node) (test r.0) r.2 in
    both_ways ((r.0).node == node) (each-All (λ m. (m.node == node) ≡ false) ms r.0 all r.1) both.0)

-- a member at a place
pub record Placed (ms : List Member) (p node : ℕ) : Type 0 where
  pub member : Member
  pub found : slice_get ms p ≡ Some member
  pub node_is : member.node ≡ node

abbrev pub has_node : ℕ → Member → Bool
has_node node m = m.node == node

pub there : (ms : List Member) (p node : ℕ) → holds (has_node node) (slice_get ms p) ≡ true → Placed ms p node
there ms p node h = go (slice_get ms p) refl h
  where
    go : (o : Option Member) → slice_get ms p ≡ o → holds (has_node node) o ≡ true → Placed ms p node
    go None e t = absurd (false≢true t)
    go (Some m) e t = record { member = m; found = e; node_is = eqb-true m.node node t }

pub there-test : (ms : List Member) (p node : ℕ) → Rising ms → holds (has_node node) (slice_get ms p) ≡ true
    → (test : Member → Bool) → member_is test ms node ≡ places.is_at test ms (Some p)
there-test ms p node rising h test = let t = there ms p node h in found-test test ms node p t.member rising t.found t.node_is

pub first : (ms : List Member) (p node : ℕ) → position (has_node node) ms ≡ Some p → Placed ms p node
first ms p node e = go (slice_get_cases ms p).1
  where
    go : ((m : Member) × (p < length ms) × (slice_get ms p ≡ Some m) × (get_or ms p m ≡ m)) ⊎ ((length ms ≤ p) × (slice_get ms p ≡ None)) → Placed ms p node
    go (inl f) = record {
      member = f.0;
      found = f.2;
      node_is = eqb-true (f.0).node node (ap (has_node node) (sym f.3) ∙ (position-Some (has_node node) ms p f.0 e).1);
    }
    go (inr past) = absurd (omega (arith, past.0, (position-Some (has_node node) ms p (new_member 0) e).0))

none-before : (ms : List Member) (node : ℕ) → position (has_node node) ms ≡ None → length ms ≤ position_or_len (has_node node) ms
none-before ms node e = grind (arith, common_steps)

pub first-test : (ms : List Member) (node : ℕ) → Rising ms → (o : Option ℕ) → o ≡ position (has_node node) ms
    → (test : Member → Bool) → member_is test ms node ≡ places.is_at test ms o
first-test ms node rising None e test = missing-test test ms node (λ k d l.
    let far : length ms ≤ position_or_len (has_node node) ms = none-before ms node (sym e) in
    fails_before_first (has_node node) ms k d (omega arith))
first-test ms node rising (Some p) e test = let t = first ms p node (sym e) in found-test test ms node p t.member rising t.found t.node_is

pub first-node : (ms : List Member) (node : ℕ) (o : Option ℕ) → o ≡ position (has_node node) ms
    → IfSome o (λ p. (m : Member) → slice_get ms p ≡ Some m → m.node ≡ node)
first-node ms node None e = tt
first-node ms node (Some p) e = λ m at. (let t = first ms p node (sym e) in let s : t.member ≡ m = cc (t.found, at) in ap (λ x. x.node) (sym s) ∙ t.node_is)
