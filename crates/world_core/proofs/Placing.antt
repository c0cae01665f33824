-- The nodes of a network, place by place: what is read at a place, and what a change of it leaves.
use Rattle.std.proofs.Common.{◌≡◌, ◌≤◌, ◌+◌, ◌*◌, ℕ, zero, suc, List, [], ◌∷◌, All, take, drop, length, Option, Some, None, slice_get, slice_set, arith, refl, sym, ap, ◌∙◌, subst}
use Rattle.std.proofs.lemmas.List.{drop-take}
use Rattle.std.proofs.lemmas.List.Elements.{All-head, All-tail}
use Rattle.world_specs.specs.World.{Node}
use Rattle.world_specs.specs.Plan.{NodePlan}
use Rattle.world_core.specs.Courses.{nodes_from, standing_of}
use Rattle.world_core.specs.Kept.{AreUnset, Pairwise, unused}
use Rattle.world_core.specs.declared.standing.Standing.{Standing}

-- ---- lists

drop-zero : {X : Type 0} (xs : List X) → drop 0 xs ≡ xs
drop-zero xs = refl

pub drop-both : {X : Type 0} (m n : ℕ) (xs : List X) → drop n (drop m xs) ≡ drop (m + n) xs
drop-both zero n xs = let k : 0 + n ≡ n = omega arith in rw k refl
drop-both (suc m) n [] = let k : suc m + n ≡ suc (m + n) = omega arith in rw k (nothing n)
  where
    nothing : {X : Type 0} (n : ℕ) → drop {A = X} n [] ≡ []
    nothing zero = refl
    nothing (suc n) = refl
drop-both (suc m) n (x ∷ xs) = let k : suc m + n ≡ suc (m + n) = omega arith in rw k (drop-both m n xs)

pub take-less : {X : Type 0} (m n : ℕ) (xs ys : List X) → m ≤ n → take n xs ≡ take n ys → take m xs ≡ take m ys
take-less zero n xs ys l e = refl
take-less (suc m) zero xs ys l e = absurd (omega (arith, l))
take-less (suc m) (suc n) [] [] l e = refl
take-less (suc m) (suc n) [] (y ∷ ys) l e = absurd cc
take-less (suc m) (suc n) (x ∷ xs) [] l e = absurd cc
take-less (suc m) (suc n) (x ∷ xs) (y ∷ ys) l e =
    let h : x ≡ y = cc in
    let t : take n xs ≡ take n ys = cc in
    rw (h, take-less m n xs ys (omega (arith, l)) t) refl

-- the eight entries of a node
eights : (i : ℕ) → suc i * 8 ≡ 8 + i * 8
eights i = omega arith

-- ---- nodes

abbrev pub node_of : {S : Type 0} → ℕ → NodePlan → Standing → S → List (Option ℕ) → Node S
node_of number n t s cs = record { number = number; buses = n.buses; standing = standing_of t s (take (length n.description.countdown) cs) }

module _ {S : Type 0} where
  pub node-at : (p i : ℕ) (ns : List NodePlan) (ts : List Standing) (ss : List S) (cs : List (Option ℕ)) (n : NodePlan) (t : Standing) (s : S)
      → slice_get ns i ≡ Some n → slice_get ts i ≡ Some t → slice_get ss i ≡ Some s
      → slice_get (nodes_from p ns ts ss cs) i ≡ Some (node_of (p + i) n t s (drop (i * 8) cs))
  node-at p i [] ts ss cs n t s a b c = absurd cc
  node-at p i (n' ∷ ns) [] ss cs n t s a b c = absurd cc
  node-at p i (n' ∷ ns) (t' ∷ ts) [] cs n t s a b c = absurd cc
  node-at p zero (n' ∷ ns) (t' ∷ ts) (s' ∷ ss) cs n t s a b c =
      let x : n' ≡ n = cc in let y : t' ≡ t = cc in let z : s' ≡ s = cc in
      let k : p + 0 ≡ p = omega arith in
      rw (x, y, z, k) refl
  node-at p (suc i) (n' ∷ ns) (t' ∷ ts) (s' ∷ ss) cs n t s a b c =
      let k : (p + 1) + i ≡ p + suc i = omega arith in
      node-at (p + 1) i ns ts ss (drop 8 cs) n t s a b c
      ∙ ap (λ l. Some (node_of ((p + 1) + i) n t s l)) (drop-both 8 (i * 8) cs ∙ ap (λ m. drop m cs) (sym (eights i)))
      ∙ ap (λ m. Some (node_of m n t s (drop (suc i * 8) cs))) k

  pub node-set : (p i : ℕ) (ns : List NodePlan) (ts : List Standing) (ss : List S) (cs cs' : List (Option ℕ)) (n : NodePlan) (t : Standing) (s : S) (t' : Standing) (s' : S)
      → slice_get ns i ≡ Some n → slice_get ts i ≡ Some t → slice_get ss i ≡ Some s → All (λ m. length m.description.countdown ≤ 8) ns
      → take (i * 8) cs' ≡ take (i * 8) cs → drop (i * 8 + 8) cs' ≡ drop (i * 8 + 8) cs
      → nodes_from p ns (slice_set ts i t') (slice_set ss i s') cs' ≡ slice_set (nodes_from p ns ts ss cs) i (node_of (p + i) n t' s' (drop (i * 8) cs'))
  node-set p i [] ts ss cs cs' n t s t' s' a b c few f g = absurd cc
  node-set p i (m ∷ ns) [] ss cs cs' n t s t' s' a b c few f g = absurd cc
  node-set p i (m ∷ ns) (u ∷ ts) [] cs cs' n t s t' s' a b c few f g = absurd cc
  node-set p zero (m ∷ ns) (u ∷ ts) (v ∷ ss) cs cs' n t s t' s' a b c few f g =
      let x : m ≡ n = cc in
      let k : p + 0 ≡ p = omega arith in
      rw (x, k) (ap (λ l. node_of p n t' s' cs' ∷ nodes_from (p + 1) ns ts ss l) g)
  node-set p (suc i) (m ∷ ns) (u ∷ ts) (v ∷ ss) cs cs' n t s t' s' a b c few f g =
      let k : (p + 1) + i ≡ p + suc i = omega arith in
      let front : take (length m.description.countdown) cs' ≡ take (length m.description.countdown) cs =
      take-less (length m.description.countdown) (suc i * 8) cs' cs (let l = All-head (λ (m : NodePlan). length m.description.countdown ≤ 8) m ns few in omega (arith, l)) f in
      let back : take (i * 8) (drop 8 cs') ≡ take (i * 8) (drop 8 cs) =
      sym (drop-take 8 (i * 8) cs') ∙ ap (λ j. drop 8 (take j cs')) (sym (eights i)) ∙ ap (drop 8) f ∙ ap (λ j. drop 8 (take j cs)) (eights i) ∙ drop-take 8 (i * 8) cs in
      let ends : 8 + (i * 8 + 8) ≡ suc i * 8 + 8 = omega arith in
      let rest : drop (i * 8 + 8) (drop 8 cs') ≡ drop (i * 8 + 8) (drop 8 cs) =
      drop-both 8 (i * 8 + 8) cs' ∙ ap (λ j. drop j cs') ends ∙ g ∙ ap (λ j. drop j cs) (sym ends) ∙ sym (drop-both 8 (i * 8 + 8) cs) in
      ap (λ l. record { number = p; buses = m.buses; standing = standing_of u v l } ∷ nodes_from (p + 1) ns (slice_set ts i t') (slice_set ss i s') (drop 8 cs')) front
      ∙ ap (λ l. node_of p m u v cs ∷ l)
      (node-set (p + 1) i ns ts ss (drop 8 cs) (drop 8 cs') n t s t' s' a b c (All-tail (λ (m : NodePlan). length m.description.countdown ≤ 8) m ns few) back rest
      ∙ ap (λ l. slice_set (nodes_from (p + 1) ns ts ss (drop 8 cs)) i (node_of ((p + 1) + i) n t' s' l)) (drop-both 8 (i * 8) cs' ∙ ap (λ j. drop j cs') (sym (eights i)))
      ∙ ap (λ j. slice_set (nodes_from (p + 1) ns ts ss (drop 8 cs)) i (node_of j n t' s' (drop (suc i * 8) cs'))) k)

-- ---- entries that are no clocks

pub unset-at : (i : ℕ) (ns : List NodePlan) (ts : List Standing) (cs : List (Option ℕ)) (n : NodePlan) (t : Standing) → slice_get ns i ≡ Some n → slice_get ts i ≡ Some t
    → AreUnset ns ts cs → All (λ c. c ≡ None) (unused n t (take 8 (drop (i * 8) cs)))
unset-at i [] ts cs n t a b h = absurd cc
unset-at i (m ∷ ns) [] cs n t a b h = absurd cc
unset-at zero (m ∷ ns) (u ∷ ts) cs n t a b h =
    let x : m ≡ n = cc in let y : u ≡ t = cc in
    subst (λ k. All (λ c. c ≡ None) (unused k t (take 8 cs))) x (subst (λ k. All (λ c. c ≡ None) (unused m k (take 8 cs))) y h.0)
unset-at (suc i) (m ∷ ns) (u ∷ ts) cs n t a b h =
    subst (λ l. All (λ c. c ≡ None) (unused n t (take 8 l))) (drop-both 8 (i * 8) cs ∙ ap (λ j. drop j cs) (sym (eights i))) (unset-at i ns ts (drop 8 cs) n t a b h.1)

pub unset-set : (i : ℕ) (ns : List NodePlan) (ts : List Standing) (cs cs' : List (Option ℕ)) (n : NodePlan) (t : Standing) → slice_get ns i ≡ Some n
    → take (i * 8) cs' ≡ take (i * 8) cs → drop (i * 8 + 8) cs' ≡ drop (i * 8 + 8) cs → All (λ c. c ≡ None) (unused n t (take 8 (drop (i * 8) cs')))
    → AreUnset ns ts cs → AreUnset ns (slice_set ts i t) cs'
unset-set i [] ts cs cs' n t a f g own h = tt
unset-set i (m ∷ ns) [] cs cs' n t a f g own h = tt
unset-set zero (m ∷ ns) (u ∷ ts) cs cs' n t a f g own h =
    let x : m ≡ n = cc in
    (subst (λ k. All (λ c. c ≡ None) (unused k t (take 8 cs'))) (sym x) own, subst (AreUnset ns ts) (sym g) h.1)
unset-set (suc i) (m ∷ ns) (u ∷ ts) cs cs' n t a f g own h =
    let front : take 8 cs' ≡ take 8 cs = take-less 8 (suc i * 8) cs' cs (omega arith) f in
    let back : take (i * 8) (drop 8 cs') ≡ take (i * 8) (drop 8 cs) =
    sym (drop-take 8 (i * 8) cs') ∙ ap (λ j. drop 8 (take j cs')) (sym (eights i)) ∙ ap (drop 8) f ∙ ap (λ j. drop 8 (take j cs)) (eights i) ∙ drop-take 8 (i * 8) cs in
    let ends : 8 + (i * 8 + 8) ≡ suc i * 8 + 8 = omega arith in
    let rest : drop (i * 8 + 8) (drop 8 cs') ≡ drop (i * 8 + 8) (drop 8 cs) =
    drop-both 8 (i * 8 + 8) cs' ∙ ap (λ j. drop j cs') ends ∙ g ∙ ap (λ j. drop j cs) (sym ends) ∙ sym (drop-both 8 (i * 8 + 8) cs) in (
      subst (λ l. All (λ c. c ≡ None) (unused m u l)) (sym front) h.0,
      unset-set i ns ts (drop 8 cs) (drop 8 cs') n t a back rest
          (subst (λ l. All (λ c. c ≡ None) (unused n t (take 8 l))) (ap (λ j. drop j cs') (eights i) ∙ sym (drop-both 8 (i * 8) cs')) own) h.1,
    )

-- ---- one by one

pub pair-at : {X Y : Type 0} (P : X → Y → Type 0) (i : ℕ) (xs : List X) (ys : List Y) (x : X) (y : Y) → slice_get xs i ≡ Some x → slice_get ys i ≡ Some y → Pairwise P xs ys → P x y
pair-at P i [] ys x y a b h = absurd cc
pair-at P i (u ∷ xs) [] x y a b h = absurd h
pair-at P zero (u ∷ xs) (v ∷ ys) x y a b h = let p : u ≡ x = cc in let q : v ≡ y = cc in subst (λ k. P k y) p (subst (P u) q h.0)
pair-at P (suc i) (u ∷ xs) (v ∷ ys) x y a b h = pair-at P i xs ys x y a b h.1
