-- Pages that lose and get owners.
use Rattle.std.proofs.Common.{◌≡◌, ◌≢◌, ◌<◌, ◌≤◌, ◌+◌, ◌-◌, ◌^◌, ℕ, zero, suc, true, cond, List, [], ◌∷◌, ◌++◌, length, Some, get_or, set, nat_eq, nat_lt, refl, sym, ap, ◌∙◌, subst, arith, inl, inr, ◌⊎◌, map, take, ◌||◌, length-append}
use Rattle.std.specs.List.{count_by}
use Rattle.std.proofs.lemmas.Bool.Decides.{nat_tests}
use Rattle.std.proofs.lemmas.List.{get_or-set_same, get_or-set_other, get_or_default, get_or-map, length-map}
use Rattle.std.proofs.Math.ListN.{length-set}
use Rattle.std.proofs.lemmas.List.Sums.{sum_by-set, get_or-le-sum_by, sum_by_push, sum_by-cons, sum_by_more, sum_by-take-drop}
use Rattle.index_list.specs.Many.{Many, list_at, first_of, item_of, without, has}
use Rattle.page_pool.specs.Shared.{AreFree}
use Rattle.page_pool.specs.Kept.{AreKept, AreReady, free_of, used}
use Rattle.page_pool.proofs.Sound.{one_if, one_same, one_other, zero_or, past_end, same_nat}

some_inj : {A : Type 0} (x y : A) → Some x ≡ Some y → x ≡ y
some_inj x y e = cc

pub map_push : {X Y : Type 0} (f : X → Y) (xs : List X) (x : X) → map f (xs ++ x ∷ []) ≡ map f xs ++ f x ∷ []
map_push f [] x = refl
map_push f (y ∷ xs) x = ap (λ r. f y ∷ r) (map_push f xs x)

abbrev pub bit : ℕ → ℕ
bit x = cond (nat_lt 0 x) 1 0

pub bit_one : (x : ℕ) → 1 ≤ x → bit x ≡ 1
bit_one x h = let e : nat_lt 0 x ≡ true = grind (arith, nat_tests) in rw e refl

pub bit_zero : (x : ℕ) → x ≡ 0 → bit x ≡ 0
bit_zero x h = rw h refl

pub used_set : (owners : List ℕ) (page v : ℕ) → page < length owners
    → used (set owners page v) + bit (get_or owners page 0) ≡ used owners + bit v
used_set owners page v lt = sum_by-set bit owners page v 0 lt

pub used_some : (owners : List ℕ) (page : ℕ) → 1 ≤ get_or owners page 0 → page < length owners → 1 ≤ used owners
used_some owners page h lt = let a = get_or-le-sum_by bit owners page 0 lt in let b = bit_one (get_or owners page 0) h in
    omega (arith, a, b)

pub owner_within : (owners : List ℕ) (page : ℕ) → 1 ≤ get_or owners page 0 → page < length owners
owner_within owners page h = elim
    (split page (length owners)) [ inl lt ↦ lt | inr le ↦ let e = past_end owners page le in absurd (omega (arith, e, h)) ]
  where
    split : (a b : ℕ) → (a < b) ⊎ (b ≤ a)
    split a zero = inr (omega arith)
    split zero (suc b) = inl (omega arith)
    split (suc a) (suc b) = elim (split a b) [ inl lt ↦ inl (omega arith) | inr le ↦ inr (omega arith) ]

-- there is room for a page that loses its last owner
pub has_room : (owners : List ℕ) (free : Many ℕ) (live page : ℕ) → AreKept owners free live → 1 ≤ get_or owners page 0 → 0 < free.spare
has_room owners free live page k h = let a = used_some owners page h (owner_within owners page h) in omega (arith, a, k.room)

-- a page without an owner isn't this one
other_page : (owners : List ℕ) (page p : ℕ) → 1 ≤ get_or owners page 0 → get_or owners p 0 ≡ 0 → p ≢ page
other_page owners page p h z e = let w : get_or owners p 0 ≡ get_or owners page 0 = ap (λ i. get_or owners i 0) e in omega (arith, w, z, h)

pub released_some : (owners : List ℕ) (free : Many ℕ) (live page v : ℕ) → AreKept owners free live → 1 ≤ get_or owners page 0 → 1 ≤ v
    → AreKept (set owners page v) free live
released_some owners free live page v k h hv =
    let lt = owner_within owners page h in
    let u = used_set owners page v lt in
    let a = bit_one (get_or owners page 0) h in
    let b = bit_one v hv in
    record {
      list = record {
        once = k.list.once;
        unowned = λ p c. get_or-set_other owners page p v 0 (other_page owners page p h (k.list.unowned p c)) ∙ k.list.unowned p c;
        within = λ p c. let w = k.list.within p c in let l = length-set owners page v in omega (arith, w, l);
      };
      room = omega (arith, u, a, b, k.room);
      one = k.one;
      live_is = omega (arith, u, a, b, k.live_is);
      few = let l = length-set owners page v in let w = k.few in omega (arith, w, l);
    }

pub count_push : (p page : ℕ) (xs : List ℕ) → count_by (nat_eq p) (xs ++ page ∷ []) ≡ count_by (nat_eq p) xs + one_if p page
unfolding one_if
count_push p page xs = sum_by_push (λ y. cond (nat_eq p y) 1 0) xs page

pub released_last : (owners : List ℕ) (free free' : Many ℕ) (live live' page v place : ℕ) → AreKept owners free live
    → 1 ≤ get_or owners page 0 → v ≡ 0
    → free'.lists ≡ set free.lists 0 (list_at free.lists 0 ++ (place, page) ∷ []) → free'.spare + 1 ≡ free.spare → live' ≡ live - 1
    → AreKept (set owners page v) free' live'
released_last owners free free' live live' page v place k h hv hl hs hlive =
    let lt = owner_within owners page h in
    let u = used_set owners page v lt in
    let a = bit_one (get_or owners page 0) h in
    let b = bit_zero v hv in
    let one = k.one in
    let now : list_at free'.lists 0 ≡ list_at free.lists 0 ++ (place, page) ∷ [] = ap (λ l. list_at l 0) hl
    ∙ get_or-set_same free.lists 0 (list_at free.lists 0 ++ (place, page) ∷ []) [] (omega (arith, one)) in
    let list : free_of free' ≡ free_of free ++ page ∷ [] = ap (map (λ (e : ℕ × ℕ). e.1)) now
    ∙ map_push (λ (e : ℕ × ℕ). e.1) (list_at free.lists 0) (place, page) in
    let cnt : (p : ℕ) → count_by (nat_eq p) (free_of free') ≡ count_by (nat_eq p) (free_of free) + one_if p page = λ p. ap
    (count_by (nat_eq p)) list ∙ count_push p page (free_of free) in
    let not_in : (p : ℕ) → p ≡ page
    → count_by (nat_eq p) (free_of free) ≡ 0 = λ p e. small (count_by (nat_eq p) (free_of free))
    (λ c. other_page owners page p h (k.list.unowned p c) e) in
    record {
      list = record {
        once = λ p. elim (zero_or p page) [
          | inl e ↦ let x = cnt p in let y = not_in p e in let z : one_if p page ≡ 1 = ap (one_if p) (sym e) ∙ one_same p in
              omega (arith, x, y, z)
          | inr ne ↦ let x = cnt p in let z = one_other p page ne in let o = k.list.once p in omega (arith, x, z, o)
        ];
        unowned = λ p c. elim (zero_or p page) [
          | inl e ↦ ap (λ i. get_or (set owners page v) i 0) e ∙ get_or-set_same owners page v 0 lt ∙ hv
          | inr ne ↦ let x = cnt p in let z = one_other p page ne in
              get_or-set_other owners page p v 0 ne ∙ k.list.unowned p (omega (arith, x, z, c))
        ];
        within = λ p c. elim (zero_or p page) [
          | inl e ↦ let l = length-set owners page v in omega (arith, l, lt, e)
          | inr ne ↦ let x = cnt p in let z = one_other p page ne in let w = k.list.within p (omega (arith, x, z, c)) in
              let l = length-set owners page v in omega (arith, l, w)
        ];
      };
      room = omega (arith, u, a, b, k.room, hs);
      one = ap length hl ∙ length-set free.lists 0 (list_at free.lists 0 ++ (place, page) ∷ []) ∙ k.one;
      live_is = let us = used_some owners page h lt in omega (arith, u, a, b, us, k.live_is, hlive);
      few = let l = length-set owners page v in let w = k.few in omega (arith, w, l);
    }
  where
    small : (n : ℕ) → (1 ≤ n → ⊥) → n ≡ 0
    small zero f = refl
    small (suc n) f = absurd (f (omega arith))

-- the count of a number in the items so far
pub count_more : (p : ℕ) (xs : List ℕ) (i d : ℕ) → i < length xs
    → count_by (nat_eq p) (take (i + 1) xs) ≡ count_by (nat_eq p) (take i xs) + one_if p (get_or xs i d)
unfolding one_if
count_more p xs i d lt = sum_by_more (λ y. cond (nat_eq p y) 1 0) xs i d lt

pub count_part : (p : ℕ) (xs : List ℕ) (i : ℕ) → count_by (nat_eq p) (take i xs) ≤ count_by (nat_eq p) xs
count_part p xs i = let a = sum_by-take-drop (λ y. cond (nat_eq p y) 1 0) xs i in omega (arith, a)

-- one step down
pub step_down : (owners owners' : List ℕ) (page p : ℕ) → 1 ≤ get_or owners page 0 → owners' ≡ set owners page (get_or owners page 0 - 1)
    → get_or owners' p 0 + one_if p page ≡ get_or owners p 0
step_down owners owners' page p h e =
    ap (λ o. get_or o p 0 + one_if p page) e ∙ elim (zero_or p page) [
      | inl q ↦
          let a : one_if p page ≡ 1 = ap (one_if p) (sym q) ∙ one_same p in
          let b : get_or (set owners page (get_or owners page 0 - 1)) p 0 ≡ get_or owners page 0 - 1 = ap
          (λ i. get_or (set owners page (get_or owners page 0 - 1)) i 0) q
          ∙ get_or-set_same owners page (get_or owners page 0 - 1) 0 (owner_within owners page h) in
          let w : get_or owners p 0 ≡ get_or owners page 0 = ap (λ i. get_or owners i 0) q in
          omega (arith, a, b, w, h)
      | inr ne ↦
          let a = one_other p page ne in
          let b = get_or-set_other owners page p (get_or owners page 0 - 1) 0 ne in
          omega (arith, a, b)
    ]

pub step_up : (owners owners' : List ℕ) (page p : ℕ) → page < length owners → owners' ≡ set owners page (get_or owners page 0 + 1)
    → get_or owners' p 0 ≡ get_or owners p 0 + one_if p page
step_up owners owners' page p lt e =
    ap (λ o. get_or o p 0) e ∙ elim (zero_or p page) [
      | inl q ↦
          let a : one_if p page ≡ 1 = ap (one_if p) (sym q) ∙ one_same p in
          let b : get_or (set owners page (get_or owners page 0 + 1)) p 0 ≡ get_or owners page 0 + 1 = ap
          (λ i. get_or (set owners page (get_or owners page 0 + 1)) i 0) q
          ∙ get_or-set_same owners page (get_or owners page 0 + 1) 0 lt in
          let w : get_or owners p 0 ≡ get_or owners page 0 = ap (λ i. get_or owners i 0) q in
          omega (arith, a, b, w)
      | inr ne ↦
          let a = one_other p page ne in
          let b = get_or-set_other owners page p (get_or owners page 0 + 1) 0 ne in
          omega (arith, a, b)
    ]

pub owner_here : (owners : List ℕ) (page x : ℕ) → x ≡ get_or owners page x → 1 ≤ get_or owners page 0 → x ≡ get_or owners page 0
owner_here owners page x e h = e ∙ get_or_default owners page x 0 (owner_within owners page h)

-- the first free page, taken out of the list
first_split : (xs : List (ℕ × ℕ)) (place page : ℕ) → first_of xs ≡ Some place → item_of place xs ≡ Some page
    → map (λ (e : ℕ × ℕ). e.1) xs ≡ page ∷ map (λ (e : ℕ × ℕ). e.1) (without place xs)
first_split [] place page h k = absurd (cc)
first_split (e ∷ es) place page h k =
    let q : e.0 ≡ place = some_inj e.0 place h in
    let t : nat_eq place e.0 ≡ true = rw q (same_nat place) in
    let i : Some e.1 ≡ Some page = sym (ap (λ b. cond b (Some e.1) (item_of place es)) t) ∙ k in
    ap (λ x. x ∷ map (λ (e : ℕ × ℕ). e.1) es) (some_inj e.1 page i)
    ∙ ap (λ l. page ∷ map (λ (e : ℕ × ℕ). e.1) l) (sym (ap (λ b. cond b es (e ∷ without place es)) t))

pub readied : (owners : List ℕ) (free free' : Many ℕ) (live place page : ℕ) → AreKept owners free live
    → first_of (list_at free.lists 0) ≡ Some place → item_of place (list_at free.lists 0) ≡ Some page
    → free'.lists ≡ map (without place) free.lists → free'.spare ≡ free.spare + 1 → AreReady owners free' live page
readied owners free free' live place page k hf hi hl hs =
    let o = k.one in
    let now : list_at free'.lists 0 ≡ without place (list_at free.lists 0) = ap (λ l. list_at l 0) hl
    ∙ get_or-map (without place) free.lists 0 [] [] (omega (arith, o)) in
    let list : free_of free ≡ page ∷ free_of free' = first_split (list_at free.lists 0) place page hf hi
    ∙ ap (λ l. page ∷ map (λ (e : ℕ × ℕ). e.1) l) (sym now) in
    record {
      list = subst (AreFree owners) list k.list;
      room = let r = k.room in omega (arith, r, hs);
      one = ap length hl ∙ length-map free.lists (without place) ∙ k.one;
      live_is = k.live_is;
      few = k.few;
    }

pub has_first : (xs : List (ℕ × ℕ)) (place : ℕ) → first_of xs ≡ Some place → has place xs ≡ true
has_first [] place h = absurd (cc)
has_first (e ∷ es) place h = let q : e.0 ≡ place = some_inj e.0 place h in let t : nat_eq place e.0 ≡ true = rw q (same_nat place) in
    ap (λ b. b || has place es) t

-- a free page is a page, and fits its name
pub ready_small : (owners : List ℕ) (free : Many ℕ) (live page : ℕ) → AreReady owners free live page
    → (page < length owners) × (get_or owners page 0 ≡ 0)
ready_small owners free live page r =
    let a = sum_by-cons (λ y. cond (nat_eq page y) 1 0) page (free_of free) in
    let b : cond {A = ℕ} (nat_eq page page) 1 0 ≡ 1 = rw (same_nat page) refl in
    (r.list.within page (omega (arith, a, b)), r.list.unowned page (omega (arith, a, b)))

push_zero : (xs : List ℕ) (i : ℕ) → get_or (xs ++ 0 ∷ []) i 0 ≡ get_or xs i 0
push_zero [] zero = refl
push_zero [] (suc i) = refl
push_zero (x ∷ xs) zero = refl
push_zero (x ∷ xs) (suc i) = push_zero xs i

-- a new page without an owner
pub added : (owners owners' : List ℕ) (free free₁ free' : Many ℕ) (live page place : ℕ) → AreKept owners free live
    → free₁.lists ≡ free.lists → live + 1 ≤ free₁.spare → free'.lists ≡ set free₁.lists 0 (list_at free₁.lists 0 ++ (place, page) ∷ [])
    → free'.spare + 1 ≡ free₁.spare
    → owners' ≡ owners ++ 0 ∷ [] → page ≡ length owners → page + 1 < 2 ^ 32 → AreKept owners' free' live
added owners owners' free free₁ free' live page place k h1 hs1 hl hs ho hp small =
    let o = k.one in
    let one₁ : length free₁.lists ≡ 1 = ap length h1 ∙ k.one in
    let now : list_at free'.lists 0 ≡ list_at free.lists 0 ++ (place, page) ∷ [] = ap (λ l. list_at l 0) hl
    ∙ get_or-set_same free₁.lists 0 (list_at free₁.lists 0 ++ (place, page) ∷ []) [] (omega (arith, one₁))
    ∙ ap (λ l. list_at l 0 ++ (place, page) ∷ []) h1 in
    let list : free_of free' ≡ free_of free ++ page ∷ [] = ap (map (λ (e : ℕ × ℕ). e.1)) now
    ∙ map_push (λ (e : ℕ × ℕ). e.1) (list_at free.lists 0) (place, page) in
    let cnt : (p : ℕ) → count_by (nat_eq p) (free_of free') ≡ count_by (nat_eq p) (free_of free) + one_if p page = λ p. ap
    (count_by (nat_eq p)) list ∙ count_push p page (free_of free) in
    let len : length owners' ≡ length owners + 1 = ap length ho ∙ length-append owners (0 ∷ []) in
    let u : used owners' ≡ used owners + bit 0 = ap used ho ∙ sum_by_push bit owners 0 in
    let zero_at : (p : ℕ) → get_or owners' p 0 ≡ get_or owners p 0 = λ p. ap (λ l. get_or l p 0) ho ∙ push_zero owners p in
    let not_in : count_by (nat_eq page) (free_of free) ≡ 0 = none_of (count_by (nat_eq page) (free_of free))
    (λ c. let w = k.list.within page c in omega (arith, w, hp)) in
    record {
      list = record {
        once = λ p. elim (zero_or p page) [
          | inl e ↦ let x = cnt p in
              let y : count_by (nat_eq p) (free_of free) ≡ 0 = ap (λ z. count_by (nat_eq z) (free_of free)) e ∙ not_in in
              let z : one_if p page ≡ 1 = ap (one_if p) (sym e) ∙ one_same p in omega (arith, x, y, z)
          | inr ne ↦ let x = cnt p in let z = one_other p page ne in let w = k.list.once p in omega (arith, x, z, w)
        ];
        unowned = λ p c. elim (zero_or p page) [
          | inl e ↦ zero_at p ∙ ap (λ i. get_or owners i 0) e ∙ past_end owners page (omega (arith, hp))
          | inr ne ↦ let x = cnt p in let z = one_other p page ne in zero_at p ∙ k.list.unowned p (omega (arith, x, z, c))
        ];
        within = λ p c. elim (zero_or p page) [
          | inl e ↦ omega (arith, e, hp, len)
          | inr ne ↦ let x = cnt p in let z = one_other p page ne in let w = k.list.within p (omega (arith, x, z, c)) in
              omega (arith, w, len)
        ];
      };
      room = let r = k.live_is in let b : bit 0 ≡ 0 = refl in omega (arith, r, u, b, hs, hs1);
      one = ap length hl ∙ length-set free₁.lists 0 (list_at free₁.lists 0 ++ (place, page) ∷ []) ∙ one₁;
      live_is = let r = k.live_is in let b : bit 0 ≡ 0 = refl in omega (arith, r, u, b);
      few = omega (arith, len, hp, small);
    }
  where
    none_of : (n : ℕ) → (1 ≤ n → ⊥) → n ≡ 0
    none_of zero f = refl
    none_of (suc n) f = absurd (f (omega arith))
