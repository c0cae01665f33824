-- A walk along one list in order.
use Rattle.std.proofs.Common.{◌≡◌, ◌≢◌, ◌⊎◌, ◌<◌, ◌+◌, ℕ, Bool, true, false, ◌||◌, cond, eqb, eqb-true, eq-eqb, List, [], ◌∷◌, ◌++◌, length}
use Rattle.std.proofs.Common.{Option}
use Rattle.std.proofs.Common.{Some, sym, refl, ap, ◌∙◌, subst, inl, inr, arith, append_assoc}
use Rattle.std.proofs.lemmas.Bool.{false_from_ne_true, both_ways}
use Rattle.bus_specs.specs.Bus.{Request}
use Rattle.index_list.specs.Many.{first_of, after_of, item_of, has, without, list_at, IsPlaced}
use Rattle.pending_frames.specs.Kept.{Placed, Among, IsAhead, IsInOrder, IsKept, HasCome, from_place}
use Rattle.pending_frames.proofs.Members.{in_append}

pub same_number : (n : ℕ) → eqb n n ≡ true
same_number n = eq-eqb n n refl

pub other_number : (m n : ℕ) → m ≢ n → eqb m n ≡ false
other_number m n h = false_from_ne_true (eqb m n) (λ t. h (eqb-true m n t))

pub ahead_of_none : (r : Request) → IsAhead r r → ⊥
ahead_of_none r (inl h) = absurd (omega arith)
ahead_of_none r (inr h) = let k = h.1 in absurd (omega arith)

-- a place names one entry of the list
abbrev pub NamesOne : List Placed → Type 0
NamesOne list = (a b : Placed) → Among list a → Among list b → a.0 ≡ b.0 → a ≡ b

pub later_ones : (a : Placed) (others : List Placed) → NamesOne (a ∷ others) → NamesOne others
later_ones a others one b c h k = one b c (inr h) (inr k)

-- no entry behind another has its place
pub not_again : (a : Placed) (others : List Placed) → IsInOrder (a ∷ others) → NamesOne (a ∷ others)
    → (b : Placed) → Among others b → b.0 ≢ a.0
not_again a others order one b h e =
    let s : b ≡ a = one b a (inr h) (inl refl) e in
    ahead_of_none a.1 (subst (λ (c : Placed). IsAhead a.1 c.1) s (order.0 b h))

pub has_among : (list : List Placed) (a : Placed) → Among list a → has a.0 list ≡ true
has_among [] a h = absurd h
has_among (b ∷ list) a (inl e) = rw (ap (λ (c : Placed). eqb c.0 b.0) e ∙ same_number b.0) refl
has_among (b ∷ list) a (inr h) = go (eqb a.0 b.0) (has_among list a h)
  where
    go : (q : Bool) → has a.0 list ≡ true → (q || has a.0 list) ≡ true
    go true k = refl
    go false k = k

pub is_placed : (lists : List (List Placed)) (i place : ℕ) (r : Request) → Among (list_at lists i) (place, r) → IsPlaced place lists
is_placed lists i place r h = record { list = i; here = has_among (list_at lists i) (place, r) h }

pub first_among : (list : List Placed) (place : ℕ) → first_of list ≡ Some place → (r : Request) × Among list (place, r)
first_among [] place e = absurd cc
first_among (a ∷ list) place e = let s : a.0 ≡ place = cc in (a.1, inl (ap (λ n. (n, a.1)) (sym s)))

-- what stands at a place that a walk comes to
pub record Stands (list : List Placed) (place : ℕ) : Type 0 where
  pub request : Request
  pub rest : List Placed
  pub from : from_place (Some place) list ≡ (place, request) ∷ rest
  pub next : from_place (first_of rest) list ≡ rest
  pub after : after_of place list ≡ first_of rest
  pub item : item_of place list ≡ Some request
  pub among : Among list (place, request)
  pub within : (b : Placed) → Among rest b → Among list b

next_first : (a : Placed) (rest : List Placed) → ((b : Placed) → Among rest b → b.0 ≢ a.0) → from_place (first_of rest) (a ∷ rest) ≡ rest
next_first a [] apart = refl
next_first a (b ∷ rest) apart = rw (other_number b.0 a.0 (apart b (inl refl)), same_number b.0) refl

next_later : (a : Placed) (others rest : List Placed) → ((b : Placed) → Among rest b → b.0 ≢ a.0)
    → from_place (first_of rest) others ≡ rest → from_place (first_of rest) (a ∷ others) ≡ rest
next_later a others [] apart e = refl
next_later a others (b ∷ rest) apart e = rw (other_number b.0 a.0 (apart b (inl refl))) e

pub from_first : (list : List Placed) → from_place (first_of list) list ≡ list
from_first [] = refl
from_first (a ∷ list) = rw (same_number a.0) refl

pub stands : (list : List Placed) (place : ℕ) → IsInOrder list → NamesOne list
    → first_of (from_place (Some place) list) ≡ Some place → Stands list place
stands [] place order one e = absurd cc
stands (a ∷ list) place order one e = go (eqb place a.0) refl e (stands list place order.1 (later_ones a list one))
  where
    here : eqb place a.0 ≡ true → Stands (a ∷ list) place
    here q =
        let s : place ≡ a.0 = eqb-true place a.0 q in record {
          request = a.1;
          rest = list;
          from = rw q (ap (λ n. (n, a.1) ∷ list) (sym s));
          next = next_first a list (not_again a list order one);
          after = rw q refl;
          item = rw q refl;
          among = inl (ap (λ n. (n, a.1)) s);
          within = λ b h. inr h;
        }

    there : eqb place a.0 ≡ false → Stands list place → Stands (a ∷ list) place
    there q h = record {
      request = h.request;
      rest = h.rest;
      from = rw q h.from;
      next = next_later a list h.rest (λ b k. not_again a list order one b (h.within b k)) h.next;
      after = rw q h.after;
      item = rw q h.item;
      among = inr h.among;
      within = λ b k. inr (h.within b k);
    }

    go : (q : Bool) → eqb place a.0 ≡ q → first_of (cond q (a ∷ list) (from_place (Some place) list)) ≡ Some place
        → (first_of (from_place (Some place) list) ≡ Some place → Stands list place) → Stands (a ∷ list) place
    go true q k on = here q
    go false q k on = there q (on k)

module _ (lists : List (List Placed)) (kept : IsKept lists) (i : ℕ) where
  pub names_one : NamesOne (list_at lists i)
  names_one a b h k e = kept.places i i a b h k e

  module _ (P : Request → Type 0) where
    pub standing : (place : ℕ) → HasCome (list_at lists i) (Some place) P → Stands (list_at lists i) place
    standing place h = stands (list_at lists i) place (kept.order i) names_one h.here

    pub placed_here : (place : ℕ) → HasCome (list_at lists i) (Some place) P → IsPlaced place lists
    placed_here place h = let s = standing place h in is_placed lists i place s.request s.among

    -- the item at the place is the request there
    pub request_is : (place : ℕ) (h : HasCome (list_at lists i) (Some place) P) (r : Request)
        → ((j : ℕ) → has place (list_at lists j) ≡ true → item_of place (list_at lists j) ≡ Some r) → (standing place h).request ≡ r
    request_is place h r e =
        let s = standing place h in
        let k = sym s.item ∙ e i (has_among (list_at lists i) (place, s.request) s.among) in cc

    following : (place : ℕ) (h : HasCome (list_at lists i) (Some place) P) (at : Option ℕ)
        → ((j : ℕ) → has place (list_at lists j) ≡ true → at ≡ after_of place (list_at lists j)) → at ≡ first_of (standing place h).rest
    following place h at e =
        let s = standing place h in e i (has_among (list_at lists i) (place, s.request) s.among) ∙ s.after

    pub goes_on : (place : ℕ) (h : HasCome (list_at lists i) (Some place) P) (at : Option ℕ) → P (standing place h).request
        → ((j : ℕ) → has place (list_at lists j) ≡ true → at ≡ after_of place (list_at lists j)) → HasCome (list_at lists i) at P
    goes_on place h at p e =
        let s = standing place h in
        let list = list_at lists i in
        let is = following place h at e in
        let from : from_place at list ≡ s.rest = ap (λ o. from_place o list) is ∙ s.next in record {
          behind = h.behind ++ (place, s.request) ∷ [];
          whole = h.whole ∙ (ap (λ l. h.behind ++ l) (s.from ∙ ap (λ l. (place, s.request) ∷ l) (sym from))
              ∙ sym (append_assoc h.behind ((place, s.request) ∷ []) (from_place at list)));
          here = ap (λ (l : List Placed). first_of l) from ∙ sym is;
          passed = λ a k. by a (in_append h.behind ((place, s.request) ∷ []) a k) s.request p;
        }
      where
        by : (a : Placed) {r : Request} → Among h.behind a ⊎ Among ((place, r) ∷ []) a → (q : Request) → P r → P a.1
        by a (inl k) q p = h.passed a k
        by a (inr (inl s)) q p = subst (λ (c : Placed). P c.1) (sym s) p
        by a (inr (inr k)) q p = absurd k

    pub nearer : (place : ℕ) (h : HasCome (list_at lists i) (Some place) P) (at : Option ℕ)
        → ((j : ℕ) → has place (list_at lists j) ≡ true → at ≡ after_of place (list_at lists j))
        → length (from_place at (list_at lists i)) < length (from_place (Some place) (list_at lists i))
    nearer place h at e =
        let s = standing place h in
        let list = list_at lists i in
        let from : from_place at list ≡ s.rest = ap (λ o. from_place o list) (following place h at e) ∙ s.next in
        rw (from, s.from) (omega arith)

-- what a list has without the entry of a place
pub in_without : (place : ℕ) (list : List Placed) (a : Placed) → Among (without place list) a → Among list a
in_without place [] a h = absurd h
in_without place (b ∷ list) a h = go (eqb place b.0) h (in_without place list a)
  where
    go : (q : Bool) → Among (cond q list (b ∷ without place list)) a → (Among (without place list) a → Among list a) → Among (b ∷ list) a
    go true k on = inr k
    go false (inl e) on = inl e
    go false (inr k) on = inr (on k)

pub without_keeps : (place : ℕ) (list : List Placed) (a : Placed) → Among list a → a.0 ≢ place → Among (without place list) a
without_keeps place [] a h n = absurd h
without_keeps place (b ∷ list) a h n = go (eqb place b.0) refl h (λ k. without_keeps place list a k n)
  where
    go : (q : Bool) → eqb place b.0 ≡ q → (a ≡ b) ⊎ Among list a → (Among list a → Among (without place list) a)
        → Among (cond q list (b ∷ without place list)) a
    go true t (inl e) on = absurd (n (ap (λ (c : Placed). c.0) e ∙ sym (eqb-true place b.0 t)))
    go true t (inr k) on = k
    go false t (inl e) on = inl e
    go false t (inr k) on = inr (on k)

pub without_place : (place : ℕ) (list : List Placed) → IsInOrder list → NamesOne list
    → (a : Placed) → Among (without place list) a → a.0 ≢ place
without_place place [] order one a h = absurd h
without_place place (b ∷ list) order one a h = go (eqb place b.0) refl h (without_place place list order.1 (later_ones b list one) a)
  where
    go : (q : Bool) → eqb place b.0 ≡ q → Among (cond q list (b ∷ without place list)) a
        → (Among (without place list) a → a.0 ≢ place) → a.0 ≢ place
    go true t k on = λ e. not_again b list order one a k (e ∙ eqb-true place b.0 t)
    go false t (inl e) on = λ s. both_ways (eqb place b.0) t (eq-eqb place b.0 (sym s ∙ ap (λ (c : Placed). c.0) e))
    go false t (inr k) on = on k

pub without_order : (place : ℕ) (list : List Placed) → IsInOrder list → IsInOrder (without place list)
without_order place [] order = tt
without_order place (b ∷ list) order = go (eqb place b.0) (without_order place list order.1)
  where
    go : (q : Bool) → IsInOrder (without place list) → IsInOrder (cond q list (b ∷ without place list))
    go true k = order.1
    go false k = ((λ c h. order.0 c (in_without place list c h)), k)

-- a place that isn't there takes nothing
pub without_none : (place : ℕ) (list : List Placed) → ((a : Placed) → Among list a → a.0 ≢ place) → without place list ≡ list
without_none place [] h = refl
without_none place (b ∷ list) h =
    rw (other_number place b.0 (λ e. h b (inl refl) (sym e))) (ap (λ l. b ∷ l) (without_none place list (λ a k. h a (inr k))))

pub without_length : (place : ℕ) (list : List Placed) (a : Placed) → Among list a → a.0 ≡ place
    → length (without place list) + 1 ≡ length list
without_length place [] a h e = absurd h
without_length place (b ∷ list) a h e = go (eqb place b.0) refl h (λ k. without_length place list a k e)
  where
    go : (q : Bool) → eqb place b.0 ≡ q → (a ≡ b) ⊎ Among list a → (Among list a → length (without place list) + 1 ≡ length list)
        → length (cond q list (b ∷ without place list)) + 1 ≡ length (b ∷ list)
    go true t k on = omega arith
    go false t (inl s) on = absurd (both_ways (eqb place b.0) t (eq-eqb place b.0 (sym e ∙ ap (λ (c : Placed). c.0) s)))
    go false t (inr k) on = let l = on k in omega arith

-- the item of a place is its request
item_in : (list : List Placed) (place : ℕ) (r : Request) → NamesOne list → Among list (place, r) → item_of place list ≡ Some r
item_in [] place r one h = absurd h
item_in (a ∷ list) place r one h = go (eqb place a.0) refl h (item_in list place r (later_ones a list one))
  where
    go : (q : Bool) → eqb place a.0 ≡ q → ((place, r) ≡ a) ⊎ Among list (place, r)
        → (Among list (place, r) → item_of place list ≡ Some r) → cond q (Some a.1) (item_of place list) ≡ Some r
    go true t k on = ap (λ (b : Placed). Some b.1) (one a (place, r) (inl refl) h (sym (eqb-true place a.0 t)))
    go false t (inl e) on = absurd (both_ways (eqb place a.0) t (eq-eqb place a.0 (ap (λ (b : Placed). b.0) e)))
    go false t (inr k) on = on k

pub placed_item : (lists : List (List Placed)) → IsKept lists → (node place : ℕ) (r : Request) → Among (list_at lists node) (place, r)
    → (q : Request) → ((j : ℕ) → has place (list_at lists j) ≡ true → item_of place (list_at lists j) ≡ Some q) → r ≡ q
placed_item lists kept node place r h q e =
    let list = list_at lists node in
    let k = sym (item_in list place r (names_one lists kept node) h) ∙ e node (has_among list (place, r) h) in cc
