-- Lists of tables.
use Rattle.std.proofs.Common.{◌≡◌, ◌≢◌, ◌<◌, ◌≤◌, ◌+◌, ℕ, zero, suc, List, [], ◌∷◌, length, Option, None, Some, IsSome, get_or, set, refl, sym, ap, ◌∙◌, subst, arith, map, inl, inr, ◌⊎◌, Result, Ok, Err, OnOk}
use Rattle.std.proofs.lemmas.List.{get_or-map, length-map, get_or-set_same, get_or-set_other, take_all, take_more}
use Rattle.page_pool.specs.Shared.{table_at, HasPlace, name_in}
use Rattle.page_pool.specs.Kept.{IsSpare, IsSmallest, IsBestBelow, taken, pushed, names_len}
use Rattle.page_pool.specs.Slots.{Slot, names_of, rooms_of}

up_to : (u k : ℕ) → u < k + 1 → (u < k) ⊎ (u ≡ k)
up_to u zero lt = inr (omega (arith, lt))
up_to zero (suc k) lt = inl (omega arith)
up_to (suc u) (suc k) lt = elim (up_to u k (omega (arith, lt))) [ inl l ↦ inl (omega (arith, l)) | inr e ↦ inr (ap suc e) ]

pub map_set : {X Y : Type 0} (f : X → Y) (xs : List X) (i : ℕ) (x : X) → map f (set xs i x) ≡ set (map f xs) i (f x)
map_set f [] i x = refl
map_set f (y ∷ xs) zero x = refl
map_set f (y ∷ xs) (suc i) x = ap (λ r. f y ∷ r) (map_set f xs i x)

pub set_same : {X : Type 0} (xs : List X) (i : ℕ) (d : X) → set xs i (get_or xs i d) ≡ xs
set_same [] i d = refl
set_same (y ∷ xs) zero d = refl
set_same (y ∷ xs) (suc i) d = ap (λ r. y ∷ r) (set_same xs i d)

pub set_twice : {X : Type 0} (xs : List X) (i : ℕ) (x y : X) → set (set xs i x) i y ≡ set xs i y
set_twice [] i x y = refl
set_twice (z ∷ xs) zero x y = refl
set_twice (z ∷ xs) (suc i) x y = ap (λ r. z ∷ r) (set_twice xs i x y)

-- the entry that an index finds
pub entry_names : (slots : List Slot) (t : ℕ) (s : Slot) → s ≡ get_or slots t s → t < length slots → s.names ≡ table_at (names_of slots) t
entry_names slots t s e lt = ap (λ (x : Slot). x.names) e ∙ sym (get_or-map (λ (x : Slot). x.names) slots t s None lt)

pub entry_room : (slots : List Slot) (t : ℕ) (s : Slot) → s ≡ get_or slots t s → t < length slots → s.room ≡ get_or (rooms_of slots) t 0
entry_room slots t s e lt = ap (λ (x : Slot). x.room) e ∙ sym (get_or-map (λ (x : Slot). x.room) slots t s 0 lt)

-- a table that is there is one of the list
pub some_within : (tables : List (Option (List ℕ))) (t : ℕ) → IsSome (table_at tables t) → t < length tables
some_within [] t h = absurd (cc)
some_within (x ∷ xs) zero h = omega arith
some_within (x ∷ xs) (suc t) h = let a = some_within xs t h in omega (arith, a)

pub slot_within : (slots : List Slot) (t : ℕ) → IsSome (table_at (names_of slots) t) → t < length slots
slot_within slots t h = let a = some_within (names_of slots) t h in omega (arith, a, length-map slots (λ (s : Slot). s.names))

-- an entry that is changed, with the same room
pub names_set : (slots : List Slot) (t : ℕ) (s : Slot) (names : Option (List ℕ)) → s.names ≡ names
    → names_of (set slots t s) ≡ set (names_of slots) t names
names_set slots t s names e = map_set (λ (x : Slot). x.names) slots t s ∙ ap (set (names_of slots) t) e

pub rooms_set : (slots : List Slot) (t : ℕ) (s old : Slot) → old ≡ get_or slots t old → t < length slots → s.room ≡ old.room
    → rooms_of (set slots t s) ≡ rooms_of slots
rooms_set slots t s old e lt r = map_set (λ (x : Slot). x.room) slots t s
    ∙ ap (set (rooms_of slots) t) (r ∙ entry_room slots t old e lt) ∙ set_same (rooms_of slots) t 0

place_in : (tables : List (Option (List ℕ))) (t k : ℕ) → HasPlace (table_at tables t) k → t < length tables
place_in [] t k h = absurd h
place_in (x ∷ xs) zero k h = omega arith
place_in (x ∷ xs) (suc t) k h = let lt = place_in xs t k h in omega (arith, lt)

pub place_within : (slots : List Slot) (t k : ℕ) → HasPlace (table_at (names_of slots) t) k → t < length slots
place_within slots t k h = let a = place_in (names_of slots) t k h in omega (arith, a, length-map slots (λ (s : Slot). s.names))

-- the best table so far, and one more
pub best_skip : (tables : List (Option (List ℕ))) (rooms : List ℕ) (n k : ℕ) (best : Option ℕ) → IsBestBelow tables rooms n k best
    → (IsSpare tables rooms n k → ⊥) → IsBestBelow tables rooms n (k + 1) best
best_skip tables rooms n k None b gone = λ u lt s. elim
    (up_to u k lt) [ inl l ↦ b u l s | inr e ↦ gone (subst (IsSpare tables rooms n) e s) ]
best_skip tables rooms n k (Some x) b gone = (
  omega (arith, b.0),
  b.1,
  λ u lt s. elim (up_to u k lt) [ inl l ↦ b.2 u l s | inr e ↦ absurd (gone (subst (IsSpare tables rooms n) e s)) ],
)

pub best_stay : (tables : List (Option (List ℕ))) (rooms : List ℕ) (n k x : ℕ) → IsBestBelow tables rooms n k (Some x)
    → get_or rooms x 0 ≤ get_or rooms k 0 → IsBestBelow tables rooms n (k + 1) (Some x)
best_stay tables rooms n k x b le = (
  omega (arith, b.0),
  b.1,
  λ u lt s. elim (up_to u k lt) [ inl l ↦ b.2 u l s | inr e ↦ subst (λ v. get_or rooms x 0 ≤ get_or rooms v 0) (sym e) le ],
)

pub best_new : (tables : List (Option (List ℕ))) (rooms : List ℕ) (n k x : ℕ) → IsBestBelow tables rooms n k (Some x)
    → IsSpare tables rooms n k → get_or rooms k 0 < get_or rooms x 0 → IsBestBelow tables rooms n (k + 1) (Some k)
best_new tables rooms n k x b s lt' = (
  omega arith,
  s,
  λ u lt su. elim
      (up_to u k lt) [
        | inl l ↦ let h = b.2 u l su in
            omega (arith, h, lt')
        | inr e ↦ subst (λ v. get_or rooms k 0 ≤ get_or rooms v 0) (sym e) (omega arith)
      ],
)

pub best_first : (tables : List (Option (List ℕ))) (rooms : List ℕ) (n k : ℕ) → IsBestBelow tables rooms n k None
    → IsSpare tables rooms n k → IsBestBelow tables rooms n (k + 1) (Some k)
best_first tables rooms n k b s = (
  omega arith,
  s,
  λ u lt su. elim
      (up_to u k lt) [ inl l ↦ absurd (b u l su) | inr e ↦ subst (λ v. get_or rooms k 0 ≤ get_or rooms v 0) (sym e) (omega arith) ],
)

pub best_all : (tables : List (Option (List ℕ))) (rooms : List ℕ) (n k x : ℕ) → IsBestBelow tables rooms n k (Some x)
    → length tables ≤ k → IsSmallest tables rooms n x
best_all tables rooms n k x b le = record { spare = b.1; least = λ u s. b.2 u (omega (arith, s.there, le)) s }

-- one name more of those that are copied
pub copied : (old now new : List (Option (List ℕ))) (rooms : List ℕ) (from to at page : ℕ) → IsSome (table_at old from)
    → IsSpare old rooms (names_len (table_at old from)) to → at < names_len (table_at old from)
    → now ≡ set old to (taken (table_at old from) at) → page ≡ name_in (table_at now from) at
    → new ≡ set now to (pushed (table_at now to) page) → new ≡ set old to (taken (table_at old from) (at + 1))
copied old now new rooms from to at page h s lt en ep e =
    let ne : from ≢ to = λ q. let z : table_at old from ≡ None = ap (table_at old) q ∙ s.unused in none_some (table_at old from) h z in
    let there : table_at now from ≡ table_at old from = ap (λ l. table_at l from) en
    ∙ get_or-set_other old to from (taken (table_at old from) at) None ne in
    let here : table_at now to ≡ taken (table_at old from) at = ap (λ l. table_at l to) en
    ∙ get_or-set_same old to (taken (table_at old from) at) None s.there in
    let p : page ≡ name_in (table_at old from) at = ep ∙ ap (λ x. name_in x at) there in
    e ∙ ap (λ l. set l to (pushed (table_at now to) page)) en
    ∙ set_twice old to (taken (table_at old from) at) (pushed (table_at now to) page)
    ∙ ap (set old to) (ap (λ x. pushed x page) here ∙ ap (pushed (taken (table_at old from) at)) p ∙ one_more (table_at old from) at lt)
  where
    none_some : {A : Type 0} (o : Option (List ℕ)) → IsSome o → o ≡ None → A
    none_some None h z = absurd (cc)
    none_some (Some x) h z = absurd (cc)

    one_more : (o : Option (List ℕ)) (k : ℕ) → k < names_len o → pushed (taken o k) (name_in o k) ≡ taken o (k + 1)
    one_more None k lt = absurd (omega (arith, lt))
    one_more (Some xs) k lt = ap (λ (l : List ℕ). Some l) (sym (take_more xs k 0 lt))

pub all_taken : (o : Option (List ℕ)) (k : ℕ) → names_len o ≤ k → taken o k ≡ o
all_taken None k le = refl
all_taken (Some xs) k le = ap (λ (l : List ℕ). Some l) (take_all k xs le)

pub names_stay : (slots : List Slot) (t : ℕ) (s old : Slot) → old ≡ get_or slots t old → t < length slots → s.names ≡ old.names
    → names_of (set slots t s) ≡ names_of slots
names_stay slots t s old e lt r = map_set (λ (x : Slot). x.names) slots t s
    ∙ ap (set (names_of slots) t) (r ∙ entry_names slots t old e lt) ∙ set_same (names_of slots) t None

pub slot_here : (slots : List Slot) (t : ℕ) (s : Slot) → t < length slots → table_at (names_of (set slots t s)) t ≡ s.names
slot_here slots t s lt = ap (λ l. table_at l t) (map_set (λ (x : Slot). x.names) slots t s)
    ∙ get_or-set_same (names_of slots) t s.names None (omega (arith, lt, length-map slots (λ (x : Slot). x.names)))

pub room_here : (slots : List Slot) (t : ℕ) (s : Slot) → t < length slots → get_or (rooms_of (set slots t s)) t 0 ≡ s.room
room_here slots t s lt = ap (λ l. get_or l t 0) (map_set (λ (x : Slot). x.room) slots t s)
    ∙ get_or-set_same (rooms_of slots) t s.room 0 (omega (arith, lt, length-map slots (λ (x : Slot). x.room)))

pub on_ok_map : {A E : Type 0} (P Q : Type 0) (r : Result A E) → (P → Q) → OnOk r P → OnOk r Q
on_ok_map P Q (Ok a) f h = f h
on_ok_map P Q (Err e) f h = tt
