use Rattle.std.proofs.Common.{◌≡◌, ◌<◌, ◌≤◌, ◌+◌, ◌-◌, ℕ, zero, suc, Bool, true, false, cond, List, [], ◌∷◌, ◌++◌, length, Option, None, Some, get_or, set, nat_eq, option_map, refl, sym, ◌≢◌, ap, ◌∙◌, arith, inl, inr, ◌⊎◌}
use Rattle.std.specs.List.{count_by, flat_map}
use Rattle.std.proofs.lemmas.Bool.Decides.{nat_tests}
use Rattle.std.proofs.lemmas.List.{get_or-set_same, get_or-set_other}
use Rattle.std.proofs.Math.ListN.{length-set}
use Rattle.std.proofs.lemmas.List.Concat.{flat_map-cons}
use Rattle.std.proofs.lemmas.List.Sums.{sum_by-set, get_or-le-sum_by, sum_by_push, sum_by-cons}
use Rattle.page_pool.specs.Shared.{uses, uses_in, page_bytes, table_at, HasPlace, SameShape, name_in, renamed, IsSound, AreFree}

pub same_nat : (n : ℕ) → nat_eq n n ≡ true
same_nat n = grind (arith, nat_tests)

pub count_here : (names : List ℕ) (k d : ℕ) → k < length names → 1 ≤ count_by (nat_eq (get_or names k d)) names
count_here names k d lt =
    let h = get_or-le-sum_by (λ x. cond (nat_eq (get_or names k d) x) 1 0) names k d lt in
    let e = same_nat (get_or names k d) in
    rw e at h

pub split : (a b : ℕ) → (a < b) ⊎ (b ≤ a)
split a zero = inr (omega arith)
split zero (suc b) = inl (omega arith)
split (suc a) (suc b) = elim (split a b) [ inl lt ↦ inl (omega arith) | inr le ↦ inr (omega arith) ]

pub none_past : (tables : List (Option (List ℕ))) (t : ℕ) → length tables ≤ t → table_at tables t ≡ None
none_past [] t le = refl
none_past (x ∷ xs) zero le = absurd (omega arith)
none_past (x ∷ xs) (suc t) le = none_past xs t (omega arith)

pub uses_at : (tables : List (Option (List ℕ))) (t page : ℕ) → uses_in page (table_at tables t) ≤ uses tables page
uses_at tables t page =
    elim (split t (length tables)) [
      | inl lt ↦ get_or-le-sum_by (uses_in page) tables t None lt
      | inr le ↦ rw (none_past tables t le) (omega arith)
    ]

pub named_in : (table : Option (List ℕ)) (k : ℕ) → HasPlace table k → 1 ≤ uses_in (name_in table k) table
named_in None k h = absurd h
named_in (Some names) k h = count_here names k 0 h

-- what stands in a table has an owner
pub owned : (tables : List (Option (List ℕ))) (pages : List (List ℕ)) (owners : List ℕ) (t k : ℕ) → IsSound tables pages owners
    → HasPlace (table_at tables t) k → 1 ≤ get_or owners (name_in (table_at tables t) k) 0
owned tables pages owners t k sound h =
    let page = name_in (table_at tables t) k in
    let a = named_in (table_at tables t) k h in
    let b = uses_at tables t page in
    let c = sound.counts page in
    omega arith

pub past_end : (xs : List ℕ) (i : ℕ) → length xs ≤ i → get_or xs i 0 ≡ 0
past_end [] i le = refl
past_end (x ∷ xs) zero le = absurd (omega arith)
past_end (x ∷ xs) (suc i) le = past_end xs i (omega arith)

pub within : (owners : List ℕ) (pages : List (List ℕ)) (page : ℕ) → length owners ≡ length pages → 1 ≤ get_or owners page 0
    → page < length pages
within owners pages page same h =
    elim (split page (length owners)) [ inl lt ↦ omega arith | inr le ↦ let e = past_end owners page le in absurd (omega arith) ]

-- and so it is a page
pub page_within : (tables : List (Option (List ℕ))) (pages : List (List ℕ)) (owners : List ℕ) (t k : ℕ) → IsSound tables pages owners
    → HasPlace (table_at tables t) k → name_in (table_at tables t) k < length pages
page_within tables pages owners t k sound h =
    within owners pages (name_in (table_at tables t) k) sound.same (owned tables pages owners t k sound h)

pub within_by : (tables : List (Option (List ℕ))) (t k : ℕ) → HasPlace (table_at tables t) k → t < length tables
within_by [] t k h = absurd h
within_by (x ∷ xs) zero k h = omega arith
within_by (x ∷ xs) (suc t) k h = let lt = within_by xs t k h in omega arith

pub get_any : {X : Type 0} (xs : List X) (i : ℕ) (d e : X) → i < length xs → get_or xs i d ≡ get_or xs i e
get_any [] i d e lt = absurd (omega arith)
get_any (x ∷ xs) zero d e lt = refl
get_any (x ∷ xs) (suc i) d e lt = get_any xs i d e (omega arith)

-- the table that an index finds
pub found : (tables : List (Option (List ℕ))) (t k : ℕ) (table : Option (List ℕ)) → table ≡ get_or tables t table
    → HasPlace (table_at tables t) k → table ≡ table_at tables t
found tables t k table e h = e ∙ get_any tables t table None (within_by tables t k h)

pub found_page : (pages : List (List ℕ)) (p : ℕ) (page : List ℕ) → page ≡ get_or pages p page → p < length pages → page ≡ page_bytes pages p
found_page pages p page e lt = e ∙ get_any pages p page [] lt

same_count : (p : ℕ → Bool) (x : ℕ) (xs : List ℕ) → count_by p (xs ++ x ∷ []) ≡ count_by p (x ∷ xs)
same_count p x xs = let a = sum_by_push (λ y. cond (p y) 1 0) xs x in let b = sum_by-cons (λ y. cond (p y) 1 0) x xs in omega (arith, a, b)

-- the last free page, taken out
pub taken : (owners xs : List ℕ) (x : ℕ) → AreFree owners (xs ++ x ∷ []) → AreFree owners (x ∷ xs)
taken owners xs x f =
    record {
      once = λ page. rw (← same_count (nat_eq page) x xs) (f.once page);
      unowned = λ page h. f.unowned page (rw (same_count (nat_eq page) x xs) h);
      within = λ page h. f.within page (rw (same_count (nat_eq page) x xs) h);
    }

pub zero_or : (p q : ℕ) → (p ≡ q) ⊎ (p ≢ q)
zero_or zero zero = inl refl
zero_or zero (suc q) = inr (λ e. omega arith)
zero_or (suc p) zero = inr (λ e. omega arith)
zero_or (suc p) (suc q) = elim (zero_or p q) [ inl e ↦ inl (ap suc e) | inr ne ↦ inr (λ e. ne (omega arith)) ]

unfoldable pub one_if : ℕ → ℕ → ℕ
one_if p q = cond (nat_eq p q) 1 0

pub one_same : (p : ℕ) → one_if p p ≡ 1
unfolding one_if
one_same p = rw (same_nat p) refl

pub one_other : (p q : ℕ) → p ≢ q → one_if p q ≡ 0
unfolding one_if
one_other p q ne = let e : nat_eq p q ≡ false = grind (arith, nat_tests) in rw e refl

uses_names : (names : List ℕ) (k fresh p : ℕ) → k < length names
    → count_by (nat_eq p) (set names k fresh) + one_if p (get_or names k 0) ≡ count_by (nat_eq p) names + one_if p fresh
unfolding one_if
uses_names names k fresh p lt = sum_by-set (λ x. cond (nat_eq p x) 1 0) names k fresh 0 lt

uses_renamed : (table : Option (List ℕ)) (k fresh p : ℕ) → HasPlace table k
    → uses_in p (renamed table k fresh) + one_if p (name_in table k) ≡ uses_in p table + one_if p fresh
uses_renamed None k fresh p h = absurd h
uses_renamed (Some names) k fresh p h = uses_names names k fresh p h

pub uses_after : (tables : List (Option (List ℕ))) (t k fresh p : ℕ) → HasPlace (table_at tables t) k
    → uses (set tables t (renamed (table_at tables t) k fresh)) p + one_if p
    (name_in (table_at tables t) k) ≡ uses tables p + one_if p fresh
uses_after tables t k fresh p h =
    let a = sum_by-set (uses_in p) tables t (renamed (table_at tables t) k fresh) None (within_by tables t k h) in
    let b = uses_renamed (table_at tables t) k fresh p h in
    omega (arith, a, b)

pub counts_after : (owners : List ℕ) (page fresh p u u' : ℕ) → page < length owners → fresh < length owners → page ≢ fresh
    → 1 ≤ get_or owners page 0 → get_or owners fresh 0 ≡ 0 → u ≡ get_or owners p 0 → u' + one_if p page ≡ u + one_if p fresh
    → u' ≡ get_or (set (set owners page (get_or owners page 0 - 1)) fresh 1) p 0
counts_after owners page fresh p u u' lp lf ne o z hu h =
    elim (zero_or p fresh) [
      | inl e ↦
          let a : one_if p page ≡ 0 = one_other p page (λ q. ne (sym q ∙ e)) in
          let b : one_if p fresh ≡ 1 = ap (one_if p) (sym e) ∙ one_same p in
          let z' : get_or owners p 0 ≡ 0 = ap (λ i. get_or owners i 0) e ∙ z in
          let g : get_or (set (set owners page (get_or owners page 0 - 1)) fresh 1) p 0 ≡ 1 = ap
          (λ i. get_or (set (set owners page (get_or owners page 0 - 1)) fresh 1) i 0) e
          ∙ get_or-set_same (set owners page (get_or owners page 0 - 1)) fresh 1 0 (rw length-set lf) in
          omega (arith, a, b, z', g)
      | inr nf ↦
          let b : one_if p fresh ≡ 0 = one_other p fresh nf in
          let g = get_or-set_other (set owners page (get_or owners page 0 - 1)) fresh p 1 0 nf in
          elim (zero_or p page) [
            | inl e ↦
                let a : one_if p page ≡ 1 = ap (one_if p) (sym e) ∙ one_same p in
                let w : get_or owners p 0 ≡ get_or owners page 0 = ap (λ i. get_or owners i 0) e in
                let v : get_or (set owners page (get_or owners page 0 - 1)) p 0 ≡ get_or owners page 0 - 1 = ap
                (λ i. get_or (set owners page (get_or owners page 0 - 1)) i 0) e
                ∙ get_or-set_same owners page (get_or owners page 0 - 1) 0 lp in
                omega (arith, a, b, g, v, w)
            | inr np ↦
                let a : one_if p page ≡ 0 = one_other p page np in
                let v = get_or-set_other owners page p (get_or owners page 0 - 1) 0 np in
                omega (arith, a, b, g, v)
          ]
    ]

joined_alike : (f g : ℕ → List ℕ) (xs ys : List ℕ) → length xs ≡ length ys
    → ((i : ℕ) → i < length ys → f (get_or xs i 0) ≡ g (get_or ys i 0)) → flat_map f xs ≡ flat_map g ys
joined_alike f g [] [] e h = refl
joined_alike f g [] (y ∷ ys) e h = absurd (omega arith)
joined_alike f g (x ∷ xs) [] e h = absurd (omega arith)
joined_alike f g (x ∷ xs) (y ∷ ys) e h =
    rw (
      flat_map-cons f x xs,
      flat_map-cons g y ys,
      h 0 (omega arith),
      joined_alike f g xs ys (omega arith) (λ i lt. h (suc i) (omega arith)),
    ) refl

-- the pages of a place are pages, and none is one without an owner
pub named : (tables : List (Option (List ℕ))) (pages : List (List ℕ)) (owners : List ℕ) (fresh t k : ℕ) → IsSound tables pages owners
    → get_or owners fresh 0 ≡ 0 → HasPlace (table_at tables t) k
    → (name_in (table_at tables t) k < length pages) × (name_in (table_at tables t) k ≢ fresh)
named tables pages owners fresh t k sound z h =
    let o = owned tables pages owners t k sound h in (
      page_within tables pages owners t k sound h,
      λ e. let w : get_or owners (name_in (table_at tables t) k) 0 ≡ get_or owners fresh 0 = ap (λ i. get_or owners i 0) e in
          omega (arith, o, w, z),
    )

-- a table whose places read alike reads alike
pub tables_alike : (f g : ℕ → List ℕ) (old new : Option (List ℕ)) → SameShape old new
    → ((k : ℕ) → HasPlace old k → f (name_in new k) ≡ g (name_in old k)) → option_map (flat_map f) new ≡ option_map (flat_map g) old
tables_alike f g None None s h = refl
tables_alike f g None (Some ys) s h = absurd s
tables_alike f g (Some xs) None s h = absurd s
tables_alike f g (Some xs) (Some ys) s h = ap (λ (l : List ℕ). Some l) (joined_alike f g ys xs s h)
