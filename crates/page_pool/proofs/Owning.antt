-- A page that is handed over.
use Rattle.std.proofs.Common.{◌≡◌, ◌<◌, ◌≤◌, ◌+◌, ◌-◌, ◌*◌, ◌/◌, ◌%◌, ◌^◌, ◌++◌, ℕ, zero, suc, false, List, [], ◌∷◌, length, Option, None, Some, get_or, set, nat_eq, refl, sym, ap, ◌∙◌, subst, arith, inl, inr, Result, Ok, Err, OnErr}
use Rattle.std.specs.Prelude.{if◌then◌else◌, ◌==◌}
use Rattle.std.proofs.lemmas.Bool.Decides.{nat_tests}
use Rattle.std.proofs.lemmas.List.{get_or-set_same, get_or-set_other, get_or_default}
use Rattle.std.proofs.Math.ListN.{length-set}
use Rattle.index_list.specs.Many.{Many}
use Rattle.page_pool.specs.Shared.{AreFree, IsSound, table_at, uses, HasPlace, name_in, renamed, Extends, joined_all, page_bytes, named_below}
use Rattle.page_pool.proofs.Handed.{shape_same}
use Rattle.page_pool.specs.Kept.{AreKept, AreReady, AreLong, free_of, used, names_len, AreFew}
use Rattle.page_pool.proofs.Sound.{owned, zero_or, tables_alike, page_within}
use Rattle.page_pool.proofs.Kept.{ready_small, owner_here}
use Rattle.page_pool.proofs.Live.{used_handed, used_is}

pub kept_handed : (owners os : List ℕ) (free : Many ℕ) (live page fresh : ℕ) → AreReady owners free live fresh
    → 2 ≤ get_or owners page 0 → os ≡ set (set owners page (get_or owners page 0 - 1)) fresh 1 → AreFree os (free_of free)
    → AreKept os free (live + 1)
kept_handed owners os free live page fresh r two e list =
    let s = ready_small owners free live fresh r in
    let u : used os ≡ used owners + 1 = ap used e ∙ used_handed owners page fresh two s.1 s.0 in
    let l : length os ≡ length owners = ap length e ∙ length-set (set owners page (get_or owners page 0 - 1)) fresh 1
    ∙ length-set owners page (get_or owners page 0 - 1) in
    record {
      list = list;
      room = let w = r.room in omega (arith, w, u);
      one = r.one;
      live_is = let w = r.live_is in omega (arith, w, u);
      few = let w = r.few in omega (arith, w, l);
    }

set_here : {X : Type 0} (xs : List X) (i : ℕ) (d : X) → set xs i (get_or xs i d) ≡ xs
set_here [] i d = refl
set_here (y ∷ xs) zero d = refl
set_here (y ∷ xs) (suc i) d = ap (λ r. y ∷ r) (set_here xs i d)

renamed_same : (o : Option (List ℕ)) (k : ℕ) → renamed o k (name_in o k) ≡ o
renamed_same None k = refl
renamed_same (Some xs) k = ap (λ (l : List ℕ). Some l) (set_here xs k 0)

-- a place that gets the name that it has
pub same_names : (tables : List (Option (List ℕ))) (t k : ℕ)
    → tables ≡ set tables t (renamed (table_at tables t) k (name_in (table_at tables t) k))
same_names tables t k = sym (ap (set tables t) (renamed_same (table_at tables t) k) ∙ set_here tables t None)

-- how many tables' places have the page that an index finds
pub count_at : (tables : List (Option (List ℕ))) (pages : List (List ℕ)) (owners : List ℕ) (t k page x : ℕ)
    → IsSound tables pages owners → HasPlace (table_at tables t) k → page ≡ name_in (table_at tables t) k → x ≡ get_or owners page x
    → x ≡ uses tables (name_in (table_at tables t) k)
count_at tables pages owners t k page x s h e ex =
    let o = owned tables pages owners t k s h in
    let one : 1 ≤ get_or owners page 0 = subst (λ p. 1 ≤ get_or owners p 0) (sym e) o in
    owner_here owners page x ex one ∙ ap (λ p. get_or owners p 0) e ∙ sym (s.counts (name_in (table_at tables t) k))

pub two_owners : (tables : List (Option (List ℕ))) (pages : List (List ℕ)) (owners : List ℕ) (t k page x : ℕ)
    → IsSound tables pages owners → HasPlace (table_at tables t) k → page ≡ name_in (table_at tables t) k → x ≡ get_or owners page x
    → (x ≡ 1 → ⊥) → 2 ≤ get_or owners page 0
two_owners tables pages owners t k page x s h e ex no_one =
    let o = owned tables pages owners t k s h in
    let one : 1 ≤ get_or owners page 0 = subst (λ p. 1 ≤ get_or owners p 0) (sym e) o in
    let is = owner_here owners page x ex one in
    more (get_or owners page 0) one (λ q. no_one (is ∙ q))
  where
    more : (n : ℕ) → 1 ≤ n → (n ≡ 1 → ⊥) → 2 ≤ n
    more zero h f = absurd (omega (arith, h))
    more (suc zero) h f = absurd (f refl)
    more (suc (suc n)) h f = omega arith

-- the tables stay few and short
pub few_renamed : (tables : List (Option (List ℕ))) (t k p : ℕ) → AreFew tables → t < length tables
    → AreFew (set tables t (renamed (table_at tables t) k p))
few_renamed tables t k p f lt = record {
  few = let l = length-set tables t (renamed (table_at tables t) k p) in let w = f.few in omega (arith, l, w);
  short = λ u. elim (zero_or u t) [
    | inl e ↦ subst (λ x. names_len x ≤ 2 ^ 31)
        (sym (ap (table_at (set tables t (renamed (table_at tables t) k p))) e
        ∙ get_or-set_same tables t (renamed (table_at tables t) k p) None lt)) (same_len (table_at tables t) (f.short t))
    | inr ne ↦ subst (λ x. names_len x ≤ 2 ^ 31) (sym (get_or-set_other tables t u (renamed (table_at tables t) k p) None ne)) (f.short u)
  ];
}
  where
    same_len : (o : Option (List ℕ)) → names_len o ≤ 2 ^ 31 → names_len (renamed o k p) ≤ 2 ^ 31
    same_len None h = h
    same_len (Some xs) h = let l = length-set xs k p in omega (arith, l, h)

-- more pages, and no table changed
pub bytes_stay : (tables : List (Option (List ℕ))) (pages : List (List ℕ)) (owners : List ℕ) (tables' : List (Option (List ℕ)))
    (pages' : List (List ℕ)) → IsSound tables pages owners → tables' ≡ tables → Extends pages pages' → (u : ℕ)
    → joined_all pages' (table_at tables' u) ≡ joined_all pages (table_at tables u)
bytes_stay tables pages owners tables' pages' s e x u =
    ap (λ l. joined_all pages' (table_at l u)) e
    ∙ tables_alike (page_bytes pages') (page_bytes pages) (table_at tables u) (table_at tables u) (shape_same (table_at tables u))
    (λ k h. x.same (name_in (table_at tables u) k) (page_within tables pages owners u k s h))

pub live_is : (tables : List (Option (List ℕ))) (pages : List (List ℕ)) (owners : List ℕ) (free : Many ℕ) (live : ℕ)
    → IsSound tables pages owners → AreKept owners free live → named_below tables (length pages) ≡ live
live_is tables pages owners free live s k = sym (k.live_is ∙ used_is tables pages owners s)

pub sound_stays : (tables : List (Option (List ℕ))) (pages : List (List ℕ)) (owners : List ℕ) (tables' : List (Option (List ℕ)))
    (pages' : List (List ℕ)) (owners' : List ℕ) → IsSound tables pages owners → tables' ≡ tables
    → ((p : ℕ) → get_or owners' p 0 ≡ get_or owners p 0) → length owners' ≡ length pages' → IsSound tables' pages' owners'
sound_stays tables pages owners tables' pages' owners' s e h len = record {
  same = len;
  counts = λ p. ap (λ l. uses l p) e ∙ s.counts p
      ∙ sym (h p);
}

pub live_set : (tables : List (Option (List ℕ))) (pages : List (List ℕ)) (page : ℕ) (bytes : List ℕ)
    → named_below tables (length (set pages page bytes)) ≡ named_below tables (length pages)
live_set tables pages page bytes = ap (named_below tables) (length-set pages page bytes)

pub on_err : {A E : Type 0} (P : Type 0) (r : Result A E) → P → OnErr r P
on_err P (Ok a) h = tt
on_err P (Err e) h = h

pub long_set : (m : ℕ) (pages : List (List ℕ)) (page : ℕ) (bytes : List ℕ) → AreLong m pages → length bytes ≡ m
    → AreLong m (set pages page bytes)
long_set m pages page bytes long e p lt =
    let l = length-set pages page bytes in
    elim (zero_or p page) [
      | inl q ↦ subst (λ z. length (page_bytes (set pages page bytes) z) ≡ m) (sym q)
          (ap length (get_or-set_same pages page bytes [] (omega (arith, l, lt, q))) ∙ e)
      | inr ne ↦ ap length (get_or-set_other pages page p bytes [] ne) ∙ long p (omega (arith, l, lt))
    ]

pub long_more : (m : ℕ) (pages : List (List ℕ)) (bytes : List ℕ) → AreLong m pages → length bytes ≡ m → AreLong m (pages ++ bytes ∷ [])
long_more m [] bytes long e zero lt = e
long_more m [] bytes long e (suc p) lt = absurd (omega (arith, lt))
long_more m (x ∷ xs) bytes long e zero lt = long 0 (omega arith)
long_more m (x ∷ xs) bytes long e (suc p) lt = long_more m xs bytes (λ q l. long (suc q) (omega (arith, l))) e p (omega (arith, lt))

-- the page that an index finds
pub page_here : (pages : List (List ℕ)) (p : ℕ) (page : List ℕ) → page ≡ get_or pages p page → p < length pages → page ≡ page_bytes pages p
page_here pages p page e lt = e ∙ get_or_default pages p page [] lt

pub place_again : (at : ℕ) → at / 4096 * 4096 + at % 4096 ≡ at
place_again at = omega arith

pub other_one : (n : ℕ) → (n ≡ 1 → ⊥) → ◌≡◌ {A = ℕ} (if n == 1 then 0 else 1) 1
other_one n h = let e : nat_eq n 1 ≡ false = grind (arith, nat_tests, h) in rw e refl
