-- A page at the end of a table.
use Rattle.std.proofs.Common.{◌≡◌, ◌≢◌, ◌<◌, ◌≤◌, ◌+◌, ◌^◌, ◌++◌, ℕ, zero, suc, cond, List, [], ◌∷◌, length, Option, None, Some, IsSome, get_or, set, nat_eq, refl, sym, ap, ◌∙◌, subst, arith, inl, inr, length-append, option_map, append-nil, replicate}
use Rattle.std.specs.List.{count_by, flat_map}
use Rattle.std.proofs.lemmas.List.{get_or-set_same, get_or-set_other}
use Rattle.std.proofs.Math.ListN.{length-set}
use Rattle.std.proofs.lemmas.List.Sums.{sum_by-set, sum_by-cons}
use Rattle.std.proofs.lemmas.List.Concat.{flat_map-cons}
use Rattle.std.proofs.lemmas.Grind.{flat_map-append}
use Rattle.index_list.specs.Many.{Many}
use Rattle.page_pool.specs.Shared.{IsSound, table_at, uses_in, HasPlace, name_in, Extends, joined_all, page_bytes}
use Rattle.page_pool.specs.Kept.{AreKept, AreReady, AreLong, AreFew, IsPool, free_of, names_len, pushed, longer}
use Rattle.page_pool.proofs.Sound.{one_if, one_same, one_other, zero_or, named, tables_alike}
use Rattle.page_pool.proofs.Handed.{shape_same}
use Rattle.page_pool.proofs.Kept.{bit, used_set, ready_small, count_push}
use Rattle.page_pool.proofs.Lists.{some_within}
use Rattle.page_pool.proofs.Owning.{long_set}

abbrev pub zeros : ℕ → List ℕ
zeros m = replicate m 0

pub zeros_long : (m : ℕ) → length (zeros m) ≡ m
zeros_long zero = refl
zeros_long (suc m) = ap suc (zeros_long m)

uses_pushed : (o : Option (List ℕ)) (page p : ℕ) → IsSome o → uses_in p (pushed o page) ≡ uses_in p o + one_if p page
uses_pushed None page p h = absurd (cc)
uses_pushed (Some xs) page p h = count_push p page xs

len_pushed : (o : Option (List ℕ)) (page : ℕ) → names_len (pushed o page) ≤ names_len o + 1
len_pushed None page = omega arith
len_pushed (Some xs) page = let l = length-append xs (page ∷ []) in omega (arith, l)

owner_set : (owners : List ℕ) (page p : ℕ) → page < length owners → get_or owners page 0 ≡ 0
    → get_or (set owners page 1) p 0 ≡ get_or owners p 0 + one_if p page
owner_set owners page p lt z = elim (zero_or p page) [
  | inl e ↦
      let a : one_if p page ≡ 1 = ap (one_if p) (sym e) ∙ one_same p in
      let b : get_or (set owners page 1) p 0 ≡ 1 = ap (λ i. get_or (set owners page 1) i 0) e ∙ get_or-set_same owners page 1 0 lt in
      let c : get_or owners p 0 ≡ 0 = ap (λ i. get_or owners i 0) e ∙ z in
      omega (arith, a, b, c)
  | inr ne ↦
      let a = one_other p page ne in
      let b = get_or-set_other owners page p 1 0 ne in
      omega (arith, a, b)
]

count_one : (p x : ℕ) (xs : List ℕ) → count_by (nat_eq p) (x ∷ xs) ≡ one_if p x + count_by (nat_eq p) xs
unfolding one_if
count_one p x xs = sum_by-cons (λ y. cond (nat_eq p y) 1 0) x xs

kept_one : (owners : List ℕ) (free : Many ℕ) (live page : ℕ) → AreReady owners free live page → AreKept (set owners page 1) free (live + 1)
kept_one owners free live page r =
    let s = ready_small owners free live page r in
    let u = used_set owners page 1 s.0 in
    let z : bit (get_or owners page 0) ≡ 0 = ap bit s.1 in
    let o : bit 1 ≡ 1 = refl in
    let l = length-set owners page 1 in
    let cons : (p : ℕ) → count_by (nat_eq p) (page ∷ free_of free) ≡ one_if p page + count_by (nat_eq p)
    (free_of free) = λ p. count_one p page (free_of free) in
    record {
      list = record {
        once = λ p. let a = r.list.once p in let b = cons p in omega (arith, a, b);
        unowned = λ p c.
            let b = cons p in
            let w = r.list.unowned p (omega (arith, b, c)) in
            let ne : p ≢ page = λ e.
            (let a = r.list.once p in let t : one_if p page ≡ 1 = ap (one_if p) (sym e) ∙ one_same p in omega (arith, a, b, c, t)) in
            get_or-set_other owners page p 1 0 ne ∙ w;
        within = λ p c. let b = cons p in let a = r.list.within p (omega (arith, b, c)) in omega (arith, a, l);
      };
      room = let w = r.room in omega (arith, w, u, z, o);
      one = r.one;
      live_is = let w = r.live_is in omega (arith, w, u, z, o);
      few = let w = r.few in omega (arith, w, l);
    }

module _ (tables : List (Option (List ℕ))) (pages : List (List ℕ)) (owners : List ℕ) (pages' : List (List ℕ)) (owners' : List ℕ)
    (free' : Many ℕ) (live t page : ℕ) (zs : List ℕ) (h : IsSome (table_at tables t)) (sound : IsSound tables pages owners)
    (ready : AreReady owners' free' live page) (same : length owners' ≡ length pages')
    (kept : (p : ℕ) → get_or owners' p 0 ≡ get_or owners p 0) (more : Extends pages pages') where
  bytes_apart : (u k : ℕ) → HasPlace (table_at tables u) k
      → page_bytes (set pages' page zs) (name_in (table_at tables u) k) ≡ page_bytes pages (name_in (table_at tables u) k)
  bytes_apart u k p =
      let s = ready_small owners' free' live page ready in
      let q = named tables pages owners page u k sound (sym (kept page) ∙ s.1) p in
      get_or-set_other pages' page (name_in (table_at tables u) k) zs [] q.1 ∙ more.same (name_in (table_at tables u) k) q.0

  alike : (u : ℕ) → joined_all (set pages' page zs) (table_at tables u) ≡ joined_all pages (table_at tables u)
  alike u = tables_alike (page_bytes (set pages' page zs)) (page_bytes pages) (table_at tables u) (table_at tables u)
      (shape_same (table_at tables u)) (bytes_apart u)

  pub grown_others : (u : ℕ) → u ≢ t
      → joined_all (set pages' page zs) (table_at (set tables t (pushed (table_at tables t) page)) u) ≡ joined_all pages (table_at tables u)
  grown_others u ne = ap (joined_all (set pages' page zs)) (get_or-set_other tables t u (pushed (table_at tables t) page) None ne) ∙ alike u

  pub grown_here : joined_all (set pages' page zs) (table_at (set tables t (pushed (table_at tables t) page)) t) ≡ longer
      (joined_all pages (table_at tables t)) zs
  grown_here =
      let s = ready_small owners' free' live page ready in
      let z : page_bytes (set pages' page zs) page ≡ zs = get_or-set_same pages' page zs [] (omega (arith, s.0, same)) in
      ap (joined_all (set pages' page zs)) (get_or-set_same tables t (pushed (table_at tables t) page) None (some_within tables t h))
      ∙ joined_pushed (page_bytes (set pages' page zs)) (table_at tables t)
      ∙ ap (λ y. longer (joined_all (set pages' page zs) (table_at tables t)) y) z ∙ ap (λ y. longer y zs) (alike t)
    where
      joined_pushed : (f : ℕ → List ℕ) (o : Option (List ℕ))
          → option_map (flat_map f) (pushed o page) ≡ longer (option_map (flat_map f) o) (f page)
      joined_pushed f None = refl
      joined_pushed f (Some xs) = ap (λ (y : List ℕ). Some y)
          (flat_map-append f xs (page ∷ []) ∙ ap (λ y. flat_map f xs ++ y) (flat_map-cons f page [] ∙ append-nil (f page)))

  pub grown : AreFew tables → names_len (table_at tables t) < 2 ^ 31 → (m : ℕ) → AreLong 4096 pages' → length zs ≡ 4096
      → IsPool (set tables t (pushed (table_at tables t) page)) (set pages' page zs) (set owners' page 1) free' (live + 1)
  grown few short m long lz =
      let s = ready_small owners' free' live page ready in
      let lt = some_within tables t h in
      let new = pushed (table_at tables t) page in
      record {
        sound = record {
          same = length-set owners' page 1 ∙ same ∙ sym (length-set pages' page zs);
          counts = λ p.
              let a = sum_by-set (uses_in p) tables t new None lt in
              let b = uses_pushed (table_at tables t) page p h in
              let c = sound.counts p in
              let d = owner_set owners' page p s.0 s.1 in
              let e = kept p in
              omega (arith, a, b, c, d, e);
        };
        kept = kept_one owners' free' live page ready;
        few = record {
          few = let l = length-set tables t new in let w = few.few in omega (arith, l, w);
          short = λ u. elim (zero_or u t) [
            | inl e ↦ subst (λ x. names_len x ≤ 2 ^ 31)
                (sym (ap (table_at (set tables t new)) e ∙ get_or-set_same tables t new None lt))
                (let l = len_pushed (table_at tables t) page in omega (arith, l, short))
            | inr ne ↦ subst (λ x. names_len x ≤ 2 ^ 31) (sym (get_or-set_other tables t u new None ne)) (few.short u)
          ];
        };
        long = long_set 4096 pages' page zs long lz;
      }
