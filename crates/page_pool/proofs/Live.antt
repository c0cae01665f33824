-- How many pages have an owner.
use Rattle.std.proofs.Common.{◌≡◌, ◌≢◌, ◌<◌, ◌≤◌, ◌+◌, ◌-◌, ◌*◌, ◌^◌, ℕ, zero, suc, true, false, cond, List, [], ◌∷◌, ◌++◌, length-append, length, Option, None, Some, get_or, set, nat_eq, nat_lt, refl, sym, ap, ◌∙◌, subst, arith, take, inl, inr, ◌&&◌}
use Rattle.std.specs.List.{count_by}
use Rattle.std.proofs.lemmas.Bool.Decides.{nat_tests}
use Rattle.std.proofs.lemmas.List.{get_or-set_same, get_or-set_other, take_all, get_or_default}
use Rattle.std.proofs.Math.ListN.{length-set}
use Rattle.std.proofs.lemmas.List.Sums.{sum_by-set, sum_by_more, sum_by-le, count_by-le-length, sum_by_push}
use Rattle.index_list.specs.Many.{Many}
use Rattle.page_pool.specs.Shared.{IsSound, table_at, uses, uses_in, named_below, HasPlace, name_in}
use Rattle.page_pool.specs.Kept.{used, names_len, AreFew, alone_below, IsPool}
use Rattle.page_pool.proofs.Sound.{zero_or, page_within, uses_at}
use Rattle.page_pool.proofs.Kept.{bit, bit_one, bit_zero, used_set, owner_within}

used_below : (tables : List (Option (List ℕ))) (owners : List ℕ) (n : ℕ) → ((p : ℕ) → uses tables p ≡ get_or owners p 0)
    → n ≤ length owners → used (take n owners) ≡ named_below tables n
used_below tables owners zero h le = refl
used_below tables owners (suc n) h le =
    let e : n + 1 ≡ suc n = omega arith in
    let a : used (take (suc n) owners) ≡ used (take n owners) + bit (get_or owners n 0) = subst
    (λ m. used (take m owners) ≡ used (take n owners) + bit (get_or owners n 0)) e (sum_by_more bit owners n 0 (omega (arith, le))) in
    let b = used_below tables owners n h (omega (arith, le)) in
    let c : bit (uses tables n) ≡ bit (get_or owners n 0) = ap bit (h n) in
    omega (arith, a, b, c)

pub used_is : (tables : List (Option (List ℕ))) (pages : List (List ℕ)) (owners : List ℕ) → IsSound tables pages owners
    → used owners ≡ named_below tables (length pages)
used_is tables pages owners s =
    let a = used_below tables owners (length owners) s.counts (omega arith) in
    sym (ap used (take_all (length owners) owners (omega arith))) ∙ a ∙ ap (named_below tables) s.same

per_page : (u' a u : ℕ) → u' + a ≡ u → bit u' + cond (nat_lt 0 a && nat_eq u a) 1 0 ≡ bit u
per_page u' zero u e = let q : u' ≡ u = omega (arith, e) in subst (λ v. bit u' + 0 ≡ bit v) q (omega arith)
per_page zero (suc a) u e =
    let q : u ≡ suc a = omega (arith, e) in
    let b = bit_one u (omega (arith, e)) in
    let l : nat_lt 0 (suc a) ≡ true = grind (arith, nat_tests) in
    let n : nat_eq u (suc a) ≡ true = grind (arith, nat_tests, q) in
    rw (l, n) (omega (arith, b))
per_page (suc u') (suc a) u e =
    let b = bit_one u (omega (arith, e)) in
    let d = bit_one (suc u') (omega arith) in
    let l : nat_lt 0 (suc a) ≡ true = grind (arith, nat_tests) in
    let n : nat_eq u (suc a) ≡ false = grind (arith, nat_tests, e) in
    rw (l, n) (omega (arith, b, d))

pub drop_uses : (tables : List (Option (List ℕ))) (t k : ℕ) → t < length tables
    → uses (set tables t None) k + uses_in k (table_at tables t) ≡ uses tables k
drop_uses tables t k lt = let a = sum_by-set (uses_in k) tables t None None lt in omega (arith, a)

-- a table that is dropped takes its own pages along
pub dropped_live : (tables : List (Option (List ℕ))) (t n : ℕ) → t < length tables
    → named_below (set tables t None) n + alone_below tables t n ≡ named_below tables n
dropped_live tables t zero lt = refl
dropped_live tables t (suc n) lt =
    let a = dropped_live tables t n lt in
    let b = per_page (uses (set tables t None) n) (uses_in n (table_at tables t)) (uses tables n) (drop_uses tables t n lt) in
    omega (arith, a, b)

pub fork_uses : (tables : List (Option (List ℕ))) (names : Option (List ℕ)) (s k : ℕ) → s < length tables → table_at tables s ≡ None
    → uses (set tables s names) k ≡ uses tables k + uses_in k names
fork_uses tables names s k lt z =
    let a = sum_by-set (uses_in k) tables s names None lt in
    let b : uses_in k (table_at tables s) ≡ 0 = ap (uses_in k) z in
    omega (arith, a, b)

bit_grows : (u a : ℕ) → a ≤ u → bit (u + a) ≡ bit u
bit_grows zero a le = let z : zero + a ≡ zero = omega (arith, le) in ap bit z
bit_grows (suc u) a le = let b = bit_one (suc u + a) (omega arith) in let d = bit_one (suc u) (omega arith) in b ∙ sym d

pub forked_live : (tables : List (Option (List ℕ))) (t s n : ℕ) → s < length tables → table_at tables s ≡ None
    → ((k : ℕ) → uses_in k (table_at tables t) ≤ uses tables k) → named_below (set tables s (table_at tables t)) n ≡ named_below tables n
forked_live tables t s zero lt z h = refl
forked_live tables t s (suc n) lt z h =
    let a = forked_live tables t s n lt z h in
    let b : bit (uses (set tables s (table_at tables t)) n) ≡ bit (uses tables n) = ap bit
    (fork_uses tables (table_at tables t) s n lt z) ∙ bit_grows (uses tables n) (uses_in n (table_at tables t)) (h n) in
    omega (arith, a, b)

uses_len : (names : Option (List ℕ)) (p : ℕ) → uses_in p names ≤ names_len names
uses_len None p = omega arith
uses_len (Some names) p = count_by-le-length (nat_eq p) names

short_at : (tables : List (Option (List ℕ))) (m k : ℕ) (d : Option (List ℕ)) → ((t : ℕ) → names_len (table_at tables t) ≤ m)
    → k < length tables → names_len (get_or tables k d) ≤ m
short_at tables m k d h lt = subst (λ x. names_len x ≤ m) (get_or_default tables k None d lt) (h k)

uses_bound : (tables : List (Option (List ℕ))) (m p : ℕ) → ((t : ℕ) → names_len (table_at tables t) ≤ m) → uses tables p ≤ length tables * m
uses_bound tables m p h = sum_by-le (uses_in p) m tables
    (λ k d lt. let a = uses_len (get_or tables k d) p in let b = short_at tables m k d h lt in omega (arith, a, b))

-- the names of a table are pages
pub names_within : (tables : List (Option (List ℕ))) (pages : List (List ℕ)) (owners : List ℕ) (t : ℕ) (names : List ℕ)
    → IsSound tables pages owners → table_at tables t ≡ Some names → (k d : ℕ) → k < length names → get_or names k d < length owners
names_within tables pages owners t names s e k d lt =
    let h : HasPlace (table_at tables t) k = subst (λ x. HasPlace x k) (sym e) lt in
    let w = page_within tables pages owners t k s h in
    let n : name_in (table_at tables t) k ≡ get_or names k d = ap (λ x. name_in x k) e ∙ get_or_default names k 0 d lt in
    omega (arith, w, n, s.same)

uses_le : (tables : List (Option (List ℕ))) (t k : ℕ) → uses_in k (table_at tables t) ≤ uses tables k
uses_le tables t k = uses_at tables t k

few_forked : (tables : List (Option (List ℕ))) (t s : ℕ) → AreFew tables → s < length tables → AreFew (set tables s (table_at tables t))
few_forked tables t s f lt = record {
  few = let l = length-set tables s (table_at tables t) in let w = f.few in omega (arith, l, w);
  short = λ u. elim (zero_or u s) [
    | inl e ↦ subst (λ x. names_len x ≤ 2 ^ 31)
        (sym (ap (table_at (set tables s (table_at tables t))) e ∙ get_or-set_same tables s (table_at tables t) None lt)) (f.short t)
    | inr ne ↦ subst (λ x. names_len x ≤ 2 ^ 31) (sym (get_or-set_other tables s u (table_at tables t) None ne)) (f.short u)
  ];
}

pub fork_fits : (tables : List (Option (List ℕ))) (pages : List (List ℕ)) (owners : List ℕ) (t s : ℕ) (names : List ℕ)
    → IsSound tables pages owners → AreFew tables → s < length tables → table_at tables s ≡ None → table_at tables t ≡ Some names
    → (p : ℕ) → get_or owners p 0 + count_by (nat_eq p) names < 2 ^ 64
fork_fits tables pages owners t s names sound few lt z e p =
    let f = few_forked tables t s few lt in
    let a = uses_bound (set tables s (table_at tables t)) (2 ^ 31) p f.short in
    let b = fork_uses tables (table_at tables t) s p lt z in
    let c : uses_in p (table_at tables t) ≡ count_by (nat_eq p) names = ap (uses_in p) e in
    let d = sound.counts p in
    let w = f.few in
    omega (arith, a, b, c, d, w)

pub forked : (tables : List (Option (List ℕ))) (pages : List (List ℕ)) (owners owners' : List ℕ) (free : Many ℕ) (live t s : ℕ)
    (names : List ℕ) → IsPool tables pages owners free live → s < length tables → table_at tables s ≡ None → table_at tables t ≡ Some names
    → ((p : ℕ) → get_or owners' p 0 ≡ get_or owners p 0 + count_by (nat_eq p) names) → length owners' ≡ length owners
    → IsPool (set tables s (table_at tables t)) pages owners' free live
forked tables pages owners owners' free live t s names pool lt z e own len =
    let here : (p : ℕ) → uses_in p (table_at tables t) ≡ count_by (nat_eq p) names = λ p. ap (uses_in p) e in
    let counts' : (p : ℕ)
    → uses (set tables s (table_at tables t)) p ≡ get_or owners' p 0 = λ p.
    (let a = fork_uses tables (table_at tables t) s p lt z in let b = pool.sound.counts p in let c = here p in let d = own p in
    omega (arith, a, b, c, d)) in
    let sound' : IsSound (set tables s (table_at tables t)) pages owners' = record { same = len ∙ pool.sound.same; counts = counts' } in
    let same_used : used owners' ≡ used owners = used_is (set tables s (table_at tables t)) pages owners' sound'
    ∙ forked_live tables t s (length pages) lt z (uses_le tables t) ∙ sym (used_is tables pages owners pool.sound) in
    let k = pool.kept in
    record {
      sound = sound';
      kept = record {
        list = record {
          once = k.list.once;
          unowned = λ p c. let a = k.list.unowned p c in let b = own p in let d = pool.sound.counts p in let f = uses_le tables t p in
              let g = here p in omega (arith, a, b, d, f, g);
          within = λ p c. let w = k.list.within p c in omega (arith, w, len);
        };
        room = let r = k.room in omega (arith, r, same_used);
        one = k.one;
        live_is = k.live_is ∙ sym same_used;
        few = let r = k.few in omega (arith, r, len);
      };
      few = few_forked tables t s pool.few lt;
      long = pool.long;
    }

pub forked_live_all : (tables : List (Option (List ℕ))) (t s n : ℕ) → s < length tables → table_at tables s ≡ None
    → named_below (set tables s (table_at tables t)) n ≡ named_below tables n
forked_live_all tables t s n lt z = forked_live tables t s n lt z (uses_le tables t)

-- the names that the new table shows are those of the old one
pub fork_names : (tables new : List (Option (List ℕ))) (t s : ℕ) (names : List ℕ) → s < length tables
    → new ≡ set tables s (table_at tables t) → table_at new s ≡ Some names → table_at tables t ≡ Some names
fork_names tables new t s names lt e h = sym (get_or-set_same tables s (table_at tables t) None lt) ∙ ap (λ l. table_at l s) (sym e) ∙ h

-- a page that is handed over has one owner fewer, and the fresh one has one
pub used_handed : (owners : List ℕ) (page fresh : ℕ) → 2 ≤ get_or owners page 0 → get_or owners fresh 0 ≡ 0 → fresh < length owners
    → used (set (set owners page (get_or owners page 0 - 1)) fresh 1) ≡ used owners + 1
used_handed owners page fresh two z lt =
    let o = get_or owners page 0 in
    let lp : page < length owners = owner_within owners page (omega (arith, two)) in
    let ne : fresh ≢ page = λ e.
    (let w : get_or owners fresh 0 ≡ get_or owners page 0 = ap (λ i. get_or owners i 0) e in omega (arith, w, z, two)) in
    let a = used_set owners page (get_or owners page 0 - 1) lp in
    let b = bit_one (get_or owners page 0) (omega (arith, two)) in
    let c = bit_one (get_or owners page 0 - 1) (omega (arith, two)) in
    let mid = set owners page (get_or owners page 0 - 1) in
    let l = length-set owners page (get_or owners page 0 - 1) in
    let d = used_set mid fresh 1 (omega (arith, l, lt)) in
    let g : get_or mid fresh 0 ≡ 0 = get_or-set_other owners page fresh (get_or owners page 0 - 1) 0 ne ∙ z in
    let f = bit_zero (get_or mid fresh 0) g in
    omega (arith, a, b, c, d, f)

pub push_none : (tables : List (Option (List ℕ))) (u : ℕ) → table_at (tables ++ None ∷ []) u ≡ table_at tables u
push_none [] zero = refl
push_none [] (suc u) = refl
push_none (x ∷ xs) zero = refl
push_none (x ∷ xs) (suc u) = push_none xs u

none_uses : (tables : List (Option (List ℕ))) (p : ℕ) → uses (tables ++ None ∷ []) p ≡ uses tables p
none_uses tables p = let a = sum_by_push (uses_in p) tables None in omega (arith, a)

pub none_live : (tables : List (Option (List ℕ))) (n : ℕ) → named_below (tables ++ None ∷ []) n ≡ named_below tables n
none_live tables zero = refl
none_live tables (suc n) = let a = none_live tables n in
    let b : bit (uses (tables ++ None ∷ []) n) ≡ bit (uses tables n) = ap bit (none_uses tables n) in omega (arith, a, b)

pub none_pool : (tables : List (Option (List ℕ))) (pages : List (List ℕ)) (owners : List ℕ) (free : Many ℕ) (live : ℕ)
    → IsPool tables pages owners free live → length tables < 2 ^ 32 → IsPool (tables ++ None ∷ []) pages owners free live
none_pool tables pages owners free live p lt = record {
  sound = record { same = p.sound.same; counts = λ k. none_uses tables k ∙ p.sound.counts k };
  kept = p.kept;
  few = record {
    few = let l = length-append tables (None ∷ []) in omega (arith, l, lt);
    short = λ u. subst (λ x. names_len x ≤ 2 ^ 31) (sym (push_none tables u)) (p.few.short u);
  };
  long = p.long;
}

begun_uses : (tables : List (Option (List ℕ))) (t p : ℕ) → t < length tables → table_at tables t ≡ None
    → uses (set tables t (Some [])) p ≡ uses tables p
begun_uses tables t p lt z = let a = fork_uses tables (Some []) t p lt z in omega (arith, a)

pub begun_live : (tables : List (Option (List ℕ))) (t n : ℕ) → t < length tables → table_at tables t ≡ None
    → named_below (set tables t (Some [])) n ≡ named_below tables n
begun_live tables t zero lt z = refl
begun_live tables t (suc n) lt z = let a = begun_live tables t n lt z in
    let b : bit (uses (set tables t (Some [])) n) ≡ bit (uses tables n) = ap bit (begun_uses tables t n lt z) in omega (arith, a, b)

pub begun_pool : (tables : List (Option (List ℕ))) (pages : List (List ℕ)) (owners : List ℕ) (free : Many ℕ) (live t : ℕ)
    → IsPool tables pages owners free live → t < length tables → table_at tables t ≡ None
    → IsPool (set tables t (Some [])) pages owners free live
begun_pool tables pages owners free live t p lt z = record {
  sound = record { same = p.sound.same; counts = λ k. begun_uses tables t k lt z ∙ p.sound.counts k };
  kept = p.kept;
  few = record {
    few = let l = length-set tables t (Some []) in let w = p.few.few in omega (arith, l, w);
    short = λ u. elim (zero_or u t) [
      | inl e ↦ subst (λ x. names_len x ≤ 2 ^ 31)
          (sym (ap (table_at (set tables t (Some []))) e ∙ get_or-set_same tables t (Some []) None lt)) (omega arith)
      | inr ne ↦ subst (λ x. names_len x ≤ 2 ^ 31) (sym (get_or-set_other tables t u (Some []) None ne)) (p.few.short u)
    ];
  };
  long = p.long;
}
