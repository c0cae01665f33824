use Rattle.std.proofs.Common.{◌≡◌, ◌<◌, ◌≤◌, ◌+◌, ◌-◌, ℕ, zero, suc, cond, List, [], ◌∷◌, length, Option, None, Some, get_or, set, nat_eq, refl, sym, ◌≢◌, ap, ◌∙◌, subst, arith, inl, inr}
use Rattle.std.specs.List.{count_by, sum_by}
use Rattle.std.proofs.lemmas.List.{get_or-set_same, get_or-set_other}
use Rattle.std.proofs.Math.ListN.{length-set}
use Rattle.std.proofs.lemmas.List.Sums.{sum_by-cons, get_or-le-sum_by}
use Rattle.page_pool.specs.Shared.{
  uses,
  uses_in,
  page_bytes,
  joined_all,
  table_at,
  HasPlace,
  SameShape,
  name_in,
  renamed,
  IsSound,
  AreFree,
  Extends,
  Owned,
}
use Rattle.page_pool.proofs.Sound.{
  one_if,
  one_same,
  zero_or,
  uses_after,
  counts_after,
  named,
  tables_alike,
  within_by,
  owned,
  page_within,
  get_any,
  named_in,
}

place_renamed : (table : Option (List ℕ)) (k fresh : ℕ) → HasPlace table k
    → HasPlace (renamed table k fresh) k × (name_in (renamed table k fresh) k ≡ fresh)
place_renamed None k fresh h = absurd h
place_renamed (Some names) k fresh h = (rw length-set h, get_or-set_same names k fresh 0 h)

shape_renamed : (table : Option (List ℕ)) (k fresh : ℕ) → SameShape table (renamed table k fresh)
shape_renamed None k fresh = tt
shape_renamed (Some names) k fresh = simp length-set

pub shape_same : (table : Option (List ℕ)) → SameShape table table
shape_same None = tt
shape_same (Some names) = refl

name_renamed : (table : Option (List ℕ)) (k fresh i : ℕ) → i ≢ k → name_in (renamed table k fresh) i ≡ name_in table i
name_renamed None k fresh i ne = refl
name_renamed (Some names) k fresh i ne = get_or-set_other names k i fresh 0 ne

count_cons : (p x : ℕ) (xs : List ℕ) → count_by (nat_eq p) (x ∷ xs) ≡ one_if p x + count_by (nat_eq p) xs
unfolding one_if
count_cons p x xs = sum_by-cons (λ y. cond (nat_eq p y) 1 0) x xs

pub first_free : (owners free : List ℕ) (fresh : ℕ) → AreFree owners (fresh ∷ free) → fresh < length owners
first_free owners free fresh f = let a = count_cons fresh fresh free in let b = one_same fresh in f.within fresh (omega (arith, a, b))

-- a place whose page has one owner has it alone
pub alone_already : (tables : List (Option (List ℕ))) (pages : List (List ℕ)) (owners free : List ℕ) (t k page v : ℕ)
    → HasPlace (table_at tables t) k → IsSound tables pages owners → AreFree owners free → page ≡ name_in (table_at tables t) k
    → page < length owners → v ≡ get_or owners page v → v ≡ 1 → Owned tables pages tables pages owners free t k page
alone_already tables pages owners free t k page v h sound f e lt r one =
    record {
      place = h;
      name = sym e;
      alone = sound.counts page ∙ (get_any owners page 0 v lt ∙ (sym r ∙ one));
      sound = sound;
      free = f;
      bytes = λ u. refl;
    }

two_at : (f : Option (List ℕ) → ℕ) (tables : List (Option (List ℕ))) (t u : ℕ) → t ≢ u → t < length tables → u < length tables
    → f (table_at tables t) + f (table_at tables u) ≤ sum_by f tables
two_at f [] t u ne lt lu = absurd (omega arith)
two_at f (x ∷ xs) zero zero ne lt lu = absurd (ne refl)
two_at f (x ∷ xs) zero (suc u) ne lt lu = let a = sum_by-cons f x xs in let b = get_or-le-sum_by f xs u None (omega arith) in
    omega (arith, a, b)
two_at f (x ∷ xs) (suc t) zero ne lt lu = let a = sum_by-cons f x xs in let b = get_or-le-sum_by f xs t None (omega arith) in
    omega (arith, a, b)
two_at f (x ∷ xs) (suc t) (suc u) ne lt lu = let a = sum_by-cons f x xs in
    let b = two_at f xs t u (λ e. ne (ap suc e)) (omega arith) (omega arith) in omega (arith, a, b)

-- no other table has a page that is named once
no_other : (tables : List (Option (List ℕ))) (t u k i page : ℕ) → t ≢ u → HasPlace (table_at tables t) k
    → HasPlace (table_at tables u) i → name_in (table_at tables t) k ≡ page → uses tables page ≡ 1 → name_in (table_at tables u) i ≢ page
no_other tables t u k i page ne ht hu here once there =
    let a = two_at (uses_in page) tables t u ne (within_by tables t k ht) (within_by tables u i hu) in
    let b : 1 ≤ uses_in page (table_at tables t) = subst (λ p. 1 ≤ uses_in p (table_at tables t)) here
    (named_in (table_at tables t) k ht) in
    let c : 1 ≤ uses_in page (table_at tables u) = subst (λ p. 1 ≤ uses_in p (table_at tables u)) there
    (named_in (table_at tables u) i hu) in
    omega (arith, a, b, c, once)

pub others_kept : (tables : List (Option (List ℕ))) (pages : List (List ℕ)) (ts : List (Option (List ℕ))) (ps : List (List ℕ))
    (os free : List ℕ) (table at page : ℕ) (bytes : List ℕ) → Owned tables pages ts ps os free table at page → (u : ℕ) → (u ≡ table → ⊥)
    → joined_all (set ps page bytes) (table_at ts u) ≡ joined_all pages (table_at tables u)
others_kept tables pages ts ps os free table at page bytes o u ne =
    tables_alike (page_bytes (set ps page bytes)) (page_bytes ps) (table_at ts u) (table_at ts u) (shape_same (table_at ts u))
    (λ i p. get_or-set_other ps page (name_in (table_at ts u) i) bytes []
    (no_other ts table u at i page (λ e. ne (sym e)) o.place p o.name o.alone))
    ∙ o.bytes u

pub page_there : (tables : List (Option (List ℕ))) (pages : List (List ℕ)) (ts : List (Option (List ℕ))) (ps : List (List ℕ))
    (os free : List ℕ) (table at page : ℕ) → Owned tables pages ts ps os free table at page → page < length ps
page_there tables pages ts ps os free table at page o = let h = page_within ts ps os table at o.sound o.place in omega (arith, h, o.name)

module _ (tables : List (Option (List ℕ))) (pages : List (List ℕ)) (owners : List ℕ) (pages' : List (List ℕ)) (owners' free' : List ℕ)
    (t k fresh : ℕ) (h : HasPlace (table_at tables t) k) (sound : IsSound tables pages owners) (free : AreFree owners' (fresh ∷ free'))
    (same : length owners' ≡ length pages') (kept : (p : ℕ) → get_or owners' p 0 ≡ get_or owners p 0)
    (more : Extends pages pages') where
  page : ℕ
  page = name_in (table_at tables t) k

  fresh_counts : 1 ≤ count_by (nat_eq fresh) (fresh ∷ free')
  fresh_counts = let a = count_cons fresh fresh free' in let b = one_same fresh in omega (arith, a, b)

  unowned : get_or owners' fresh 0 ≡ 0
  unowned = free.unowned fresh fresh_counts

  sound' : IsSound tables pages' owners'
  sound' = record { same = same; counts = λ p. sound.counts p ∙ sym (kept p) }

  has_owner : 1 ≤ get_or owners' page 0
  unfolding page
  has_owner = let a = owned tables pages owners t k sound h in let b = kept page in omega (arith, a, b)

  other : page ≢ fresh
  other = λ e. let a : get_or owners' page 0 ≡ get_or owners' fresh 0 = ap (λ i. get_or owners' i 0) e in let b = has_owner in
      let c = unowned in omega (arith, a, b, c)

  within_page : page < length owners'
  unfolding page
  within_page = let a = page_within tables pages' owners' t k sound' h in omega (arith, a, same)

  within_fresh : fresh < length owners'
  within_fresh = free.within fresh fresh_counts

  tables'' : List (Option (List ℕ))
  tables'' = set tables t (renamed (table_at tables t) k fresh)

  pages'' : List (List ℕ)
  pages'' = set pages' fresh (page_bytes pages' page)

  owners'' : List ℕ
  owners'' = set (set owners' page (get_or owners' page 0 - 1)) fresh 1

  counts'' : (p : ℕ) → uses tables'' p ≡ get_or owners'' p 0
  unfolding tables'' owners'' page
  counts'' p = counts_after owners' page fresh p (uses tables p)
      (uses (set tables t (renamed (table_at tables t) k fresh)) p) within_page within_fresh other has_owner unowned (sound'.counts p)
      (uses_after tables t k fresh p h)

  one_owner : get_or owners'' fresh 0 ≡ 1
  unfolding owners''
  one_owner = let lt : fresh < length (set owners' page (get_or owners' page 0 - 1)) = rw length-set within_fresh in
      get_or-set_same (set owners' page (get_or owners' page 0 - 1)) fresh 1 0 lt

  table_here : table_at tables'' t ≡ renamed (table_at tables t) k fresh
  unfolding tables''
  table_here = get_or-set_same tables t (renamed (table_at tables t) k fresh) None (within_by tables t k h)

  table_there : (u : ℕ) → u ≢ t → table_at tables'' u ≡ table_at tables u
  unfolding tables''
  table_there u ne = get_or-set_other tables t u (renamed (table_at tables t) k fresh) None ne

  long'' : (length owners'' ≡ length owners') × (length pages'' ≡ length pages')
  unfolding owners'' pages''
  long'' = (simp length-set, simp length-set)

  free'' : AreFree owners'' free'
  unfolding owners''
  free'' =
      record {
        once = λ p. let a = free.once p in let b = count_cons p fresh free' in omega (arith, a, b);
        unowned = λ p c.
            let b = count_cons p fresh free' in
            let z : get_or owners' p 0 ≡ 0 = free.unowned p (omega (arith, b, c)) in
            let nf : p ≢ fresh = λ e.
            (let a = free.once p in let s : one_if p fresh ≡ 1 = ap (one_if p) (sym e) ∙ one_same p in omega (arith, a, b, c, s)) in
            let np : p ≢ page = λ e.
            (let w : get_or owners' p 0 ≡ get_or owners' page 0 = ap (λ i. get_or owners' i 0) e in let o = has_owner in
            omega (arith, w, z, o)) in
            get_or-set_other (set owners' page (get_or owners' page 0 - 1)) fresh p 1 0 nf
            ∙ (get_or-set_other owners' page p (get_or owners' page 0 - 1) 0 np ∙ z);
        within = λ p c. let b = count_cons p fresh free' in let a = free.within p (omega (arith, b, c)) in simp length-set a;
      }

  -- a page that a table names has the bytes that it had
  bytes_kept : (p : ℕ) → p < length pages → p ≢ fresh → page_bytes pages'' p ≡ page_bytes pages p
  unfolding pages''
  bytes_kept p lt ne = get_or-set_other pages' fresh p (page_bytes pages' page) [] ne ∙ more.same p lt

  bytes_new : page_bytes pages'' fresh ≡ page_bytes pages page
  unfolding pages'' page
  bytes_new = let lt : fresh < length pages' = let a = within_fresh in omega (arith, a, same) in
      get_or-set_same pages' fresh (page_bytes pages' page) [] lt ∙ more.same page (page_within tables pages owners t k sound h)

  unowned_before : get_or owners fresh 0 ≡ 0
  unowned_before = sym (kept fresh) ∙ unowned

  here_alike : (i : ℕ) → HasPlace (table_at tables t) i
      → page_bytes pages'' (name_in (renamed (table_at tables t) k fresh) i) ≡ page_bytes pages (name_in (table_at tables t) i)
  unfolding page
  here_alike i p =
      elim (zero_or i k) [
        | inl e ↦
            ap (λ j. page_bytes pages'' (name_in (renamed (table_at tables t) k fresh) j)) e
            ∙ (ap (page_bytes pages'') (place_renamed (table_at tables t) k fresh h).1
            ∙ (bytes_new ∙ ap (λ j. page_bytes pages (name_in (table_at tables t) j)) (sym e)))
        | inr ne ↦
            let q = named tables pages owners fresh t i sound unowned_before p in
            ap (page_bytes pages'') (name_renamed (table_at tables t) k fresh i ne) ∙ bytes_kept (name_in (table_at tables t) i) q.0 q.1
      ]

  bytes'' : (u : ℕ) → joined_all pages'' (table_at tables'' u) ≡ joined_all pages (table_at tables u)
  bytes'' u =
      elim (zero_or u t) [
        | inl e ↦
            ap (λ v. joined_all pages'' (table_at tables'' v)) e
            ∙ (ap (joined_all pages'') table_here
            ∙ (tables_alike (page_bytes pages'') (page_bytes pages) (table_at tables t) (renamed (table_at tables t) k fresh)
            (shape_renamed (table_at tables t) k fresh) here_alike
            ∙ ap (λ v. joined_all pages (table_at tables v)) (sym e)))
        | inr ne ↦
            ap (joined_all pages'') (table_there u ne)
            ∙ tables_alike (page_bytes pages'') (page_bytes pages) (table_at tables u) (table_at tables u)
            (shape_same (table_at tables u))
            (λ i p. let q = named tables pages owners fresh u i sound unowned_before p in
            bytes_kept (name_in (table_at tables u) i) q.0 q.1)
      ]

  owned'' : Owned tables pages tables'' pages'' owners'' free' t k fresh
  owned'' =
      record {
        place = rw table_here (place_renamed (table_at tables t) k fresh h).0;
        name = rw table_here (place_renamed (table_at tables t) k fresh h).1;
        alone = counts'' fresh ∙ one_owner;
        sound = record { same = let a = long'' in omega (arith, a.0, a.1, same); counts = counts'' };
        free = free'';
        bytes = bytes'';
      }

  pub handed : (ts : List (Option (List ℕ))) (ps : List (List ℕ)) (os : List ℕ)
      → ts ≡ set tables t (renamed (table_at tables t) k fresh)
      → ps ≡ set pages' fresh (page_bytes pages' (name_in (table_at tables t) k))
      → os ≡ set (set owners' (name_in (table_at tables t) k) (get_or owners' (name_in (table_at tables t) k) 0 - 1)) fresh 1
      → Owned tables pages ts ps os free' t k fresh
  unfolding tables'' pages'' owners'' page
  handed ts ps os et ep eo = rw (et, ep, eo) owned''
