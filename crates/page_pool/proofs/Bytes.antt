-- The byte that is read or written.
use Rattle.std.proofs.Common.{◌≡◌, ◌≢◌, ◌<◌, ◌≤◌, ◌+◌, ◌-◌, ◌*◌, ℕ, zero, suc, cond, List, [], ◌∷◌, ◌++◌, length, Option, None, Some, get_or, set, nat_eq, refl, sym, ap, ◌∙◌, subst, arith}
use Rattle.std.specs.List.{count_by, flat_map}
use Rattle.std.proofs.lemmas.List.{
  get_or-set_same,
  get_or-set_other,
  set-append_left,
  set-append_right,
  get_or_append_left,
  get_or-append_right,
}
use Rattle.std.proofs.lemmas.List.Concat.{flat_map-cons}
use Rattle.std.proofs.lemmas.List.Sums.{sum_by-cons}
use Rattle.page_pool.specs.Shared.{IsSound, table_at, uses, uses_in, HasPlace, name_in, page_bytes, joined_all, WritesAt, ByteAt}
use Rattle.page_pool.specs.Kept.{AreLong}
use Rattle.page_pool.proofs.Sound.{one_if, one_same, count_here, page_within, uses_at}

count_step : (p x : ℕ) (xs : List ℕ) → count_by (nat_eq p) (x ∷ xs) ≡ one_if p x + count_by (nat_eq p) xs
unfolding one_if
count_step p x xs = sum_by-cons (λ y. cond (nat_eq p y) 1 0) x xs

-- pages that aren't named are as they were
kept_apart : (f g : ℕ → List ℕ) (page : ℕ) (names : List ℕ) → ((p : ℕ) → p ≢ page → g p ≡ f p) → count_by (nat_eq page) names ≡ 0
    → flat_map g names ≡ flat_map f names
kept_apart f g page [] other c = refl
kept_apart f g page (x ∷ xs) other c =
    let s = count_step page x xs in
    let ne : x ≢ page = λ e. let o : one_if page x ≡ 1 = ap (one_if page) e ∙ one_same page in omega (arith, s, o, c) in
    rw (flat_map-cons g x xs, flat_map-cons f x xs, other x ne, kept_apart f g page xs other (omega (arith, s, c))) refl

-- the byte in the joined pages
byte_joined : (f g : ℕ → List ℕ) (m page off v k : ℕ) (names : List ℕ)
    → ((i : ℕ) → i < length names → length (f (get_or names i 0)) ≡ m) → ((p : ℕ) → p ≢ page → g p ≡ f p) → g page ≡ set (f page) off v
    → off < m
    → k < length names → get_or names k 0 ≡ page → count_by (nat_eq page) names ≡ 1
    → flat_map g names ≡ set (flat_map f names) (k * m + off) v
byte_joined f g m page off v k [] long other here lo lk e c = absurd (omega (arith, lk))
byte_joined f g m page off v zero (x ∷ xs) long other here lo lk e c =
    let s = count_step page x xs in
    let o : one_if page x ≡ 1 = ap (one_if page) e ∙ one_same page in
    let l : length (f x) ≡ m = long 0 (omega arith) in
    let gx : g x ≡ set (f x) off v = ap g e ∙ here ∙ ap (λ p. set (f p) off v) (sym e) in
    let at : 0 * m + off ≡ off = omega arith in
    flat_map-cons g x xs ∙ ap (λ r. r ++ flat_map g xs) gx
    ∙ ap (λ r. set (f x) off v ++ r) (kept_apart f g page xs other (omega (arith, s, o, c)))
    ∙ sym (set-append_left (f x) (flat_map f xs) off v (omega (arith, l, lo)))
    ∙ ap (λ i. set (f x ++ flat_map f xs) i v) (sym at) ∙ ap (λ r. set r (0 * m + off) v) (sym (flat_map-cons f x xs))
byte_joined f g m page off v (suc k) (x ∷ xs) long other here lo lk e c =
    let s = count_step page x xs in
    let lt : k < length xs = omega (arith, lk) in
    let h : 1 ≤ count_by (nat_eq page) xs = subst (λ p. 1 ≤ count_by (nat_eq p) xs) e (count_here xs k 0 lt) in
    let ne : x ≢ page = λ q. let o : one_if page x ≡ 1 = ap (one_if page) q ∙ one_same page in omega (arith, s, o, c, h) in
    let l : length (f x) ≡ m = long 0 (omega arith) in
    let r = byte_joined f g m page off v k xs (λ i li. long (suc i) (omega (arith, li))) other here lo lt e (omega (arith, s, c, h)) in
    let at : suc k * m + off ≡ m + (k * m + off) = grind arith in
    let back : suc k * m + off - m ≡ k * m + off = omega (arith, at) in
    flat_map-cons g x xs ∙ ap (λ y. y ++ flat_map g xs) (other x ne) ∙ ap (λ y. f x ++ y) r
    ∙ ap (λ i. f x ++ set (flat_map f xs) i v) (sym back)
    ∙ sym (set-append_right (f x) (flat_map f xs) m (suc k * m + off) v l (omega (arith, at)))
    ∙ ap (λ y. set y (suc k * m + off) v) (sym (flat_map-cons f x xs))

gone : (a b : ℕ) → a + b - a ≡ b
gone a b = omega arith

-- the byte that is read
read_joined : (f : ℕ → List ℕ) (m off k : ℕ) (names : List ℕ) → ((i : ℕ) → i < length names → length (f (get_or names i 0)) ≡ m)
    → off < m → k < length names → get_or (flat_map f names) (k * m + off) 0 ≡ get_or (f (get_or names k 0)) off 0
read_joined f m off k [] long lo lk = absurd (omega (arith, lk))
read_joined f m off zero (x ∷ xs) long lo lk =
    let l : length (f x) ≡ m = long 0 (omega arith) in
    let at : 0 * m + off ≡ off = omega arith in
    ap (λ y. get_or y (0 * m + off) 0) (flat_map-cons f x xs) ∙ ap (λ i. get_or (f x ++ flat_map f xs) i 0) at
    ∙ get_or_append_left (f x) (flat_map f xs) 0 off (omega (arith, l, lo))
read_joined f m off (suc k) (x ∷ xs) long lo lk =
    let l : length (f x) ≡ m = long 0 (omega arith) in
    let at : suc k * m + off ≡ m + (k * m + off) = grind arith in
    ap (λ y. get_or y (suc k * m + off) 0) (flat_map-cons f x xs) ∙ ap (λ i. get_or (f x ++ flat_map f xs) i 0) at
    ∙ get_or-append_right (f x) (flat_map f xs) m (m + (k * m + off)) 0 l (omega arith)
    ∙ ap (λ i. get_or (flat_map f xs) i 0) (gone m (k * m + off))
    ∙ read_joined f m off k xs (λ i li. long (suc i) (omega (arith, li))) lo (omega (arith, lk))

names_long : (tables : List (Option (List ℕ))) (pages : List (List ℕ)) (owners : List ℕ) (t m : ℕ) (names : List ℕ)
    → IsSound tables pages owners → AreLong m pages → table_at tables t ≡ Some names → (i : ℕ) → i < length names
    → length (page_bytes pages (get_or names i 0)) ≡ m
names_long tables pages owners t m names s long e i lt =
    let h : HasPlace (table_at tables t) i = subst (λ x. HasPlace x i) (sym e) lt in
    let w = page_within tables pages owners t i s h in
    subst (λ p. length (page_bytes pages p) ≡ m) (ap (λ x. name_in x i) e) (long (name_in (table_at tables t) i) w)

some_names : (o : Option (List ℕ)) (k : ℕ) → HasPlace o k → (xs : List ℕ) × (o ≡ Some xs)
some_names None k h = absurd h
some_names (Some xs) k h = (xs, refl)

-- what a table reads as, at a place
pub reads_at : (tables : List (Option (List ℕ))) (pages : List (List ℕ)) (owners : List ℕ) (t m k off : ℕ) → IsSound tables pages owners
    → AreLong m pages → HasPlace (table_at tables t) k → off < m
    → ByteAt (joined_all pages (table_at tables t)) (k * m + off) (get_or (page_bytes pages (name_in (table_at tables t) k)) off 0)
reads_at tables pages owners t m k off s long h lo =
    let n = some_names (table_at tables t) k h in
    let lt : k < length n.0 = subst (λ x. HasPlace x k) n.1 h in
    subst (λ x. ByteAt (joined_all pages x) (k * m + off) (get_or (page_bytes pages (name_in x k)) off 0)) (sym n.1)
    (sym (read_joined (page_bytes pages) m off k n.0 (names_long tables pages owners t m n.0 s long n.1) lo lt))

-- a byte of a page that one place alone has
pub writes_at : (tables : List (Option (List ℕ))) (pages : List (List ℕ)) (owners : List ℕ) (t m k off v page : ℕ) (bytes : List ℕ)
    → IsSound tables pages owners → AreLong m pages → HasPlace (table_at tables t) k → off < m → name_in (table_at tables t) k ≡ page
    → uses tables page ≡ 1
    → bytes ≡ page_bytes pages page
    → WritesAt (joined_all pages (table_at tables t)) (k * m + off) v (joined_all (set pages page (set bytes off v)) (table_at tables t))
writes_at tables pages owners t m k off v page bytes s long h lo e one eb =
    let n = some_names (table_at tables t) k h in
    let lt : k < length n.0 = subst (λ x. HasPlace x k) n.1 h in
    let named : get_or n.0 k 0 ≡ page = sym (ap (λ x. name_in x k) n.1) ∙ e in
    let within : page < length pages = subst (λ p. p < length pages) e (page_within tables pages owners t k s h) in
    let a = uses_at tables t page in
    let b : uses_in page (table_at tables t) ≡ count_by (nat_eq page) n.0 = ap (uses_in page) n.1 in
    let c : 1 ≤ count_by (nat_eq page) n.0 = subst (λ p. 1 ≤ count_by (nat_eq p) n.0) named (count_here n.0 k 0 lt) in
    let g = page_bytes (set pages page (set bytes off v)) in
    let here : g page ≡ set (page_bytes pages page) off v = get_or-set_same pages page (set bytes off v) [] within
    ∙ ap (λ y. set y off v) eb in
    let other : (p : ℕ) → p ≢ page → g p ≡ page_bytes pages p = λ p ne. get_or-set_other pages page p (set bytes off v) [] ne in
    subst (λ x. WritesAt (joined_all pages x) (k * m + off) v (joined_all (set pages page (set bytes off v)) x)) (sym n.1)
    (ap (λ (y : List ℕ). Some y)
    (byte_joined (page_bytes pages) g m page off v k n.0 (names_long tables pages owners t m n.0 s long n.1) other here lo lt named
    (omega (arith, a, b, c, one))))
