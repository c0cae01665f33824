-- What the calls leave of the lists.
use Rattle.std.proofs.Common.{◌≡◌, ◌≢◌, ◌⊎◌, ◌<◌, ◌-◌, ℕ, zero, suc, List, [], ◌∷◌, length, map, set, replicate}
use Rattle.std.proofs.Common.{sym, refl, ap, ◌∙◌, subst, inl, inr, arith, get_or, length-set, get_or-set_same, get_or-set_other}
use Rattle.std.proofs.lemmas.Bool.{cases_eq}
use Rattle.std.proofs.lemmas.List.{get_or-map as read-map, map-set, set-set, length-map, length-replicate}
use Rattle.std.proofs.Math.ListN.{get_or-map}
use Rattle.bus_specs.specs.Bus.{Request}
use Rattle.index_list.specs.Many.{without, list_at}
use Rattle.pending_frames.specs.Pending.{none_waiting}
use Rattle.pending_frames.specs.Kept.{Placed, Among, requests_of, joined, by_number, IsInOrder, IsKept, AreBelow}
use Rattle.pending_frames.proofs.Steps.{in_without, without_order, without_none, without_length}

abbrev none_placed : List Placed
none_placed = []

empty_at : (n i : ℕ) → list_at (replicate n none_placed) i ≡ none_placed
empty_at zero i = refl
empty_at (suc n) zero = refl
empty_at (suc n) (suc i) = empty_at n i

none_among : (n i : ℕ) (a : Placed) → Among (list_at (replicate n none_placed) i) a → ⊥
none_among n i a h = subst (λ (l : List Placed). Among l a) (empty_at n i) h

-- lists of which none has an entry
pub kept_new : (n : ℕ) → IsKept (replicate n [])
kept_new n = record {
  order = λ i. subst IsInOrder (sym (empty_at n i)) tt;
  home = λ i a h. absurd (none_among n i a h);
  places = λ i j a b h k e. absurd (none_among n i a h);
  numbers = λ i j a b h k e. absurd (none_among n i a h);
}

pub below_new : (n : ℕ) → AreBelow 0 (replicate n [])
below_new n = record { each = λ i a h. absurd (none_among n i a h) }

pub counts_new : (n : ℕ) → replicate n 0 ≡ map (length {A = Placed}) (replicate n [])
counts_new zero = refl
counts_new (suc n) = ap (λ l. 0 ∷ l) (counts_new n)

joined_new : (n : ℕ) → joined (replicate n []) ≡ []
joined_new zero = refl
joined_new (suc n) = joined_new n

requests_new : (n : ℕ) → requests_of (replicate n []) ≡ []
unfolding requests_of
requests_new n = ap by_number (joined_new n)

pub value_new : (n : ℕ) → record { nodes = length (replicate n none_placed); requests = requests_of (replicate n []); next = 0 }
    ≡ none_waiting n
value_new n = rw (requests_new n, length-replicate n none_placed) refl

-- lists with the same entries of each node are the same
pub same_lists : (xs ys : List (List Placed)) → length xs ≡ length ys → ((i : ℕ) → list_at xs i ≡ list_at ys i) → xs ≡ ys
same_lists [] [] n h = refl
same_lists [] (y ∷ ys) n h = absurd (omega arith)
same_lists (x ∷ xs) [] n h = absurd (omega arith)
same_lists (x ∷ xs) (y ∷ ys) n h = ap (λ l. l ∷ xs) (h 0) ∙ ap (λ l. y ∷ l) (same_lists xs ys (omega arith) (λ i. h (suc i)))

-- fewer entries, in order, are kept as they were
pub kept_fewer : (lists fewer : List (List Placed)) → IsKept lists → ((i : ℕ) → IsInOrder (list_at fewer i))
    → ((i : ℕ) (a : Placed) → Among (list_at fewer i) a → Among (list_at lists i) a) → IsKept fewer
kept_fewer lists fewer kept order there = record {
  order = order;
  home = λ i a h. kept.home i a (there i a h);
  places = λ i j a b h k e. kept.places i j a b (there i a h) (there j b k) e;
  numbers = λ i j a b h k e. kept.numbers i j a b (there i a h) (there j b k) e;
}

pub below_fewer : (next : ℕ) (lists fewer : List (List Placed)) → AreBelow next lists
    → ((i : ℕ) (a : Placed) → Among (list_at fewer i) a → Among (list_at lists i) a) → AreBelow next fewer
below_fewer next lists fewer below there = record { each = λ i a h. below.each i a (there i a h) }

module _ (lists : List (List Placed)) (place : ℕ) where
  pub at_without : (i : ℕ) → list_at (map (without place) lists) i ≡ without place (list_at lists i)
  at_without i = get_or-map (without place) lists i []

  pub fewer_without : (i : ℕ) (a : Placed) → Among (list_at (map (without place) lists) i) a → Among (list_at lists i) a
  fewer_without i a h = in_without place (list_at lists i) a (subst (λ (l : List Placed). Among l a) (at_without i) h)

  pub kept_without : IsKept lists → IsKept (map (without place) lists)
  kept_without kept = kept_fewer lists (map (without place) lists) kept
      (λ i. subst IsInOrder (sym (at_without i)) (without_order place (list_at lists i) (kept.order i))) fewer_without

  -- the place is one of this node alone
  pub without_here : (i : ℕ) (r : Request) → IsKept lists → i < length lists → Among (list_at lists i) (place, r)
      → map (without place) lists ≡ set lists i (without place (list_at lists i))
  without_here i r kept within h = same_lists (map (without place) lists) (set lists i (without place (list_at lists i)))
      (length-map lists (without place) ∙ sym (length-set lists i (without place (list_at lists i))))
      (λ j. go j (cases_eq j i))
    where
      go : (j : ℕ) → (j ≡ i) ⊎ (j ≢ i) → list_at (map (without place) lists) j ≡ list_at (set lists i (without place (list_at lists i))) j
      go j (inl e) = at_without j ∙ (ap (λ k. without place (list_at lists k)) e
          ∙ (sym (get_or-set_same lists i (without place (list_at lists i)) [] within)
          ∙ ap (λ k. list_at (set lists i (without place (list_at lists i))) k) (sym e)))
      go j (inr n) = at_without j ∙ (without_none place (list_at lists j) other
          ∙ sym (get_or-set_other lists i j (without place (list_at lists i)) [] n))
        where
          other : (a : Placed) → Among (list_at lists j) a → a.0 ≢ place
          other a k e =
              let s : a ≡ (place, r) = kept.places j i a (place, r) k h e in
              n (sym (kept.home j a k) ∙ (ap (λ (c : Placed). c.1.node) s ∙ kept.home i (place, r) h))

-- one entry fewer in one list
pub emptier : (old lists new : List (List Placed)) (node place : ℕ) (r : Request) → IsKept lists → node < length old
    → lists ≡ set old node (list_at lists node) → Among (list_at lists node) (place, r) → new ≡ map (without place) lists
    → new ≡ set old node (list_at new node)
emptier old lists new node place r kept within is h taken =
    let long : length lists ≡ length old = ap length is ∙ length-set old node (list_at lists node) in
    let here = without_here lists place node r kept (omega (arith, long)) h in
    let left = without place (list_at lists node) in
    let at : list_at new node ≡ left = ap (λ ls. list_at ls node) taken ∙ at_without lists place node in
    taken ∙ (here ∙ (ap (λ ls. set ls node left) is ∙ (set-set old node (list_at lists node) left ∙ ap (λ l. set old node l) (sym at))))

-- the counts behind a taking
pub counts_without : (lists : List (List Placed)) (place node : ℕ) (r : Request) (count : ℕ) → IsKept lists → node < length lists
    → Among (list_at lists node) (place, r) → count ≡ length (list_at lists node)
    → set (map (length {A = Placed}) lists) node (count - 1) ≡ map (length {A = Placed}) (map (without place) lists)
counts_without lists place node r count kept within h is =
    let one = without_length place (list_at lists node) (place, r) h refl in
    let less : count - 1 ≡ length (without place (list_at lists node)) = omega arith in
    ap (λ n. set (map (length {A = Placed}) lists) node n) less
    ∙ (sym (map-set (length {A = Placed}) lists node (without place (list_at lists node)))
    ∙ ap (map (length {A = Placed})) (sym (without_here lists place node r kept within h)))

-- what stands for a node among the counts is the length of its list
pub count_is : (lists : List (List Placed)) (counts : List ℕ) (node count : ℕ) → counts ≡ map (length {A = Placed}) lists
    → node < length lists → count ≡ get_or counts node count → count ≡ length (list_at lists node)
count_is lists counts node count is within read =
    read ∙ (ap (λ ns. get_or ns node count) is ∙ read-map (length {A = Placed}) lists node [] count within)

-- the lists of which one is emptied
module _ (lists : List (List Placed)) (node : ℕ) (within : node < length lists) where
  pub cleared_here : list_at (set lists node []) node ≡ []
  cleared_here = get_or-set_same lists node [] [] within

  pub cleared_there : (i : ℕ) → i ≢ node → list_at (set lists node []) i ≡ list_at lists i
  cleared_there i n = get_or-set_other lists node i [] [] n

  pub in_cleared : (i : ℕ) (a : Placed) → Among (list_at (set lists node []) i) a → (i ≢ node) × Among (list_at lists i) a
  in_cleared i a h = go (cases_eq i node)
    where
      go : (i ≡ node) ⊎ (i ≢ node) → (i ≢ node) × Among (list_at lists i) a
      go (inl e) = absurd (subst (λ (l : List Placed). Among l a) (ap (λ k. list_at (set lists node []) k) e ∙ cleared_here) h)
      go (inr n) = (n, subst (λ (l : List Placed). Among l a) (cleared_there i n) h)

  pub kept_cleared : IsKept lists → IsKept (set lists node [])
  kept_cleared kept = kept_fewer lists (set lists node []) kept (λ i. go i (cases_eq i node)) (λ i a h. (in_cleared i a h).1)
    where
      go : (i : ℕ) → (i ≡ node) ⊎ (i ≢ node) → IsInOrder (list_at (set lists node []) i)
      go i (inl e) = subst IsInOrder (sym (ap (λ k. list_at (set lists node []) k) e ∙ cleared_here)) tt
      go i (inr n) = subst IsInOrder (sym (cleared_there i n)) (kept.order i)

  pub below_cleared : (next : ℕ) → AreBelow next lists → AreBelow next (set lists node [])
  below_cleared next below = below_fewer next lists (set lists node []) below (λ i a h. (in_cleared i a h).1)

  pub counts_cleared : set (map (length {A = Placed}) lists) node 0 ≡ map (length {A = Placed}) (set lists node [])
  counts_cleared = sym (map-set (length {A = Placed}) lists node [])
