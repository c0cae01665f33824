-- How a queue keeps its entries: those that are set in front, in the order of a heap, and the place of each.
-- No public clause cites this module.
use Rattle.std.specs.Prelude.{◌≡◌, ◌≢◌, ◌+◌, ◌*◌, ◌<◌, ◌≤◌, ◌==◌, nat_lt, ◌||◌, ◌&&◌, ℕ, Bool, false, List, [], ◌∷◌, length, Option, None}
use Rattle.std.specs.Prelude.{IsSome, ◌⊎◌, slice_index, slice_set}
use Rattle.std.specs.Option.{option_map_or}
use Rattle.clock_queue.specs.Dues.{due_of, entries_at, dues_behind, NoneBefore}
use Rattle.clock_queue.specs.Cost.{set_count}

-- the item is one of these
abbrev pub Among : {A : Type 0} → List A → A → Type 0
Among [] x = ⊥
Among (first ∷ others) x = (x ≡ first) ⊎ Among others x

-- the rank of an entry's due, or 0 where it has none
abbrev pub rank_of : {D : Type 0} → (D → ℕ) → List (Option D) → ℕ → ℕ
rank_of rank dues entry = option_map_or rank (due_of dues entry) 0

module _ {D : Type 0} (rank : D → ℕ) (moment : ℕ) (dues : List (Option D)) where
  -- the entry is the first of those that are due at the moment
  pub record IsNext (entry : ℕ) : Type 0 where
    pub is_set : IsSome (due_of dues entry)
    pub first : entries_at rank moment dues ≡ entry ∷ entries_at rank moment (slice_set dues entry None)
    pub left : dues_behind rank moment (slice_set dues entry None) ≡ dues_behind rank moment dues
    pub early : NoneBefore rank moment (slice_set dues entry None)

  -- none is due at the moment
  pub record IsDone : Type 0 where
    pub none : entries_at rank moment dues ≡ []
    pub left : dues_behind rank moment dues ≡ dues

-- so many numbers, each its own place
pub record CountsUp (count : ℕ) (numbers : List ℕ) : Type 0 where
  pub all : length numbers ≡ count
  pub each : (place : ℕ) → place < length numbers → slice_index numbers place ≡ place

-- a row of all entries, and the place of each in it
pub record AreInverse (row places : List ℕ) : Type 0 where
  pub same : length places ≡ length row
  pub entry_at : (place : ℕ) → place < length row → slice_index row place < length row
  pub place_of : (entry : ℕ) → entry < length row → slice_index places entry < length row
  pub there : (place : ℕ) → place < length row → slice_index places (slice_index row place) ≡ place
  pub back : (entry : ℕ) → entry < length row → slice_index row (slice_index places entry) ≡ entry

-- the entries that are set are the first `count` of the row
pub record AreParted {D : Type 0} (dues : List (Option D)) (row places : List ℕ) (count : ℕ) : Type 0 where
  pub inverse : AreInverse row places
  pub entries : length row ≡ length dues
  pub within : count ≤ length row
  pub front : (place : ℕ) → place < count → IsSome (due_of dues (slice_index row place))
  pub rest : (place : ℕ) → count ≤ place → place < length row → due_of dues (slice_index row place) ≡ None

module _ (rank : ℕ → ℕ) where
  -- by rank, and then by number
  abbrev pub before : ℕ → ℕ → Bool
  before x y = nat_lt (rank x) (rank y) || ((rank x == rank y) && nat_lt x y)

  -- the entry at a place isn't before the one at another
  abbrev pub NotBefore : List ℕ → ℕ → ℕ → Type 0
  NotBefore row place other = before (slice_index row place) (slice_index row other) ≡ false

  -- of the first `count` none is before the one above it; 2 * p + 1 and 2 * p + 2 stand below p
  pub record IsHeap (row : List ℕ) (count : ℕ) : Type 0 where
    pub each : (p k : ℕ) → 2 * p + 1 ≤ k → k ≤ 2 * p + 2 → k < count → NotBefore row k p

  -- a heap but for the entry at this place: what stands below it isn't before what stands above it
  pub record IsHeapBut (row : List ℕ) (count place : ℕ) : Type 0 where
    pub others : (p k : ℕ) → 2 * p + 1 ≤ k → k ≤ 2 * p + 2 → k < count → p ≢ place → k ≢ place → NotBefore row k p
    pub across : (p k : ℕ) → 2 * p + 1 ≤ place → place ≤ 2 * p + 2 → 2 * place + 1 ≤ k → k ≤ 2 * place + 2 → k < count → NotBefore row k p

  -- the entry at this place isn't before the one above it
  abbrev pub IsUnder : List ℕ → ℕ → Type 0
  IsUnder row place = (p : ℕ) → 2 * p + 1 ≤ place → place ≤ 2 * p + 2 → NotBefore row place p

  -- no entry right below this place is before the one at another place
  abbrev pub NoneBelow : List ℕ → ℕ → ℕ → ℕ → Type 0
  NoneBelow row count place other = (k : ℕ) → 2 * place + 1 ≤ k → k ≤ 2 * place + 2 → k < count → NotBefore row k other

-- the queue's parts
pub record IsKept {D : Type 0} (rank : D → ℕ) (dues : List (Option D)) (row places : List ℕ) (count : ℕ) : Type 0 where
  pub parted : AreParted dues row places count
  pub heap : IsHeap (rank_of rank dues) row count
  pub counted : count ≡ set_count dues
