-- Memories as contracts see them: the bytes that a pool has for each, and what a call leaves as it was (WebAssembly
-- Core 1.0, section 4.2.8).
use Rattle.std.specs.Prelude.{◌≡◌, ◌≢◌, ℕ, ◌+◌, ◌*◌, ◌==◌, ◌||◌, Bool, true, false, List, [], Option, Some, None, Result, Ok, Err, IsSome, unwrap_or, length, nat_le, slice_get, if◌then◌else◌}
use Rattle.code_specs.specs.Stores.{page_size}

-- the bytes of each table of a pool, by the table's number
abbrev pub Tables : Type 0
Tables = List (List ℕ)

-- the bytes of a table, None where there is no such table
abbrev pub table_at : Tables → ℕ → Option (List ℕ)
table_at pool t = slice_get pool t

-- the bytes of a table that is there
abbrev pub table_bytes : Tables → ℕ → List ℕ
table_bytes pool t = unwrap_or (table_at pool t) []

-- a memory: the number of its table, its size in pages, and the most pages that it may have
pub record Extent : Type 0 where
  pub table : ℕ
  pub pages : ℕ
  pub greatest : ℕ

-- the bytes of a memory
abbrev pub bytes_in : Tables → Extent → List ℕ
bytes_in pool m = table_bytes pool m.table

-- the table of a memory is there, with the memory's size
pub record IsThere (pool : Tables) (m : Extent) : Type 0 where
  pub table : IsSome (table_at pool m.table)
  pub size : length (bytes_in pool m) ≡ m.pages * page_size

-- every table but one is as it was
abbrev pub KeepsOthers : (old new : Tables) → ℕ → Type 0
KeepsOthers old new t = (u : ℕ) → u ≢ t → table_at new u ≡ table_at old u

-- every table is as it was
abbrev pub KeepsAll : (old new : Tables) → Type 0
KeepsAll old new = (u : ℕ) → table_at new u ≡ table_at old u

-- No page of a table belongs to another table too. Today each table has its bytes for itself, so this always holds.
unfoldable pub IsUnshared : Tables → ℕ → Type 0
IsUnshared pool t = Unit {0}

-- no table gets a shared page
abbrev pub KeepsUnshared : (old new : Tables) → Type 0
KeepsUnshared old new = (t : ℕ) → IsUnshared old t → IsUnshared new t

-- ---- accesses

-- how many bytes a load or store has
abbrev pub is_width : ℕ → Bool
is_width n = n == 1 || n == 2 || n == 4 || n == 8

-- whether so many bytes from an address on lie in a memory with these bytes
abbrev pub lies_within : List ℕ → (address count : ℕ) → Bool
lies_within bytes address count = nat_le (address + count) (length bytes)

-- whether a write was done
abbrev pub is_done : {E : Type 0} → Result Bool E → Bool
is_done (Ok done) = done
is_done (Err e) = false

-- ---- growth

-- whether a memory may have so many pages more
abbrev pub may_grow : Extent → ℕ → Bool
may_grow m more = nat_le (m.pages + more) m.greatest

-- the size before, where it may
abbrev pub size_before : Extent → ℕ → Option ℕ
size_before m more = if may_grow m more then Some m.pages else None

-- whether it has grown
abbrev pub has_grown : {A E : Type 0} → Result (Option A) E → Bool
has_grown (Ok None) = false
has_grown (Ok (Some size)) = true
has_grown (Err e) = false
