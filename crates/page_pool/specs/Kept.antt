-- Counts of owners, free pages and the room for more of these.
use Rattle.std.specs.Prelude.{◌≡◌, ℕ, zero, suc, ◌+◌, ◌<◌, ◌≤◌, ◌^◌, ◌&&◌, List, [], ◌∷◌, ◌++◌, Option, None, Some, length, map, slice_index_or, if◌then◌else◌, nat_eq, nat_lt, refl, take}
use Rattle.std.specs.List.{count_by}
use Rattle.std.specs.Coded.{Coded, code_by, coded×, coded_list, coded_option, coded_ℕ}
use Rattle.index_list.specs.Many.{Many, list_at}
use Rattle.page_pool.specs.Shared.{AreFree, IsSound, table_at, uses, uses_in, named_below, joined_all, page_bytes}

-- the free pages
abbrev pub free_of : Many ℕ → List ℕ
free_of m = map (λ (e : ℕ × ℕ). e.1) (list_at m.lists 0)

-- how many pages have an owner
abbrev pub used : List ℕ → ℕ
used owners = count_by (nat_lt 0) owners

-- the free list is one of pages without an owner, and has room for each page that has one
pub record AreKept (owners : List ℕ) (free : Many ℕ) (live : ℕ) : Type 0 where
  pub list : AreFree owners (free_of free)
  pub room : used owners ≤ free.spare
  pub one : length free.lists ≡ 1
  pub live_is : live ≡ used owners
  pub few : length owners < 2 ^ 32

-- this page is taken out of the free list, and gets an owner next
pub record AreReady (owners : List ℕ) (free : Many ℕ) (live page : ℕ) : Type 0 where
  pub list : AreFree owners (page ∷ free_of free)
  pub room : used owners + 1 ≤ free.spare
  pub one : length free.lists ≡ 1
  pub live_is : live ≡ used owners
  pub few : length owners < 2 ^ 32

abbrev pub names_len : Option (List ℕ) → ℕ
names_len None = 0
names_len (Some names) = length names

-- tables are few and short, so that a count of owners fits
pub record AreFew (tables : List (Option (List ℕ))) : Type 0 where
  pub few : length tables ≤ 2 ^ 32
  pub short : (t : ℕ) → names_len (table_at tables t) ≤ 2 ^ 31

-- what a pool shows: the page names of each table that is there, the room of each, and the pages
pub record Pooled : Type 0 where
  pub tables : List (Option (List ℕ))
  pub rooms : List ℕ
  pub pages : List (List ℕ)

abbrev pub pooled_code : Coded Pooled
pooled_code = code_by (List (Option (List ℕ)) × (List ℕ × List (List ℕ)))
    (coded× (coded_list (coded_option (coded_list coded_ℕ))) (coded× (coded_list coded_ℕ) (coded_list (coded_list coded_ℕ))))
    (λ p. (p.tables, (p.rooms, p.pages))) (λ p. record { tables = p.0; rooms = p.1.0; pages = p.1.1 }) (λ _. refl)

-- what a table reads as, if it is there
abbrev pub bytes_at : Pooled → ℕ → Option (List ℕ)
bytes_at p t = joined_all p.pages (table_at p.tables t)

-- how many different pages the tables name
abbrev pub live_of : Pooled → ℕ
live_of p = named_below p.tables (length p.pages)

-- how many of the first n pages this table names, and no other does
abbrev pub alone_below : List (Option (List ℕ)) → ℕ → ℕ → ℕ
alone_below tables t zero = 0
alone_below tables t (suc n) = alone_below tables t n +
    (if nat_lt 0 (uses_in n (table_at tables t)) && nat_eq (uses tables n) (uses_in n (table_at tables t)) then 1 else 0)

-- a table with room for n pages that isn't in use
pub record IsSpare (tables : List (Option (List ℕ))) (rooms : List ℕ) (n t : ℕ) : Type 0 where
  pub there : t < length tables
  pub unused : table_at tables t ≡ None
  pub fits : n ≤ slice_index_or rooms t 0

-- the smallest one
pub record IsSmallest (tables : List (Option (List ℕ))) (rooms : List ℕ) (n t : ℕ) : Type 0 where
  pub spare : IsSpare tables rooms n t
  pub least : (u : ℕ) → IsSpare tables rooms n u → slice_index_or rooms t 0 ≤ slice_index_or rooms u 0

-- the smallest one of the first k tables, if there is one
abbrev pub IsBestBelow : List (Option (List ℕ)) → List ℕ → ℕ → ℕ → Option ℕ → Type 0
IsBestBelow tables rooms n k None = (u : ℕ) → u < k → IsSpare tables rooms n u → ⊥
IsBestBelow tables rooms n k (Some b) = (b < k) × IsSpare tables rooms n b ×
    ((u : ℕ) → u < k → IsSpare tables rooms n u → slice_index_or rooms b 0 ≤ slice_index_or rooms u 0)

-- each page has so many bytes
abbrev pub AreLong : ℕ → List (List ℕ) → Type 0
AreLong m pages = (p : ℕ) → p < length pages → length (page_bytes pages p) ≡ m

-- what a pool is behind what it shows
pub record IsPool (tables : List (Option (List ℕ))) (pages : List (List ℕ)) (owners : List ℕ) (free : Many ℕ) (live : ℕ) : Type 0 where
  pub sound : IsSound tables pages owners
  pub kept : AreKept owners free live
  pub few : AreFew tables
  pub long : AreLong 4096 pages

-- the first pages of a table
abbrev pub taken : Option (List ℕ) → ℕ → Option (List ℕ)
taken None k = None
taken (Some names) k = Some (take k names)

-- the names with one more at the end
abbrev pub pushed : Option (List ℕ) → ℕ → Option (List ℕ)
pushed None page = None
pushed (Some names) page = Some (names ++ page ∷ [])

-- bytes with more at their end
abbrev pub longer : Option (List ℕ) → List ℕ → Option (List ℕ)
longer None more = None
longer (Some bytes) more = Some (bytes ++ more)
